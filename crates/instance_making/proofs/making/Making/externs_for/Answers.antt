use Rattle.std.proofs.Common.{◌≡◌, ◌∙◌, ap, sym, subst, ◌∷◌, ◌++◌, ◌+◌, [], take, Some, None, cond}
use Rattle.std.specs.List.{flat_map}
use Rattle.std.specs.Option.{option_or}
use Rattle.std.proofs.lemmas.List.{take_more, take_all, flat_map_more}
use Rattle.comp_types.specs.Items.{same_name}
use Rattle.comp_link.specs.Linking.{extern_for}
use Rattle.instance_making.specs.Named.{of_some}
use Rattle.instance_making.proofs.CoreLemmas.{arg_last, arg_number, argument_is, extern_is}
use Rattle.instance_making.proofs.making.Making.externs_for.Goals as goal

pub loop-arg-preserved : goal.loop-arg-preserved
loop-arg-preserved c = λ q.
    let x = c.arg-item.result in
    let i = c.loop-arg.arg-index in
    let xs = c.args.args.now in
    let more : take (i + 1) xs ≡ take i xs ++ x ∷ [] = take_more xs i x c.loop-arg-test.true ∙ ap (λ y. take i xs ++ y ∷ []) (sym c.arg-item.is) in
    c.in_ok-add.ensures q ∙ (ap (λ o. option_or o (cond (same_name x.name q) (Some x.instance) None)) (c.loop-arg.invariant q) ∙ (sym (arg_last q (take i xs) x) ∙ ap (arg_number q) (sym more)))

pub loop-import-preserved : goal.loop-import-preserved
loop-import-preserved c = λ made g h.
    let x = c.import-item.result in
    let i = c.loop-import.import-index in
    let xs = c.args.«module».now.imports in
    let ys = c.as_slice-import-items.result.now in
    let more : take (i + 1) xs ≡ take i xs ++ x ∷ [] = subst (λ zs. take (i + 1) zs ≡ take i zs ++ x ∷ []) c.as_slice-import-items.ensures (take_more ys i x c.loop-import-test.true ∙ ap (λ y. take i ys ++ y ∷ []) (sym c.import-item.is)) in
    let args = c.args.args.now in
    let there = c.loop-arg.invariant x.«module» ∙ ap (arg_number x.«module») (take_all c.loop-arg.arg-index args c.loop-arg-test.false) in
    let item = c.argument-item.ensures ∙ argument_is c.args.self.now.core_instances.items g args x.«module» x.name _ h.core_instances there in
    c.in_ok-push_some.ensures
    ∙ ((λ j. c.loop-import.invariant made g h j ++ of_some (item j))
    ∙ (ap (λ zs. flat_map (extern_for g args) (take i xs) ++ zs) (extern_is g args x)
    ∙ (flat_map_more (extern_for g args) [] (take i xs) x ∙ ap (flat_map (extern_for g args)) (sym more))))

pub returns : goal.returns
returns c = λ made g h.
    let all = subst (λ zs. take c.loop-import.import-index zs ≡ zs) c.as_slice-import-items.ensures (take_all c.loop-import.import-index c.as_slice-import-items.result.now c.loop-import-test.false) in
    c.loop-import.invariant made g h ∙ ap (flat_map (extern_for g c.args.args.now)) all
