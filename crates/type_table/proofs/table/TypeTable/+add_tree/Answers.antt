use Rattle.std.proofs.Common.{◌≡◌, ◌∙◌, ◌<◌, ◌+◌, ◌++◌, ◌∷◌, [], arith, ap, sym, subst, length, take, Option, Some}
use Rattle.std.specs.Prelude.{option_map}
use Rattle.std.proofs.lemmas.List.{map-append}
use Rattle.wit_types.specs.Plain.{Plain, plain}
use Rattle.comp_types.specs.Substitution.{partner_in, answer_with, value_with}
use Rattle.type_table.specs.Slots.{slots_of}
use Rattle.type_table.specs.Tables.{IsSound, HasOwnParts}
use Rattle.type_table.specs.Nodes.{HasEach, type_at}
use Rattle.type_table.specs.Retyped.{Fits, retyped, value_of, values_of}
use Rattle.type_table.proofs.HasLaws.{grew_then}
use Rattle.type_table.proofs.AddLemmas.{longer_then}
use Rattle.type_table.proofs.RetypedLemmas.{values-more, made-with, each-push, each-grew, part-fits, retyped-with, has-retyped, no-handle, always}
use Rattle.type_table.proofs.MakingLemmas.{fits-more}
use Rattle.type_table.proofs.table.TypeTable.+add_tree.Goals as goal

pub add_parts-loop-index-preserved : goal.add_parts-loop-index-preserved
add_parts-loop-index-preserved t c =
    let ps = slots_of (plain c.args.ty.now) in
    let i = c.loop-index.index in
    let old = c.args.self.now in
    let mid = c.loop-index.self in
    let new = c.add_part.new.self in
    let items = c.loop-index.parts.items in
    let part = c.in_ok-part.part in
    let asked : Option Plain = option_map (λ t. plain t.now) c.part_type.result in
    let o : type_at ps i ≡ asked = sym c.part_type.ensures in
    let lt : i < length ps = omega arith in
    let more : values_of c.push.new.self.items ≡ values_of items ++ value_of part ∷ [] = ap values_of c.in_ok-push.ensures.items ∙ map-append value_of items (part ∷ []) in
    record {
      fits = subst (Fits (take (i + 1) ps)) (sym more) (fits-more ps i lt asked o (values_of items) (value_of part) c.in_ok-part.ensures.fits c.loop-index.invariant.fits);
      parts = λ s.
          let g = c.loop-index.invariant.grew s in
          more ∙ values-more ps i lt (values_of items) (value_of part) (partner_in c.args.by.now) (c.loop-index.invariant.parts s) (c.in_ok-part.ensures.value (g.sound s) ∙ ap (answer_with (partner_in c.args.by.now)) (sym o));
      grew = λ s. let g = c.loop-index.invariant.grew s in grew_then old mid new g (c.add_part.ensures.grew (g.sound s));
      longer = longer_then old mid new c.loop-index.invariant.longer c.add_part.ensures.longer;
      has = λ s.
          let g = c.loop-index.invariant.grew s in
          let h = c.add_part.ensures.grew (g.sound s) in
          subst (HasEach new) (sym more) (each-push new (values_of items) (value_of part) (each-grew mid new (values_of items) h (c.loop-index.invariant.has s)) (c.in_ok-part.ensures.has (g.sound s)));
    }

pub add_parts-add_part-requires : goal.add_parts-add_part-requires
add_parts-add_part-requires t c =
    let small = part-fits (plain c.args.ty.now) c.loop-index.index c.part_type.result c.part_type.ensures in
    (omega (arith, c.decreases, small), tt)

pub add_part-returns-in_ok-new-in-Some-clause-value : goal.add_part-returns-in_ok-new-in-Some-clause-value
add_part-returns-in_ok-new-in-Some-clause-value t c = λ s.
    let f = partner_in c.args.by.now in
    ap Some (c.in_ok-new-in-Some.ensures.value s) ∙ ap (λ o. answer_with f (option_map (λ t. plain t.now) o)) (sym c.in-Some.is)

pub tree_with-rebuilt-requires : goal.tree_with-rebuilt-requires
tree_with-rebuilt-requires t c = subst (Fits (slots_of (plain c.args.ty.now))) (sym (ap values_of c.as_slice.ensures.value)) c.in_ok-parts-in_default.ensures.fits

pub tree_with-returns-in_ok-parts-in_default : goal.tree_with-returns-in_ok-parts-in_default
tree_with-returns-in_ok-parts-in_default t c =
    let f = partner_in c.args.by.now in
    let ty = plain c.args.ty.now in
    let ps = slots_of ty in
    let tys = values_of c.as_slice.result.now in
    let slice : tys ≡ values_of c.in_ok-parts-in_default.parts.items = ap values_of c.as_slice.ensures.value in
    let is : IsSound c.args.self.now → retyped ty tys ≡ value_with f ty =
    λ (s : IsSound c.args.self.now). ap (retyped ty) (slice ∙ c.in_ok-parts-in_default.ensures.parts s) ∙ retyped-with f ty (no-handle c.args.ty.now c.in_default.not-Own c.in_default.not-Borrow) in
    let fits : Fits ps tys = subst (Fits ps) (sym slice) c.in_ok-parts-in_default.ensures.fits in
    let parted : IsSound c.args.self.now → HasOwnParts c.add_parts.new.self (value_with f ty) =
    λ (s : IsSound c.args.self.now). subst (HasOwnParts c.add_parts.new.self) (is s)
    (has-retyped c.add_parts.new.self ty tys ((c.add_parts.ensures.grew s).sound s) fits (subst (HasEach c.add_parts.new.self) (sym slice) (c.in_ok-parts-in_default.ensures.has s))) in
    record {
      value = made-with c.rebuilt.result (retyped ty tys) (value_with f ty) (IsSound c.args.self.now) is c.rebuilt.ensures;
      grew = c.add_parts.ensures.grew;
      longer = c.add_parts.ensures.longer;
      has = always c.rebuilt.result parted;
    }
