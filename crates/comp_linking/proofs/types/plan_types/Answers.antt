use Rattle.std.proofs.Common.{◌≡◌, ◌∙◌, ap, sym, subst, List, ◌∷◌, take, drop}
use Rattle.std.proofs.lemmas.List.{nil_from_length}
use Rattle.wasm_ast.specs.declared.component.TypeItem.{TypeItem}
use Rattle.comp_types.specs.Declarations.{Done, Then, grouped}
use Rattle.comp_types.specs.Definitions.{Definition, AType, types_in}
use Rattle.comp_linking.specs.Firsts.{taken}
use Rattle.comp_linking.proofs.FirstLemmas.{First, first}
use Rattle.comp_linking.proofs.RestLemmas.{DefinitionsLeft, all_left, one_planned, none_left}
use Rattle.comp_linking.proofs.types.plan_types.Goals as goal

pub loop-item-init : goal.loop-item-init
loop-item-init c = λ ms todo outer a valid h. all_left ms todo outer a (types_in (grouped c.args.items.now)) c.args.planner.now valid h

pub loop-item-preserved : goal.loop-item-preserved
loop-item-preserved c = λ ms todo outer a valid h.
    let all = types_in (grouped c.args.items.now) in
    let rest = c.loop-item.rest.now in
    let f = subst (λ (xs : List TypeItem). First xs c.in-Some.item.now) (sym c.in-Some.ensures.cases.0) (first c.in-Some.item.now c.in-Some.field-0-1.now) in
    let n : c.in_ok-length.length ≡ taken 1 rest = c.in_ok-length.ensures.taken in
    let some : c.split_at.result.0.now ≡ take (taken 1 rest) rest = c.split_at.ensures.front ∙ ap (λ k. take k rest) n in
    let later : c.split_at.result.1.now ≡ drop (taken 1 rest) rest = c.split_at.ensures.back ∙ ap (λ k. drop k rest) n in
    let alone : grouped c.split_at.result.0.now ≡ Then f.first Done = ap grouped some ∙ f.alone in
    let split : types_in (grouped rest) ≡ AType f.first ∷ types_in (grouped c.split_at.result.1.now) = ap types_in (f.all ∙ ap (λ xs. Then f.first (grouped xs)) (sym later)) in
    let l = subst (λ (left : List Definition). DefinitionsLeft ms todo outer a all left c.loop-item.planner) split (c.loop-item.invariant ms todo outer a valid h) in
    one_planned ms todo outer a all (AType f.first) (types_in (grouped c.split_at.result.1.now)) c.loop-item.planner c.plan_type.new.planner l (c.in_ok-plan_type.ensures f.first alone f.plans)

pub returns : goal.returns
returns c = λ ms todo outer a valid h.
    let all = types_in (grouped c.args.items.now) in
    none_left ms todo outer a all c.loop-item.planner
    (subst (λ (left : List Definition). DefinitionsLeft ms todo outer a all left c.loop-item.planner) (ap (λ xs. types_in (grouped xs)) (nil_from_length c.loop-item.rest.now c.in_default.ensures.cases)) (c.loop-item.invariant ms todo outer a valid h))
