use Rattle.std.proofs.Common.{◌≡◌, ◌∙◌, ap, sym, slice_get, Some, None}
use Rattle.std.specs.Prelude.{option_map}
use Rattle.std.specs.Option.{option_and_then}
use Rattle.comp_types.specs.Spaces.{core_type_of}
use Rattle.comp_scopes.specs.Scopes.{func_in}
use Rattle.comp_scopes.proofs.EachLemmas.{got}
use Rattle.comp_scopes.proofs.core_scope.CoreScope.func_at.Goals as goal

pub returns-in-None-clause-own : goal.returns-in-None-clause-own
unfolding func_in
returns-in-None-clause-own c =
    let e : slice_get c.args.self.now.functions.items c.args.index ≡ None = sym (got c.get.result c.deref.result.now c.args.index c.get.ensures.lookup.0 c.get.ensures.lookup.1 ∙ ap (λ xs. slice_get xs c.args.index) c.deref.ensures.value) ∙ ap (option_map (λ i. i.now)) c.in-None.is in
    sym (ap (option_and_then core_type_of) e)

pub returns-in-None-clause-at : goal.returns-in-None-clause-at
returns-in-None-clause-at c = λ s h.
    let e : slice_get c.args.self.now.functions.items c.args.index ≡ None = sym (got c.get.result c.deref.result.now c.args.index c.get.ensures.lookup.0 c.get.ensures.lookup.1 ∙ ap (λ xs. slice_get xs c.args.index) c.deref.ensures.value) ∙ ap (option_map (λ i. i.now)) c.in-None.is in
    sym (ap (λ xs. option_and_then core_type_of (slice_get xs c.args.index)) (sym h.functions) ∙ ap (option_and_then core_type_of) e)

pub returns-in-Some-clause-own : goal.returns-in-Some-clause-own
unfolding func_in
returns-in-Some-clause-own c =
    let e : slice_get c.args.self.now.functions.items c.args.index ≡ Some c.in-Some.item.now = sym (got c.get.result c.deref.result.now c.args.index c.get.ensures.lookup.0 c.get.ensures.lookup.1 ∙ ap (λ xs. slice_get xs c.args.index) c.deref.ensures.value) ∙ ap (option_map (λ i. i.now)) c.in-Some.is in
    c.func_type.ensures ∙ sym (ap (option_and_then core_type_of) e)

pub returns-in-Some-clause-at : goal.returns-in-Some-clause-at
returns-in-Some-clause-at c = λ s h.
    let e : slice_get c.args.self.now.functions.items c.args.index ≡ Some c.in-Some.item.now = sym (got c.get.result c.deref.result.now c.args.index c.get.ensures.lookup.0 c.get.ensures.lookup.1 ∙ ap (λ xs. slice_get xs c.args.index) c.deref.ensures.value) ∙ ap (option_map (λ i. i.now)) c.in-Some.is in
    c.func_type.ensures ∙ sym (ap (λ xs. option_and_then core_type_of (slice_get xs c.args.index)) (sym h.functions) ∙ ap (option_and_then core_type_of) e)
