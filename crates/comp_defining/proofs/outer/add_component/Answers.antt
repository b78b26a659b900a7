use Rattle.std.proofs.Common.{◌∙◌, ap, refl, sym, subst, slice_get, ◌∷◌}
use Rattle.std.proofs.lemmas.Result.{on_ok_weaker}
use Rattle.std.specs.Option.{option_and_then}
use Rattle.wasm_ast.specs.declared.component.Alias.TheVariants.{Outer}
use Rattle.wasm_ast.specs.declared.component.OuterSort.TheVariants as sorts
use Rattle.comp_scopes.specs.Found.{EachSome}
use Rattle.comp_scopes.proofs.EachLemmas.{none_of, some_of}
use Rattle.comp_scopes.specs.Stands.{IsNested}
use Rattle.comp_types.specs.Spaces.{Space}
use Rattle.comp_types.specs.Added.{and_component, and_some_component}
use Rattle.type_table.specs.Covers.{Covers}
use Rattle.type_table.proofs.ScopeLaws.{covers_alias}
use Rattle.comp_defining.specs.Around.{StandAll}
use Rattle.comp_defining.proofs.Inner.{inner_stands}
use Rattle.comp_defining.proofs.OuterLemmas.{added_component}
use Rattle.comp_defining.proofs.outer.add_component.Goals as goal

pub returns-in-None : goal.returns-in-None
returns-in-None c = λ around s h.
    let o = slice_get (s ∷ around) c.args.count in
    let none = none_of IsNested (option_and_then (λ (t : Space). slice_get t.components c.args.index) o) (subst (EachSome IsNested (option_and_then (λ (t : Space). slice_get t.components c.args.index) o)) c.in-None.is (c.in_ok-component_at.ensures around s h)) in
    subst (λ (t : Space). StandAll around t c.args.scopes.now) (sym (added_component s o c.args.index ∙ ap (and_some_component s) none)) h

pub returns-in-Some : goal.returns-in-Some
returns-in-Some c =
    on_ok_weaker c.add_component.result (λ k around s h.
    let o = slice_get (s ∷ around) c.args.count in
    let e = some_of IsNested (option_and_then (λ (t : Space). slice_get t.components c.args.index) o) c.in-Some.known (subst (EachSome IsNested (option_and_then (λ (t : Space). slice_get t.components c.args.index) o)) c.in-Some.is (c.in_ok-component_at.ensures around s h)) in
    let x = c.args.scopes.now in
    let same = added_component s o c.args.index ∙ ap (and_some_component s) e.1 in
    let covers = subst (Covers x.types) same (covers_alias x.types around s (Outer sorts.Component c.args.count c.args.index) h.covered.0 h.covered.1) in
    subst (λ (t : Space). StandAll around t (record x { inner = c.add_component.new.self })) (sym same)
    (inner_stands around s (and_component s e.0) x c.add_component.new.self x.types h (k s e.0 h.inner e.2) refl (covers, h.covered.1))) c.add_component.ensures
