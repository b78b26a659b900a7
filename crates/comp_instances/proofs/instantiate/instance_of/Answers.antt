use Rattle.std.proofs.Common.{◌≡◌, ◌∙◌, ℕ, sym, subst, slice_get, rules, arith}
use Rattle.std.specs.Prelude.{Option}
use Rattle.std.proofs.lemmas.Grind.{common_steps}
use Rattle.comp_scopes.proofs.EachLemmas.{none_of, some_of}
use Rattle.comp_types.specs.Spaces.{NestedComponent}
use Rattle.comp_scopes.specs.Stands.{IsNested}
use Rattle.comp_scopes.specs.declared.entries.KnownComponent.{KnownComponent}
use Rattle.type_table.specs.Tables.{HasEntries}
use Rattle.type_table.proofs.HasLaws.{grew_same}
use Rattle.type_table.proofs.ScopeLaws.{component_at}
use Rattle.comp_instances.specs.Instances.{IsMade, IsMadeAt}
use Rattle.comp_instances.proofs.instantiate.instance_of.Goals as goal

pub returns-in_ok-made-in-None : goal.returns-in_ok-made-in-None
returns-in_ok-made-in-None c = λ s h covers.
    let types = c.args.types.now in (
      subst (λ (o : Option NestedComponent). IsMadeAt s o c.args.args.now c.in_ok-made-in-None.made) (sym (none_of IsNested (slice_get s.components c.args.component) (c.in-None.ensures s h)))
          (c.in_ok-made-in-None.ensures.0, c.in_ok-made-in-None.ensures.1 ∙ h.rest.next),
      record { grew = grew_same types; has = subst (HasEntries types) (sym c.in_ok-made-in-None.ensures.0) tt },
    )

pub returns-in_ok-made-in-Some : goal.returns-in_ok-made-in-Some
returns-in_ok-made-in-Some c = λ s h covers.
    let x = some_of IsNested (slice_get s.components c.args.component) c.in-Some.known.now (c.in-Some.ensures s h) in
    let known : c.get.result.now ≡ c.in-Some.known.now = first_of (search rules, grind (arith, common_steps)) in
    let made = c.in_ok-made-in-Some.ensures x.0 (subst (λ (k : KnownComponent). IsNested x.0 k) (sym known) x.2) (component_at c.args.types.now s c.args.component x.0 covers x.1) in (
      subst (λ (o : Option NestedComponent). IsMadeAt s o c.args.args.now c.in_ok-made-in-Some.made) (sym x.1)
          (subst (λ (n : ℕ). IsMade x.0 c.args.args.now n c.in_ok-made-in-Some.made) h.rest.next made.0),
      made.1,
    )
