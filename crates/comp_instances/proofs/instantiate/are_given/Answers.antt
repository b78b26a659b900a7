use Rattle.std.proofs.Common.{◌≡◌, ◌∙◌, sym, subst, slice_get, refl, true, rules, arith}
use Rattle.std.specs.Prelude.{Option}
use Rattle.std.specs.Bool.{Decides}
use Rattle.std.proofs.lemmas.Grind.{common_steps}
use Rattle.comp_scopes.proofs.EachLemmas.{none_of, some_of}
use Rattle.comp_types.specs.Items.{Entries}
use Rattle.comp_types.specs.Subtyping.{MeetsImports}
use Rattle.comp_types.specs.Rules.{MeetsComponent}
use Rattle.comp_types.specs.Spaces.{NestedComponent}
use Rattle.comp_scopes.specs.Stands.{IsNested}
use Rattle.type_table.specs.Tables.{HasEntries}
use Rattle.type_table.proofs.ScopeLaws.{component_at}
use Rattle.comp_instances.proofs.instantiate.are_given.Goals as goal

pub returns-in-None : goal.returns-in-None
returns-in-None c = λ s h covers has.
    subst (λ (o : Option NestedComponent). Decides true (MeetsComponent c.args.args.now o)) (sym (none_of IsNested (slice_get s.components c.args.component) (c.in-None.ensures s h))) (λ e. tt, λ p. refl)

pub returns-in_ok-fits-in-Some : goal.returns-in_ok-fits-in-Some
returns-in_ok-fits-in-Some c = λ s h covers has.
    let x = some_of IsNested (slice_get s.components c.args.component) c.in-Some.known.now (c.in-Some.ensures s h) in
    let imports : c.get.result.now.imports ≡ c.in-Some.known.now.imports = first_of (search rules, grind (arith, common_steps)) in
    let types = c.args.types.now in
    let due = subst (HasEntries types) (sym (imports ∙ x.2.imports)) (component_at types s c.args.component x.0 covers x.1).imports in
    subst (λ (o : Option NestedComponent). Decides c.in_ok-fits-in-Some.fits (MeetsComponent c.args.args.now o)) (sym x.1)
    (subst (λ (es : Entries). Decides c.in_ok-fits-in-Some.fits (MeetsImports c.args.args.now es)) (imports ∙ x.2.imports) (c.in_ok-fits-in-Some.ensures has due))
