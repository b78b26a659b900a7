use Rattle.std.proofs.Common.{◌≡◌, ◌∙◌, subst, rules, arith}
use Rattle.std.proofs.lemmas.Grind.{common_steps}
use Rattle.comp_types.specs.Items.{Entries, InstanceItem}
use Rattle.comp_types.specs.Spaces.{and_item}
use Rattle.comp_scopes.specs.Stands.{Stands}
use Rattle.comp_instances.proofs.instances.add_inline.Goals as goal

pub returns : goal.returns
returns c = λ s h.
    let made : c.in_ok-made.made.value.entries ≡ c.in_ok-entries.entries = first_of (search rules, grind (arith, common_steps)) in
    subst (λ (es : Entries). Stands (and_item s (InstanceItem es)) c.add_instance.new.self) (made ∙ c.in_ok-entries.ensures s h) (c.in_ok-add_instance.ensures s h)
