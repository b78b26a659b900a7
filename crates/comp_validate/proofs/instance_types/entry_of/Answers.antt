use Rattle.std.proofs.Common.{◌≡◌, ◌∙◌, ap, arith}
use Rattle.comp_types.specs.Items.{InstanceKind}
use Rattle.comp_types.specs.declared.types.DeclaredInstance.{DeclaredInstance}
use Rattle.comp_types.specs.declared.types.InstanceType.{InstanceType}
use Rattle.comp_validate.proofs.instance_types.entry_of.Goals as goal

pub returns : goal.returns
returns c = λ s h. record {
  kind =
      ap (λ (d : DeclaredInstance). InstanceKind d.own d.instance.value.entries) c.in_ok-declared.ensures.ok
      ∙ (ap (λ (i : InstanceType). InstanceKind c.in_ok-own.own i.entries) c.in_ok-instance.ensures.ok
      ∙ (ap (λ own. InstanceKind own c.into_entries-entries.result) (c.in_ok-own.ensures ∙ c.as_slice.ensures s.defined h.rest.defined)
      ∙ ap (InstanceKind s.defined) (c.into_entries-entries.ensures s.exports h.rest.exports)));
  depth = omega (arith, h.rest.deepest, c.min.ensures);
}
