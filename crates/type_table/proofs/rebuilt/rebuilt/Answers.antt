use Rattle.std.proofs.Common.{◌≡◌, ◌∙◌, ap, sym, subst}
use Rattle.std.specs.Prelude.{IfOk}
use Rattle.wit_types.specs.Plain.{Plain, plain}
use Rattle.wit_types.proofs.PlainLemmas.{plain-Enum}
use Rattle.type_table.specs.Retyped.{values_of}
use Rattle.type_table.proofs.RebuiltLemmas.{enum-retyped}
use Rattle.type_table.proofs.rebuilt.rebuilt.Goals as goal

pub returns-in-Enum : goal.returns-in-Enum
returns-in-Enum c =
    let ty = plain c.args.ty.now in
    let is = ap plain c.in-Enum.is ∙ plain-Enum c.in-Enum.labels in
    subst (λ (p : Plain). IfOk c.enum_as.result (λ new. new ≡ p)) (sym (enum-retyped ty c.in-Enum.labels.value (values_of c.args.parts.now) is c.requires)) c.enum_as.ensures
