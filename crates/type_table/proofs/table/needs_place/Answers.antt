use Rattle.std.proofs.Common.{◌∙◌, ap, sym, nat_lt}
use Rattle.wit_types.specs.Plain.{plain}
use Rattle.wit_types.proofs.PlainLemmas.{plain-Flags}
use Rattle.type_table.specs.Tables.{needs_place}
use Rattle.type_table.proofs.SlotLemmas.{place-form}
use Rattle.type_table.proofs.table.needs_place.Goals as goal

pub returns-in-Flags : goal.returns-in-Flags
returns-in-Flags c = sym (ap (λ t. needs_place (plain t)) c.in-Flags.is ∙ ap needs_place (plain-Flags c.in-Flags.field-0))

pub returns-in_default : goal.returns-in_default
returns-in_default c = ap (nat_lt 0) c.form_number.ensures ∙ place-form c.args.ty.now c.in_default.not-Flags
