use Rattle.abi_store.proofs.PartLemmas.{fields_next}
use Rattle.abi_store.proofs.parts.field_type.Goals as goal

pub returns-in_ok-copy_type-in-Some : goal.returns-in_ok-copy_type-in-Some
returns-in_ok-copy_type-in-Some c =
    fields_next c.args.fields.now c.args.at c.in-Some.field.now _ c.in-Some.ensures.lookup.3.0 c.in-Some.ensures.lookup.1 c.in_ok-copy_type-in-Some.ensures
