use Rattle.std.proofs.Common.{◌∙◌, ap, sym}
use Rattle.wit_types.specs.declared.types.Field.{out-Field}
use Rattle.wit_types.specs.Plain.{fields_of}
use Rattle.comp_types.specs.Rules.{begins_with_borrow_of}
use Rattle.comp_instances.proofs.annotated.begins_with_borrow_of.Goals as goal

pub returns-in-Some : goal.returns-in-Some
returns-in-Some c =
    c.is_borrow_of.ensures (out-Field c.in-Some.first.now).name (fields_of c.in-Some.field-0-1.now)
    ∙ sym (ap (λ fs. begins_with_borrow_of c.args.resource (fields_of fs)) c.in-Some.ensures.cases.0)
