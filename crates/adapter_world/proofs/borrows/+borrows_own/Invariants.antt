use Rattle.std.proofs.Common.{◌≡◌, drop}
use Rattle.wit_types.specs.Plain.{fields_of, types_of, cases_of}
use Rattle.adapter_world.specs.Borrows.{parts_borrow_own}
use Rattle.adapter_world.proofs.borrows.+borrows_own.Given as goal

abbrev pub invariant-fields_borrow-loop-field : goal.invariant-fields_borrow-loop-field
invariant-fields_borrow-loop-field l = parts_borrow_own l.policy (fields_of (drop l.field-index l.fields)) ≡ parts_borrow_own l.policy (fields_of l.fields)

abbrev pub invariant-types_borrow-loop-ty : goal.invariant-types_borrow-loop-ty
invariant-types_borrow-loop-ty l = parts_borrow_own l.policy (types_of (drop l.ty-index l.types)) ≡ parts_borrow_own l.policy (types_of l.types)

abbrev pub invariant-cases_borrow-loop-case : goal.invariant-cases_borrow-loop-case
invariant-cases_borrow-loop-case l = parts_borrow_own l.policy (cases_of (drop l.case-index l.cases)) ≡ parts_borrow_own l.policy (cases_of l.cases)
