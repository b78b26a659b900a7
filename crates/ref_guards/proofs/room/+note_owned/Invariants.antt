use Rattle.std.proofs.Common.{drop}
use Rattle.wit_types.specs.Plain.{fields_of, types_of, cases_of}
use Rattle.reference_step.specs.Rules.{owns_in}
use Rattle.ref_guards.proofs.RoomLemmas.{Noted}
use Rattle.ref_guards.proofs.room.+note_owned.Given as goal

abbrev pub invariant-note_cases-loop-case : goal.invariant-note_cases-loop-case
invariant-note_cases-loop-case l = Noted l.initial.owned l.owned (λ kind. owns_in kind (cases_of l.cases)) (λ kind. owns_in kind (cases_of (drop l.case-index l.cases)))

abbrev pub invariant-note_fields-loop-field : goal.invariant-note_fields-loop-field
invariant-note_fields-loop-field l = Noted l.initial.owned l.owned (λ kind. owns_in kind (fields_of l.fields)) (λ kind. owns_in kind (fields_of (drop l.field-index l.fields)))

abbrev pub invariant-note_types-loop-ty : goal.invariant-note_types-loop-ty
invariant-note_types-loop-ty l = Noted l.initial.owned l.owned (λ kind. owns_in kind (types_of l.types)) (λ kind. owns_in kind (types_of (drop l.ty-index l.types)))
