use Rattle.std.proofs.Common.{◌≡◌, ◌≤◌, ◌++◌, drop}
use Rattle.wit_types.specs.Plain.{plain, fields_of, types_of}
use Rattle.wit_types.specs.PlainValue.{values_of}
use Rattle.wit_types.specs.Limits.{all_parts}
use Rattle.reference_step.specs.Atoms.{atoms, atoms_of, each_atoms}
use Rattle.ref_guards.specs.Noted.{shown_all}
use Rattle.ref_guards.proofs.atoms.+note_atoms.Given as goal

abbrev pub invariant-note_each-loop-value : goal.invariant-note_each-loop-value
invariant-note_each-loop-value l = shown_all l.noted.items ++ each_atoms (λ v. atoms (plain l.item) v) (values_of (drop l.value-index l.values)) ≡ shown_all l.initial.noted.items ++ each_atoms (λ v. atoms (plain l.item) v) (values_of l.values)

abbrev pub invariant-note_fields_each-loop-i : goal.invariant-note_fields_each-loop-i
invariant-note_fields_each-loop-i l = record {
  noted : shown_all l.noted.items ++ atoms_of (fields_of (drop l.i l.fields)) (values_of (drop l.i l.values)) ≡ shown_all l.initial.noted.items ++ atoms_of (fields_of l.fields) (values_of l.values);
  few : all_parts (fields_of (drop l.i l.fields)) ≤ 1000000;
}

abbrev pub invariant-note_types_each-loop-i : goal.invariant-note_types_each-loop-i
invariant-note_types_each-loop-i l = record {
  noted : shown_all l.noted.items ++ atoms_of (types_of (drop l.i l.types)) (values_of (drop l.i l.values)) ≡ shown_all l.initial.noted.items ++ atoms_of (types_of l.types) (values_of l.values);
  few : all_parts (types_of (drop l.i l.types)) ≤ 1000000;
}
