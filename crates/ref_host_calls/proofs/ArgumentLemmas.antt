-- Arguments with other numbers, by the Canonical ABI's definition.
use Rattle.std.proofs.Common.{◌≡◌, ◌≤◌, ℕ, List, length, sym, ap, ◌∙◌, arith}
use Rattle.std.proofs.lemmas.List.{length-map}
use Rattle.wit_types.specs.Plain.{Parts}
use Rattle.wit_types.specs.PlainValue.{PlainValues}
use Rattle.abi_layout.specs.Handles.{field_handles, renumbered_fields}
use Rattle.reference_step.specs.Atoms.{atoms_of, handles, renumbered_of}
use Rattle.ref_guards.specs.Numbers.{seen}
use Rattle.ref_guards.proofs.HandleLaws.{same_fields}
use Rattle.ref_guards.proofs.NumberLaws.{fields_agree}

pub fields_count : (fields : Parts) (xs : PlainValues) → length (handles (atoms_of fields xs)) ≡ length (field_handles fields xs)
fields_count fields xs = ap length (same_fields fields xs) ∙ length-map (field_handles fields xs) seen

pub fields_same : (fields : Parts) (xs : PlainValues) (ids : List ℕ) → length (handles (atoms_of fields xs)) ≤ length ids → renumbered_fields fields xs ids ≡ (renumbered_of fields xs ids).0
fields_same fields xs ids few =
    let less : length (field_handles fields xs) ≤ length ids = let same = fields_count fields xs in omega (arith, same, few) in
    sym (ap (λ (x : PlainValues × List ℕ). x.0) (fields_agree fields xs ids less))
