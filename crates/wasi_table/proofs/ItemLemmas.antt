-- Parts that are kept as lists.
use Rattle.std.proofs.Common.{◌≡◌, refl, ap, List, [], ◌∷◌, ◌++◌}
use Rattle.wit_types.specs.declared.types.Case.{Case, out-Case}
use Rattle.wit_types.specs.Plain.{Parts, End, payload_of, case_part, cases_of}
use Rattle.wasi_table.specs.Before.{cases_before}
use Rattle.wasi_table.proofs.OperandLemmas.{fields_before-snoc}

pub cases_before-snoc : (cs : List Case) (c : Case) (rest : Parts) → cases_before (cs ++ c ∷ []) rest ≡ cases_before cs (case_part (out-Case c).name (payload_of (out-Case c).ty) rest)
cases_before-snoc [] c rest = refl
cases_before-snoc (x ∷ cs) c rest = ap (case_part (out-Case x).name (payload_of (out-Case x).ty)) (cases_before-snoc cs c rest)

pub cases_before-End : (cs : List Case) → cases_before cs End ≡ cases_of cs
cases_before-End [] = refl
cases_before-End (c ∷ cs) = ap (case_part (out-Case c).name (payload_of (out-Case c).ty)) (cases_before-End cs)

pub ruleset item_rules = (fields_before-snoc, cases_before-snoc)
