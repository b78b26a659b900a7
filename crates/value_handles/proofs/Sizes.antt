-- The sizes of the types by which the recursion goes down.
use Rattle.std.proofs.Common.{◌≡◌, ◌≤◌, ◌<◌, ◌+◌, ◌*◌, ℕ, zero, suc, List, [], ◌∷◌, length, get_or, Option, Some, None, Global, refl, ap, arith}
use Rattle.std.specs.declared.rc.Rc.{Rc}
use Rattle.wit_types.specs.declared.types.Case.{Case, out-Case}
use Rattle.wit_types.specs.declared.types.Field.{Field, out-Field}
use Rattle.wit_types.specs.declared.types.WitType.{WitType}
use Rattle.wit_types.specs.Plain.{Name, Plain, Parts, End, More, Bare, plain, payload_of, fields_of, types_of, cases_of, case_part}
use Rattle.wit_types.specs.Limits.{parts, all_parts}

abbrev pub option_parts : Option Plain → ℕ
option_parts None = 0
option_parts (Some ty) = parts ty

pub field_parts : (fs : List Field) (i : ℕ) (d : Field) → i < length fs → parts (plain (out-Field (get_or fs i d)).ty) ≤ all_parts (fields_of fs)
field_parts [] i d lt = absurd (omega arith)
field_parts (f ∷ fs) zero d lt = omega arith
field_parts (f ∷ fs) (suc i) d lt = let rest = field_parts fs i d (omega arith) in omega arith

pub type_parts : (ts : List WitType) (i : ℕ) (d : WitType) → i < length ts → parts (plain (get_or ts i d)) ≤ all_parts (types_of ts)
type_parts [] i d lt = absurd (omega arith)
type_parts (t ∷ ts) zero d lt = omega arith
type_parts (t ∷ ts) (suc i) d lt = let rest = type_parts ts i d (omega arith) in omega arith

pub part_of : (name : Name) (o : Option Plain) (rest : Parts) → all_parts (case_part name o rest) ≡ option_parts o + all_parts rest
part_of name None rest = omega arith
part_of name (Some ty) rest = refl

pub case_parts : (cs : List Case) (n : ℕ) (d : Case) → n < length cs → option_parts (payload_of (out-Case (get_or cs n d)).ty) ≤ all_parts (cases_of cs)
case_parts [] n d lt = absurd (omega arith)
case_parts (c ∷ cs) zero d lt = omega (arith, part_of (out-Case c).name (payload_of (out-Case c).ty) (cases_of cs))
case_parts (c ∷ cs) (suc n) d lt = let rest = case_parts cs n d (omega arith) in omega (arith, part_of (out-Case c).name (payload_of (out-Case c).ty) (cases_of cs))
