-- Paths, name by name.
use Rattle.std.proofs.Common.{◌≡◌, ◌∙◌, refl, ap, ap₂, sym, ℕ, ◌+◌, ◌<◌, ◌≤◌, List, [], ◌∷◌, Bool, true, false, length, take, drop, Option, Some, None, arith}
use Rattle.std.specs.Prelude.{◌==◌, is_some, if◌then◌else◌}
use Rattle.std.specs.List.{position_or_len}
use Rattle.std.specs.Borrow.{Bor}
use Rattle.std.proofs.lemmas.Bool.Decides.{nat_tests}
use Rattle.std.proofs.lemmas.Option.{same_Some}
use Rattle.std.proofs.lemmas.Str.Pattern.{IsSplitOnceResult, split_once_first}
use Rattle.path_names.specs.Parts.{in_first, parts_of}
use Rattle.path_names.specs.Paths.{names_of}

-- ---- how many names

parts_by : (b : Bool) (byte : ℕ) (parts : List (List ℕ)) → 1 ≤ length parts → 1 ≤ length (if b then [] ∷ parts else in_first byte parts)
parts_by true byte parts h = omega arith
parts_by false byte [] h = omega arith
parts_by false byte (part ∷ parts) h = omega arith

pub some_parts : (joiner : ℕ) (text : List ℕ) → 1 ≤ length (parts_of joiner text)
some_parts joiner [] = omega arith
some_parts joiner (byte ∷ text) = parts_by (byte == joiner) byte (parts_of joiner text) (some_parts joiner text)

in_first_length : (byte : ℕ) (parts : List (List ℕ)) → 1 ≤ length parts → length (in_first byte parts) ≡ length parts
in_first_length byte [] h = absurd (omega (arith, h))
in_first_length byte (part ∷ parts) h = refl

-- another byte than `/` begins no further name
pub same_names : (byte : ℕ) (text more : List ℕ) → text ≡ byte ∷ more → ¬ (byte ≡ 47) → length (names_of text) ≡ length (names_of more)
same_names byte text more is differs =
    let other : (byte == 47) ≡ false = grind (arith, nat_tests, differs) in
    ap (λ t. length (names_of t)) is ∙ ap (λ b. length (if b then [] ∷ parts_of 47 more else in_first byte (parts_of 47 more))) other
    ∙ in_first_length byte (parts_of 47 more) (some_parts 47 more)

-- ---- the first name

pub first_part : (rest : List ℕ) → position_or_len (λ b. b == 47) rest < length rest
    → names_of rest ≡ take (position_or_len (λ b. b == 47) rest) rest ∷ names_of (drop (position_or_len (λ b. b == 47) rest + 1) rest)
first_part [] h = absurd (omega arith)
first_part (x ∷ rest) h = grind (arith, nat_tests, first_part rest)

pub only_part : (rest : List ℕ) → length rest ≤ position_or_len (λ b. b == 47) rest → names_of rest ≡ rest ∷ []
only_part [] h = refl
only_part (x ∷ rest) h = grind (arith, nat_tests, only_part rest)

-- ---- an index of paths

pub some_if : (b : Bool) (o : Option (Unit {0})) → is_some (if b then Some (tt {0}) else o) ≡ (if b then true else is_some o)
some_if true o = refl
some_if false o = refl

-- what `split_once` finds at a `/`
pub first_by : (path : List ℕ) (r : Option (Bor (List ℕ) × Bor (List ℕ))) (name rest : Bor (List ℕ)) → IsSplitOnceResult 47 path r → r ≡ Some (name, rest)
    → names_of path ≡ name.now ∷ names_of rest.now
first_by path None name rest h is = absurd (cc)
first_by path (Some x) name rest h is =
    let at = split_once_first 47 path (Some x) h (omega arith) in
    let same : x ≡ (name, rest) = same_Some x (name, rest) is in
    let here : names_of path ≡ x.0.now ∷ names_of x.1.now = first_part path at.0 ∙ ap₂ (λ a b. a ∷ names_of b) (sym at.1) (sym at.2) in
    here ∙ ap (λ (p : Bor (List ℕ) × Bor (List ℕ)). p.0.now ∷ names_of p.1.now) same

pub only_by : (path : List ℕ) (r : Option (Bor (List ℕ) × Bor (List ℕ))) → IsSplitOnceResult 47 path r → r ≡ None → names_of path ≡ path ∷ []
only_by path None h is = let at = split_once_first 47 path None h (omega arith) in only_part path (omega (arith, at))
only_by path (Some x) h is = absurd (cc)
