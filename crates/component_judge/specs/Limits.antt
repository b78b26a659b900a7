-- Quantities and their limits.
use Rattle.std.specs.Prelude.{ℕ, ◌≡◌, ◌≤◌, ◌<◌, List, codes, Option, Some, None, Result, Ok, Err}
use Rattle.component_judge.specs.declared.limits.Purpose.{Purpose}
use Rattle.component_judge.specs.declared.limits.Purpose.TheVariants.{Virt, Run}
use Rattle.component_judge.specs.declared.refusal.Refusal.{Refusal}
use Rattle.component_judge.specs.declared.refusal.Refusal.TheVariants.{OverLimit, NoMemory}

-- A component has at most that many bytes,
abbrev pub bytes_limit : Purpose → ℕ
bytes_limit Virt = 33554432
bytes_limit Run = 201326592

-- which are told under this name,
abbrev pub bytes_name : Purpose → List ℕ
bytes_name Virt = codes "application-bytes"
bytes_name Run = codes "component-bytes"

-- and its code sections have at most that many together, where they are limited.
abbrev pub code_limit : Purpose → Option ℕ
code_limit Virt = None
code_limit Run = Some 67108864

-- A script has at most that many bytes.
abbrev pub script_limit : ℕ
script_limit = 67108864

-- a quantity keeps a limit, if there is one
abbrev pub Keeps : Option ℕ → ℕ → Type 0
Keeps None value = Unit {0}
Keeps (Some limit) value = value ≤ limit

-- it is above the limit
abbrev pub Passes : Option ℕ → ℕ → Type 0
Passes None value = ⊥
Passes (Some limit) value = limit < value

-- the refusal of a quantity, unless memory ran out
abbrev pub IsOver : List ℕ → ℕ → Refusal → Type 0
IsOver what value (OverLimit kept v) = (kept ≡ what) × (v ≡ value)
IsOver what value NoMemory = Unit {0}
IsOver what value _ = ⊥

-- the quantity passes, or is refused
abbrev pub IsWithin : List ℕ → ℕ → ℕ → Result (Unit {0}) Refusal → Type 0
IsWithin what limit value (Ok u) = value ≤ limit
IsWithin what limit value (Err (OverLimit kept v)) = (limit < value) × (kept ≡ what) × (v ≡ value)
IsWithin what limit value (Err NoMemory) = Unit {0}
IsWithin what limit value (Err _) = ⊥
