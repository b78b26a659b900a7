-- Paths, and the keys that a table may have.
use Rattle.std.specs.Prelude.{ℕ, ◌≡◌, ◌++◌, List, [], ◌∷◌, Bool, Option, Some, None, Result, Ok, Err, if◌then◌else◌}
use Rattle.std.specs.List.{list_any}
use Rattle.std.specs.Str.{bytes_eq}
use Rattle.std.specs.Fmt.{decimal}
use Rattle.toml.specs.Data.{Data, table, Members, no_members, member, get_member}
use Rattle.policy_data.specs.declared.fault.ReadPolicyFault.{ReadPolicyFault}
use Rattle.policy_data.specs.declared.fault.ReadPolicyFault.TheVariants.{BadKey, BadValue, NoMemory}
use Rattle.policy_toml.specs.Reading.{and_then}

-- a key below a path, which is empty at the top
abbrev pub below : List ℕ → List ℕ → List ℕ
below [] key = key
below (x ∷ xs) key = (x ∷ xs) ++ 46 ∷ key

-- an item of the array at a path
abbrev pub nth : List ℕ → ℕ → List ℕ
nth path index = path ++ 91 ∷ (decimal index ++ 93 ∷ [])

abbrev pub is_known : List (List ℕ) → List ℕ → Bool
is_known known key = list_any (λ k. bytes_eq key k) known

-- the first key that is not known: members stand in byte order
abbrev pub first_unknown : List (List ℕ) → Members → Option (List ℕ)
first_unknown known no_members = None
first_unknown known (member key d ms) = if is_known known key then first_unknown known ms else Some key

abbrev pub key_fault : List ℕ → Option (List ℕ) → Result (Unit {0}) ReadPolicyFault
key_fault path None = Ok tt
key_fault path (Some key) = Err (BadKey (below path key))

-- the table at a path has no key but these
abbrev pub known_keys : List ℕ → List (List ℕ) → Members → Result (Unit {0}) ReadPolicyFault
known_keys path known ms = key_fault path (first_unknown known ms)

-- ---- the value at a key, read by `read`

abbrev pub value_or : {A : Type 0} → List ℕ → A → (List ℕ → Data → Result A ReadPolicyFault) → Option Data → Result A ReadPolicyFault
value_or path other read None = Ok other
value_or path other read (Some d) = read path d

-- a key that may be absent, and what then stands for it
abbrev pub optional : {A : Type 0} → List ℕ → List ℕ → A → (List ℕ → Data → Result A ReadPolicyFault) → Members → Result A ReadPolicyFault
optional path key other read ms = value_or (below path key) other read (get_member key ms)

abbrev pub value_of : {A : Type 0} → List ℕ → (List ℕ → Data → Result A ReadPolicyFault) → Option Data → Result A ReadPolicyFault
value_of path read None = Err (BadValue path)
value_of path read (Some d) = read path d

abbrev pub required : {A : Type 0} → List ℕ → List ℕ → (List ℕ → Data → Result A ReadPolicyFault) → Members → Result A ReadPolicyFault
required path key read ms = value_of (below path key) read (get_member key ms)

-- a table without other keys than these, whose values `fields` reads
abbrev pub table_in : {A : Type 0} → List (List ℕ) → (List ℕ → Members → Result A ReadPolicyFault) → List ℕ → Data → Result A ReadPolicyFault
table_in known fields path (table ms) = and_then (known_keys path known ms) (λ _. fields path ms)
table_in known fields path _ = Err (BadValue path)

abbrev pub table_or : {A : Type 0} → List (List ℕ) → (List ℕ → Members → Result A ReadPolicyFault) → List ℕ → Option Data → Result A ReadPolicyFault
table_or known fields path None = fields path no_members
table_or known fields path (Some d) = table_in known fields path d

-- the table at a key of the document: an absent one is as an empty one
abbrev pub part : {A : Type 0} → List ℕ → List (List ℕ) → (List ℕ → Members → Result A ReadPolicyFault) → Members → Result A ReadPolicyFault
part key known fields ms = table_or known fields key (get_member key ms)

-- the text, or no memory
abbrev pub IsText : List ℕ → Result (List ℕ) ReadPolicyFault → Type 0
IsText text (Ok made) = made ≡ text
IsText text (Err NoMemory) = Unit {0}
IsText text (Err _) = ⊥
