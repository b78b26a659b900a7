-- How a value is read after another, up to the first fault.
use Rattle.std.specs.Prelude.{ℕ, ◌≡◌, ◌++◌, List, [], ◌∷◌, Result, Ok, Err}
use Rattle.toml.specs.Data.{Data, Items, no_items, item, Members, no_members, member}
use Rattle.policy_data.specs.declared.fault.ReadPolicyFault.{ReadPolicyFault}
use Rattle.policy_data.specs.declared.fault.ReadPolicyFault.TheVariants.{NotToml, NoMemory}

-- the call gives what the definition says is due, unless memory ran out
abbrev pub Gives : {A : Type 0} → Result A ReadPolicyFault → Result A ReadPolicyFault → Type 0
Gives due (Ok a) = due ≡ Ok a
Gives due (Err NoMemory) = Unit {0}
Gives due (Err NotToml) = ⊥
Gives due (Err e) = due ≡ Err e

abbrev pub and_then : {A B : Type 0} → Result A ReadPolicyFault → (A → Result B ReadPolicyFault) → Result B ReadPolicyFault
and_then (Ok a) next = next a
and_then (Err e) next = Err e

-- a list with what each item of an array gives after it, in order; an item is read beside the list before it
abbrev pub each_item : {A : Type 0} → (List A → Data → Result A ReadPolicyFault) → List A → Items → Result (List A) ReadPolicyFault
each_item read seen no_items = Ok seen
each_item read seen (item d ds) = and_then (read seen d) (λ a. each_item read (seen ++ a ∷ []) ds)

-- the same for the members of a table, in byte order of their keys
abbrev pub each_member : {A : Type 0} → (List A → List ℕ → Data → Result A ReadPolicyFault) → List A → Members → Result (List A) ReadPolicyFault
each_member read seen no_members = Ok seen
each_member read seen (member key d ms) = and_then (read seen key d) (λ a. each_member read (seen ++ a ∷ []) ms)
