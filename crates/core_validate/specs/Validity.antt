-- Valid modules (WebAssembly Core 2.0, section 3.4), by sixteen numbered rules.
use Rattle.std.specs.Prelude.{◌≡◌, ℕ, ◌<◌, Option, Some, None, List, [], ◌∷◌, ◌++◌, Bool, true, false, IsTrue}
use Rattle.wasm_ast.specs.declared.module.Module.{Module}
use Rattle.core_body.specs.Context.{Context}
use Rattle.core_body.specs.Conditions.{Condition, rule_of, is_met, code_conditions}
use Rattle.core_body.specs.Faults.{first_labels}
use Rattle.core_body.specs.Typing.{IsValidBody}
use Rattle.core_validate.specs.Spaces.{context}
use Rattle.core_validate.specs.Items.{Item, Part, item_conditions, parts, fits, items}

-- the conditions of this rule are met
abbrev pub AreMet : Context → ℕ → List Condition → Type 0
AreMet c rule [] = Unit {0}
AreMet c rule (a ∷ rest) = (rule_of a ≡ rule → is_met c a ≡ true) × AreMet c rule rest

-- rule 7: the code has a typing derivation
abbrev pub PartHolds : ℕ → Part → Type 0
PartHolds rule p =
    AreMet p.context rule (code_conditions p.in_body (first_labels p.in_body) p.code) × (rule ≡ 7 → IsValidBody p.context p.code)

abbrev pub PartsHold : ℕ → List Part → Type 0
PartsHold rule [] = Unit {0}
PartsHold rule (p ∷ ps) = PartHolds rule p × PartsHold rule ps

-- the rule of this number holds of the item; rule 7 too wants elements of the table's type
abbrev pub Holds : Context → Item → ℕ → Type 0
Holds c item rule = AreMet c rule (item_conditions item) × (rule ≡ 7 → fits c item ≡ true) × PartsHold rule (parts c item)

abbrev pub AllHold : Context → List Item → Type 0
AllHold c [] = Unit {0}
AllHold c (item ∷ rest) = ((rule : ℕ) → Holds c item rule) × AllHold c rest

-- each rule holds of each item
abbrev pub IsValidModule : Module → Type 0
IsValidModule m = AllHold (context m) (items m)

-- the least rule that fails
abbrev pub IsLeastFailing : (ℕ → Type 0) → Option ℕ → Type 0
IsLeastFailing holds None = (rule : ℕ) → holds rule
IsLeastFailing holds (Some rule) = (holds rule → ⊥) × ((less : ℕ) → less < rule → holds less)

-- the first item of which a rule fails, and the least rule that fails of it
pub record Breaks (m : Module) (rule : ℕ) : Type 0 where
  pub before : List Item
  pub item : Item
  pub after : List Item
  pub order : items m ≡ before ++ item ∷ after
  pub kept : AllHold (context m) before
  pub broken : IsLeastFailing (Holds (context m) item) (Some rule)
