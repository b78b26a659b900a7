-- Items of an array that are taken from a text's tokens in turn, where the array is a member of an object.
use Rattle.std.specs.Prelude.{◌≡◌, ◌<◌, List, [], ◌∷◌, ◌++◌, length, Some, None, ℕ}
use Rattle.json.specs.Token.{Token}
use Rattle.json.specs.Json.{Json, value, after_end_array}
use Rattle.serde_json.specs.Data.{Data}
use Rattle.serde_json.specs.Read.{of_json}
use Rattle.host_script.specs.Json.{untyped}
use Rattle.host_script.specs.Script.{Exports, item_in, item_seen, call_by, call_seen, pair_in}
use Rattle.host_script.specs.declared.script.Call.{Call}

-- ---- for private clauses

-- an item that begins the tokens, and the tokens after it
pub record IsNext (d : Data) (old new : List Token) : Type 0 where
  pub tree : Json
  pub begins : value 125 old ≡ Some (tree, new)
  pub stands : of_json tree ≡ Some d

-- an item was taken, and what it gave was put after what others gave
pub record Takes {A : Type 0} (P : A → Data → Type 0) (before after : List A) (old new : List Token) : Type 0 where
  pub given : A
  pub data' : Data
  pub pushed : after ≡ before ++ given ∷ []
  pub is : P given data'
  pub next : IsNext data' old new
  pub shorter : length new < length old

-- an item that gave this
pub record Turn {A : Type 0} (P : A → Data → Type 0) (a : A) (old : List Token) : Type 0 where
  pub data' : Data
  pub left : List Token
  pub is : P a data'
  pub going : after_end_array old ≡ None
  pub next : IsNext data' old left

-- items in turn, with what each gave
abbrev pub Taken : {A : Type 0} → (A → Data → Type 0) → List A → List Token → List Token → Type 0
Taken P [] old new = old ≡ new
Taken P (a ∷ xs) old new = (turn : Turn P a old) × Taken P xs turn.left new

-- the items of an array, with what each gave
pub record TakesAll {A : Type 0} (P : A → Data → Type 0) (given : List A) (old new : List Token) : Type 0 where
  pub stop : List Token
  pub taken : Taken P given old stop
  pub ends : after_end_array stop ≡ Some new

-- the text of an answer
abbrev pub IsAnswer : List ℕ → Data → Type 0
IsAnswer text d = item_in (untyped d) ≡ Some (item_seen text)

abbrev pub IsCall : Exports → Call → Data → Type 0
IsCall exports call d = call_by exports (pair_in (untyped d)) ≡ Some (call_seen call)
