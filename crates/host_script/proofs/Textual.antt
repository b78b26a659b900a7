-- Texts of JSON in memory are UTF-8, so a script's item answers with a value of the call's result type.
use Rattle.std.proofs.Common.{◌≡◌, List, [], ◌∷◌, map, refl, ap, ◌∙◌, subst, Bool, true, false, ◌&&◌, String, Global, string_bytes}
use Rattle.std.specs.Prelude.{Option, Some, None}
use Rattle.std.proofs.lemmas.Str.{scalars-chars, IsUtf8-string_bytes}
use Rattle.serde_json.specs.Data.{Data, Num, unsigned, negative, float}
use Rattle.serde_json.specs.View.{view, view_step, items_of, members_of, number_view}
use Rattle.serde_json.specs.declared.value.Value.{Value as Json, map-Value}
use Rattle.serde_json.specs.declared.value.Value.TheOpen.{Value-F}
use Rattle.serde_json.specs.declared.value.Value.TheFolds.{fold-roll-Value, ind-Value}
use Rattle.wit_types.specs.Plain.{Plain}
use Rattle.wit_types.specs.PlainValue.{PlainValue}
use Rattle.wit_types.specs.HasType.{is_of}
use Rattle.host_port.specs.Hosts.{IsAnswerTo}
use Rattle.host_port.specs.Scripts.{item_answer, read_as}
use Rattle.host_port.specs.Untyped.{reading}
use Rattle.host_script.specs.Json.{untyped, untyped_number, untyped_items, untyped_members}
use Rattle.host_script.specs.declared.script.ScriptItem.{ScriptItem}
use Rattle.host_script.specs.declared.script.ScriptItem.TheVariants.{Traps, NoValue, Value}
use Rattle.host_script.specs.Script.{item_read}
use Rattle.host_script.proofs.Typed.{is_textual, are_textual, members_textual, Passes, reading_passes}

abbrev IsFine : Json → Type 0
IsFine v = is_textual (untyped (view v)) ≡ true

abbrev Fine : Type 0
Fine = (v : Json) × IsFine v

both : (a b : Bool) → a ≡ true → b ≡ true → (a && b) ≡ true
both true b h k = k
both false b h k = h

number_fine : (n : Num) → is_textual (untyped_number n) ≡ true
number_fine (unsigned n) = refl
number_fine (negative z) = refl
number_fine (float x) = refl

items_fine : (vs : List Fine) → are_textual (untyped_items (items_of (map view (map (λ e. e.0) vs)))) ≡ true
items_fine [] = refl
items_fine (e ∷ vs) = both _ _ e.1 (items_fine vs)

members_fine : (ms : List (String Global × Fine)) → members_textual (untyped_members (members_of (map (λ (m : String Global × Json). (m.0, view m.1)) (map (λ (m : String Global × Fine). (m.0, m.1.0)) ms)))) ≡ true
members_fine [] = refl
members_fine (m ∷ ms) = both _ _ m.1.1 (members_fine ms)

layer_fine : (y : Value-F Fine) → is_textual (untyped (view_step (map-Value Json Data view (map-Value Fine Json (λ e. e.0) y)))) ≡ true
layer_fine Value-F.Null = refl
layer_fine (Value-F.Bool b) = refl
layer_fine (Value-F.Number n) = number_fine (number_view n)
layer_fine (Value-F.String s) = scalars-chars (string_bytes s) (IsUtf8-string_bytes s)
layer_fine (Value-F.Array v) = items_fine v.items
layer_fine (Value-F.Object m) = members_fine m.entries

pub textual : (v : Json) → IsFine v
textual = ind-Value IsFine (λ x y is.
    ap (λ d. is_textual (untyped d)) (fold-roll-Value Data view_step x) ∙ subst (λ z. is_textual (untyped (view_step (map-Value Json Data view z))) ≡ true) is (layer_fine y))

-- ---- answers

read_typed : (ty : Plain) (o : Option PlainValue) → Passes (λ v. is_of ty v) o → IsAnswerTo (Some ty) (read_as o)
read_typed ty None p = tt
read_typed ty (Some v) p = p

-- an item's answer is one that the call may have
pub item_typed : (ty : Option Plain) (item : ScriptItem) → IsAnswerTo ty (item_answer ty (item_read item))
item_typed ty Traps = tt
item_typed None NoValue = tt
item_typed (Some ty) NoValue = tt
item_typed None (Value json) = tt
item_typed (Some ty) (Value json) = read_typed ty (reading ty (untyped (view json))) (reading_passes ty (untyped (view json)) (textual json))
