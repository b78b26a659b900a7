-- Labels that stand in an array in order, one after another.
use Rattle.std.proofs.Common.{◌≡◌, ℕ, zero, suc, ◌+◌, ◌*◌, ◌<◌, List, [], ◌∷◌, drop, length, refl, ap, sym, ◌∙◌, Bool, true, false, true≢false, arith}
use Rattle.std.specs.Prelude.{Option, Some, None, option_map}
use Rattle.std.proofs.lemmas.List.{drop-drop}
use Rattle.serde_json.specs.View.{view, items_view}
use Rattle.serde_json.specs.declared.value.Value.{Value as Json}
use Rattle.wit_types.specs.Plain.{Name}
use Rattle.host_port.specs.Untyped.{Untyped, Items, Null, Truth, Number, Inexact, Text, Array, Object, NoItems, Item, flags_from}
use Rattle.host_script.specs.Json.{untyped, untyped_items}
use Rattle.host_script.specs.Reads.{begins_with, is_text}

abbrev seen : List Json → Items
seen items = untyped_items (items_view items)

added : (bits bit : ℕ) (o : Option ℕ) → option_map (λ n. bits + n) (option_map (λ n. bit + n) o) ≡ option_map (λ n. bits + bit + n) o
added bits bit None = refl
added bits bit (Some n) = ap Some (omega arith)

take_one : (bits bit : ℕ) (label : Name) (labels : List Name) (u : Untyped) (rest : Items) → is_text label u ≡ true
    → option_map (λ n. bits + n) (flags_from bit (label ∷ labels) (Item u rest)) ≡ option_map (λ n. bits + bit + n) (flags_from (bit * 2) labels rest)
take_one bits bit label labels (Text name) rest h = rw h (added bits bit _)
take_one bits bit label labels Null rest h = absurd (true≢false (sym h))
take_one bits bit label labels (Truth b) rest h = absurd (true≢false (sym h))
take_one bits bit label labels (Number n) rest h = absurd (true≢false (sym h))
take_one bits bit label labels Inexact rest h = absurd (true≢false (sym h))
take_one bits bit label labels (Array items) rest h = absurd (true≢false (sym h))
take_one bits bit label labels (Object members) rest h = absurd (true≢false (sym h))

take_first : (bits bit : ℕ) (label : Name) (labels : List Name) (items : List Json) → begins_with label (seen items) ≡ true
    → option_map (λ n. bits + n) (flags_from bit (label ∷ labels) (seen items)) ≡ option_map (λ n. bits + bit + n) (flags_from (bit * 2) labels (seen (drop 1 items)))
take_first bits bit label labels [] h = absurd (true≢false (sym h))
take_first bits bit label labels (x ∷ items) h = take_one bits bit label labels (untyped (view x)) (seen items) h

-- the label is set
pub take_flag : (bits bit : ℕ) (label : Name) (labels : List Name) (items : List Json) (read : ℕ) → begins_with label (seen (drop read items)) ≡ true
    → option_map (λ n. bits + n) (flags_from bit (label ∷ labels) (seen (drop read items))) ≡ option_map (λ n. bits + bit + n) (flags_from (bit * 2) labels (seen (drop (read + 1) items)))
take_flag bits bit label labels items read h =
    take_first bits bit label labels (drop read items) h ∙ ap (λ xs. option_map (λ n. bits + bit + n) (flags_from (bit * 2) labels (seen xs))) (drop-drop 1 read items)

none_then : (bit : ℕ) (labels : List Name) (rest : Items) → None ≡ flags_from bit labels (Item Null rest)
none_then bit [] rest = refl
none_then bit (l ∷ labels) rest = refl

none_then_truth : (bit : ℕ) (labels : List Name) (b : Bool) (rest : Items) → None ≡ flags_from bit labels (Item (Truth b) rest)
none_then_truth bit [] b rest = refl
none_then_truth bit (l ∷ labels) b rest = refl

none_then_number : (bit : ℕ) (labels : List Name) (n : _) (rest : Items) → None ≡ flags_from bit labels (Item (Number n) rest)
none_then_number bit [] n rest = refl
none_then_number bit (l ∷ labels) n rest = refl

none_then_inexact : (bit : ℕ) (labels : List Name) (rest : Items) → None ≡ flags_from bit labels (Item Inexact rest)
none_then_inexact bit [] rest = refl
none_then_inexact bit (l ∷ labels) rest = refl

none_then_array : (bit : ℕ) (labels : List Name) (items : Items) (rest : Items) → None ≡ flags_from bit labels (Item (Array items) rest)
none_then_array bit [] items rest = refl
none_then_array bit (l ∷ labels) items rest = refl

none_then_object : (bit : ℕ) (labels : List Name) (members : _) (rest : Items) → None ≡ flags_from bit labels (Item (Object members) rest)
none_then_object bit [] members rest = refl
none_then_object bit (l ∷ labels) members rest = refl

-- the label is not set
pub pass_flag : (bit : ℕ) (label : Name) (labels : List Name) (items : Items) → begins_with label items ≡ false
    → flags_from bit (label ∷ labels) items ≡ flags_from (bit * 2) labels items
pass_flag bit label labels NoItems h = refl
pass_flag bit label labels (Item (Text name) rest) h = rw h refl
pass_flag bit label labels (Item Null rest) h = none_then (bit * 2) labels rest
pass_flag bit label labels (Item (Truth b) rest) h = none_then_truth (bit * 2) labels b rest
pass_flag bit label labels (Item (Number n) rest) h = none_then_number (bit * 2) labels n rest
pass_flag bit label labels (Item Inexact rest) h = none_then_inexact (bit * 2) labels rest
pass_flag bit label labels (Item (Array items) rest) h = none_then_array (bit * 2) labels items rest
pass_flag bit label labels (Item (Object members) rest) h = none_then_object (bit * 2) labels members rest

-- an item is left where no label is
pub none_left : (bit : ℕ) (items : List Json) (read : ℕ) → read < length items → flags_from bit [] (seen (drop read items)) ≡ None
none_left bit [] read h = absurd (omega arith)
none_left bit (x ∷ items) zero h = refl
none_left bit (x ∷ items) (suc read) h = none_left bit items read (omega arith)
