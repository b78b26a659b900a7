-- A call that is read has arguments of its function's parameters.
use Rattle.std.proofs.Common.{◌≡◌, ℕ, List, [], ◌∷◌, ◌++◌, refl, ap, sym, subst, true}
use Rattle.std.specs.Prelude.{Option, Some, None, Ok, option_map}
use Rattle.std.proofs.lemmas.Bool.{and_parts}
use Rattle.std.proofs.lemmas.List.Elements.{All-append, All-cons, All-nil}
use Rattle.serde_json.specs.View.{view}
use Rattle.serde_json.specs.declared.value.Value.{Value as Json}
use Rattle.wit_types.specs.Plain.{Name, Parts}
use Rattle.wit_types.specs.PlainValue.{PlainValues}
use Rattle.wit_types.specs.HasType.{are_of}
use Rattle.host_port.specs.Untyped.{Untyped, Items, Null, Truth, Number, Inexact, Text, Array, Object, NoItems, Item, parts_reading}
use Rattle.host_script.specs.Json.{untyped}
use Rattle.host_script.specs.declared.script.Call.{Call}
use Rattle.host_script.specs.Script.{Exports, PlainCall, IsTypedCall, AreTyped, or_bad, params_named, call_of, text_of, items_of, pair_of, two_in, pair_in, call_by, call_at, call_seen}
use Rattle.host_script.proofs.Typed.{is_textual, are_textual, AllPass, parts_pass}
use Rattle.host_script.proofs.Textual.{textual}

-- ---- the arguments are textual

abbrev PairTextual : Option (Name × Items) → Type 0
PairTextual None = Unit {0}
PairTextual (Some pair) = are_textual pair.1 ≡ true

abbrev ItemsTextual : Option Items → Type 0
ItemsTextual None = Unit {0}
ItemsTextual (Some items) = are_textual items ≡ true

items_textual : (u : Untyped) → is_textual u ≡ true → ItemsTextual (items_of u)
items_textual Null h = tt
items_textual (Truth b) h = tt
items_textual (Number n) h = tt
items_textual Inexact h = tt
items_textual (Text bytes) h = tt
items_textual (Array items) h = h
items_textual (Object _) h = tt

pair_textual : (name : Option Name) (items : Option Items) → ItemsTextual items → PairTextual (pair_of name items)
pair_textual None items h = tt
pair_textual (Some name) None h = tt
pair_textual (Some name) (Some items) h = h

two_textual : (items : Items) → are_textual items ≡ true → PairTextual (two_in items)
two_textual NoItems h = tt
two_textual (Item u NoItems) h = tt
two_textual (Item u (Item v NoItems)) h =
    let later = (and_parts (is_textual u) (are_textual (Item v NoItems)) h).1 in
    pair_textual (text_of u) (items_of v) (items_textual v (and_parts (is_textual v) true later).0)
two_textual (Item u (Item v (Item w rest))) h = tt

in_textual : (u : Untyped) → is_textual u ≡ true → PairTextual (pair_in u)
in_textual Null h = tt
in_textual (Truth b) h = tt
in_textual (Number n) h = tt
in_textual Inexact h = tt
in_textual (Text bytes) h = tt
in_textual (Array items) h = two_textual items h
in_textual (Object _) h = tt

-- ---- a call

of_values : (exports : Exports) (name : Name) (params : Parts) (values : Option PlainValues) → params_named name exports ≡ Some params → AllPass (λ vs. are_of params vs) values
    → (c : PlainCall) → option_map (λ vs. (name, vs)) values ≡ Some c → IsTypedCall exports c
of_values exports name params None named pass c is = cc
of_values exports name params (Some vs) named pass c is =
    let same : (name, vs) ≡ c = cc in
    subst (IsTypedCall exports) same (record { params = params; named = named; typed = pass })

of_params : (exports : Exports) (name : Name) (args : Items) (o : Option Parts) → params_named name exports ≡ o → are_textual args ≡ true
    → (c : PlainCall) → call_of name args o ≡ Some c → IsTypedCall exports c
of_params exports name args None named h c is = cc
of_params exports name args (Some params) named h c is = of_values exports name params (parts_reading params args) named (parts_pass params args h) c is

of_pair : (exports : Exports) (pair : Option (Name × Items)) → PairTextual pair → (c : PlainCall) → call_by exports pair ≡ Some c → IsTypedCall exports c
of_pair exports None h c is = cc
of_pair exports (Some pair) h c is = of_params exports pair.0 pair.1 (params_named pair.0 exports) refl h c is

pub there : {A : Type 0} (path : List ℕ) (o : Option A) (a : A) → or_bad path o ≡ Ok a → o ≡ Some a
there path None a h = cc
there path (Some b) a h = let same : b ≡ a = cc in ap Some same

call_typed : (exports : Exports) (index : ℕ) (json : Json) (c : PlainCall) → call_at exports index (untyped (view json)) ≡ Ok c → IsTypedCall exports c
call_typed exports index json c h =
    of_pair exports (pair_in (untyped (view json))) (in_textual (untyped (view json)) (textual json)) c (there _ (call_by exports (pair_in (untyped (view json)))) c h)

-- one call more
pub typed_more : (exports : Exports) (index : ℕ) (json : Json) (old new : List Call) (c : Call) → AreTyped exports old → call_at exports index (untyped (view json)) ≡ Ok (call_seen c)
    → new ≡ old ++ c ∷ [] → AreTyped exports new
typed_more exports index json old new c all h pushed =
    subst (AreTyped exports) (sym pushed) (All-append (λ x. IsTypedCall exports (call_seen x)) old (c ∷ []) all
    (All-cons (λ x. IsTypedCall exports (call_seen x)) c [] (call_typed exports index json (call_seen c) h) (All-nil (λ x. IsTypedCall exports (call_seen x)))))

pub none_typed : (exports : Exports) → AreTyped exports []
none_typed exports = All-nil (λ x. IsTypedCall exports (call_seen x))
