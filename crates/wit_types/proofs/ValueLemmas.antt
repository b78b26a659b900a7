-- The tree of each value, by the list of its parts.
use Rattle.std.proofs.Common.{◌≡◌, ℕ, ℤ, ap, refl, sym, ◌∙◌, Bool, Option, Some, None, Box, Global, List as Lst, [], ◌∷◌, ◌++◌}
use Rattle.wit_types.specs.declared.value.Value.{Value}
use Rattle.wit_types.specs.declared.value.Value.TheVariants.{Bool as Truth, Int, Char, Str, List, Record, Variant, Flags, Handle}
use Rattle.wit_types.specs.declared.value.Values.{Values, Row_of-Value, end_of-Value, more_of-Value, items-the_row-Value, items_hidden-the_row-Value-0}
use Rattle.wit_types.specs.declared.value.Values.TheVariants.{Each, Bytes}
use Rattle.std.specs.Prelude.{Vec}
use Rattle.wit_types.specs.declared.value.Value.TheBlock.{hidden-the_row-Value-0}
use Rattle.wit_types.specs.PlainValue.{BoolValue, IntValue, CharValue, StringValue, ListValue, RecordValue, VariantValue, FlagsValue, HandleValue, End, More, plain_value, plain_values, plain_row, plain_payload, values_of, byte_values, payload_of}

values_of-row : (n : _) (row : Row_of-Value n) → values_of (items-the_row-Value n row) ≡ plain_row row
unfolding plain_row
values_of-row n end_of-Value = refl
values_of-row n (more_of-Value {n = m} b rest) = ap (More (plain_value b)) (values_of-row m rest)

pub plain_values-Each : (vs : Vec Value Global) → plain_values (Each vs) ≡ values_of vs.items
unfolding plain_values
plain_values-Each vs = sym (values_of-row _ (hidden-the_row-Value-0 vs)) ∙ ap values_of (items_hidden-the_row-Value-0 vs)

pub plain_values-Bytes : (bytes : Lst ℕ) → plain_values (Bytes bytes) ≡ byte_values bytes
unfolding plain_values
plain_values-Bytes bytes = refl

pub plain_value-List : (vs : Values) → plain_value (List vs) ≡ ListValue (plain_values vs)
unfolding plain_value
plain_value-List vs = refl

pub plain_value-Record : (vs : Values) → plain_value (Record vs) ≡ RecordValue (plain_values vs)
unfolding plain_value
plain_value-Record vs = refl

pub plain_value-Variant : (n : ℕ) (payload : Option (Box Value Global)) → plain_value (Variant n payload) ≡ VariantValue n (payload_of payload)
unfolding plain_value plain_payload
plain_value-Variant n None = refl
plain_value-Variant n (Some b) = refl

pub plain_value-Bool : (b : Bool) → plain_value (Truth b) ≡ BoolValue b
unfolding plain_value
plain_value-Bool b = refl

pub plain_value-Int : (n : ℤ) → plain_value (Int n) ≡ IntValue n
unfolding plain_value
plain_value-Int n = refl

pub plain_value-Char : (n : ℕ) → plain_value (Char n) ≡ CharValue n
unfolding plain_value
plain_value-Char n = refl

pub plain_value-Str : (bytes : Lst ℕ) → plain_value (Str bytes) ≡ StringValue bytes
unfolding plain_value
plain_value-Str bytes = refl

pub plain_value-Flags : (n : ℕ) → plain_value (Flags n) ≡ FlagsValue n
unfolding plain_value
plain_value-Flags n = refl

pub plain_value-Handle : (n : ℕ) → plain_value (Handle n) ≡ HandleValue n
unfolding plain_value
plain_value-Handle n = refl

-- one more at the end
pub values_of-push : (xs ys : Lst Value) (x y : Value) → values_of xs ≡ values_of ys → plain_value x ≡ plain_value y → values_of (xs ++ x ∷ []) ≡ values_of (ys ++ y ∷ [])
values_of-push [] [] x y e h = ap (λ p. More p End) h
values_of-push [] (v ∷ ys) x y e h = cc
values_of-push (u ∷ xs) [] x y e h = cc
values_of-push (u ∷ xs) (v ∷ ys) x y e h =
    let head : plain_value u ≡ plain_value v = cc in
    let tail : values_of xs ≡ values_of ys = cc in
    let rest = values_of-push xs ys x y tail h in
    cc

pub ruleset values = (plain_values-Each, plain_values-Bytes, plain_value-List, plain_value-Record, plain_value-Variant, plain_value-Bool, plain_value-Int, plain_value-Char, plain_value-Str, plain_value-Flags, plain_value-Handle)
