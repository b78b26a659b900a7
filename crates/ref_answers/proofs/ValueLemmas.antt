-- Lists of values, and variants with a payload.
use Rattle.std.proofs.Common.{◌≡◌, ℕ, refl, ap, ◌∙◌, List, [], ◌∷◌, map, pos, Some, Box, Global}
use Rattle.wit_types.specs.declared.value.Value.{Value}
use Rattle.wit_types.specs.declared.value.Value.TheVariants.{Variant}
use Rattle.wit_types.specs.PlainValue.{IntValue, VariantValue, With, More, plain_value, values_of, byte_values}
use Rattle.wit_types.proofs.ValueLemmas.{plain_value-Variant}
use Rattle.reference_step.specs.Values.{number_values, values}

pub byte_numbers : (bs : List ℕ) → byte_values bs ≡ number_values bs
byte_numbers [] = refl
byte_numbers (b ∷ bs) = ap (More (IntValue (pos b))) (byte_numbers bs)

pub values_listed : (vs : List Value) → values_of vs ≡ values (map plain_value vs)
values_listed [] = refl
values_listed (v ∷ vs) = ap (More (plain_value v)) (values_listed vs)

pub payload_held : (n : ℕ) (held : Box Value Global) (v : Value) → held.value ≡ v → plain_value (Variant n (Some held)) ≡ VariantValue n (With (plain_value v))
payload_held n held v kept = plain_value-Variant n (Some held) ∙ ap (λ (w : Value). VariantValue n (With (plain_value w))) kept
