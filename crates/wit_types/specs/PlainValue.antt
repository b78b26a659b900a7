-- Values without the places where they lie, so that two values are equal where their trees are.
use Rattle.std.specs.Prelude.{ℕ, ℤ, pos, Bool, List, [], ◌∷◌, Option as Opt, Some, None, Box}
use Rattle.std.specs.Global.{Global}
use Rattle.wit_types.specs.declared.value.Value.{Value, Held-Value-Variant-1, None', Some'}
use Rattle.wit_types.specs.declared.value.Values.{Values, Row_of-Value, end_of-Value, more_of-Value}
use Rattle.wit_types.specs.declared.value.Values.TheVariants.{Each', Bytes}
use Rattle.wit_types.specs.declared.value.Value.TheVariants.{Bool as Bool', Int, Char, Str, List as List', Record as Record', Variant', Flags, Handle}

mutual
  pub data PlainValue : Type 0 where
    BoolValue : Bool → PlainValue
    IntValue : ℤ → PlainValue
    CharValue : (code : ℕ) → PlainValue
    StringValue : (bytes : List ℕ) → PlainValue
    ListValue : PlainValues → PlainValue
    RecordValue : PlainValues → PlainValue
    VariantValue : (number : ℕ) → Payload → PlainValue
    FlagsValue : (bits : ℕ) → PlainValue
    HandleValue : (index : ℕ) → PlainValue

  pub data PlainValues : Type 0 where
    End : PlainValues
    More : (value : PlainValue) → (rest : PlainValues) → PlainValues

  pub data Payload : Type 0 where
    Without : Payload
    With : (value : PlainValue) → Payload

-- bytes as integers
abbrev pub byte_values : List ℕ → PlainValues
byte_values [] = End
byte_values (b ∷ bs) = More (IntValue (pos b)) (byte_values bs)

unfoldable mutual
  pub plain_value : Value → PlainValue
  plain_value (Bool' b) = BoolValue b
  plain_value (Int n) = IntValue n
  plain_value (Char code) = CharValue code
  plain_value (Str bytes) = StringValue bytes
  plain_value (List' values) = ListValue (plain_values values)
  plain_value (Record' values) = RecordValue (plain_values values)
  plain_value (Variant' number payload) = VariantValue number (plain_payload payload)
  plain_value (Flags bits) = FlagsValue bits
  plain_value (Handle index) = HandleValue index

  -- a run of bytes stands for as many integers
  pub plain_values : Values → PlainValues
  plain_values (Each' _ values) = plain_row values
  plain_values (Bytes bytes) = byte_values bytes

  pub plain_row : {n : _} → Row_of-Value n → PlainValues
  plain_row end_of-Value = End
  plain_row (more_of-Value value rest) = More (plain_value value) (plain_row rest)

  pub plain_payload : Held-Value-Variant-1 → Payload
  plain_payload None' = Without
  plain_payload (Some' _ value) = With (plain_value value)

-- the same of lists
abbrev pub values_of : List Value → PlainValues
values_of [] = End
values_of (v ∷ vs) = More (plain_value v) (values_of vs)

abbrev pub payload_of : Opt (Box Value Global) → Payload
payload_of None = Without
payload_of (Some b) = With (plain_value b.value)
