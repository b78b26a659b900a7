-- A value of another form, or of a type of another form, does not pass.
use Rattle.std.proofs.Common.{◌≡◌, ℕ, ℤ, pos, refl, Bool, false, Option, None, Some, Box, Global}
use Rattle.wit_types.specs.declared.types.Fields.{Fields'}
use Rattle.wit_types.specs.declared.types.Cases.{Cases'}
use Rattle.wit_types.specs.declared.types.WitType.{WitType}
use Rattle.wit_types.specs.declared.types.WitType.TheVariants.{S8, U8, S16, U16, S32, U32, S64, U64, Record' as RecordOf, Variant' as VariantOf}
use Rattle.wit_types.specs.declared.value.Value.{Value, None', Some'}
use Rattle.wit_types.specs.declared.value.Values.{Values}
use Rattle.wit_types.specs.declared.value.Value.TheVariants.{Bool as Truth, Int, Char, Str, List, Record, Variant, Variant', Flags, Handle}
use Rattle.wit_types.specs.Plain.{plain}
use Rattle.wit_types.specs.PlainValue.{PlainValue, PlainValues, Payload, IntValue, plain_value}
use Rattle.wit_types.specs.HasType.{is_of, is_bool, is_integer, is_char, is_string, is_list, is_record, is_variant, is_flags, is_handle}

pub only-Bool : (v : Value) → ((x : Bool) → v ≡ Truth x → ⊥) → is_bool (plain_value v) ≡ false
unfolding plain_value
only-Bool (Truth x) h = absurd (h x refl)
only-Bool _ h = refl

pub only-Int : (low end : ℤ) (v : Value) → ((x : ℤ) → v ≡ Int x → ⊥) → is_integer low end (plain_value v) ≡ false
unfolding plain_value
only-Int low end (Int x) h = absurd (h x refl)
only-Int low end _ h = refl

pub only-Char : (v : Value) → ((x : ℕ) → v ≡ Char x → ⊥) → is_char (plain_value v) ≡ false
unfolding plain_value
only-Char (Char x) h = absurd (h x refl)
only-Char _ h = refl

pub only-Str : (v : Value) → ((x : _) → v ≡ Str x → ⊥) → is_string (plain_value v) ≡ false
unfolding plain_value
only-Str (Str x) h = absurd (h x refl)
only-Str _ h = refl

pub only-List : (test : PlainValue → Bool) (v : Value) → ((x : Values) → v ≡ List x → ⊥) → is_list test (plain_value v) ≡ false
unfolding plain_value
only-List test (List x) h = absurd (h x refl)
only-List test _ h = refl

pub only-Record : (test : PlainValues → Bool) (v : Value) → ((x : Values) → v ≡ Record x → ⊥) → is_record test (plain_value v) ≡ false
unfolding plain_value
only-Record test (Record x) h = absurd (h x refl)
only-Record test _ h = refl

pub only-Variant : (test : ℕ → Payload → Bool) (v : Value) → ((x : ℕ) (y : Option (Box Value Global)) → v ≡ Variant x y → ⊥) → is_variant test (plain_value v) ≡ false
unfolding plain_value
only-Variant test (Variant' x None') h = absurd (h x None refl)
only-Variant test (Variant' x (Some' q u)) h = absurd (h x (Some (record { ptr = q.ptr; value = u; alloc = q.alloc })) refl)
only-Variant test _ h = refl

pub only-Flags : (n : ℕ) (v : Value) → ((x : ℕ) → v ≡ Flags x → ⊥) → is_flags n (plain_value v) ≡ false
unfolding plain_value
only-Flags n (Flags x) h = absurd (h x refl)
only-Flags n _ h = refl

pub only-Handle : (v : Value) → ((x : ℕ) → v ≡ Handle x → ⊥) → is_handle (plain_value v) ≡ false
unfolding plain_value
only-Handle (Handle x) h = absurd (h x refl)
only-Handle _ h = refl

pub only-byte : (n : ℕ) (t : WitType) → (t ≡ S8 → ⊥) → (t ≡ U8 → ⊥) → (t ≡ S16 → ⊥) → (t ≡ U16 → ⊥) → (t ≡ S32 → ⊥) → (t ≡ U32 → ⊥) → (t ≡ S64 → ⊥) → (t ≡ U64 → ⊥) → is_of (plain t) (IntValue (pos n)) ≡ false
unfolding plain
only-byte n S8 a b c d e f g h = absurd (a refl)
only-byte n U8 a b c d e f g h = absurd (b refl)
only-byte n S16 a b c d e f g h = absurd (c refl)
only-byte n U16 a b c d e f g h = absurd (d refl)
only-byte n S32 a b c d e f g h = absurd (e refl)
only-byte n U32 a b c d e f g h = absurd (f refl)
only-byte n S64 a b c d e f g h = absurd (g refl)
only-byte n U64 a b c d e f g h = absurd (h refl)
only-byte n (RecordOf x (Fields' s r)) a b c d e f g h = refl
only-byte n (VariantOf x (Cases' s r)) a b c d e f g h = refl
only-byte n _ a b c d e f g h = refl

pub ruleset only = (only-Bool, only-Int, only-Char, only-Str, only-List, only-Record, only-Variant, only-Flags, only-Handle, only-byte)
