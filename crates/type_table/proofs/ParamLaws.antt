-- Parameters of functions whose types a table has, and their keys.
use Rattle.std.proofs.Common.{◌≡◌, ◌<◌, ap, refl, sym, subst, ℕ, zero, suc, List, [], ◌∷◌, length, get_or, arith}
use Rattle.wit_types.specs.declared.types.Field.{Field, out-Field}
use Rattle.wit_types.specs.Plain.{plain, fields_of}
use Rattle.comp_facts.specs.Keys.{key_of, keys_in}
use Rattle.type_table.specs.Tables.{Types, Has, HasParts}

pub keys-count : (fs : List Field) → length (keys_in (fields_of fs)) ≡ length fs
keys-count [] = refl
keys-count (f ∷ fs) = ap suc (keys-count fs)

pub key-of_field : (fs : List Field) (i : ℕ) (x : Field) (other : ℕ) → i < length fs → x ≡ get_or fs i x → get_or (keys_in (fields_of fs)) i other ≡ key_of (plain (out-Field x).ty)
key-of_field [] i x other lt e = absurd (omega (arith, lt))
key-of_field (f ∷ fs) zero x other lt e = ap (λ (y : Field). key_of (plain (out-Field y).ty)) (sym e)
key-of_field (f ∷ fs) (suc i) x other lt e = key-of_field fs i x other (omega (arith, lt)) e

pub has-field : (types : Types) (fs : List Field) (i : ℕ) (x : Field) → i < length fs → x ≡ get_or fs i x → HasParts types (fields_of fs) → Has types (plain (out-Field x).ty)
has-field types [] i x lt e h = absurd (omega (arith, lt))
has-field types (f ∷ fs) zero x lt e h = subst (λ (y : Field). Has types (plain (out-Field y).ty)) (sym e) h.0
has-field types (f ∷ fs) (suc i) x lt e h = has-field types fs i x (omega (arith, lt)) e h.1
