-- A name is bytes that are UTF-8.
use Rattle.std.proofs.Common.{◌≡◌, ℕ, Bool, true, false, List, Ok, Err, refl}
use Rattle.std.specs.Str.{IsUtf8, is_utf8}
use Rattle.std.proofs.lemmas.Str.{IsUtf8-from_is_utf8, is_utf8-from_IsUtf8}
use Rattle.wasm_format.specs.declared.stop.Stop.TheVariants.{Malformed}
use Rattle.virt_base.specs.Place.{Place}
use Rattle.wasm_format.specs.Format.{sized, anything, name}

not_true : (b : Bool) → (b ≡ true → ⊥) → b ≡ false
not_true true h = absurd (h refl)
not_true false h = refl

pub name_is : (p q : Place) (bytes : List ℕ) → (sized anything).read p ≡ Ok (bytes, q) → IsUtf8 bytes → name.read p ≡ Ok (bytes, q)
unfolding name
name_is p q bytes e h = rw (e, is_utf8-from_IsUtf8 bytes h) refl

pub name_not : (p q : Place) (bytes : List ℕ) → (sized anything).read p ≡ Ok (bytes, q) → (IsUtf8 bytes → ⊥) → name.read p ≡ Err Malformed
unfolding name
name_not p q bytes e h = rw (e, not_true (is_utf8 bytes) (λ t. h (IsUtf8-from_is_utf8 bytes t))) refl

pub is_text : (bytes : List ℕ) → IsUtf8 bytes → is_utf8 bytes ≡ true
is_text bytes h = is_utf8-from_IsUtf8 bytes h
