-- A string is bytes within the memory that are UTF-8.
use Rattle.std.proofs.Common.{◌≡◌, ℕ, ◌+◌, ◌≤◌, ap, refl, sym, ◌∙◌, Bool, true, false, ◌&&◌, List, length, take, drop, Option, Some, None, arith, subst}
use Rattle.std.specs.Prelude.{if◌then◌else◌, nat_le, IsUtf8}
use Rattle.std.specs.Str.{is_utf8}
use Rattle.std.proofs.lemmas.Str.{IsUtf8-from_is_utf8, is_utf8-from_IsUtf8}
use Rattle.std.proofs.lemmas.Bool.Decides.{nat_tests}
use Rattle.wit_types.specs.PlainValue.{PlainValue, StringValue}
use Rattle.abi_layout.specs.Loading.{string_at}

tested : (b c : Bool) (o : Option PlainValue) → b ≡ true → c ≡ true → (if b && c then o else None) ≡ o
tested true true o p q = refl
tested true false o p q = cc
tested false c o p q = cc

untested : (b c : Bool) (o : Option PlainValue) → (c ≡ true → ⊥) → (if b && c then o else None) ≡ None
untested true true o p = absurd (p refl)
untested true false o p = refl
untested false c o p = refl

past : (b c : Bool) (o : Option PlainValue) → b ≡ false → (if b && c then o else None) ≡ None
past true c o p = cc
past false c o p = refl

pub string_is : (m : List ℕ) (place len : ℕ) (bytes text shown : List ℕ) → place + len ≤ length m → bytes ≡ take len (drop place m) → text ≡ bytes → shown ≡ text → IsUtf8 shown → string_at m place len ≡ Some (StringValue text)
string_is m place len bytes text shown le is same again utf8 =
    let valid : is_utf8 (take len (drop place m)) ≡ true = subst (λ (v : List ℕ). is_utf8 v ≡ true) (again ∙ same ∙ is) (is_utf8-from_IsUtf8 shown utf8) in
    tested (nat_le (place + len) (length m)) (is_utf8 (take len (drop place m))) (Some (StringValue (take len (drop place m)))) (grind (arith, nat_tests)) valid
    ∙ ap (λ (v : List ℕ). Some (StringValue v)) (sym (same ∙ is))

pub string_invalid : (m : List ℕ) (place len : ℕ) (bytes kept : List ℕ) → bytes ≡ take len (drop place m) → kept ≡ bytes → (IsUtf8 kept → ⊥) → string_at m place len ≡ None
string_invalid m place len bytes kept is same invalid =
    untested (nat_le (place + len) (length m)) (is_utf8 (take len (drop place m))) (Some (StringValue (take len (drop place m))))
    (λ valid. invalid (subst (λ (v : List ℕ). IsUtf8 v) (sym (same ∙ is)) (IsUtf8-from_is_utf8 (take len (drop place m)) valid)))
