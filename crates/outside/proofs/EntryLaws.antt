-- Entries in order.
use Rattle.std.proofs.Common.{◌≡◌, ℕ, ◌≤◌, List, [], ◌∷◌, length, Bool, true, false, refl, arith}
use Rattle.std.specs.Prelude.{Some, ◌&&◌, if◌then◌else◌}
use Rattle.std.specs.Str.{bytes_eq}
use Rattle.outside.specs.MemFiles.{first_named, all_in_order}
use Rattle.outside.specs.declared.contents.Named.{Named}
use Rattle.outside.specs.Files.{in_order, AreInOrder}
use Rattle.outside.specs.declared.files.Entry.{Entry}

pub short_in_order : (es : List Entry) → length es ≤ 1 → in_order es ≡ true
short_in_order [] h = refl
short_in_order (e ∷ []) h = refl
short_in_order (e ∷ f ∷ es) h = absurd (omega arith)

-- the first folder of a name is one of them
pub first_in_order : (xs : List (Named (List Entry))) (name : List ℕ) (es : List Entry) → all_in_order xs ≡ true → first_named xs name ≡ Some es → AreInOrder es
first_in_order [] name es h e = absurd cc
first_in_order (x ∷ xs) name es h e = by_name (bytes_eq x.name name) (in_order x.value) (all_in_order xs) refl h (λ h e. first_in_order xs name es h e) e
  where
    by_name : (b c d : Bool) → c ≡ in_order x.value → (c && d) ≡ true → (d ≡ true → first_named xs name ≡ Some es → AreInOrder es) → (if b then Some x.value else first_named xs name) ≡ Some es → AreInOrder es
    by_name true true d is h more e = let same : x.value ≡ es = cc in cc
    by_name true false d is h more e = absurd cc
    by_name false true d is h more e = more h e
    by_name false false d is h more e = absurd cc
