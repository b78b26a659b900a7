-- Writing items one after the other.
use Rattle.std.proofs.Common.{◌≡◌, ℕ, suc, ◌+◌, ◌<◌, List, ◌∷◌, ◌++◌, length, get_or, drop, sym, ap, subst, ◌∙◌, append_assoc, add-one}
use Rattle.std.specs.List.{AllByRecursion}
use Rattle.std.proofs.Math.Seq.{drop-cons}
use Rattle.wasm_format.specs.Format.{Format, write_items}

next : {A : Type 0} (items : List A) (i : ℕ) (x : A) → i < length items → x ≡ get_or items i x → drop i items ≡ x ∷ drop (i + 1) items
next items i x lt e = rw add-one (drop-cons items i x lt ∙ ap (λ y. y ∷ drop (suc i) items) (sym e))

both_fit : {A : Type 0} (F : Format A) (items : List A) (i : ℕ) (x : A) → i < length items → x ≡ get_or items i x → AllByRecursion F.Fits (drop i items) → F.Fits x × AllByRecursion F.Fits (drop (i + 1) items)
both_fit F items i x lt e h = subst (λ (l : List _). AllByRecursion F.Fits l) (next items i x lt e) h

pub fits_first : {A : Type 0} (F : Format A) (items : List A) (i : ℕ) (x : A) → i < length items → x ≡ get_or items i x → AllByRecursion F.Fits (drop i items) → F.Fits x
fits_first F items i x lt e h = (both_fit F items i x lt e h).0

pub fits_rest : {A : Type 0} (F : Format A) (items : List A) (i : ℕ) (x : A) → i < length items → x ≡ get_or items i x → AllByRecursion F.Fits (drop i items) → AllByRecursion F.Fits (drop (i + 1) items)
fits_rest F items i x lt e h = (both_fit F items i x lt e h).1

pub one_more : {A : Type 0} (F : Format A) (old all : List ℕ) (items : List A) (i : ℕ) (x : A) → i < length items → x ≡ get_or items i x → old ++ write_items F (drop i items) ≡ all → (old ++ F.write x) ++ write_items F (drop (i + 1) items) ≡ all
one_more F old all items i x lt e h =
    append_assoc old (F.write x) (write_items F (drop (i + 1) items)) ∙ ap (λ (l : List _). old ++ write_items F l) (sym (next items i x lt e)) ∙ h
