-- Changes of the scratch folder keep its names text.
use Rattle.std.proofs.Common.{◌≡◌, ℕ, zero, suc, Bool, true, false, List, [], ◌∷◌, set, get_or, Option, Some, None, Ok, Err, Result, refl, ap, sym, subst, inl, inr, ◌⊎◌, IsUtf8}
use Rattle.std.specs.Prelude.{option_map, ◌==◌, IfOk, OnErr}
use Rattle.tree_table.specs.Scratches.{ScratchMap, ScratchFile, file_at, name_at, with_file, with_content, with_name, holding, called, removed, renamed, without_other, find_file, within_quota, written, content_at, overwritten}
use Rattle.ref_scratch.specs.Texts.{AreTexts}

set_cases : (xs : List (Option ScratchFile)) (n i : ℕ) (o : Option ScratchFile) (f : ScratchFile) → get_or (set xs n o) i None ≡ Some f → (get_or xs i None ≡ Some f) ⊎ (o ≡ Some f)
set_cases [] n i o f e = inl e
set_cases (x ∷ xs) zero zero o f e = inr e
set_cases (x ∷ xs) zero (suc i) o f e = inl e
set_cases (x ∷ xs) (suc n) zero o f e = inl e
set_cases (x ∷ xs) (suc n) (suc i) o f e = set_cases xs n i o f e

module _ (m : ScratchMap) (texts : AreTexts m) where
  texts_with : (n : ℕ) (o : Option ScratchFile) → ((f : ScratchFile) → o ≡ Some f → IsUtf8 f.name) → AreTexts (with_file m n o)
  texts_with n o new number file e =
      elim (set_cases m.files n number o file e) [
        | inl old ↦ texts number file old
        | inr is ↦ new file is
      ]

  pub texts_removed : (n : ℕ) → AreTexts (removed m n)
  texts_removed n = texts_with n None (λ f e. absurd (cc))

  held : (c : List ℕ) (o : Option ScratchFile) (f : ScratchFile) → option_map (holding c) o ≡ Some f → ((g : ScratchFile) → o ≡ Some g → IsUtf8 g.name) → IsUtf8 f.name
  held c None f e old = absurd (cc)
  held c (Some g) f e old = let same : g.name ≡ f.name = ap (λ (x : Option ScratchFile). name_in x) e in subst IsUtf8 same (old g refl)
    where
      name_in : Option ScratchFile → List ℕ
      name_in None = []
      name_in (Some x) = x.name

  pub texts_content : (n : ℕ) (c : List ℕ) → AreTexts (with_content m n c)
  texts_content n c = texts_with n (option_map (holding c) (file_at m n)) (λ f e. held c (file_at m n) f e (λ g is. texts n g is))

  named : (name : List ℕ) (o : Option ScratchFile) (f : ScratchFile) → option_map (called name) o ≡ Some f → name ≡ f.name
  named name None f e = absurd (cc)
  named name (Some g) f e = ap (λ (x : Option ScratchFile). name_in x) e
    where
      name_in : Option ScratchFile → List ℕ
      name_in None = name
      name_in (Some x) = x.name

  texts_name : (n : ℕ) (name : List ℕ) → IsUtf8 name → AreTexts (with_name m n name)
  texts_name n name utf8 = texts_with n (option_map (called name) (file_at m n)) (λ f e. subst IsUtf8 (named name (file_at m n) f e) utf8)

  without : (n : ℕ) (o : Option ℕ) → AreTexts (without_other m n o)
  without n None = texts
  without n (Some other) = by (other == n) refl
    where
      by : (b : Bool) → (other == n) ≡ b → AreTexts (without_other m n (Some other))
      by true is = rw is texts
      by false is = rw is (texts_removed other)

  quota : (b : Bool) (m1 m2 : ScratchMap) → within_quota b m1 ≡ Some m2 → AreTexts m1 → AreTexts m2
  quota true m1 m2 e one = let same : m1 ≡ m2 = cc in subst AreTexts same one
  quota false m1 m2 e one = absurd (cc)

  pub texts_written : (n at : ℕ) (bytes : List ℕ) (new : ScratchMap) → written m n at bytes ≡ Some new → AreTexts new
  texts_written n at [] new e = let same : m ≡ new = cc in subst AreTexts same texts
  texts_written n at (b ∷ bytes) new e = quota _ (with_content m n (overwritten (content_at m n) at (b ∷ bytes))) new e (texts_content n (overwritten (content_at m n) at (b ∷ bytes)))

pub texts_renamed : (m : ScratchMap) → AreTexts m → (n : ℕ) (name : List ℕ) → IsUtf8 name → AreTexts (renamed m n name)
texts_renamed m texts n name utf8 = texts_name (without_other m n (find_file m name)) (without m texts n (find_file m name)) n name utf8

-- ---- as the code finds it

module _ (m new : ScratchMap) (texts : AreTexts m) where
  -- where a change is made, or all stays
  pub texts_or : {A E : Type 0} (r : Result A E) (P : A → Type 0) → ((x : A) → P x → AreTexts new) → IfOk r P → OnErr r (new ≡ m) → AreTexts new
  texts_or (Ok x) P go p same = go x p
  texts_or (Err e) P go p same = subst AreTexts (sym same) texts

-- the name of a file
pub named_text : (m : ScratchMap) → AreTexts m → (n : ℕ) (name : List ℕ) → Some name ≡ name_at m n → IsUtf8 name
named_text m texts n name e = by (file_at m n) refl e
  where
    by : (o : Option ScratchFile) → file_at m n ≡ o → Some name ≡ option_map (λ f. f.name) o → IsUtf8 name
    by None is e = absurd (cc)
    by (Some f) is e = let same : f.name ≡ name = cc in subst IsUtf8 same (texts n f is)
