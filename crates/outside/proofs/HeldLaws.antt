-- Changes of one name, one after another.
use Rattle.std.proofs.Common.{◌≡◌, ℕ, List, [], Bool, true, false, ◌++◌, refl, ap, sym, ◌∙◌, rules, take, append-nil}
use Rattle.std.specs.Prelude.{Option, Some, None, if◌then◌else◌, option_map}
use Rattle.std.specs.Str.{bytes_eq}
use Rattle.std.proofs.lemmas.Slice.Eq.{bytes_eq-Decides}
use mathlib.Core.Path.{fun_ext}
use Rattle.outside.specs.Files.{Held, with_file, with_more}

same_text : (n : List ℕ) → bytes_eq n n ≡ true
same_text n = search rules

-- the later of two changes of one name stands
pub with_file_twice : (h : Held) (n : List ℕ) (o p : Option (List ℕ)) → with_file (with_file h n o) n p ≡ with_file h n p
with_file_twice h n o p = ap (λ (g : List ℕ → Option (List ℕ)). record h { file = g }) (fun_ext (λ m. later (bytes_eq n m) (h.file m)))
  where
    later : (b : Bool) (q : Option (List ℕ)) → (if b then p else (if b then o else q)) ≡ (if b then p else q)
    later true q = refl
    later false q = refl

-- the name holds what was put there
pub file_there : (h : Held) (n : List ℕ) (o : Option (List ℕ)) → (with_file h n o).file n ≡ o
file_there h n o = let same = same_text n in rw same refl

-- and no other name has changed
pub file_elsewhere : (h : Held) (n m : List ℕ) (o : Option (List ℕ)) → bytes_eq n m ≡ false → (with_file h n o).file m ≡ h.file m
file_elsewhere h n m o other = rw other refl

-- bytes after those that were put there
pub with_more_with_file : (h : Held) (n old bytes : List ℕ) → with_more (with_file h n (Some old)) n bytes ≡ with_file h n (Some (old ++ bytes))
with_more_with_file h n old bytes =
    ap (λ o. with_file (with_file h n (Some old)) n (option_map (λ b. b ++ bytes) o)) (file_there h n (Some old)) ∙ with_file_twice h n (Some old) (Some (old ++ bytes))

if_same : {A : Type 0} (f : List ℕ → A) (n m : List ℕ) (x : A) (b : Bool) → (b ≡ true → n ≡ m) → f n ≡ x → (if b then x else f m) ≡ f m
if_same f n m x true h e = sym e ∙ ap f (h refl)
if_same f n m x false h e = refl

-- what a name holds is put there again
pub with_file_same : (h : Held) (n : List ℕ) (bytes : Option (List ℕ)) → h.file n ≡ bytes → with_file h n bytes ≡ h
with_file_same h n bytes e =
    ap (λ (g : List ℕ → Option (List ℕ)). record h { file = g })
    (fun_ext (λ m. if_same h.file n m bytes (bytes_eq n m) (λ e. (bytes_eq-Decides n m).0 e) e))

append_none : (o : Option (List ℕ)) → o ≡ option_map (λ old. old ++ []) o
append_none None = refl
append_none (Some b) = ap (λ (z : List ℕ). Some z) (sym (append-nil b))

-- no bytes at the end change nothing
pub with_more_nothing : (h : Held) (n bytes : List ℕ) → h ≡ with_more h n (take 0 bytes)
with_more_nothing h n bytes = sym (with_file_same h n _ (append_none (h.file n)))
