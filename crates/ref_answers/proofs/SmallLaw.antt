-- The listed functions have small types.
use Rattle.std.proofs.Common.{◌≡◌, ℕ, zero, suc, ◌+◌, ◌<◌, ◌≤◌, Bool, true, false, ◌&&◌, nat_le, List, [], ◌∷◌, Option, Some, None, refl, sym, ap, ◌∙◌, arith}
use Rattle.std.proofs.lemmas.Bool.{leb-true}
use Rattle.std.specs.List.{list_all, find}
use Rattle.wit_types.specs.Plain.{Plain}
use Rattle.wit_types.specs.Limits.{parts, all_parts}
use Rattle.wasi_table.specs.Plain.{PlainNamedFunc}
use Rattle.wasi_table.specs.Forms.{form_named}
use Rattle.wasi_table.specs.Types.{kind_of}
use Rattle.wasi_table.specs.Tables.{described as described_by}
use Rattle.wasi_listed.specs.IoListed.{described as described_io, known_types}
use Rattle.wasi_listed.specs.FsListed.{described as described_fs}
use Rattle.wasi_listed.specs.NetListed.{described as described_net}
use Rattle.reference_step.specs.Listed.{interface_at}
use Rattle.ref_answers.specs.Versions.{IsSmall}

abbrev is_small_answer : Option Plain → Bool
is_small_answer None = true
is_small_answer (Some ty) = nat_le (parts ty) 1000000

abbrev is_small : PlainNamedFunc → Bool
is_small f = nat_le (all_parts f.ty.params) 1000000 && is_small_answer f.ty.answer

abbrev are_small : ℕ → ℕ → Bool
are_small zero i = true
are_small (suc n) i = list_all is_small (interface_at i).functions && are_small n (i + 1)

all_small : are_small 27 0 ≡ true
unfolding described_by described_io described_fs described_net known_types form_named kind_of
all_small = refl

first_true : (a b : Bool) → (a && b) ≡ true → a ≡ true
first_true true b e = refl
first_true false b e = e

second_true : (a b : Bool) → (a && b) ≡ true → b ≡ true
second_true true b e = e
second_true false b e = cc

small_at : (n i j : ℕ) → are_small n i ≡ true → j < n → list_all is_small (interface_at (i + j)).functions ≡ true
small_at zero i j e less = absurd (omega arith)
small_at (suc n) i zero e less =
    let same : i ≡ i + 0 = omega arith in
    ap (λ k. list_all is_small (interface_at k).functions) (sym same) ∙ first_true (list_all is_small (interface_at i).functions) (are_small n (i + 1)) e
small_at (suc n) i (suc j) e less =
    let same : i + 1 + j ≡ i + suc j = omega arith in
    ap (λ k. list_all is_small (interface_at k).functions) (sym same) ∙ small_at n (i + 1) j (second_true (list_all is_small (interface_at i).functions) (are_small n (i + 1)) e) (omega arith)

small_below : (i : ℕ) → i < 27 → list_all is_small (interface_at i).functions ≡ true
small_below i less =
    let same : i ≡ 0 + i = omega arith in
    ap (λ k. list_all is_small (interface_at k).functions) same ∙ small_at 27 0 i all_small less

small_found : (p : PlainNamedFunc → Bool) (fs : List PlainNamedFunc) (f : PlainNamedFunc) → find p fs ≡ Some f → list_all is_small fs ≡ true → is_small f ≡ true
small_found p [] f e all = cc
small_found p (g ∷ fs) f e all = by (p g) refl (λ found. small_found p fs f found (second_true (is_small g) (list_all is_small fs) all))
  where
    by : (b : Bool) → p g ≡ b → (find p fs ≡ Some f → is_small f ≡ true) → is_small f ≡ true
    by true is later =
        let found : Some g ≡ Some f = rw is at e in
        let same : g ≡ f = cc in
        ap is_small (sym same) ∙ first_true (is_small g) (list_all is_small fs) all
    by false is later = let found : find p fs ≡ Some f = rw is at e in later found

answer_small : (o : Option Plain) (ty : Plain) → is_small_answer o ≡ true → o ≡ Some ty → parts ty ≤ 1000000
answer_small None ty e is = cc
answer_small (Some t) ty e is =
    let same : t ≡ ty = cc in
    let less : parts t ≤ 1000000 = leb-true _ _ e in
    omega (arith, less, ap parts same)

small_is : (f : PlainNamedFunc) → is_small f ≡ true → IsSmall f.ty
small_is f e = record {
  params = leb-true _ _ (first_true (nat_le (all_parts f.ty.params) 1000000) (is_small_answer f.ty.answer) e);
  answer = λ ty is. answer_small f.ty.answer ty (second_true (nat_le (all_parts f.ty.params) 1000000) (is_small_answer f.ty.answer) e) is;
}

-- a function of a listed interface
pub small_function : (i : ℕ) (p : PlainNamedFunc → Bool) (f : PlainNamedFunc) → i < 27 → find p (interface_at i).functions ≡ Some f → IsSmall f.ty
small_function i p f less found = small_is f (small_found p (interface_at i).functions f found (small_below i less))
