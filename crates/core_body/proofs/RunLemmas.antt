-- Locals in runs.
use Rattle.std.proofs.Common.{◌≡◌, ℕ, ◌<◌, ◌≤◌, ◌+◌, ◌-◌, zero, suc, refl, sym, ◌∙◌, ap, Some, List, [], ◌∷◌, ◌++◌, true, false, cond, length, take, drop, get_or, replicate, slice_get, arith, drop-cons, append_assoc, append-nil, inl, inr}
use Rattle.std.specs.Prelude.{nat_lt, nat_le, sum_by}
use Rattle.std.proofs.lemmas.List.Sums.{sum_by-cons}
use Rattle.std.proofs.Math.ListN.{drop_of_length-le}
use Rattle.std.proofs.lemmas.Bool.{cases_lt}
use Rattle.std.proofs.lemmas.Bool.Decides.{nat_tests}
use Rattle.std.proofs.lemmas.List.{length-replicate, get_or-replicate, take_more}
use Rattle.std.proofs.lemmas.Option.{slice_get-get_or, slice_get_past}
use Rattle.virt_base.specs.declared.core_type.CoreType.{CoreType}
use Rattle.wasm_ast.specs.declared.module.LocalRun.{LocalRun}
use Rattle.core_body.specs.declared.locals.RunEnd.{RunEnd}
use Rattle.core_body.specs.Locals.{spread}
use Rattle.core_body.specs.Runs.{fill, IsRising, run_at}

is-lt : (a b : ℕ) → a < b → nat_lt a b ≡ true
is-lt a b h = grind (arith, nat_tests)

is-not_lt : (a b : ℕ) → b ≤ a → nat_lt a b ≡ false
is-not_lt a b h = grind (arith, nat_tests)

run_at-skip : (n : ℕ) (e : RunEnd) (es : List RunEnd) → e.end ≤ n → run_at n (e ∷ es) ≡ run_at n es
run_at-skip n e es h = ap (λ b. cond b (Some e.ty) (run_at n es)) (is-not_lt n e.end h)

run_at-hit : (n : ℕ) (e : RunEnd) (es : List RunEnd) → n < e.end → run_at n (e ∷ es) ≡ Some e.ty
run_at-hit n e es h = ap (λ b. cond b (Some e.ty) (run_at n es)) (is-lt n e.end h)

from_le : (from : ℕ) (es : List RunEnd) (k : ℕ) (d : RunEnd) → IsRising from es → k < length es → from ≤ (get_or es k d).end
from_le from [] k d r h = absurd (omega arith)
from_le from (e ∷ es) zero d r h = r.0
from_le from (e ∷ es) (suc k) d r h = let more = from_le e.end es k d r.1 (omega arith) in let first = r.0 in omega arith

-- runs that end before the place can be left out
pub run_at-drop : (n from : ℕ) (ends : List RunEnd) (k : ℕ) (d : RunEnd) → IsRising from ends → k < length ends → (get_or ends k d).end ≤ n → run_at n (drop (suc k) ends) ≡ run_at n ends
run_at-drop n from [] k d r h le = absurd (omega arith)
run_at-drop n from (e ∷ es) zero d r h le = sym (run_at-skip n e es le)
run_at-drop n from (e ∷ es) (suc k) d r h le =
    let inside : k < length es = omega arith in
    let before = from_le e.end es k d r.1 inside in
    run_at-drop n e.end es k d r.1 inside le ∙ sym (run_at-skip n e es (omega arith))

pub run_at-here : (n : ℕ) (ends : List RunEnd) (k : ℕ) (d : RunEnd) → k < length ends → n < (get_or ends k d).end → run_at n (drop k ends) ≡ Some (get_or ends k d).ty
run_at-here n ends k d h lt = ap (run_at n) (drop-cons ends k d h) ∙ run_at-hit n (get_or ends k d) (drop (suc k) ends) lt

get-left : (xs ys : List CoreType) (i : ℕ) → i < length xs → slice_get (xs ++ ys) i ≡ slice_get xs i
get-left [] ys i h = absurd (omega arith)
get-left (x ∷ xs) ys zero h = refl
get-left (x ∷ xs) ys (suc i) h = get-left xs ys i (omega arith)

get-right : (xs ys : List CoreType) (i : ℕ) → slice_get (xs ++ ys) (length xs + i) ≡ slice_get ys i
get-right [] ys i = ap (slice_get ys) (omega arith)
get-right (x ∷ xs) ys i = let e : suc (length xs) + i ≡ suc (length xs + i) = omega arith in ap (slice_get (x ∷ (xs ++ ys))) e ∙ get-right xs ys i

get-replicate : (n i : ℕ) (t : CoreType) → i < n → slice_get (replicate n t) i ≡ Some t
get-replicate n i t h = slice_get-get_or (replicate n t) i t (omega (arith, length-replicate n t)) ∙ ap Some (get_or-replicate n i t t h)

fill-at : (from n : ℕ) (ends : List RunEnd) → IsRising from ends → from ≤ n → slice_get (fill from ends) (n - from) ≡ run_at n ends
fill-at from n [] r le = slice_get_past [] (n - from) (omega arith)
fill-at from n (e ∷ es) r le = elim (cases_lt n e.end) [
  | inl lt ↦ (let inside : n - from < e.end - from = omega arith in
      let first : n - from < length (replicate (e.end - from) e.ty) = omega (arith, length-replicate (e.end - from) e.ty) in
      get-left (replicate (e.end - from) e.ty) (fill e.end es) (n - from) first ∙ get-replicate (e.end - from) (n - from) e.ty inside ∙ sym (run_at-hit n e es lt))
  | inr past ↦ (let low = r.0 in
      let place : n - from ≡ length (replicate (e.end - from) e.ty) + (n - e.end) = omega (arith, length-replicate (e.end - from) e.ty) in
      ap (slice_get (replicate (e.end - from) e.ty ++ fill e.end es)) place ∙ get-right (replicate (e.end - from) e.ty) (fill e.end es) (n - e.end)
      ∙ fill-at e.end n es r.1 past ∙ sym (run_at-skip n e es past))
]

-- a parameter, and a declared local
pub param-at : (params : List CoreType) (ends : List RunEnd) (n : ℕ) (d : CoreType) → n < length params → slice_get (params ++ fill (length params) ends) n ≡ Some (get_or params n d)
param-at params ends n d h = get-left params (fill (length params) ends) n h ∙ slice_get-get_or params n d h

pub declared-at : (params : List CoreType) (ends : List RunEnd) (n : ℕ) → IsRising (length params) ends → length params ≤ n → slice_get (params ++ fill (length params) ends) n ≡ run_at n ends
declared-at params ends n r h =
    let place : n ≡ length params + (n - length params) = omega arith in
    ap (slice_get (params ++ fill (length params) ends)) place ∙ get-right params (fill (length params) ends) (n - length params) ∙ fill-at (length params) n ends r h

-- where the last run ends
abbrev pub last_end : ℕ → List RunEnd → ℕ
last_end from [] = from
last_end from (e ∷ es) = last_end e.end es

pub last_end-push : (from : ℕ) (es : List RunEnd) (e : RunEnd) → last_end from (es ++ e ∷ []) ≡ e.end
last_end-push from [] e = refl
last_end-push from (x ∷ es) e = last_end-push x.end es e

pub IsRising-push : (from : ℕ) (es : List RunEnd) (e : RunEnd) → IsRising from es → last_end from es ≤ e.end → IsRising from (es ++ e ∷ [])
IsRising-push from [] e r h = (h, tt)
IsRising-push from (x ∷ es) e r h = (r.0, IsRising-push x.end es e r.1 h)

pub fill-push : (from : ℕ) (es : List RunEnd) (e : RunEnd) → fill from (es ++ e ∷ []) ≡ fill from es ++ replicate (e.end - last_end from es) e.ty
fill-push from [] e = append-nil (replicate (e.end - from) e.ty)
fill-push from (x ∷ es) e = ap (λ l. replicate (x.end - from) x.ty ++ l) (fill-push x.end es e) ∙ sym (append_assoc (replicate (x.end - from) x.ty) (fill x.end es) _)

pub spread-push : (rs : List LocalRun) (r : LocalRun) → spread (rs ++ r ∷ []) ≡ spread rs ++ replicate r.count r.ty
spread-push [] r = append-nil (replicate r.count r.ty)
spread-push (x ∷ rs) r = ap (λ l. replicate x.count x.ty ++ l) (spread-push rs r) ∙ sym (append_assoc (replicate x.count x.ty) (spread rs) _)

-- one run more
pub filled-step : (p : ℕ) (ends : List RunEnd) (runs : List LocalRun) (i : ℕ) (d : LocalRun) (end : ℕ) → i < length runs → fill p ends ≡ spread (take i runs) →
    end ≡ last_end p ends + (get_or runs i d).count → fill p (ends ++ record { end = end; ty = (get_or runs i d).ty } ∷ []) ≡ spread (take (i + 1) runs)
filled-step p ends runs i d end h so_far is =
    let count : end - last_end p ends ≡ (get_or runs i d).count = omega arith in
    fill-push p ends (record { end = end; ty = (get_or runs i d).ty })
    ∙ ap (λ n. fill p ends ++ replicate n (get_or runs i d).ty) count
    ∙ ap (λ l. l ++ replicate (get_or runs i d).count (get_or runs i d).ty) so_far
    ∙ sym (spread-push (take i runs) (get_or runs i d)) ∙ ap spread (sym (take_more runs i d h))

-- the sum of the counts, from a run on
counts-at : (runs : List LocalRun) (i : ℕ) (d : LocalRun) → i < length runs → sum_by (λ r. r.count) (drop i runs) ≡ (get_or runs i d).count + sum_by (λ r. r.count) (drop (i + 1) runs)
counts-at runs i d h =
    let step : suc i ≡ i + 1 = omega arith in
    ap (sum_by (λ r. r.count)) (drop-cons runs i d h) ∙ sum_by-cons (λ r. r.count) (get_or runs i d) (drop (suc i) runs) ∙ ap (λ n. (get_or runs i d).count + sum_by (λ r. r.count) (drop n runs)) step

too-many : (n m left : ℕ) → left < n → nat_le (n + m) left ≡ false
too-many n m left h = grind (arith, nat_tests)

still-few : (n m left : ℕ) → n ≤ left → nat_le (n + m) left ≡ nat_le m (left - n)
still-few n m left h = grind (arith, nat_tests)

pub counts-stop : (runs : List LocalRun) (i left : ℕ) (d : LocalRun) → i < length runs → left < (get_or runs i d).count → nat_le (sum_by (λ r. r.count) (drop i runs)) left ≡ false
counts-stop runs i left d h big = ap (λ n. nat_le n left) (counts-at runs i d h) ∙ too-many (get_or runs i d).count (sum_by (λ r. r.count) (drop (i + 1) runs)) left big

pub counts-go_on : (runs : List LocalRun) (i left : ℕ) (d : LocalRun) → i < length runs → (get_or runs i d).count ≤ left →
    nat_le (sum_by (λ r. r.count) (drop (i + 1) runs)) (left - (get_or runs i d).count) ≡ nat_le (sum_by (λ r. r.count) (drop i runs)) left
counts-go_on runs i left d h small =
    sym (ap (λ n. nat_le n left) (counts-at runs i d h) ∙ still-few (get_or runs i d).count (sum_by (λ r. r.count) (drop (i + 1) runs)) left small)

pub counts-done : (runs : List LocalRun) (i left : ℕ) → length runs ≤ i → nat_le (sum_by (λ r. r.count) (drop i runs)) left ≡ true
counts-done runs i left h = let zero_le : nat_le 0 left ≡ true = grind (arith, nat_tests) in ap (λ l. nat_le (sum_by (λ r. r.count) l) left) (drop_of_length-le runs h) ∙ zero_le
