-- Room for what enters by an answer, and its kinds.
use Rattle.std.proofs.Common.{◌≡◌, ℕ, ◌+◌, ◌≤◌, ◌<◌, ◌==◌, nat_lt, nat_le, Bool, true, false, ◌&&◌, ◌||◌, List, [], ◌∷◌, get_or, Option, refl, sym, ap, ◌∙◌, arith}
use Rattle.std.specs.List.{list_all}
use Rattle.std.proofs.lemmas.Bool.Decides.{nat_tests}
use Rattle.std.proofs.lemmas.List.FromFn.{get_or-range_with_len}
use Rattle.std.proofs.lemmas.List.Sums.{AllPass-from_list_all}
use Rattle.wit_types.specs.PlainValue.{PlainValue}
use Rattle.reference_step.specs.Rules.{fit, kinds, owns_of}
use Rattle.ref_answers.specs.Seen.{live_in}
use Rattle.ref_answers.proofs.SeenLaws.{seen_of_kind}
use Rattle.ref_host_calls.specs.declared.request.Request.{Request}
use Rattle.ref_host_calls.specs.Requests.{call_of, handles_in, listed_of}
use Rattle.ref_answers.specs.Versions.{version_in}
use Rattle.ref_rules.specs.Lives.{count_of_kind}
use Rattle.ref_guards.specs.RoomEntering.{are_kinds, count_kind}
use Rattle.ref_guards.proofs.ListedLaw.{entering_has_kinds, entering_has_room}
use Rattle.reference_host.specs.declared.state_kept.Setting.{Setting}
use Rattle.reference_host.specs.declared.state_kept.Holding.{Holding}
use Rattle.reference_host.specs.Asked.{HasRoom, IsAsked}
use Rattle.reference_host.specs.Kept.{IsHolding}

pub left : (a b : Bool) → (a && b) ≡ true → a ≡ true
left true b is = refl
left false b is = is

pub right : (a b : Bool) → (a && b) ≡ true → b ≡ true
right true b is = is
right false b is = cc

-- ---- each kind

from_zero : (k : ℕ) → 0 + k ≡ k
from_zero k = omega arith

kind_at : (k : ℕ) → k < 14 → get_or kinds k 0 ≡ k
kind_at k lt = get_or-range_with_len 0 14 k 0 lt ∙ from_zero k

each_kind : (p : ℕ → Bool) → list_all p kinds ≡ true → (k : ℕ) → k < 14 → p k ≡ true
each_kind p all k lt = ap p (sym (kind_at k lt)) ∙ AllPass-from_list_all p kinds all k 0 lt

-- no handle is of a kind that is not listed
none_first : (kind : ℕ) (g : ℕ × ℕ) (gs : List (ℕ × ℕ)) → 14 ≤ kind → nat_lt g.0 14 ≡ true → count_kind kind gs ≡ 0 → count_kind kind (g ∷ gs) ≡ 0
none_first kind g gs more is none =
    let below : g.0 < 14 = grind (arith, nat_tests) in
    grind (arith, nat_tests)

none_beyond : (kind : ℕ) (gs : List (ℕ × ℕ)) → 14 ≤ kind → are_kinds gs ≡ true → count_kind kind gs ≡ 0
none_beyond kind [] more is = refl
none_beyond kind (g ∷ gs) more is = none_first kind g gs more (left (nat_lt g.0 14) (are_kinds gs) is) (none_beyond kind gs more (right (nat_lt g.0 14) (are_kinds gs) is))

-- ---- what enters

fits_more : (owned live slots more : ℕ) → (owned == 0 || nat_le (owned + live) slots) ≡ true → more ≤ owned → live ≤ slots → more + live ≤ slots
fits_more owned live slots more is few fits = grind (arith, nat_tests)

module _ (g : Setting) (h : Holding) (q : Request) (holding : IsHolding g h) (asked : IsAsked g q) (room : HasRoom g h q) (other : ((listed_of q).interface == 19) ≡ false) where
  pub enters_kinds : (v : Option PlainValue) → are_kinds (handles_in q v) ≡ true
  enters_kinds v = entering_has_kinds (version_in g.listed) (call_of q).interface (call_of q).function (listed_of q) asked.named other v

  listed_room : (v : Option PlainValue) (kind : ℕ) → kind < 14 → count_kind kind (handles_in q v) + count_of_kind kind h.live.handles ≤ h.live.slots
  listed_room v kind lt =
      let owned : ℕ = owns_of kind (listed_of q).function.ty.answer in
      let fits : (owned == 0 || nat_le (owned + count_of_kind kind h.live.handles) h.live.slots) ≡ true =
      ap (λ (n : ℕ). owned == 0 || nat_le (owned + n) h.live.slots) (sym (seen_of_kind g.table kind h.live.handles))
      ∙ ap (λ (n : ℕ). owned == 0 || fit (record g.policy { slots = n }) (live_in g.table h.live.handles) kind owned) holding.slots
      ∙ each_kind (λ k. owns_of k (listed_of q).function.ty.answer == 0 || fit g.policy (live_in g.table h.live.handles) k (owns_of k (listed_of q).function.ty.answer)) room kind lt in
      fits_more owned (count_of_kind kind h.live.handles) h.live.slots (count_kind kind (handles_in q v)) fits (entering_has_room (version_in g.listed) (call_of q).interface (call_of q).function (listed_of q) asked.named other v kind) (holding.fits kind)

  by_listed : (b : Bool) (v : Option PlainValue) (kind : ℕ) → nat_lt kind 14 ≡ b → count_kind kind (handles_in q v) + count_of_kind kind h.live.handles ≤ h.live.slots
  by_listed true v kind is = listed_room v kind (grind (arith, nat_tests))
  by_listed false v kind is =
      let more : 14 ≤ kind = grind (arith, nat_tests) in
      omega (arith, none_beyond kind (handles_in q v) more (enters_kinds v), holding.fits kind)

  pub enters_room : (v : Option PlainValue) (kind : ℕ) → count_kind kind (handles_in q v) + count_of_kind kind h.live.handles ≤ h.live.slots
  enters_room v kind = by_listed (nat_lt kind 14) v kind refl
