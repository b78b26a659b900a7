-- What each call keeps of the index of numbers.
use Rattle.std.proofs.Common.{◌≡◌, ℕ, zero, suc, ◌+◌, ◌-◌, ◌<◌, ◌≤◌, List, [], ◌∷◌, ◌++◌, length, set, get_or, Option, Some, None, IsSome, is_some, true, cond, refl, sym, ap, ◌∙◌, arith, inl, inr, length-set}
use Rattle.std.specs.Prelude.{IsPermutation}
use Rattle.std.specs.Ordering.{nat_cmp}
use Rattle.std.specs.BinaryHeap.{IsHeap}
use Rattle.std.proofs.lemmas.Bool.{cases_eq}
use Rattle.std.proofs.lemmas.List.{length_push}
use Rattle.std.proofs.lemmas.List.Sums.{sum_by-set, sum_by_push}
use Rattle.slot_tables.specs.Entries.{live_count}
use Rattle.ref_rules.specs.declared.content.Handle.{Handle}
use Rattle.ref_rules.specs.Numbers.{is_free, copies, IsKept}
use Rattle.ref_rules.proofs.NumberLemmas.{key_free, is_free-within, is_free-live, is_free-set, is_free-set_same, kept-take, kept-push, kept-free}

module _ {E : Type 0} where
  none_at : (ps : List (Option E)) (n : ℕ) → is_free ps n ≡ true → get_or ps n None ≡ None
  none_at [] n free = refl
  none_at (None ∷ ps) zero free = refl
  none_at (Some e ∷ ps) zero free = absurd cc
  none_at (None ∷ ps) (suc n) free = none_at ps n free
  none_at (Some e ∷ ps) (suc n) free = none_at ps n free

  pub some_within : (ps : List (Option E)) (n : ℕ) → IsSome (get_or ps n None) → n < length ps
  some_within [] n live = absurd cc
  some_within (p ∷ ps) zero live = omega arith
  some_within (p ∷ ps) (suc n) live = let rest = some_within ps n live in omega arith

  count_if : Option E → ℕ
  count_if o = cond (is_some o) 1 0

  live-taken : (ps : List (Option E)) (n : ℕ) (e : E) → is_free ps n ≡ true → live_count (set ps n (Some e)) ≡ live_count ps + 1
  live-taken ps n e free =
      let counted : live_count (set ps n (Some e)) + cond (is_some (get_or ps n None)) 1 0 ≡ live_count ps + 1 = sum_by-set (λ o. cond (is_some o) 1 0) ps n (Some e) None (is_free-within ps n free) in
      let none = none_at ps n free in
      let shown : live_count (set ps n (Some e)) + 0 ≡ live_count ps + 1 = rw none at counted in
      omega arith

  live-freed : (ps : List (Option E)) (n : ℕ) → IsSome (get_or ps n None) → live_count (set ps n None) + 1 ≡ live_count ps
  live-freed ps n live =
      let counted : live_count (set ps n None) + cond (is_some (get_or ps n None)) 1 0 ≡ live_count ps + 0 = sum_by-set (λ o. cond (is_some o) 1 0) ps n None None (some_within ps n live) in
      let shown : live_count (set ps n None) + 1 ≡ live_count ps + 0 = rw live at counted in
      omega arith

  live-put : (ps : List (Option E)) (n : ℕ) (e : E) → IsSome (get_or ps n None) → live_count (set ps n (Some e)) ≡ live_count ps
  live-put ps n e live =
      let counted : live_count (set ps n (Some e)) + cond (is_some (get_or ps n None)) 1 0 ≡ live_count ps + 1 = sum_by-set (λ o. cond (is_some o) 1 0) ps n (Some e) None (some_within ps n live) in
      let shown : live_count (set ps n (Some e)) + 1 ≡ live_count ps + 1 = rw live at counted in
      omega arith

  is_free-put : (ps : List (Option E)) (n m : ℕ) (e : E) → IsSome (get_or ps n None) → is_free (set ps n (Some e)) m ≡ is_free ps m
  is_free-put ps n m e live =
      elim (cases_eq n m) [
        | inl same ↦ rw (← same) (is_free-set_same ps n e ∙ sym (is_free-live ps n live))
        | inr other ↦ is_free-set ps n m e other
      ]

module _ (most : ℕ) (ps : List (Option Handle)) (keys : List ℕ) (room heap_room : ℕ) (was : IsKept most ps keys room heap_room) where
  pub taken : (rest : List ℕ) (key heap_now : ℕ) (e : Handle) → 0 < copies key keys → IsPermutation keys (key ∷ rest) → length keys ≡ length rest + 1 → IsHeap nat_cmp rest → most ≤ heap_now → IsKept most (set ps (most - key) (Some e)) rest room heap_now
  taken rest key heap_now e some moved len heap enough =
      let free = key_free most ps keys key was.kept some in
      record {
        order = heap;
        kept = kept-take most ps keys rest key e was.kept moved;
        total = omega (arith, was.total, len, live-taken ps (most - key) e free, length-set ps (most - key) (Some e));
        within = omega (arith, was.within, length-set ps (most - key) (Some e));
        few = was.few;
        room = was.room;
        heap = enough;
      }

  pub freed : (n : ℕ) (new : List ℕ) (heap_now : ℕ) → IsSome (get_or ps n None) → IsPermutation ((most - n) ∷ keys) new → length new ≡ length keys + 1 → IsHeap nat_cmp new → most ≤ heap_now → IsKept most (set ps n None) new room heap_now
  freed n new heap_now live moved len heap enough =
      record {
        order = heap;
        kept = kept-free most ps keys new n was.kept was.within (some_within ps n live) live moved;
        total = omega (arith, was.total, len, live-freed ps n live, length-set ps n None);
        within = omega (arith, was.within, length-set ps n None);
        few = was.few;
        room = was.room;
        heap = enough;
      }

  pub replaced : (n : ℕ) (e : Handle) → IsSome (get_or ps n None) → IsKept most (set ps n (Some e)) keys room heap_room
  replaced n e live =
      record {
        order = was.order;
        kept = λ key. rw (is_free-put ps n (most - key) e live) (was.kept key);
        total = omega (arith, was.total, live-put ps n e live, length-set ps n (Some e));
        within = omega (arith, was.within, length-set ps n (Some e));
        few = was.few;
        room = was.room;
        heap = was.heap;
      }

-- where no number was freed, one more stands at the end
pub pushed : (most : ℕ) (ps : List (Option Handle)) (keys keys_now : List ℕ) (room heap_room room_now heap_now : ℕ) (e : Handle) → IsKept most ps keys room heap_room → keys_now ≡ keys → live_count ps < most → keys ≡ [] → most ≤ room_now → most ≤ heap_now → IsKept most (ps ++ Some e ∷ []) keys_now room_now heap_now
pushed most ps keys keys_now room heap_room room_now heap_now e was same below none enough heap_enough =
    let live : live_count (ps ++ Some e ∷ []) ≡ live_count ps + 1 = sum_by_push (λ o. cond (is_some o) 1 0) ps (Some e) in
    let no_key : length keys ≡ 0 = ap length none in
    rw same (record {
      order = was.order;
      kept = kept-push most ps e keys was.kept;
      total = omega (arith, was.total, live, length_push ps (Some e));
      within = omega (arith, was.total, below, no_key, length_push ps (Some e));
      few = was.few;
      room = enough;
      heap = heap_enough;
    })
