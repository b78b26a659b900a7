-- What a write to one place does to the places.
use Rattle.std.proofs.Common.{◌≡◌, ◌≢◌, ◌⊎◌, ℕ, zero, suc, ◌+◌, ◌-◌, ◌*◌, ◌<◌, ◌≤◌, ◌==◌, Bool, true, false, List, map, length, get_or, set, Option, Some, None, slice_get, refl, sym, ap, ◌∙◌, subst, inl, inr, arith, length-set}
use Rattle.std.specs.Prelude.{if◌then◌else◌}
use Rattle.std.specs.Option.{option_map}
use Rattle.std.proofs.lemmas.List.{get_or-set_same, get_or-set_other, same_lists, length-map}
use Rattle.std.proofs.lemmas.List.FromFn.{length-map-range_with_len, get_or-map-range_with_len}
use Rattle.std.proofs.lemmas.Option.{slice_get-get_or, slice_get_within, slice_get-map}
use Rattle.std.proofs.lemmas.Bool.{cases_eq, cases_lt, eq-eqb, ne_eqb}
use Rattle.slot_tables.specs.declared.cells.Place.{Place}
use Rattle.slot_tables.specs.declared.cells.Place.TheVariants.{Free, Used}
use Rattle.slot_tables.specs.Places.{entry_of as entry_in, IsChain}
use Rattle.adapter_code.specs.Number.{word}
use Rattle.adapter_code.specs.Keeps.{Keeps}
use Rattle.adapter_code.proofs.Words.{word-kept}
use Rattle.table_bytes.specs.declared.entry.Entry.{Entry}
use Rattle.table_bytes.specs.Entries.{entry_of}
use Rattle.table_bytes.specs.Table.{upto, link_of, spot, place_of, place_at, places_of}

pub length-places : (m : List ℕ) (base capacity : ℕ) → length (places_of m base capacity) ≡ capacity
unfolding places_of
length-places m base capacity = length-map-range_with_len (place_at m base capacity) 0 capacity

pub get_or-places : (m : List ℕ) (base capacity i : ℕ) (d : Place Entry) → i < capacity → get_or (places_of m base capacity) i d ≡ place_at m base capacity i
unfolding places_of
get_or-places m base capacity i d within = get_or-map-range_with_len (place_at m base capacity) 0 capacity i i d within (omega arith)

pub slice_get-places : (m : List ℕ) (base capacity i : ℕ) → i < capacity → slice_get (places_of m base capacity) i ≡ Some (place_at m base capacity i)
slice_get-places m base capacity i within =
    slice_get-get_or (places_of m base capacity) i (place_at m base capacity i) (omega (arith, length-places m base capacity))
    ∙ ap Some (get_or-places m base capacity i (place_at m base capacity i) within)

-- a place by its words
pub place_words : (m : List ℕ) (base capacity at tag w long : ℕ) → word m (spot base at + 8) 1 ≡ tag → word m (spot base at + 12) 4 ≡ w → word m (spot base at + 16) 8 ≡ long → place_at m base capacity at ≡ place_of capacity at tag w long
unfolding place_at
place_words m base capacity at tag w long e f g =
    ap (λ x. place_of capacity at x (word m (spot base at + 12) 4) (word m (spot base at + 16) 8)) e
    ∙ ap (λ x. place_of capacity at tag x (word m (spot base at + 16) 8)) f
    ∙ ap (λ x. place_of capacity at tag w x) g

-- a write apart from a place is not seen there
pub place-kept : (r s : List ℕ) (base capacity i from len : ℕ) → Keeps r s from len → (spot base i + 24 ≤ from) ⊎ (from + len ≤ spot base i + 8) → place_at s base capacity i ≡ place_at r base capacity i
unfolding place_at
place-kept r s base capacity i from len kept (inl low) =
    place_words s base capacity i _ _ _ (word-kept 1 r s (spot base i + 8) from len kept (inl (omega arith))) (word-kept 4 r s (spot base i + 12) from len kept (inl (omega arith))) (word-kept 8 r s (spot base i + 16) from len kept (inl (omega arith)))
place-kept r s base capacity i from len kept (inr high) =
    place_words s base capacity i _ _ _ (word-kept 1 r s (spot base i + 8) from len kept (inr (omega arith))) (word-kept 4 r s (spot base i + 12) from len kept (inr (omega arith))) (word-kept 8 r s (spot base i + 16) from len kept (inr (omega arith)))

-- a write of one place sets it in the list
pub places-put : (r s : List ℕ) (base capacity i : ℕ) (p : Place Entry) → i < capacity → Keeps r s (spot base i + 8) 16 → place_at s base capacity i ≡ p → places_of s base capacity ≡ set (places_of r base capacity) i p
places-put r s base capacity i p within kept new =
    same_lists _ _ (length-places s base capacity ∙ sym (length-set (places_of r base capacity) i p ∙ length-places r base capacity))
    (λ k d inside.
    let in_range : k < capacity = omega (arith, length-places s base capacity) in
    elim (cases_eq k i) [
      | inl same ↦ get_or-places s base capacity k d in_range ∙ ap (place_at s base capacity) same ∙ new ∙ sym (rw same (get_or-set_same (places_of r base capacity) i p d (omega (arith, length-places r base capacity))))
      | inr other ↦ get_or-places s base capacity k d in_range ∙ place-kept r s base capacity k (spot base i + 8) 16 kept (apart k other) ∙ sym (get_or-set_other (places_of r base capacity) i k p d other ∙ get_or-places r base capacity k d in_range)
    ])
  where
    apart : (k : ℕ) → k ≢ i → (spot base k + 24 ≤ spot base i + 8) ⊎ (spot base i + 8 + 16 ≤ spot base k + 8)
    apart k other = elim (cases_lt k i) [ inl low ↦ inl (omega arith) | inr high ↦ inr (omega arith) ]

-- a write outside of the places changes none
pub places-kept : (r s : List ℕ) (base capacity from len : ℕ) → Keeps r s from len → (base + 8 + 16 * capacity ≤ from) ⊎ (from + len ≤ base + 8) → places_of s base capacity ≡ places_of r base capacity
places-kept r s base capacity from len kept apart =
    same_lists _ _ (length-places s base capacity ∙ sym (length-places r base capacity))
    (λ k d inside.
    let in_range : k < capacity = omega (arith, length-places s base capacity) in
    get_or-places s base capacity k d in_range ∙ place-kept r s base capacity k from len kept (out k in_range apart) ∙ sym (get_or-places r base capacity k d in_range))
  where
    out : (k : ℕ) → k < capacity → (base + 8 + 16 * capacity ≤ from) ⊎ (from + len ≤ base + 8) → (spot base k + 24 ≤ from) ⊎ (from + len ≤ spot base k + 8)
    out k in_range (inl high) = inl (omega arith)
    out k in_range (inr low) = inr (omega arith)

-- ---- links

pub upto_some : (capacity at : ℕ) → at < capacity → upto capacity at ≡ Some at
upto_some capacity at lt = ap (λ b. if b then None else Some at) (ne_eqb at capacity (λ e. omega (arith, e)))

pub upto_none : (capacity at : ℕ) → at ≡ capacity → upto capacity at ≡ None
upto_none capacity at e = ap (λ b. if b then None else Some at) (eq-eqb at capacity e)

pub link-zero : (capacity next w : ℕ) → w ≡ 0 → link_of capacity next w ≡ upto capacity next
link-zero capacity next zero e = refl
link-zero capacity next (suc w) e = absurd (omega (arith, e))

pub link-suc : (capacity next w : ℕ) → w ≢ 0 → link_of capacity next w ≡ upto capacity (w - 1)
link-suc capacity next zero e = absurd (e refl)
link-suc capacity next (suc w) e = let same : w ≡ suc w - 1 = omega arith in ap (upto capacity) same

-- a link of a chain is a place, or stands after the last
pub chain_small : (ps : List (Place Entry)) (capacity at n : ℕ) → length ps ≡ capacity → IsChain ps (upto capacity at) n → at ≤ capacity
chain_small ps capacity at n len c =
    elim (cases_eq at capacity) [
      | inl same ↦ omega (arith, same)
      | inr other ↦ some at n (subst (λ o. IsChain ps o n) (ap (λ b. if b then None else Some at) (ne_eqb at capacity other)) c)
    ]
  where
    some : (at n : ℕ) → IsChain ps (Some at) n → at ≤ capacity
    some at zero c = absurd c
    some at (suc n) c = let h = slice_get_within ps at _ c.1 in omega (arith, h, len)

-- a free place's link, by its bytes
pub free_word : (capacity at tag w long : ℕ) (next : Option ℕ) → place_of capacity at tag w long ≡ Free next → link_of capacity (at + 1) w ≡ next
free_word capacity at tag w long next e = by (tag == 0) e
  where
    by : (b : Bool) → (if b then Free (link_of capacity (at + 1) w) else Used (entry_of tag w long)) ≡ Free next → link_of capacity (at + 1) w ≡ next
    by true e = cc
    by false e = cc

pub entry_used : (p : Place Entry) (e : Entry) → entry_in p ≡ Some e → p ≡ Used e
entry_used (Free next) e f = cc
entry_used (Used d) e f = let same : d ≡ e = cc in ap Used same

-- a used place, by the entries
pub used_place : (m : List ℕ) (base capacity at : ℕ) (e : Entry) → slice_get (map entry_in (places_of m base capacity)) at ≡ Some (Some e) → (at < capacity) × (place_at m base capacity at ≡ Used e)
used_place m base capacity at e found =
    let ps = places_of m base capacity in
    let within : at < capacity = omega (arith, slice_get_within (map entry_in ps) at _ found, length-map ps entry_in, length-places m base capacity) in
    let here = slice_get-map entry_in ps at ∙ ap (option_map entry_in) (slice_get-places m base capacity at within) in
    let same : entry_in (place_at m base capacity at) ≡ Some e = cc in
    (within, entry_used (place_at m base capacity at) e same)
