-- Bytes of zeros are a table of which every place is free.
use Rattle.std.proofs.Common.{◌≡◌, ℕ, zero, suc, ◌+◌, ◌^◌, ◌<◌, ◌≤◌, List, [], ◌∷◌, map, length, get_or, Option, Some, None, is_some, cond, slice_get, refl, sym, ap, subst, ◌∙◌, arith}
use Rattle.std.specs.Option.{option_map}
use Rattle.std.proofs.lemmas.List.{length-map}
use Rattle.std.proofs.lemmas.List.Sums.{sum_by-cons}
use Rattle.std.proofs.lemmas.Option.{slice_get-map}
use Rattle.slot_tables.specs.declared.cells.Place.{Place}
use Rattle.slot_tables.specs.declared.cells.Place.TheVariants.{Free}
use Rattle.slot_tables.specs.Entries.{live_count}
use Rattle.slot_tables.specs.Places.{entry_of as entry_in, IsChain}
use Rattle.adapter_code.specs.Number.{word}
use Rattle.adapter_code.proofs.Words.{word_suc, word_none}
use Rattle.table_bytes.specs.declared.entry.Entry.{Entry}
use Rattle.table_bytes.specs.Table.{upto, link_of, spot, places_of, first_of, table_len, IsTable}
use Rattle.table_bytes.proofs.PlaceLaws.{length-places, slice_get-places, place_words, upto_some, upto_none}

word_zero : (width : ℕ) (m : List ℕ) (at : ℕ) → ((k : ℕ) → at ≤ k → k < at + width → get_or m k 0 ≡ 0) → word m at width ≡ 0
word_zero zero m at z = word_none m at
word_zero (suc width) m at z =
    let first = z at (omega arith) (omega arith) in
    let rest = word_zero width m (at + 1) (λ k low high. z k (omega arith) (omega arith)) in
    word_suc m at width ∙ omega (arith, first, rest)

-- where each place names the next one, every place is on the chain
chain : (ps : List (Place Entry)) (capacity : ℕ) → ((i : ℕ) → i < capacity → slice_get ps i ≡ Some (Free (upto capacity (i + 1)))) → (left at : ℕ) → at + left ≡ capacity → IsChain ps (upto capacity at) left
chain ps capacity each zero at is = subst (λ o. IsChain ps o 0) (sym (upto_none capacity at (omega arith))) tt
chain ps capacity each (suc left) at is =
    let within : at < capacity = omega arith in
    subst (λ o. IsChain ps o (suc left)) (sym (upto_some capacity at within)) (upto capacity (at + 1), each at within, chain ps capacity each left (at + 1) (omega arith))

none_live : (xs : List (Option Entry)) → ((i : ℕ) → i < length xs → slice_get xs i ≡ Some None) → live_count xs ≡ 0
none_live [] h = refl
none_live (Some x ∷ xs) h = let e = h 0 (omega arith) in cc
none_live (None ∷ xs) h = omega (arith, sum_by-cons (λ o. cond (is_some o) 1 0) None xs, none_live xs (λ i lt. h (suc i) (omega arith)))

pub zeros-table : (m : List ℕ) (base capacity : ℕ) → base + table_len capacity ≤ length m → base + table_len capacity < 2 ^ 32 → ((k : ℕ) → base ≤ k → k < base + table_len capacity → get_or m k 0 ≡ 0) → IsTable m base capacity capacity
zeros-table m base capacity within small z =
    let ps = places_of m base capacity in
    let len = length-places m base capacity in
    let each = λ (i : ℕ). λ (lt : i < capacity).
    slice_get-places m base capacity i lt ∙ ap Some (place_words m base capacity i 0 0 0
    (word_zero 1 m (spot base i + 8) (λ k low high. z k (omega arith) (omega arith)))
    (word_zero 4 m (spot base i + 12) (λ k low high. z k (omega arith) (omega arith)))
    (word_zero 8 m (spot base i + 16) (λ k low high. z k (omega arith) (omega arith)))) in
    let head : first_of m base capacity ≡ upto capacity 0 = ap (link_of capacity 0) (word_zero 4 m (base + 0) (λ k low high. z k (omega arith) (omega arith))) in
    let none : live_count (map entry_in ps) ≡ 0 =
    none_live (map entry_in ps) (λ i lt. slice_get-map entry_in ps i ∙ ap (option_map entry_in) (each i (omega (arith, lt, length-map ps entry_in, len)))) in
    record {
      sound = record {
        linked = subst (λ o. IsChain ps o capacity) (sym head) (chain ps capacity each capacity 0 (omega arith));
        total = omega (arith, none, len);
      };
      within = within;
      small = small;
    }
