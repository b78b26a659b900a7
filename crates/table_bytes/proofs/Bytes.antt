-- The bytes of a table after a place was taken, and after one was freed.
use Rattle.std.proofs.Common.{◌≡◌, ◌≢◌, ℕ, zero, suc, ◌+◌, ◌-◌, ◌^◌, ◌<◌, ◌≤◌, true, false, List, map, length, set, Option, Some, None, slice_get, refl, sym, ap, subst, ◌∙◌, inl, inr, arith, lit<}
use Rattle.std.specs.Option.{option_map}
use Rattle.std.proofs.lemmas.Option.{slice_get_within, slice_get-map}
use Rattle.slot_tables.specs.declared.cells.Place.{Place}
use Rattle.slot_tables.specs.declared.cells.Place.TheVariants.{Free, Used}
use Rattle.slot_tables.specs.Places.{entry_of as entry_in, IsChain, IsSound}
use Rattle.slot_tables.proofs.Chain.{sound-take, sound-free, first_is_free}
use Rattle.adapter_code.specs.Number.{word, put}
use Rattle.adapter_code.specs.Keeps.{Keeps}
use Rattle.adapter_code.proofs.Words.{keeps-trans, keeps-wider, keeps-put, word-put, word-kept}
use Rattle.table_bytes.specs.declared.entry.Entry.{Entry}
use Rattle.table_bytes.specs.declared.entry.Entry.TheVariants.{Host, Node, FileAt, EmptyIn, Discard, Always, Entries, ScratchRoot, ScratchEntries, ScratchFile, ScratchIn, ScratchOut}
use Rattle.table_bytes.specs.Entries.{tag_of, word_of, long_of, IsShort}
use Rattle.table_bytes.specs.Table.{upto, link_of, spot, place_of, place_at, places_of, first_of, table_len, IsTable, Changed}
use Rattle.table_bytes.proofs.PlaceLaws.{length-places, slice_get-places, place_words, places-put, places-kept, upto_some, link-suc, chain_small, free_word, used_place}

-- the bytes of an entry stand for it
pub entry_same : (capacity at : ℕ) (e : Entry) → place_of capacity at (tag_of e) (word_of e) (long_of e) ≡ Used e
entry_same capacity at (Host index) = refl
entry_same capacity at (Node node) = refl
entry_same capacity at (FileAt node place) = refl
entry_same capacity at EmptyIn = refl
entry_same capacity at Discard = refl
entry_same capacity at Always = refl
entry_same capacity at (Entries node left) = refl
entry_same capacity at ScratchRoot = refl
entry_same capacity at (ScratchEntries number) = refl
entry_same capacity at (ScratchFile number false) = refl
entry_same capacity at (ScratchFile number true) = refl
entry_same capacity at (ScratchIn number place) = refl
entry_same capacity at (ScratchOut number (Some place)) = refl
entry_same capacity at (ScratchOut number None) = refl

pub tag_small : (e : Entry) → tag_of e < 256
tag_small (Host index) = lit< tt
tag_small (Node node) = lit< tt
tag_small (FileAt node place) = lit< tt
tag_small EmptyIn = lit< tt
tag_small Discard = lit< tt
tag_small Always = lit< tt
tag_small (Entries node left) = lit< tt
tag_small ScratchRoot = lit< tt
tag_small (ScratchEntries number) = lit< tt
tag_small (ScratchFile number false) = lit< tt
tag_small (ScratchFile number true) = lit< tt
tag_small (ScratchIn number place) = lit< tt
tag_small (ScratchOut number (Some place)) = lit< tt
tag_small (ScratchOut number None) = lit< tt

-- ---- a place is written

-- the bytes of a place written in three parts
abbrev pub written : List ℕ → ℕ → ℕ → ℕ → ℕ → ℕ → List ℕ
written m base at tag w long = put (put (put m (spot base at + 8) 1 tag) (spot base at + 12) 4 w) (spot base at + 16) 8 long

pub record Written (old new : List ℕ) (base capacity at tag w long : ℕ) : Type 0 where
  pub place : place_at new base capacity at ≡ place_of capacity at tag w long
  pub keeps : Keeps old new (spot base at + 8) 16

pub write-place : (m : List ℕ) (base capacity at tag w long : ℕ) → spot base at + 24 ≤ length m → tag < 256 → w < 2 ^ 32 → long < 2 ^ 64 → Written m (written m base at tag w long) base capacity at tag w long
write-place m base capacity at tag w long within small_tag small_word small_long =
    let p = spot base at in
    let m1 = put m (p + 8) 1 tag in
    let m2 = put m1 (p + 12) 4 w in
    let m3 = put m2 (p + 16) 8 long in
    let k1 = keeps-put 1 m (p + 8) tag (omega arith) in
    let size1 = k1.size in
    let k2 = keeps-put 4 m1 (p + 12) w (omega arith) in
    let size2 = k2.size in
    let k3 = keeps-put 8 m2 (p + 16) long (omega arith) in
    let tag1 : word m1 (p + 8) 1 ≡ tag = word-put 1 m (p + 8) tag (omega arith) (omega arith) in
    let tag2 : word m2 (p + 8) 1 ≡ tag = word-kept 1 m1 m2 (p + 8) (p + 12) 4 k2 (inl (omega arith)) ∙ tag1 in
    let tag3 : word m3 (p + 8) 1 ≡ tag = word-kept 1 m2 m3 (p + 8) (p + 16) 8 k3 (inl (omega arith)) ∙ tag2 in
    let word2 : word m2 (p + 12) 4 ≡ w = word-put 4 m1 (p + 12) w (omega arith) (omega arith) in
    let word3 : word m3 (p + 12) 4 ≡ w = word-kept 4 m2 m3 (p + 12) (p + 16) 8 k3 (inl (omega arith)) ∙ word2 in
    let long3 : word m3 (p + 16) 8 ≡ long = word-put 8 m2 (p + 16) long (omega arith) (omega arith) in
    record {
      place = place_words m3 base capacity at tag w long tag3 word3 long3;
      keeps = keeps-trans m m2 m3 (p + 8) 16
          (keeps-trans m m1 m2 (p + 8) 16 (keeps-wider m m1 (p + 8) 1 (p + 8) 16 (omega arith) (omega arith) k1) (keeps-wider m1 m2 (p + 12) 4 (p + 8) 16 (omega arith) (omega arith) k2))
          (keeps-wider m2 m3 (p + 16) 8 (p + 8) 16 (omega arith) (omega arith) k3);
    }

-- ---- taking

-- the head of the chain after its first place was taken
pub record IsNext (m : List ℕ) (base at next : ℕ) : Type 0 where
  pub unused : word m (spot base at + 12) 4 ≡ 0 → next ≡ at + 2
  pub linked : word m (spot base at + 12) 4 ≢ 0 → next ≡ word m (spot base at + 12) 4

pub next_same : (m : List ℕ) (base capacity at next : ℕ) → IsNext m base at next → link_of capacity 0 next ≡ link_of capacity (at + 1) (word m (spot base at + 12) 4)
next_same m base capacity at next n = by (word m (spot base at + 12) 4) n.unused n.linked
  where
    by : (w : ℕ) → (w ≡ 0 → next ≡ at + 2) → (w ≢ 0 → next ≡ w) → link_of capacity 0 next ≡ link_of capacity (at + 1) w
    by zero unused linked =
        let e = unused refl in
        let less : next - 1 ≡ at + 1 = omega (arith, e) in
        link-suc capacity 0 next (λ z. omega (arith, e, z)) ∙ ap (upto capacity) less
    by (suc w) unused linked = ap (link_of capacity 0) (linked (λ z. omega (arith, z)))

pub record Room (m : List ℕ) (base capacity free at : ℕ) : Type 0 where
  pub inside : at < capacity
  pub isfree : slice_get (map entry_in (places_of m base capacity)) at ≡ Some None
  pub found : slice_get (places_of m base capacity) at ≡ Some (Free (link_of capacity (at + 1) (word m (spot base at + 12) 4)))
  pub small : word m (spot base at + 12) 4 ≤ capacity + 1

-- the first free place
pub first-place : (m : List ℕ) (base capacity free at : ℕ) → IsTable m base capacity free → first_of m base capacity ≡ Some at → Room m base capacity free at
first-place m base capacity free at table link =
    let ps = places_of m base capacity in
    let w = word m (spot base at + 12) 4 in
    let len = length-places m base capacity in
    let sound : IsSound ps (Some at) free = subst (λ o. IsSound ps o free) link table.sound in
    let first = first_is_free ps at free sound in
    let within : at < capacity = omega (arith, slice_get_within ps at _ first.1, len) in
    let here = slice_get-places m base capacity at within in
    let isfree : place_at m base capacity at ≡ Free first.0 = let found = first.1 in cc in
    let next : link_of capacity (at + 1) w ≡ first.0 = free_word capacity at (word m (spot base at + 8) 1) w (word m (spot base at + 16) 8) first.0 (sym (place_words m base capacity at _ _ _ refl refl refl) ∙ isfree) in
    let found : slice_get ps at ≡ Some (Free (link_of capacity (at + 1) w)) = first.1 ∙ ap (λ o. Some (Free o)) (sym next) in
    record {
      inside = within;
      isfree = slice_get-map entry_in ps at ∙ ap (option_map entry_in) first.1;
      found = found;
      small = few w (subst (λ o. IsChain ps o (free - 1)) (sym next) (rest ps at free first.0 sound.linked first.1)) len;
    }
  where
    rest : (ps : List (Place Entry)) (at n : ℕ) (next : Option ℕ) → IsChain ps (Some at) n → slice_get ps at ≡ Some (Free next) → IsChain ps next (n - 1)
    rest ps at zero next c found = absurd c
    rest ps at (suc n) next c found =
        let link = c.1 in
        let same : c.0 ≡ next = cc in
        let less : suc n - 1 ≡ n = omega arith in
        rw less (subst (λ k. IsChain ps k n) same c.2)

    few : (w : ℕ) → IsChain (places_of m base capacity) (link_of capacity (at + 1) w) (free - 1) → length (places_of m base capacity) ≡ capacity → w ≤ capacity + 1
    few zero c len = omega arith
    few (suc w) c len = let h = chain_small (places_of m base capacity) capacity w (free - 1) len c in omega (arith, h)

-- the bytes after the first free place was taken
abbrev pub taken : List ℕ → ℕ → ℕ → ℕ → Entry → List ℕ
taken m base at next e = written (put m (base + 0) 4 next) base at (tag_of e) (word_of e) (long_of e)

pub take-bytes : (m : List ℕ) (base capacity free at next : ℕ) (e : Entry) → IsShort e → IsTable m base capacity free → first_of m base capacity ≡ Some at → IsNext m base at next → Changed m (taken m base at next e) base capacity (free - 1) at (Used e)
take-bytes m base capacity free at next e short table link n =
    let ps = places_of m base capacity in
    let w = word m (spot base at + 12) 4 in
    let r = first-place m base capacity free at table link in
    let inside = r.inside in
    let few = r.small in
    let room = table.within in
    let small = table.small in
    let next_small : next < 2 ^ 32 = bound w few n.unused n.linked in
    let sound : IsSound ps (Some at) free = subst (λ o. IsSound ps o free) link table.sound in
    let still = sound-take ps at free (link_of capacity (at + 1) w) e r.found sound in
    let m1 = put m (base + 0) 4 next in
    let m2 = taken m base at next e in
    let k1 = keeps-put 4 m (base + 0) next (omega arith) in
    let size1 = k1.size in
    let wr = write-place m1 base capacity at (tag_of e) (word_of e) (long_of e) (omega arith) (tag_small e) short.word short.long in
    let k2 = wr.keeps in
    let size2 = k2.size in
    let same1 : places_of m1 base capacity ≡ ps = places-kept m m1 base capacity (base + 0) 4 k1 (inr (omega arith)) in
    let same2 : places_of m2 base capacity ≡ set (places_of m1 base capacity) at (Used e) = places-put m1 m2 base capacity at (Used e) inside k2 (wr.place ∙ entry_same capacity at e) in
    let same : places_of m2 base capacity ≡ set ps at (Used e) = same2 ∙ ap (λ xs. set xs at (Used e)) same1 in
    let head : word m2 (base + 0) 4 ≡ next = word-kept 4 m1 m2 (base + 0) (spot base at + 8) 16 k2 (inl (omega arith)) ∙ word-put 4 m (base + 0) next (omega arith) (omega (arith, next_small)) in
    let first : first_of m2 base capacity ≡ link_of capacity (at + 1) w = ap (link_of capacity 0) head ∙ next_same m base capacity at next n in
    record {
      table = record {
        sound = subst (λ o. IsSound (places_of m2 base capacity) o (free - 1)) (sym first) (subst (λ xs. IsSound xs (link_of capacity (at + 1) w) (free - 1)) (sym same) still);
        within = omega arith;
        small = small;
      };
      places = same;
      keeps = keeps-trans m m1 m2 base (table_len capacity) (keeps-wider m m1 (base + 0) 4 base (table_len capacity) (omega arith) (omega arith) k1)
          (keeps-wider m1 m2 (spot base at + 8) 16 base (table_len capacity) (omega arith) (omega arith) k2);
    }
  where
    bound : (w : ℕ) → w ≤ capacity + 1 → (w ≡ 0 → next ≡ at + 2) → (w ≢ 0 → next ≡ w) → next < 2 ^ 32
    bound zero few unused linked = let e = unused refl in let a = (first-place m base capacity free at table link).inside in let b = table.small in omega (arith, e, a, b)
    bound (suc w) few unused linked = let e = linked (λ z. omega (arith, z)) in let b = table.small in omega (arith, e, few, b)

-- ---- freeing

-- the link of a place that is freed
pub record IsOldHead (m : List ℕ) (base link : ℕ) : Type 0 where
  pub unused : word m (base + 0) 4 ≡ 0 → link ≡ 1
  pub linked : word m (base + 0) 4 ≢ 0 → link ≡ word m (base + 0) 4

pub head_same : (m : List ℕ) (base capacity at link : ℕ) → IsOldHead m base link → link_of capacity (at + 1) link ≡ first_of m base capacity
head_same m base capacity at link n = by (word m (base + 0) 4) n.unused n.linked
  where
    by : (w : ℕ) → (w ≡ 0 → link ≡ 1) → (w ≢ 0 → link ≡ w) → link_of capacity (at + 1) link ≡ link_of capacity 0 w
    by zero unused linked = ap (link_of capacity (at + 1)) (unused refl)
    by (suc w) unused linked = ap (link_of capacity (at + 1)) (linked (λ z. omega (arith, z)))

pub head_small : (m : List ℕ) (base capacity free : ℕ) → IsTable m base capacity free → word m (base + 0) 4 ≤ capacity + 1
head_small m base capacity free table = by (word m (base + 0) 4) table.sound.linked
  where
    by : (w : ℕ) → IsChain (places_of m base capacity) (link_of capacity 0 w) free → w ≤ capacity + 1
    by zero c = omega arith
    by (suc w) c = let h = chain_small (places_of m base capacity) capacity w free (length-places m base capacity) c in omega (arith, h)

-- the bytes after a used place was freed
abbrev pub freed : List ℕ → ℕ → ℕ → ℕ → List ℕ
freed m base at link = put (put (put m (spot base at + 12) 4 link) (spot base at + 8) 1 0) (base + 0) 4 (at + 1)

pub free-bytes : (m : List ℕ) (base capacity free at link : ℕ) (e : Entry) → IsTable m base capacity free → slice_get (map entry_in (places_of m base capacity)) at ≡ Some (Some e) → IsOldHead m base link
    → Changed m (freed m base at link) base capacity (free + 1) at (Free (first_of m base capacity))
free-bytes m base capacity free at link e table used n =
    let ps = places_of m base capacity in
    let first = first_of m base capacity in
    let p = spot base at in
    let there = used_place m base capacity at e used in
    let within : at < capacity = there.0 in
    let found : slice_get ps at ≡ Some (Used e) = slice_get-places m base capacity at within ∙ ap Some there.1 in
    let room = table.within in
    let small = table.small in
    let few = head_small m base capacity free table in
    let link_small : link < 2 ^ 32 = bound (word m (base + 0) 4) few n.unused n.linked in
    let m1 = put m (p + 12) 4 link in
    let m2 = put m1 (p + 8) 1 0 in
    let m3 = put m2 (base + 0) 4 (at + 1) in
    let k1 = keeps-put 4 m (p + 12) link (omega arith) in
    let size1 = k1.size in
    let k2 = keeps-put 1 m1 (p + 8) 0 (omega arith) in
    let size2 = k2.size in
    let k3 = keeps-put 4 m2 (base + 0) (at + 1) (omega arith) in
    let size3 = k3.size in
    let tag : word m2 (p + 8) 1 ≡ 0 = word-put 1 m1 (p + 8) 0 (omega arith) (lit< tt) in
    let stands : word m2 (p + 12) 4 ≡ link = word-kept 4 m1 m2 (p + 12) (p + 8) 1 k2 (inr (omega arith)) ∙ word-put 4 m (p + 12) link (omega arith) (omega (arith, link_small)) in
    let new : place_at m2 base capacity at ≡ Free first =
    place_words m2 base capacity at 0 link (word m2 (p + 16) 8) tag stands refl ∙ ap Free (head_same m base capacity at link n) in
    let k12 : Keeps m m2 (p + 8) 16 =
    keeps-trans m m1 m2 (p + 8) 16 (keeps-wider m m1 (p + 12) 4 (p + 8) 16 (omega arith) (omega arith) k1) (keeps-wider m1 m2 (p + 8) 1 (p + 8) 16 (omega arith) (omega arith) k2) in
    let same2 : places_of m2 base capacity ≡ set ps at (Free first) = places-put m m2 base capacity at (Free first) within k12 new in
    let same3 : places_of m3 base capacity ≡ set ps at (Free first) = places-kept m2 m3 base capacity (base + 0) 4 k3 (inr (omega arith)) ∙ same2 in
    let read : word m3 (base + 0) 4 ≡ at + 1 = word-put 4 m2 (base + 0) (at + 1) (omega arith) (omega arith) in
    let less : at + 1 - 1 ≡ at = omega arith in
    let head : first_of m3 base capacity ≡ Some at = ap (link_of capacity 0) read ∙ link-suc capacity 0 (at + 1) (λ z. omega (arith, z)) ∙ ap (upto capacity) less ∙ upto_some capacity at within in
    record {
      table = record {
        sound = subst (λ o. IsSound (places_of m3 base capacity) o (free + 1)) (sym head) (subst (λ xs. IsSound xs (Some at) (free + 1)) (sym same3) (sound-free ps at free first e found table.sound));
        within = omega arith;
        small = small;
      };
      places = same3;
      keeps = keeps-trans m m2 m3 base (table_len capacity) (keeps-wider m m2 (p + 8) 16 base (table_len capacity) (omega arith) (omega arith) k12)
          (keeps-wider m2 m3 (base + 0) 4 base (table_len capacity) (omega arith) (omega arith) k3);
    }
  where
    bound : (w : ℕ) → w ≤ capacity + 1 → (w ≡ 0 → link ≡ 1) → (w ≢ 0 → link ≡ w) → link < 2 ^ 32
    bound zero few unused linked = let e = unused refl in omega (arith, e)
    bound (suc w) few unused linked = let e = linked (λ z. omega (arith, z)) in let b = table.small in omega (arith, e, few, b)
