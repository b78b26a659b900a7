-- How the calls keep the list of freed cells, and what they make of the handle map.
use Rattle.std.proofs.Common.{◌≡◌, ◌≢◌, ℕ, zero, suc, ◌+◌, ◌-◌, ◌<◌, ◌==◌, false, List, [], ◌∷◌, map, length, get_or, set, Option, Some, None, is_some, IsSome, count_by, cond, slice_get, refl, sym, ap, subst, ◌∙◌, arith, length-set}
use Rattle.std.specs.Option.{option_map}
use Rattle.std.proofs.lemmas.Bool.{ne_eqb}
use Rattle.std.proofs.lemmas.List.{map-set, length-map, get_or-map, get_or-set_same, get_or-set_other}
use Rattle.std.proofs.lemmas.List.Sums.{sum_by-set}
use Rattle.std.proofs.lemmas.Option.{slice_get_within, slice_get-get_or, get_or_from_slice_get, slice_get_read}
use Rattle.handle_space.specs.declared.cell.Cell.{Cell}
use Rattle.handle_space.specs.declared.cell.Cell.TheVariants.{Free, Own, Borrow}
use Rattle.handle_space.specs.HandleMap.{Entry, HandleMap, Answered, most_live, live_count, entry_at, answered, with_entry, without, add}
use Rattle.handle_space.specs.Shown.{entry_in, freed_from, IsChain, IsSound, shown}

-- a read after a write at the same cell, and at another one
slice_get-set_same : {X : Type 0} (xs : List X) (i : ℕ) (y : X) → i < length xs → slice_get (set xs i y) i ≡ Some y
slice_get-set_same xs i y within = slice_get-get_or (set xs i y) i y (omega (arith, length-set xs i y)) ∙ ap Some (get_or-set_same xs i y y within)

slice_get-set_other : {X : Type 0} (xs : List X) (i j : ℕ) (y x : X) → j ≢ i → slice_get xs j ≡ Some x → slice_get (set xs i y) j ≡ Some x
slice_get-set_other xs i j y x other found =
    let within = slice_get_within xs j x found in
    slice_get-get_or (set xs i y) j y (omega (arith, length-set xs i y))
    ∙ ap Some (get_or-set_other xs i j y y other ∙ get_or_from_slice_get xs j x y found)

-- a cell starts one chain at most
chain_unique : (cs : List Cell) (at : Option ℕ) (m n : ℕ) → IsChain cs at m → IsChain cs at n → m ≡ n
chain_unique cs None zero zero p q = refl
chain_unique cs None zero (suc n) p q = absurd q
chain_unique cs None (suc m) n p q = absurd p
chain_unique cs (Some at) zero n p q = absurd p
chain_unique cs (Some at) (suc m) zero p q = absurd q
chain_unique cs (Some at) (suc m) (suc n) p q =
    let first = p.1 in
    let second = q.1 in
    let same : q.0 ≡ p.0 = cc in
    ap suc (chain_unique cs p.0 m n p.2 (subst (λ next. IsChain cs next n) same q.2))

-- No chain of fewer cells starts at this one.
abbrev pub IsOff : List Cell → ℕ → ℕ → Type 0
IsOff cs at n = (m : ℕ) → m < n → IsChain cs (Some at) (suc m) → ⊥

off_next : (cs : List Cell) (at n : ℕ) → IsOff cs at (suc n) → IsOff cs at n
off_next cs at n off m below = off m (omega arith)

-- a write at a cell that is not on the chain keeps it, and the indexes on it
chain-set : (cs : List Cell) (at : ℕ) (c : Cell) (n : ℕ) (from : Option ℕ) → IsOff cs at n → IsChain cs from n → IsChain (set cs at c) from n
chain-set cs at c zero None off p = tt
chain-set cs at c (suc n) None off p = absurd p
chain-set cs at c zero (Some from) off p = absurd p
chain-set cs at c (suc n) (Some from) off p =
    let other : from ≢ at = λ same. off n (omega arith) (subst (λ k. IsChain cs (Some k) (suc n)) same p) in
    (p.0, slice_get-set_other cs at from c _ other p.1, chain-set cs at c n p.0 (off_next cs at n off) p.2)

freed_from-set : (cs : List Cell) (at : ℕ) (c : Cell) (n : ℕ) (from : Option ℕ) → IsOff cs at n → IsChain cs from n → freed_from (set cs at c) from n ≡ freed_from cs from n
freed_from-set cs at c zero from off p = refl
freed_from-set cs at c (suc n) None off p = refl
freed_from-set cs at c (suc n) (Some from) off p =
    let other : from ≢ at = λ same. off n (omega arith) (subst (λ k. IsChain cs (Some k) (suc n)) same p) in
    let here : slice_get (set cs at c) from ≡ Some (Free p.0) = slice_get-set_other cs at from c _ other p.1 in
    rw (here, p.1) (ap (λ is. suc from ∷ is) (freed_from-set cs at c n p.0 (off_next cs at n off) p.2))

-- how many cells have a handle after a write
live-set : (cs : List Cell) (at : ℕ) (old new : Cell) → slice_get cs at ≡ Some old → count_by is_some (map entry_in (set cs at new)) + cond (is_some (entry_in old)) 1 0 ≡ count_by is_some (map entry_in cs) + cond (is_some (entry_in new)) 1 0
live-set cs at old new found =
    let within = slice_get_within cs at old found in
    let read : get_or (map entry_in cs) at None ≡ entry_in old =
    get_or-map entry_in cs at old None within ∙ ap entry_in (get_or_from_slice_get cs at old old found) in
    let counted = sum_by-set (λ o. cond (is_some o) 1 0) (map entry_in cs) at (entry_in new) None (omega (arith, length-map cs entry_in)) in
    rw (map-set entry_in cs at new, ← read) counted

-- one, if there is something
abbrev pub count_of : {X : Type 0} → Option X → ℕ
count_of o = cond (is_some o) 1 0

count_of-some : {X : Type 0} (o : Option X) → IsSome o → count_of o ≡ 1
count_of-some None h = absurd (cc)
count_of-some (Some x) h = refl

-- a cell with a handle is on no chain
live_is_off : (cs : List Cell) (at n : ℕ) (old : Cell) → slice_get cs at ≡ Some old → IsSome (entry_in old) → IsOff cs at n
live_is_off cs at n (Free next) found live m below p = absurd (cc)
live_is_off cs at n (Own resource rep lent) found live m below p = let q = p.1 in absurd (cc)
live_is_off cs at n (Borrow resource rep) found live m below p = let q = p.1 in absurd (cc)

-- the first freed cell is free
first_is_free : (cs : List Cell) (at n : ℕ) → IsSound cs (Some at) n → (next : Option ℕ) × (slice_get cs at ≡ Some (Free next))
first_is_free cs at zero sound = absurd sound.linked
first_is_free cs at (suc n) sound = (sound.linked.0, sound.linked.1)

-- ---- another handle in a cell that has one

sound-put : (cs : List Cell) (at : ℕ) (freed : Option ℕ) (free : ℕ) (old new : Cell) → slice_get cs at ≡ Some old → IsSome (entry_in old) → IsSome (entry_in new) → IsSound cs freed free → IsSound (set cs at new) freed free
sound-put cs at freed free old new found was is sound = record {
  linked = chain-set cs at new free freed (live_is_off cs at free old found was) sound.linked;
  total = omega (arith, sound.total, live-set cs at old new found, count_of-some (entry_in old) was, count_of-some (entry_in new) is, length-set cs at new);
  few = omega (arith, sound.few, length-set cs at new);
}

-- ---- a cell is freed

sound-free : (cs : List Cell) (at : ℕ) (freed : Option ℕ) (free : ℕ) (old : Cell) → slice_get cs at ≡ Some old → IsSome (entry_in old) → IsSound cs freed free → IsSound (set cs at (Free freed)) (Some at) (free + 1)
sound-free cs at freed free old found was sound =
    let within = slice_get_within cs at old found in
    let more : free + 1 ≡ suc free = omega arith in
    rw more (record {
      linked = (freed, slice_get-set_same cs at (Free freed) within, chain-set cs at (Free freed) free freed (live_is_off cs at free old found was) sound.linked);
      total = omega (arith, sound.total, live-set cs at old (Free freed) found, count_of-some (entry_in old) was, length-set cs at (Free freed));
      few = omega (arith, sound.few, length-set cs at (Free freed));
    })

-- ---- the cell freed last is used again

off_of_chain : (cs : List Cell) (at n : ℕ) → IsChain cs (Some at) (suc n) → IsOff cs at n
off_of_chain cs at n p m below again = absurd (omega (arith, chain_unique cs (Some at) (suc m) (suc n) again p))

pub sound-reuse : (cs : List Cell) (at free : ℕ) (next : Option ℕ) (new : Cell) → slice_get cs at ≡ Some (Free next) → IsSome (entry_in new) → IsSound cs (Some at) free → IsSound (set cs at new) next (free - 1)
sound-reuse cs at zero next new found is sound = absurd sound.linked
sound-reuse cs at (suc n) next new found is sound =
    let p = sound.linked in
    let link = p.1 in
    let same : p.0 ≡ next = cc in
    let rest : IsChain cs next n = subst (λ k. IsChain cs k n) same p.2 in
    let less : suc n - 1 ≡ n = omega arith in
    rw less (record {
      linked = chain-set cs at new n next (off_of_chain cs at n p) rest;
      total = omega (arith, sound.total, live-set cs at (Free next) new found, count_of-some (entry_in new) is, length-set cs at new);
      few = omega (arith, sound.few, length-set cs at new);
    })

-- ---- one more cell

-- ---- the same of the handle map

shown_as : (cs : List Cell) (freed : Option ℕ) (free : ℕ) (es : List (Option (Entry ℕ))) (is : List ℕ) → map entry_in cs ≡ es → freed_from cs freed free ≡ is → shown cs freed free ≡ record { entries = None ∷ es; freed = is }
shown_as cs freed free es is entries indexes = rw (entries, indexes) refl

shown-put : (cs : List Cell) (at : ℕ) (freed : Option ℕ) (free : ℕ) (old new : Cell) (e : Entry ℕ) → slice_get cs at ≡ Some old → IsSome (entry_in old) → entry_in new ≡ Some e → IsSound cs freed free → shown (set cs at new) freed free ≡ with_entry (shown cs freed free) (suc at) e
shown-put cs at freed free old new e found was is sound =
    shown_as (set cs at new) freed free _ _
    (map-set entry_in cs at new ∙ ap (set (map entry_in cs) at) is)
    (freed_from-set cs at new free freed (live_is_off cs at free old found was) sound.linked)

shown-free : (cs : List Cell) (at : ℕ) (freed : Option ℕ) (free : ℕ) (old : Cell) → slice_get cs at ≡ Some old → IsSome (entry_in old) → IsSound cs freed free → shown (set cs at (Free freed)) (Some at) (free + 1) ≡ without (shown cs freed free) (suc at)
shown-free cs at freed free old found was sound =
    let within = slice_get_within cs at old found in
    let more : free + 1 ≡ suc free = omega arith in
    let here : slice_get (set cs at (Free freed)) at ≡ Some (Free freed) = slice_get-set_same cs at (Free freed) within in
    rw more (shown_as (set cs at (Free freed)) (Some at) (suc free) _ _
    (map-set entry_in cs at (Free freed))
    (rw here (ap (λ is. suc at ∷ is) (freed_from-set cs at (Free freed) free freed (live_is_off cs at free old found was) sound.linked))))

-- A table with a free cell, or with fewer cells than the most, is not full.
not_full : (cs : List Cell) (freed : Option ℕ) (free : ℕ) → count_by is_some (map entry_in cs) < most_live → (live_count (shown cs freed free) == most_live) ≡ false
not_full cs freed free few = ne_eqb (live_count (shown cs freed free)) most_live (λ same. omega arith)

shown-reuse : (cs : List Cell) (at free : ℕ) (next : Option ℕ) (new : Cell) (e : Entry ℕ) → slice_get cs at ≡ Some (Free next) → entry_in new ≡ Some e → IsSound cs (Some at) free → add (shown cs (Some at) free) e ≡ Some (answered (at + 1) (shown (set cs at new) next (free - 1)))
shown-reuse cs at zero next new e found is sound = absurd sound.linked
shown-reuse cs at (suc n) next new e found is sound =
    let p = sound.linked in
    let link = p.1 in
    let same : p.0 ≡ next = cc in
    let rest : IsChain cs next n = subst (λ k. IsChain cs k n) same p.2 in
    let room : (live_count (shown cs (Some at) (suc n)) == most_live) ≡ false = not_full cs (Some at) (suc n) (omega (arith, sound.total, sound.few)) in
    let index : at + 1 ≡ suc at = omega arith in
    let less : suc n - 1 ≡ n = omega arith in
    let entries : map entry_in (set cs at new) ≡ set (map entry_in cs) at (Some e) = map-set entry_in cs at new ∙ ap (set (map entry_in cs) at) is in
    let indexes : freed_from (set cs at new) next n ≡ freed_from cs next n = freed_from-set cs at new n next (off_of_chain cs at n p) rest in
    rw (room, found, index, less, entries, indexes) refl

-- ---- the same by the index of a live entry, which is one more than its cell

cell_of_place : (cs : List Cell) (at : ℕ) → IsSome (get_or (map entry_in cs) at None) → (old : Cell) × (slice_get cs at ≡ Some old) × IsSome (entry_in old)
cell_of_place [] at live = absurd (cc)
cell_of_place (c ∷ cs) zero live = (c, refl, live)
cell_of_place (c ∷ cs) (suc at) live = cell_of_place cs at live

pub live_place : (cs : List Cell) (index : ℕ) (freed : Option ℕ) (free : ℕ) → IsSome (entry_at (shown cs freed free) index) → (0 < index) × (index - 1 < length cs)
live_place cs zero freed free live = absurd (cc)
live_place cs (suc at) freed free live =
    let old = cell_of_place cs at live in
    (omega arith, omega (arith, slice_get_within cs at old.0 old.1))

pub put_sound : (cs : List Cell) (index : ℕ) (freed : Option ℕ) (free : ℕ) (new : Cell) → IsSome (entry_at (shown cs freed free) index) → IsSome (entry_in new) → IsSound cs freed free → IsSound (set cs (index - 1) new) freed free
put_sound cs zero freed free new live is sound = absurd (cc)
put_sound cs (suc at) freed free new live is sound =
    let old = cell_of_place cs at live in
    let place : suc at - 1 ≡ at = omega arith in
    rw place (sound-put cs at freed free old.0 new old.1 old.2 is sound)

put_shown_entry : (cs : List Cell) (at : ℕ) (freed : Option ℕ) (free : ℕ) (old new : Cell) (o : Option (Entry ℕ)) → slice_get cs at ≡ Some old → IsSome (entry_in old) → entry_in new ≡ o → IsSome o → IsSound cs freed free → option_map (λ e. with_entry (shown cs freed free) (suc at) e) o ≡ Some (shown (set cs at new) freed free)
put_shown_entry cs at freed free old new None found was is some sound = absurd (cc)
put_shown_entry cs at freed free old new (Some e) found was is some sound = ap Some (sym (shown-put cs at freed free old new e found was is sound))

pub put_shown : (cs : List Cell) (index : ℕ) (freed : Option ℕ) (free : ℕ) (new : Cell) → IsSome (entry_at (shown cs freed free) index) → IsSome (entry_in new) → IsSound cs freed free → option_map (λ e. with_entry (shown cs freed free) index e) (entry_in new) ≡ Some (shown (set cs (index - 1) new) freed free)
put_shown cs zero freed free new live is sound = absurd (cc)
put_shown cs (suc at) freed free new live is sound =
    let old = cell_of_place cs at live in
    let place : suc at - 1 ≡ at = omega arith in
    rw place (put_shown_entry cs at freed free old.0 new (entry_in new) old.1 old.2 refl is sound)

pub remove_sound : (cs : List Cell) (index : ℕ) (freed : Option ℕ) (free : ℕ) → IsSome (entry_at (shown cs freed free) index) → IsSound cs freed free → IsSound (set cs (index - 1) (Free freed)) (Some (index - 1)) (free + 1)
remove_sound cs zero freed free live sound = absurd (cc)
remove_sound cs (suc at) freed free live sound =
    let old = cell_of_place cs at live in
    let place : suc at - 1 ≡ at = omega arith in
    rw place (sound-free cs at freed free old.0 old.1 old.2 sound)

pub remove_shown : (cs : List Cell) (index : ℕ) (freed : Option ℕ) (free : ℕ) → IsSome (entry_at (shown cs freed free) index) → IsSound cs freed free → shown (set cs (index - 1) (Free freed)) (Some (index - 1)) (free + 1) ≡ without (shown cs freed free) index
remove_shown cs zero freed free live sound = absurd (cc)
remove_shown cs (suc at) freed free live sound =
    let old = cell_of_place cs at live in
    let place : suc at - 1 ≡ at = omega arith in
    rw place (shown-free cs at freed free old.0 old.1 old.2 sound)

-- ---- adding, by the cell that is put

is_added : (m : HandleMap ℕ) (o : Option (Entry ℕ)) (answer : Answered ℕ ℕ) → IsSome o → ((e : Entry ℕ) → o ≡ Some e → add m e ≡ Some answer) → option_map (λ e. add m e) o ≡ Some (Some answer)
is_added m None answer is each = absurd (cc)
is_added m (Some e) answer is each = ap Some (each e refl)

pub reuse_added : (cs : List Cell) (at free : ℕ) (next : Option ℕ) (new : Cell) → slice_get cs at ≡ Some (Free next) → IsSome (entry_in new) → IsSound cs (Some at) free → option_map (λ e. add (shown cs (Some at) free) e) (entry_in new) ≡ Some (Some (answered (at + 1) (shown (set cs at new) next (free - 1))))
reuse_added cs at free next new found is sound =
    is_added (shown cs (Some at) free) (entry_in new) _ is (λ e same. shown-reuse cs at free next new e found same sound)

-- what reading the first freed cell gave
pub first_read : (cs : List Cell) (at free : ℕ) (next : Option ℕ) (cell : Cell) → cell ≡ get_or cs at cell → cell ≡ Free next → IsSound cs (Some at) free → slice_get cs at ≡ Some (Free next)
first_read cs at free next cell value is sound =
    let first = first_is_free cs at free sound in
    slice_get_read cs (length cs) at cell refl (slice_get_within cs at _ first.1) value ∙ ap Some is
