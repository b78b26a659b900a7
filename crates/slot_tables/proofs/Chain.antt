-- How taking and freeing a place keep the chain of free places.
use Rattle.std.proofs.Common.{◌≡◌, ◌≢◌, ℕ, zero, suc, ◌+◌, ◌-◌, ◌<◌, List, [], ◌∷◌, ◌++◌, map, length, get_or, set, Option, Some, None, is_some, IsSome, cond, slice_get, refl, sym, ap, subst, ◌∙◌, arith, length-set, true≢false, add-zero}
use Rattle.std.proofs.lemmas.List.{map-set, length-map, get_or-map, get_or-set_same, get_or-set_other, get_or_past, map_push, length_push, get_or_append_left, get_or_push}
use Rattle.std.proofs.lemmas.List.Sums.{sum_by-set, sum_by_push}
use Rattle.std.proofs.lemmas.Option.{slice_get_within, slice_get-get_or, get_or_from_slice_get}
use Rattle.slot_tables.specs.declared.cells.Place.{Place}
use Rattle.slot_tables.specs.declared.cells.Place.TheVariants.{Free, Used}
use Rattle.slot_tables.specs.Places.{entry_of, IsChain, IsSound}
use Rattle.slot_tables.specs.Entries.{live_count}

-- a read after a write at the same place, and at another one
pub slice_get-set_same : {X : Type 0} (xs : List X) (i : ℕ) (y : X) → i < length xs → slice_get (set xs i y) i ≡ Some y
slice_get-set_same xs i y within = slice_get-get_or (set xs i y) i y (omega (arith, length-set xs i y)) ∙ ap Some (get_or-set_same xs i y y within)

pub slice_get-set_other : {X : Type 0} (xs : List X) (i j : ℕ) (y x : X) → j ≢ i → slice_get xs j ≡ Some x → slice_get (set xs i y) j ≡ Some x
slice_get-set_other xs i j y x other found =
    let within = slice_get_within xs j x found in
    slice_get-get_or (set xs i y) j y (omega (arith, length-set xs i y))
    ∙ ap Some (get_or-set_other xs i j y y other ∙ get_or_from_slice_get xs j x y found)

module _ {E : Type 0} where
  -- a place starts one chain at most
  pub chain_unique : (ps : List (Place E)) (at : Option ℕ) (m n : ℕ) → IsChain ps at m → IsChain ps at n → m ≡ n
  chain_unique ps None zero zero p q = refl
  chain_unique ps None zero (suc n) p q = absurd q
  chain_unique ps None (suc m) n p q = absurd p
  chain_unique ps (Some at) zero n p q = absurd p
  chain_unique ps (Some at) (suc m) zero p q = absurd q
  chain_unique ps (Some at) (suc m) (suc n) p q =
      let first = p.1 in
      let second = q.1 in
      let same : q.0 ≡ p.0 = cc in
      ap suc (chain_unique ps p.0 m n p.2 (subst (λ next. IsChain ps next n) same q.2))

  -- a write at a place that is not on the chain keeps it
  pub chain-set : (ps : List (Place E)) (at : ℕ) (p : Place E) (n : ℕ) (from : Option ℕ) → ((m : ℕ) → m < n → IsChain ps (Some at) (suc m) → ⊥) → IsChain ps from n → IsChain (set ps at p) from n
  chain-set ps at p zero None off c = tt
  chain-set ps at p (suc n) None off c = absurd c
  chain-set ps at p zero (Some from) off c = absurd c
  chain-set ps at p (suc n) (Some from) off c =
      let other : from ≢ at = λ same. off n (omega arith) (subst (λ k. IsChain ps (Some k) (suc n)) same c) in
      (c.0, slice_get-set_other ps at from p _ other c.1, chain-set ps at p n c.0 (λ m below. off m (omega arith)) c.2)

  -- what a used place has
  pub used_at : (ps : List (Place E)) (at : ℕ) (old : Place E) → slice_get ps at ≡ Some old → IsSome (get_or (map entry_of ps) at None) → (e : E) × (old ≡ Used e)
  used_at ps at (Free next) found live =
      let within = slice_get_within ps at _ found in
      absurd (true≢false (sym (subst IsSome (get_or-map entry_of ps at (Free next) None within ∙ ap entry_of (get_or_from_slice_get ps at _ (Free next) found)) live)))
  used_at ps at (Used e) found live = (e, refl)

  -- how many places are live after a write
  pub live-set : (ps : List (Place E)) (at : ℕ) (old new : Place E) → slice_get ps at ≡ Some old → live_count (map entry_of (set ps at new)) + cond (is_some (entry_of old)) 1 0 ≡ live_count (map entry_of ps) + cond (is_some (entry_of new)) 1 0
  live-set ps at old new found =
      let within = slice_get_within ps at old found in
      let read : get_or (map entry_of ps) at None ≡ entry_of old =
      get_or-map entry_of ps at old None within ∙ ap entry_of (get_or_from_slice_get ps at old old found) in
      let counted = sum_by-set (λ o. cond (is_some o) 1 0) (map entry_of ps) at (entry_of new) None (omega (arith, length-map ps entry_of)) in
      rw (map-set entry_of ps at new, ← read) counted

  -- taking the first free place
  pub sound-take : (ps : List (Place E)) (at n : ℕ) (next : Option ℕ) (e : E) → slice_get ps at ≡ Some (Free next) → IsSound ps (Some at) n → IsSound (set ps at (Used e)) next (n - 1)
  sound-take ps at zero next e found sound = absurd sound.linked
  sound-take ps at (suc n) next e found sound =
      let c = sound.linked in
      let link = c.1 in
      let same : c.0 ≡ next = cc in
      let rest : IsChain ps next n = subst (λ k. IsChain ps k n) same c.2 in
      let counted = live-set ps at (Free next) (Used e) found in
      let less : suc n - 1 ≡ n = omega arith in
      rw less (record {
        linked = chain-set ps at (Used e) n next (λ m below again. absurd (omega (arith, chain_unique ps (Some at) (suc m) (suc n) again c))) rest;
        total = omega (arith, sound.total, counted, length-set ps at (Used e));
      })

  -- freeing a used place
  pub sound-free : (ps : List (Place E)) (at n : ℕ) (first : Option ℕ) (e : E) → slice_get ps at ≡ Some (Used e) → IsSound ps first n → IsSound (set ps at (Free first)) (Some at) (n + 1)
  sound-free ps at n first e found sound =
      let within = slice_get_within ps at _ found in
      let counted = live-set ps at (Used e) (Free first) found in
      let more : n + 1 ≡ suc n = omega arith in
      rw more (record {
        linked = (first, slice_get-set_same ps at (Free first) within, chain-set ps at (Free first) n first (λ m below again. let listed = again.1 in cc) sound.linked);
        total = omega (arith, sound.total, counted, length-set ps at (Free first));
      })

  -- the first free place, where there is one, is free
  pub first_is_free : (ps : List (Place E)) (at n : ℕ) → IsSound ps (Some at) n → (next : Option ℕ) × (slice_get ps at ≡ Some (Free next))
  first_is_free ps at zero sound = absurd sound.linked
  first_is_free ps at (suc n) sound = (sound.linked.0, sound.linked.1)

  pub none_is_free : (ps : List (Place E)) (n : ℕ) → IsSound ps None n → n ≡ 0
  none_is_free ps zero sound = refl
  none_is_free ps (suc n) sound = absurd sound.linked

  pub some_is_free : (ps : List (Place E)) (at n : ℕ) → IsSound ps (Some at) n → 0 < n
  some_is_free ps at zero sound = absurd sound.linked
  some_is_free ps at (suc n) sound = omega arith

  -- a live place is one of the places
  pub live_within : (ps : List (Place E)) (at : ℕ) → IsSome (get_or (map entry_of ps) at None) → at < length ps
  live_within ps at live =
      let inside : at < length (map entry_of ps) = grind (arith, get_or_past) in
      omega (arith, length-map ps entry_of)

  -- more places keep a chain
  pub chain-push : (ps : List (Place E)) (p : Place E) (n : ℕ) (from : Option ℕ) → IsChain ps from n → IsChain (ps ++ p ∷ []) from n
  chain-push ps p zero None c = tt
  chain-push ps p (suc n) None c = absurd c
  chain-push ps p zero (Some from) c = absurd c
  chain-push ps p (suc n) (Some from) c =
      let within = slice_get_within ps from _ c.1 in
      let kept : slice_get (ps ++ p ∷ []) from ≡ Some (Free c.0) =
      slice_get-get_or (ps ++ p ∷ []) from p (omega (arith, length_push ps p))
      ∙ ap Some (get_or_append_left ps (p ∷ []) p from within ∙ get_or_from_slice_get ps from _ p c.1) in
      (c.0, kept, chain-push ps p n c.0 c.2)

  -- one more free place joins the chain at its head
  pub sound-push : (ps : List (Place E)) (at : ℕ) (first : Option ℕ) → length ps ≡ at → IsSound ps first at → IsSound (ps ++ Free first ∷ []) (Some at) (at + 1)
  sound-push ps at first len sound =
      let found : slice_get (ps ++ Free first ∷ []) at ≡ Some (Free first) =
      slice_get-get_or (ps ++ Free first ∷ []) at (Free first) (omega (arith, length_push ps (Free first)))
      ∙ ap Some (get_or_push ps (Free first) (Free first) at len) in
      let live : live_count (map entry_of (ps ++ Free first ∷ [])) ≡ live_count (map entry_of ps) =
      ap live_count (map_push entry_of ps (Free first)) ∙ sum_by_push (λ o. cond (is_some o) 1 0) (map entry_of ps) None ∙ add-zero _ in
      let more : at + 1 ≡ suc at = omega arith in
      rw more (record {
        linked = (first, found, chain-push ps (Free first) at first sound.linked);
        total = omega (arith, sound.total, live, length_push ps (Free first));
      })
