-- A handle map that a table shows stays one, and its indexes fit 32 bits.
use Rattle.std.proofs.Common.{◌≡◌, ℕ, zero, suc, ◌+◌, ◌-◌, ◌<◌, ◌≤◌, ◌^◌, ◌==◌, ◌&&◌, List, [], ◌∷◌, ◌++◌, map, length, count_by, Option, Some, None, is_some, IsSome, Bool, true, false, cond, refl, sym, ap, subst, ◌∙◌, arith, ⊎_elim, set, length-append}
use Rattle.std.specs.Option.{option_and_then}
use Rattle.std.proofs.lemmas.Bool.{eq-eqb, cases_lt}
use Rattle.std.proofs.lemmas.List.{length-map, map-append}
use Rattle.std.proofs.lemmas.List.Sums.{sum_by-append, sum_by-cons}
use Rattle.std.proofs.lemmas.Option.{slice_get_within}
use Rattle.handle_space.specs.declared.cell.Cell.{Cell}
use Rattle.handle_space.specs.declared.cell.Cell.TheVariants.{Free, Own}
use Rattle.handle_space.specs.HandleMap.{Entry, HandleMap, Answered, most_live, live_count, entry_at, own_entry, answered, without, added, add, take_own}
use Rattle.handle_space.specs.Shown.{entry_in, IsSound, shown}
use Rattle.handle_space.proofs.Cells.{sound-reuse, reuse_added, remove_sound, remove_shown}
use Rattle.adapter_compile.specs.Handles.{IsTable}

-- what an answer is made of
answer_is : (a b : ℕ) (m n : HandleMap ℕ) → Some (answered a m) ≡ Some (answered b n) → a ≡ b
answer_is a b m n e = ap (λ (o : Option (Answered ℕ ℕ)). index_in o) e
  where
    index_in : Option (Answered ℕ ℕ) → ℕ
    index_in None = 0
    index_in (Some x) = x.answer

map_is : (a b : ℕ) (m n : HandleMap ℕ) → Some (answered a m) ≡ Some (answered b n) → m ≡ n
map_is a b m n e = ap (λ (o : Option (Answered ℕ ℕ)). map_in o) e
  where
    map_in : Option (Answered ℕ ℕ) → HandleMap ℕ
    map_in None = m
    map_in (Some x) = x.map

-- one more cell
pushed_sound : (cells : List Cell) (resource rep : ℕ) → IsSound cells None 0 → length cells < most_live → IsSound (cells ++ Own resource rep 0 ∷ []) None 0
pushed_sound cells resource rep sound few = record {
  linked = tt;
  total = omega (arith, sound.total, ap (count_by is_some) (map-append entry_in cells (Own resource rep 0 ∷ [])), sum_by-append (λ o. cond (is_some o) 1 0) (map entry_in cells) (Some (own_entry resource rep) ∷ []), length-append cells (Own resource rep 0 ∷ []));
  few = omega (arith, few, length-append cells (Own resource rep 0 ∷ []));
}

pushed_shown : (cells : List Cell) (resource rep : ℕ) → shown (cells ++ Own resource rep 0 ∷ []) None 0 ≡ record { entries = (None ∷ map entry_in cells) ++ Some (own_entry resource rep) ∷ []; freed = [] }
pushed_shown cells resource rep = ap (λ es. let m : HandleMap ℕ = record { entries = None ∷ es; freed = [] } in m) (map-append entry_in cells (Own resource rep 0 ∷ []))

pushed_table : (cells : List Cell) (resource rep index : ℕ) (h' : HandleMap ℕ) (full : Bool) → IsSound cells None 0 → (full ≡ false → length cells < most_live) →
    cond full None (Some (added (own_entry resource rep) (None ∷ map entry_in cells) [])) ≡ Some (answered index h') → (index < 2 ^ 32) × IsTable h'
pushed_table cells resource rep index h' true sound room e = absurd (cc)
pushed_table cells resource rep index h' false sound room e =
    let at : suc (length (map entry_in cells)) ≡ index = answer_is _ index _ h' e in
    let is = map_is _ index _ h' e in (
      omega (arith, at, length-map cells entry_in, room refl),
      (cells ++ Own resource rep 0 ∷ [], None, 0, pushed_sound cells resource rep sound (room refl), sym is ∙ sym (pushed_shown cells resource rep)),
    )

added_table : (cells : List Cell) (freed : Option ℕ) (free resource rep index : ℕ) (h' : HandleMap ℕ) → IsSound cells freed free → add (shown cells freed free) (own_entry resource rep) ≡ Some (answered index h') → (index < 2 ^ 32) × IsTable h'
added_table cells None zero resource rep index h' sound e =
    let counted : live_count (shown cells None 0) ≡ length cells = sum_by-cons (λ o. cond (is_some o) 1 0) None (map entry_in cells) ∙ sound.total in
    pushed_table cells resource rep index h' (live_count (shown cells None 0) == most_live) sound
    (λ no'. ne_eqb_lt (live_count (shown cells None 0)) (length cells) counted sound.few no')
    e
  where
    ne_eqb_lt : (live n : ℕ) → live ≡ n → n ≤ most_live → (live == most_live) ≡ false → n < most_live
    ne_eqb_lt live n same le no' = ⊎_elim (λ lt. lt) (λ ge. let full : live ≡ most_live = omega (arith, same, le, ge) in let yes' = eq-eqb live most_live full in absurd (cc)) (cases_lt n most_live)
added_table cells None (suc free) resource rep index h' sound e = absurd sound.linked
added_table cells (Some at) zero resource rep index h' sound e = absurd sound.linked
added_table cells (Some at) (suc free) resource rep index h' sound e =
    let p = sound.linked in
    let within = slice_get_within cells at _ p.1 in
    let all : Some (add (shown cells (Some at) (suc free)) (own_entry resource rep)) ≡ Some (Some (answered (at + 1) (shown (set cells at (Own resource rep 0)) p.0 (suc free - 1)))) = reuse_added cells at (suc free) p.0 (Own resource rep 0) p.1 refl sound in
    let same : add (shown cells (Some at) (suc free)) (own_entry resource rep) ≡ Some (answered (at + 1) (shown (set cells at (Own resource rep 0)) p.0 (suc free - 1))) = cc in
    let index_is = answer_is _ index _ h' (sym same ∙ e) in
    let is = map_is _ index _ h' (sym same ∙ e) in (
      omega (arith, index_is, within, sound.few),
      (set cells at (Own resource rep 0), p.0, suc free - 1, sound-reuse cells at (suc free) p.0 (Own resource rep 0) p.1 refl sound, sym is),
    )

pub add_table : (h : HandleMap ℕ) (resource rep index : ℕ) (h' : HandleMap ℕ) → IsTable h → add h (own_entry resource rep) ≡ Some (answered index h') → (index < 2 ^ 32) × IsTable h'
add_table h resource rep index h' (cells, freed, free, sound, is) e =
    added_table cells freed free resource rep index h' sound (ap (λ m. add m (own_entry resource rep)) (sym is) ∙ e)

-- a handle that was there is taken out
removed_table : (cells : List Cell) (freed : Option ℕ) (free index : ℕ) (h' : HandleMap ℕ) → IsSound cells freed free → IsSome (entry_at (shown cells freed free) index) → without (shown cells freed free) index ≡ h' → IsTable h'
removed_table cells freed free index h' sound live e =
    (set cells (index - 1) (Free freed), Some (index - 1), free + 1, remove_sound cells index freed free live sound, sym e ∙ sym (remove_shown cells index freed free live sound))

idle_table : (cells : List Cell) (freed : Option ℕ) (free index rep : ℕ) (h' : HandleMap ℕ) (r : ℕ) (idle : Bool) → IsSound cells freed free → IsSome (entry_at (shown cells freed free) index) →
    cond idle (Some (answered r (without (shown cells freed free) index))) None ≡ Some (answered rep h') → IsTable h'
idle_table cells freed free index rep h' r true sound live e = removed_table cells freed free index h' sound live (map_is r rep _ h' e)
idle_table cells freed free index rep h' r false sound live e = absurd (cc)

same_table : (cells : List Cell) (freed : Option ℕ) (free index rep : ℕ) (h' : HandleMap ℕ) (x : Entry ℕ) (same : Bool) → IsSound cells freed free → IsSome (entry_at (shown cells freed free) index) →
    option_and_then (λ (e : Entry ℕ). cond (e.owned && e.lent == 0) (Some (answered e.rep (without (shown cells freed free) index))) None) (cond same (Some x) None) ≡ Some (answered rep h') → IsTable h'
same_table cells freed free index rep h' x true sound live e = idle_table cells freed free index rep h' x.rep (x.owned && x.lent == 0) sound live e
same_table cells freed free index rep h' x false sound live e = absurd (cc)

found_table : (cells : List Cell) (freed : Option ℕ) (free index resource rep : ℕ) (h' : HandleMap ℕ) (o : Option (Entry ℕ)) → IsSound cells freed free → entry_at (shown cells freed free) index ≡ o →
    option_and_then (λ (e : Entry ℕ). cond (e.owned && e.lent == 0) (Some (answered e.rep (without (shown cells freed free) index))) None) (option_and_then (λ (e : Entry ℕ). cond (e.resource == resource) (Some e) None) o) ≡ Some (answered rep h') → IsTable h'
found_table cells freed free index resource rep h' None sound is e = absurd (cc)
found_table cells freed free index resource rep h' (Some x) sound is e =
    same_table cells freed free index rep h' x (x.resource == resource) sound (subst (λ (o : Option (Entry ℕ)). IsSome o) (sym is) refl) e

taken_table : (cells : List Cell) (freed : Option ℕ) (free index resource rep : ℕ) (h' : HandleMap ℕ) → IsSound cells freed free → take_own (shown cells freed free) index resource ≡ Some (answered rep h') → IsTable h'
taken_table cells freed free index resource rep h' sound e = found_table cells freed free index resource rep h' (entry_at (shown cells freed free) index) sound refl e

pub take_table : (h : HandleMap ℕ) (index resource rep : ℕ) (h' : HandleMap ℕ) → IsTable h → take_own h index resource ≡ Some (answered rep h') → IsTable h'
take_table h index resource rep h' (cells, freed, free, sound, is) e =
    taken_table cells freed free index resource rep h' sound (ap (λ m. take_own m index resource) (sym is) ∙ e)
