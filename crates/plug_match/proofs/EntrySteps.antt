-- Steps of a walk over entries.
use Rattle.std.proofs.Common.{◌≡◌, ◌∙◌, ap, sym, refl, ℕ, zero, suc, ◌+◌, ◌<◌, List, [], ◌∷◌, Bool, true, false, Option, Some, None, drop, get_or, length, arith}
use Rattle.std.proofs.lemmas.List.{at_drop_more}
use Rattle.comp_types.specs.Items.{Item, Entries, look_up}
use Rattle.comp_types.specs.Matching.{Pairs, GoesOn, onward, if_found, matched_item, matched_entries}
use Rattle.comp_types.specs.Views.{item_of, entries_of}
use Rattle.comp_types.specs.declared.types.InstanceEntry.{InstanceEntry}
use Rattle.comp_types.proofs.ValueLemmas.{was_true, was_false}

-- the entry at an index, whatever stands for those that are not there
pub same_entry : (es : List InstanceEntry) (i : ℕ) (x y : InstanceEntry) → i < length es → get_or es i x ≡ get_or es i y
same_entry [] i x y lt = absurd (omega (arith, lt))
same_entry (e ∷ es) zero x y lt = refl
same_entry (e ∷ es) (suc i) x y lt = same_entry es i x y (omega (arith, lt))

module _ (these : Entries) (es : List InstanceEntry) (i : ℕ) (x y : InstanceEntry) (lt : i < length es)
    (all : Option Pairs) (by : Pairs) (so_far : all ≡ matched_entries by these (entries_of (drop i es))) where
  abbrev item : Item
  item = item_of (get_or es i y).ty

  abbrev onto : Option Pairs → Option Pairs
  onto = onward (λ more. matched_entries more these (entries_of (drop (i + 1) es)))

  here : all ≡ onto (if_found (λ other. matched_item by other item) (look_up (get_or es i x).name these))
  here =
      so_far
      ∙ (at_drop_more (λ xs. matched_entries by these (entries_of xs)) es i y lt
      ∙ ap (λ (z : InstanceEntry). onto (if_found (λ other. matched_item by other item) (look_up z.name these))) (same_entry es i y x lt))

  module _ (other : Item) (found : Some other ≡ look_up (get_or es i x).name these) (new : Pairs) (same : Bool) (met : GoesOn same new (matched_item by other item)) where
    there : all ≡ onto (matched_item by other item)
    there = here ∙ ap (λ o. onto (if_found (λ other. matched_item by other item) o)) (sym found)

    pub walk_goes : same ≡ true → all ≡ matched_entries new these (entries_of (drop (i + 1) es))
    walk_goes e = there ∙ ap onto (was_true same new (matched_item by other item) met e)

    pub walk_stops : same ≡ false → all ≡ None
    walk_stops e = there ∙ ap onto (was_false same new (matched_item by other item) met e)
