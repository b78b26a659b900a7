-- Steps of walks over entries, where a table has the value types that stand in these.
use Rattle.std.proofs.Common.{◌≡◌, ◌∙◌, ap, sym, refl, ℕ, zero, suc, ◌+◌, ◌<◌, List, [], ◌∷◌, Bool, true, false, Option, Some, None, drop, get_or, length, arith}
use Rattle.std.proofs.lemmas.List.{at_drop_more}
use Rattle.wit_types.specs.Plain.{Name}
use Rattle.comp_types.specs.Items.{Item, Entries, More, look_up}
use Rattle.comp_types.specs.Matching.{Pairs, GoesOn, onward, if_found}
use Rattle.comp_types.specs.Views.{item_of, entries_of}
use Rattle.comp_types.specs.declared.types.InstanceEntry.{InstanceEntry}
use Rattle.comp_types.proofs.ValueLemmas.{was_true, was_false}
use Rattle.type_table.specs.Tables.{Types, HasItem, HasEntries}
use Rattle.type_table.proofs.HasLaws.{found-has}
use Rattle.type_relations.proofs.SameTables.{item_kept}

pub entry-has : (T : Types) (es : List InstanceEntry) (i : ℕ) (d : InstanceEntry) → i < length es → HasEntries T (entries_of es) → HasItem T (item_of (get_or es i d).ty)
entry-has T [] i d lt h = absurd (omega (arith, lt))
entry-has T (e ∷ es) zero d lt h = h.0
entry-has T (e ∷ es) (suc i) d lt h = entry-has T es i d (omega (arith, lt)) h.1

-- the entry at an index, whatever stands for those that are not there
pub same_entry : (es : List InstanceEntry) (i : ℕ) (x y : InstanceEntry) → i < length es → get_or es i x ≡ get_or es i y
same_entry [] i x y lt = absurd (omega (arith, lt))
same_entry (e ∷ es) zero x y lt = refl
same_entry (e ∷ es) (suc i) x y lt = same_entry es i x y (omega (arith, lt))

-- A walk that takes a step with each entry and the item that these entries have under its name.
module _ (T : Types) (these : Entries) (step : Pairs → Item → Item → Option Pairs) (walk : Pairs → Entries → Option Pairs)
    (goes : (by : Pairs) (name : Name) (item : Item) (rest : Entries) → walk by (More name item rest) ≡ onward (λ more. walk more rest) (if_found (λ other. step by other item) (look_up name these)))
    (es : List InstanceEntry) (i : ℕ) (x y : InstanceEntry) (lt : i < length es)
    (all : Option Pairs) (by : Pairs) (so_far : HasEntries T these → HasEntries T (entries_of es) → all ≡ walk by (entries_of (drop i es))) where
  abbrev item : Item
  item = item_of (get_or es i y).ty

  abbrev onto : Option Pairs → Option Pairs
  onto = onward (λ more. walk more (entries_of (drop (i + 1) es)))

  here : HasEntries T these → HasEntries T (entries_of es) → all ≡ onto (if_found (λ other. step by other item) (look_up (get_or es i x).name these))
  here h k =
      so_far h k
      ∙ (at_drop_more (λ xs. walk by (entries_of xs)) es i y lt
      ∙ (goes by (get_or es i y).name item (entries_of (drop (i + 1) es))
      ∙ ap (λ (z : InstanceEntry). onto (if_found (λ other. step by other item) (look_up z.name these))) (same_entry es i y x lt)))

  module _ (U : Types) (kept : U ≡ T) (other : Item) (found : Some other ≡ look_up (get_or es i x).name these) (new : Pairs) (same : Bool)
      (met : HasItem U other → HasItem U item → GoesOn same new (step by other item)) where
    there : HasEntries T these → HasEntries T (entries_of es) → all ≡ onto (step by other item)
    there h k = here h k ∙ ap (λ o. onto (if_found (λ other. step by other item) o)) (sym found)

    stepped : HasEntries T these → HasEntries T (entries_of es) → GoesOn same new (step by other item)
    stepped h k = item_kept T U kept other item (GoesOn same new (step by other item)) met (found-has T (get_or es i x).name these other (sym found) h) (entry-has T es i y lt k)

    pub walk_goes : same ≡ true → HasEntries T these → HasEntries T (entries_of es) → all ≡ walk new (entries_of (drop (i + 1) es))
    walk_goes e h k = there h k ∙ ap onto (was_true same new (step by other item) (stepped h k) e)

    pub walk_stops : same ≡ false → HasEntries T these → HasEntries T (entries_of es) → all ≡ None
    walk_stops e h k = there h k ∙ ap onto (was_false same new (step by other item) (stepped h k) e)
