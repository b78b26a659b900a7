-- Items and entries with other resources, which the table has that was made with them.
use Rattle.std.proofs.Common.{◌≡◌, ◌∙◌, ap, sym, subst, ℕ, ◌+◌, ◌<◌, List, [], ◌∷◌, ◌++◌, take, get_or, length}
use Rattle.std.proofs.lemmas.List.{take_more}
use Rattle.wit_types.specs.Plain.{Name}
use Rattle.comp_types.specs.Items.{Item, Entries, and_entry}
use Rattle.comp_types.specs.Substitution.{item_with, entries_with}
use Rattle.comp_types.specs.Views.{item_of, entries_of}
use Rattle.comp_types.specs.declared.types.InstanceEntry.{InstanceEntry}
use Rattle.comp_types.proofs.ItemsWith.{with_more}
use Rattle.type_table.specs.Tables.{Types, HasItem, HasEntries, Grew}
use Rattle.type_table.proofs.HasLaws.{grew_then, item-grew, entries-grew, and_entry-has}
use Rattle.type_relations.proofs.EntrySteps.{entry-has}

-- one entry more
module _ (T U V : Types) (es : List InstanceEntry) (i : ℕ) (x : InstanceEntry) (lt : i < length es) (x_is : x ≡ get_or es i x) (so_far : HasEntries T (entries_of es) → Grew T U) where
  entry_had : HasEntries T (entries_of es) → HasItem U (item_of x.ty)
  entry_had h = item-grew T U (item_of x.ty) (so_far h) (subst (λ (z : InstanceEntry). HasItem T (item_of z.ty)) (sym x_is) (entry-has T es i x lt h))

  module _ (step : HasItem U (item_of x.ty) → Grew U V) where
    pub entry_grew : HasEntries T (entries_of es) → Grew T V
    entry_grew h = grew_then T U V (so_far h) (step (entry_had h))

    module _ (f : ℕ → ℕ) (new made : Entries) (name : Name) (item : Item)
        (before : HasEntries T (entries_of es) → (new ≡ entries_with f (entries_of (take i es))) × HasEntries U new)
        (one : HasItem U (item_of x.ty) → (item ≡ item_with f (item_of x.ty)) × HasItem V item) (name_is : name ≡ x.name) (pushed : made ≡ and_entry new name item) where
      more_is : take (i + 1) es ≡ take i es ++ x ∷ []
      more_is = take_more es i x lt ∙ ap (λ z. take i es ++ z ∷ []) (sym x_is)

      pub entry_made : HasEntries T (entries_of es) → (made ≡ entries_with f (entries_of (take (i + 1) es))) × HasEntries V made
      entry_made h =
          let so = before h in
          let it = one (entry_had h) in (
            with_more f (take i es) x new made name item pushed name_is it.0 so.0 ∙ ap (λ l. entries_with f (entries_of l)) (sym more_is),
            subst (HasEntries V) (sym pushed) (and_entry-has V new name item (entries-grew U V new (step (entry_had h)) so.1) it.1),
          )
