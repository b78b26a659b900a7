-- Substitution in items by the lists of their parts, and items that speak of no resource.
use Rattle.std.proofs.Common.{◌≡◌, ◌∙◌, ap, sym, refl, ℕ, List, [], ◌∷◌, ◌++◌, Bool, true, false, map}
use Rattle.std.specs.Prelude.{◌||◌}
use Rattle.std.proofs.lemmas.Bool.{false≢true}
use Rattle.wit_types.specs.Plain.{Name}
use Rattle.comp_types.specs.Items.{Item, Kind, Entries, FuncItem, InstanceItem, KindItem, ResourceKind, ValueKind, FuncKind, InstanceKind, End, More, and_entry}
use Rattle.comp_types.specs.Resources.{is_some_resource, item_has_resource, kind_has_resource, entries_have_resource}
use Rattle.comp_types.specs.Substitution.{item_with, kind_with, entries_with}
use Rattle.comp_types.specs.Views.{item_of, entries_of}
use Rattle.comp_types.specs.declared.types.InstanceEntry.{InstanceEntry}
use Rattle.comp_types.proofs.EntryLemmas.{entries_of-push}
use Rattle.comp_types.proofs.FactsWith.{value-stays, func-stays}

module _ (f : ℕ → ℕ) where
  with-and : (es : Entries) (n : Name) (i : Item) → entries_with f (and_entry es n i) ≡ and_entry (entries_with f es) n (item_with f i)
  with-and End n i = refl
  with-and (More m j rest) n i = ap (More m (item_with f j)) (with-and rest n i)

  -- one more entry
  pub with-push : (es : List InstanceEntry) (e : InstanceEntry) (new : Entries) → new ≡ entries_with f (entries_of es) → and_entry new e.name (item_with f (item_of e.ty)) ≡ entries_with f (entries_of (es ++ e ∷ []))
  with-push es e new h =
      ap (λ all. and_entry all e.name (item_with f (item_of e.ty))) h ∙ (sym (with-and (entries_of es) e.name (item_of e.ty)) ∙ ap (entries_with f) (sym (entries_of-push es e)))

  pub with_more : (es : List InstanceEntry) (x : InstanceEntry) (new made : Entries) (name : Name) (item : Item) → made ≡ and_entry new name item → name ≡ x.name → item ≡ item_with f (item_of x.ty)
      → new ≡ entries_with f (entries_of es) → made ≡ entries_with f (entries_of (es ++ x ∷ []))
  with_more es x new made name item e n i h =
      e ∙ (ap (λ m. and_entry new m item) n ∙ (ap (and_entry new x.name) i ∙ with-push es x new h))

  -- ---- items that speak of no resource

  neither : (a b : Bool) → (a || b) ≡ false → (a ≡ false) × (b ≡ false)
  neither true b h = absurd (false≢true (sym h))
  neither false b h = (refl, h)

  none-with : (own : List ℕ) → is_some_resource own ≡ false → map f own ≡ own
  none-with [] h = refl
  none-with (r ∷ rs) h = absurd (false≢true (sym h))

  mutual
    pub item-stays : (i : Item) → item_has_resource i ≡ false → item_with f i ≡ i
    item-stays (FuncItem ty) h = ap FuncItem (func-stays f ty h)
    item-stays (InstanceItem es) h = ap InstanceItem (entries-stay es h)
    item-stays (KindItem k) h = ap KindItem (kind-stays k h)

    pub kind-stays : (k : Kind) → kind_has_resource k ≡ false → kind_with f k ≡ k
    kind-stays (ResourceKind r) h = absurd (false≢true (sym h))
    kind-stays (ValueKind ty) h = ap ValueKind (value-stays f ty h)
    kind-stays (FuncKind ty) h = ap FuncKind (func-stays f ty h)
    kind-stays (InstanceKind own es) h =
        let e = neither (is_some_resource own) (entries_have_resource es) h in (λ i. InstanceKind (none-with own e.0 i) (entries-stay es e.1 i))

    pub entries-stay : (es : Entries) → entries_have_resource es ≡ false → entries_with f es ≡ es
    entries-stay End h = refl
    entries-stay (More n i rest) h =
        let e = neither (item_has_resource i) (entries_have_resource rest) h in (λ j. More n (item-stays i e.0 j) (entries-stay rest e.1 j))
