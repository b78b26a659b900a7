-- Items that speak of no resource name none.
use Rattle.std.proofs.Common.{◌≡◌, ◌∙◌, ap, refl, sym, [], ◌++◌, Bool, true, false}
use Rattle.std.specs.Prelude.{◌||◌}
use Rattle.std.proofs.lemmas.Bool.{false≢true}
use Rattle.comp_types.specs.Items.{Item, Kind, Entries, FuncItem, InstanceItem, KindItem, ResourceKind, ValueKind, FuncKind, InstanceKind, End, More}
use Rattle.comp_types.specs.Resources.{is_some_resource, item_has_resource, kind_has_resource, entries_have_resource}
use Rattle.comp_types.specs.GivenResources.{without, named_in, named_in_item, named_in_kind}
use Rattle.type_relations.proofs.ValueLemmas.{value-nothing, func-nothing}

either_false : (a b : Bool) → (a || b) ≡ false → (a ≡ false) × (b ≡ false)
either_false true b h = absurd (false≢true (sym h))
either_false false b h = (refl, h)

mutual
  pub item-nothing : (i : Item) → item_has_resource i ≡ false → named_in_item i ≡ []
  item-nothing (FuncItem ty) h = func-nothing ty h
  item-nothing (InstanceItem es) h = entries-nothing es h
  item-nothing (KindItem k) h = kind-nothing k h

  pub kind-nothing : (k : Kind) → kind_has_resource k ≡ false → named_in_kind k ≡ []
  kind-nothing (ResourceKind r) h = absurd (false≢true (sym h))
  kind-nothing (ValueKind ty) h = value-nothing ty h
  kind-nothing (FuncKind ty) h = func-nothing ty h
  kind-nothing (InstanceKind own es) h =
      let e = either_false (is_some_resource own) (entries_have_resource es) h in ap (without own) (entries-nothing es e.1)

  pub entries-nothing : (es : Entries) → entries_have_resource es ≡ false → named_in es ≡ []
  entries-nothing End h = refl
  entries-nothing (More n i rest) h =
      let e = either_false (item_has_resource i) (entries_have_resource rest) h in ap (λ xs. xs ++ named_in rest) (item-nothing i e.0) ∙ entries-nothing rest e.1
