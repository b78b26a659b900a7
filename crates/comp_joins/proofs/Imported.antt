-- What a component asks of its outside stands in its type.
use Rattle.std.proofs.Common.{◌≡◌, inl, inr, ℕ, [], ◌∷◌, Option, Some, None, refl, subst, arith}
use Rattle.wit_types.specs.Plain.{Name}
use Rattle.comp_grammar.specs.Trees.{Tree}
use Rattle.comp_types.specs.Items.{Item, Entries, FuncItem, InstanceItem, KindItem, ResourceKind, ValueKind, FuncKind, InstanceKind, End as NoEntries, More as Entry}
use Rattle.comp_worlds.specs.Groups.{Import, Target, Theirs, LoweredFunc}
use Rattle.comp_worlds.specs.Parts.{IsImportOf}
use Rattle.comp_worlds.proofs.Embedding.{LeadsTo}
use Rattle.comp_link.specs.Plans.{plan_of}
use Rattle.comp_link.specs.Linking.{Given, Givens, GivenFunc, GivenInstance, GivenResource, GivenType, find, outside, all_outside, instance_in, target_in, exported, linked, group_of}
use Rattle.comp_inside.specs.Linked.{PlanKnows, unmade}
use Rattle.comp_joins.specs.Holding.{ItemHolds, AllHold, SomeHolds, Holds}
use Rattle.comp_joins.specs.Joining.{imports_of, first_own, behind_own}
use Rattle.comp_joins.specs.Imported.{IsFunction, IsEntry, ValidAskEntries, ValidDropImported}
use Rattle.comp_joins.proofs.Held.{found_held, plan_held, canon_held, dropped_known}
use Rattle.comp_joins.proofs.Known.{names_known}

abbrev Any_resource : ℕ → Type 0
Any_resource r = Unit {0}

module _ (tree : Tree) where
  -- each function leads to an instance of the group, or to an entry
  abbrev Leads : Target → Type 0
  Leads target = LeadsTo (IsEntry [] (imports_of tree)) target

  mutual
    item_leads : (interface name : Name) (item : Item) → ((f : Import) → IsFunction interface name item f → IsEntry [] (imports_of tree) f) → ItemHolds Any_resource Leads (outside interface name item)
    item_leads interface name (FuncItem ty) each = each (record { interface = interface; function = name; ty = ty }) refl
    item_leads interface name (InstanceItem entries) each = entries_lead name entries each
    item_leads interface name (KindItem (ResourceKind r)) each = tt
    item_leads interface name (KindItem (ValueKind ty)) each = tt
    item_leads interface name (KindItem (FuncKind ty)) each = tt
    item_leads interface name (KindItem (InstanceKind own entries)) each = tt

    entries_lead : (interface : Name) (entries : Entries) → ((f : Import) → IsEntry interface entries f → IsEntry [] (imports_of tree) f) → AllHold Any_resource Leads (all_outside interface entries)
    entries_lead interface NoEntries each = tt
    entries_lead interface (Entry name item rest) each = (item_leads interface name item (λ f is. each f (inl is)), entries_lead interface rest (λ f is. each f (inr is)))

  all_lead : (to : ℕ → ℕ) → PlanKnows to (plan_of tree) (unmade tree) → Holds Any_resource Leads (linked tree)
  all_lead to know =
      plan_held Any_resource Leads to (first_own tree) (behind_own tree) (λ r lo hi. tt) (λ m func os ty brought held. tt) (plan_of tree) (unmade tree) know (omega arith) (omega arith)
      (entries_lead [] (imports_of tree) (λ f is. is), tt, tt, tt, tt, tt)

  -- what stands in a list that leads so, by its name
  found_leads : (gs : Givens) → AllHold Any_resource Leads gs → (name : Name) (f : Import) → target_in (find name gs) ≡ Some (Theirs f) → IsEntry [] (imports_of tree) f
  found_leads gs h name f is = at (find name gs) (found_held Any_resource Leads name gs h) is
    where
      leads : Option Target → Type 0
      leads None = Unit {0}
      leads (Some target) = Leads target

      at : (o : Option Given) → SomeHolds Any_resource Leads o → target_in o ≡ Some (Theirs f) → IsEntry [] (imports_of tree) f
      at None k is' = absurd (let q : None ≡ Some (Theirs f) = is' in cc)
      at (Some (GivenFunc target)) k is' = subst leads is' k
      at (Some (GivenInstance items)) k is' = absurd (let q : None ≡ Some (Theirs f) = is' in cc)
      at (Some (GivenResource r)) k is' = absurd (let q : None ≡ Some (Theirs f) = is' in cc)
      at (Some GivenType) k is' = absurd (let q : None ≡ Some (Theirs f) = is' in cc)

  -- an export of what is given so
  exported_leads : (gs : Givens) → AllHold Any_resource Leads gs → (interface name : Name) (f : Import) → target_in (exported gs interface name) ≡ Some (Theirs f) → IsEntry [] (imports_of tree) f
  exported_leads gs h [] name f is = found_leads gs h name f is
  exported_leads gs h (c ∷ cs) name f is = within (find (c ∷ cs) gs) (found_held Any_resource Leads (c ∷ cs) gs h) is
    where
      within : (o : Option Given) → SomeHolds Any_resource Leads o → target_in (find name (instance_in o)) ≡ Some (Theirs f) → IsEntry [] (imports_of tree) f
      within (Some (GivenInstance items)) k is' = found_leads items k name f is'
      within None k is' = absurd (let q : None ≡ Some (Theirs f) = is' in cc)
      within (Some (GivenFunc target)) k is' = absurd (let q : None ≡ Some (Theirs f) = is' in cc)
      within (Some (GivenResource r)) k is' = absurd (let q : None ≡ Some (Theirs f) = is' in cc)
      within (Some GivenType) k is' = absurd (let q : None ≡ Some (Theirs f) = is' in cc)

  imports_are_entries : (to : ℕ → ℕ) → PlanKnows to (plan_of tree) (unmade tree) → (f : Import) → IsImportOf (group_of tree) f → IsEntry [] (imports_of tree) f
  imports_are_entries to know f (inl (k, n, options, is)) = canon_held Any_resource Leads (linked tree).whole.canons k n (LoweredFunc (Theirs f) options) (all_lead to know).4 is
  imports_are_entries to know f (inr (interface, name, is)) = exported_leads (linked tree).exports (all_lead to know).2 interface name f is

pub ask_entries : ValidAskEntries
ask_entries c valid defines f is = imports_are_entries c (λ r. r) (names_known c valid defines) f is

pub drop_imported : ValidDropImported
drop_imported c valid defines r drops none = dropped_known (λ r. r) c (names_known c valid defines) r drops none
