-- All is made: what the component exports can be called.
use Rattle.std.proofs.Common.{◌≡◌, ◌∙◌, ap, sym, subst, ℕ, ◌<◌, List, [], ◌∷◌, cond, Option, Some, None, Bool, true, false, arith, slice_get}
use Rattle.std.proofs.lemmas.Option.{none-some}
use Rattle.host_port.specs.Hosts.{HostStep}
use Rattle.wit_types.specs.Plain.{Name}
use Rattle.comp_types.specs.GivenResources.{named_in_func}
use Rattle.comp_types.specs.Items.{same_name}
use Rattle.comp_worlds.specs.Groups.{Target, Mine, Theirs}
use Rattle.comp_link.specs.Linking.{Given as GroupGiven, Givens, GivenFunc, GivenInstance, GivenResource, GivenType, Nothing, Giving, find, target_in, instance_in, exported, Making, owner_in}
use Rattle.comp_joins.specs.Holding.{AllHold, SomeHolds}
use Rattle.comp_joins.proofs.Names.{each_then}
use Rattle.comp_link.specs.declared.linked.Linked.{Linked}
use Rattle.comp_joins.specs.Settled.{TargetNames, IsOwnedAlike}
use Rattle.call_moments.specs.Fits.{scenes_of}
use Rattle.call_moments.specs.Leads.{Moment}
use Rattle.instance_making.specs.declared.named.Named.{Named}
use Rattle.instance_making.specs.declared.given.Given.{Given}
use Rattle.instance_making.specs.Made.{Holds}
use Rattle.comp_interp.specs.declared.level.Level.{Level}
use Rattle.comp_interp.specs.Parts.{part_items}
use Rattle.comp_interp.specs.Gathered.{AreDone}
use Rattle.comp_link.specs.Groups.{making_of, linked_group}
use Rattle.comp_interp.specs.Standing.{TargetStands}
use Rattle.comp_interp.specs.Between.{Stood}
use Rattle.comp_interp.specs.Going.{IsAllMade}
use Rattle.comp_interp.proofs.Completing.{plan_done}
use Rattle.comp_interp.proofs.Fitted.{target_fits, is_at_rest}

-- ---- a function that is exported is one of those that are given out

module _ (P : ℕ → Type 0) (T : Target → Type 0) where
  found_holds : (name : Name) (gs : Givens) → AllHold P T gs → SomeHolds P T (find name gs)
  found_holds name Nothing h = tt
  found_holds name (Giving n item rest) h = go (same_name n name) (found_holds name rest h.1)
    where
      go : (b : Bool) → SomeHolds P T (find name rest) → SomeHolds P T (cond b (Some item) (find name rest))
      go true later = h.0
      go false later = later

  inside_holds : (o : Option GroupGiven) → SomeHolds P T o → AllHold P T (instance_in o)
  inside_holds None h = tt
  inside_holds (Some (GivenFunc target)) h = tt
  inside_holds (Some (GivenInstance items)) h = h
  inside_holds (Some (GivenResource r)) h = tt
  inside_holds (Some GivenType) h = tt

  exported_holds : (exports : Givens) (interface name : Name) → AllHold P T exports → SomeHolds P T (exported exports interface name)
  exported_holds exports [] name h = found_holds name exports h
  exported_holds exports (c ∷ cs) name h = found_holds name (instance_in (find (c ∷ cs) exports)) (inside_holds (find (c ∷ cs) exports) (found_holds (c ∷ cs) exports h))

  target_holds : (o : Option GroupGiven) (target : Target) → SomeHolds P T o → target_in o ≡ Some target → T target
  target_holds None target h e = absurd (none-some target e)
  target_holds (Some (GivenFunc t)) target h e = let same : t ≡ target = cc in subst T same h
  target_holds (Some (GivenInstance items)) target h e = absurd (none-some target e)
  target_holds (Some (GivenResource r)) target h e = absurd (none-some target e)
  target_holds (Some GivenType) target h e = absurd (none-some target e)

  pub export_holds : (exports : Givens) (interface name : Name) (target : Target) → AllHold P T exports → target_in (exported exports interface name) ≡ Some target → T target
  export_holds exports interface name target h e = target_holds (exported exports interface name) target (exported_holds exports interface name h) e

-- ---- the outermost plan is done

module _ {S : Type 0} (h : HostStep S) (linked : Linked) (first : Moment S) (listed : List (Named Given)) (l : Level) (m : Moment S) (s : Stood h linked first listed [] l m) (ended : slice_get (part_items linked l.part) l.at ≡ None) where
  abbrev final : Making
  final = making_of linked

  all_made : s.between.g ≡ final
  all_made = sym (plan_done linked l s.between.g ended) ∙ s.between.complete

  abbrev Less : ℕ → Type 0
  Less r = r < s.between.g.whole.next_resource

  -- a group is owned as it is itself
  alike : (t : Target) → TargetNames Less t → TargetNames (IsOwnedAlike s.between.g.whole final.whole) t
  alike (Mine k lifting) names = each_then Less (IsOwnedAlike s.between.g.whole final.whole) (λ r less. ap (λ (g : Making). owner_in g.whole.owners r) all_made) (named_in_func lifting.ty) names
  alike (Theirs import) names = tt

  pub whole_ready : IsAllMade h linked first listed l.making.exports m
  whole_ready =
      let b = s.between in
      record {
        ready = record {
          before = b.before;
          made = b.gathers.made;
          holds = subst (λ (g : Making). Holds b.before l.making.exports g.exports) all_made b.gathers.stands.exports;
          rest = is_at_rest linked listed [] l m b h;
          fits = λ interface name target is.
              let at : target_in (exported b.g.exports interface name) ≡ Some target = ap (λ (g : Making). target_in (exported g.exports interface name)) all_made ∙ is in
              target_fits linked listed [] l m b target (export_holds (λ r. Unit {0}) (TargetStands (scenes_of m.instances)) b.g.exports interface name target b.called.2 at)
              (alike target (export_holds Less (TargetNames Less) b.g.exports interface name target (b.below b.g.whole.next_resource (omega arith)).2 at));
        };
        done = subst (λ (g : Making). AreDone h (linked_group linked) g.whole.stages first m) all_made s.done;
      }
