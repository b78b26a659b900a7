-- An item of the innermost plan was made: the assembly stands between two items again.
use Rattle.std.proofs.Common.{◌≡◌, ◌∙◌, ap, sym, refl, subst, ℕ, ◌≤◌, nat_eq, List, [], ◌∷◌, ◌++◌, length, set, Some, append-nil, arith, slice_get}
use Rattle.std.proofs.lemmas.List.{length-map}
use Rattle.indexmap.specs.IndexMap.{get}
use Rattle.core_store.specs.State.{State}
use Rattle.core_store.specs.Scene.{Scene, scene_of}
use Rattle.comp_types.specs.GivenResources.{numbered}
use Rattle.comp_link.specs.Plans.{Planned, Then}
use Rattle.comp_link.specs.Linking.{Givens, Whole, Making, link, link_item, canon_in, owner_in}
use Rattle.comp_link.specs.declared.linked.Linked.{Linked}
use Rattle.comp_joins.specs.Growing.{Grows}
use Rattle.comp_joins.proofs.Below.{stay_below}
use Rattle.comp_joins.proofs.Growing.{grows_then, item_grows}
use Rattle.call_moments.specs.Fits.{scenes_of}
use Rattle.call_moments.specs.Leads.{Moment}
use Rattle.instance_making.specs.declared.named.Named.{Named}
use Rattle.instance_making.specs.declared.given.Given.{Given}
use Rattle.instance_making.specs.declared.making.Making.{Making as CodeMaking}
use Rattle.instance_making.specs.Shown.{Stands as StandsFor}
use Rattle.comp_interp.specs.declared.level.Level.{Level}
use Rattle.comp_interp.specs.Completing.{plan_left, own_held, completed, OuterGo}
use Rattle.comp_interp.specs.Parts.{part_own, part_limit}
use Rattle.comp_interp.specs.Gathered.{scene_at, HasOwn, HasWhole, LeavesOthers, Made}
use Rattle.comp_interp.specs.Outer.{AreApart}
use Rattle.comp_interp.specs.Standing.{AllCalled, TargetStands, Stands}
use Rattle.comp_interp.specs.Between.{PlanGoes, PlanWaits, AllWait, IsThere, Between, BetweenWith}
use Rattle.comp_interp.proofs.Completing.{completed_alike, outer_alike}
use Rattle.comp_interp.proofs.Fitting.{Grew}
use Rattle.comp_interp.proofs.Gathering.{some_same}
use Rattle.comp_interp.proofs.Lists.{by_number, set_here, set_there, set_same, same_lists}
use Rattle.comp_interp.proofs.Outer.{outside_stay}
use Rattle.comp_interp.proofs.Standing.{target_still}
use Rattle.comp_interp.proofs.Targets.{LiftedHolds, made_called, called_then}

pub grew_same : (w : Scene) → Grew w w
grew_same w = record { more = []; functions = sym (append-nil w.functions); memories = omega arith }

pub same_own : (linked : Linked) (l l' : Level) → l'.part ≡ l.part → l'.first ≡ l.first → own_held linked l' ≡ own_held linked l
same_own linked l l' part first = ap (λ p. numbered (part_own linked p) l'.first) part ∙ ap (λ n. numbered (part_own linked l.part) n) first

-- ---- what stands outside, where stores grew

module _ (ss ts : List Scene) (grew : (k : ℕ) (w : Scene) → slice_get ss k ≡ Some w → (v : Scene) × (slice_get ts k ≡ Some v) × Grew w v) (longer : length ss ≤ length ts) where
  pub called_still : (g : Making) → AllCalled (TargetStands ss) g → AllCalled (TargetStands ts) g
  called_still g h = called_then (TargetStands ss) (TargetStands ts) (target_still ss ts grew longer) g h

  pub all_wait : (w w' : Whole) → Grows w w' → (gs : List Making) → AllWait ss w gs → AllWait ts w' gs
  all_wait w w' more [] h = tt
  all_wait w w' more (g ∷ gs) h = ((h.0.0, grows_then g.whole w w' h.0.1 more, called_still g h.0.2), all_wait w w' more gs h.1)

-- ---- the stores, once something was made

module _ {S : Type 0} (before : List Givens) (old new : Moment S) (listed : List (Named Given)) (l : CodeMaking) (g next : Making) (own : HasOwn old g) (made : Made before old new listed l next) where
  pub longer : HasWhole old g.whole → Grows g.whole next.whole → length (scenes_of old.instances) ≤ length (scenes_of new.instances)
  longer whole more =
      let a : length (scenes_of old.instances) ≡ length old.instances = simp (length-map) in
      let b : length (scenes_of new.instances) ≡ length new.instances = simp (length-map) in
      let c : length old.instances ≡ g.whole.next_instance = whole.instances in
      let d : length new.instances ≡ next.whole.next_instance = made.gathers.whole.instances in
      let le : g.whole.next_instance ≤ next.whole.next_instance = more.instances in
      omega (arith, a, b, c, d, le)

  module _ (here : next.instance ≡ g.instance) where
    store_before : scene_at old.instances next.instance ≡ Some (scene_of g.shadow)
    store_before = ap (scene_at old.instances) here ∙ own.store

    pub stores_grew : Grew (scene_of g.shadow) (scene_of next.shadow) → (k : ℕ) (w : Scene) → slice_get (scenes_of old.instances) k ≡ Some w → (v : Scene) × (slice_get (scenes_of new.instances) k ≡ Some v) × Grew w v
    stores_grew grew k w at = by_number k next.instance
        (λ e.
        let same : w ≡ scene_of g.shadow = some_same w (scene_of g.shadow) (sym at ∙ ap (scene_at old.instances) e ∙ store_before) in
        (scene_of next.shadow, ap (scene_at new.instances) e ∙ made.gathers.own.store, subst (λ x. Grew x (scene_of next.shadow)) (sym same) grew))
        (λ differ. (w, made.others.scenes k differ ∙ at, grew_same w))

    -- all others are as they were
    pub stores_are : scenes_of new.instances ≡ set (scenes_of old.instances) g.instance (scene_of next.shadow)
    stores_are = same_lists (scenes_of new.instances) (set (scenes_of old.instances) g.instance (scene_of next.shadow)) (λ k. by_number k next.instance
        (λ e.
        ap (scene_at new.instances) e ∙ made.gathers.own.store
        ∙ sym (ap (slice_get (set (scenes_of old.instances) g.instance (scene_of next.shadow))) (e ∙ here) ∙ set_here (scenes_of old.instances) g.instance (scene_of g.shadow) (scene_of next.shadow) own.store))
        (λ differ. made.others.scenes k differ ∙ sym (set_there (scenes_of old.instances) g.instance k (scene_of next.shadow) (λ e. differ (e ∙ sym here)))))

    pub stores_stay : next.shadow ≡ g.shadow → scenes_of new.instances ≡ scenes_of old.instances
    stores_stay same = stores_are ∙ ap (λ (s : State). set (scenes_of old.instances) g.instance (scene_of s)) same ∙ set_same (scenes_of old.instances) g.instance (scene_of g.shadow) own.store

-- ---- an item

module _ {S : Type 0} (linked : Linked) (listed : List (Named Given)) (hs : List Level) (l : Level) (m : Moment S) (b : Between linked listed hs l m) where
  -- the plan is at its next item, or its next item makes nothing
  module _ (l' : Level) (part : l'.part ≡ l.part) (first : l'.first ≡ l.first) where
    still_there : IsThere linked l'
    still_there = subst (λ p. part_limit linked p ≤ length linked.components) (sym part) b.there

    pub nothing_between : l'.making ≡ l.making → plan_left linked l' ≡ plan_left linked l → BetweenWith linked listed hs l' m b.g.whole
    nothing_between making left = (
      record {
        before = b.before;
        gs = b.gs;
        g = b.g;
        can = b.can;
        there = still_there;
        all_there = b.all_there;
        gathers = record { made = b.gathers.made; stands = subst (λ x. StandsFor b.before x b.g) (sym making) b.gathers.stands; own = b.gathers.own; whole = b.gathers.whole };
        idle = b.idle;
        outside = b.outside;
        apart = b.apart;
        wait = b.wait;
        below = b.below;
        called = b.called;
        stand = b.stand;
        imported = b.imported;
        complete =
            completed_alike linked hs b.gs l l' (link (plan_left linked l') b.g) (same_own linked l l' part first)
            ∙ ap (λ p. completed linked hs b.gs l (link p b.g)) left
            ∙ b.complete;
        goes = subst (λ p. PlanGoes p b.g) (sym left) b.goes;
        outer = outer_alike PlanWaits linked hs b.gs l l' (link (plan_left linked l') b.g) (same_own linked l l' part first) (subst (λ p. OuterGo PlanWaits linked hs b.gs l (link p b.g)) (sym left) b.outer);
      },
      refl,
    )

    module _ (item : Planned) (left : plan_left linked l ≡ Then item (plan_left linked l')) (listed' : List (Named Given)) (new : Moment S) (made : Made b.before m new listed' l'.making (link_item item b.g))
        (here : (link_item item b.g).instance ≡ b.g.instance) where
      abbrev next : Making
      next = link_item item b.g

      abbrev its : PlanGoes (Then item (plan_left linked l')) b.g
      its = subst (λ p. PlanGoes p b.g) left b.goes

      more : Grows b.g.whole next.whole
      more = item_grows item b.g

      grown : length (scenes_of m.instances) ≤ length (scenes_of new.instances)
      grown = longer b.before m new listed' l'.making b.g next b.gathers.own made b.gathers.whole more

      pub step_between : Grew (scene_of b.g.shadow) (scene_of next.shadow) → LiftedHolds (TargetStands (scenes_of new.instances)) item b.g → Stands (scenes_of new.instances) (canon_in next.whole.canons) (owner_in next.whole.owners) → BetweenWith linked listed' hs l' new next.whole
      step_between grew lifted stand =
          let grows = stores_grew b.before m new listed' l'.making b.g next b.gathers.own made here grew in
          let same_own' = same_own linked l l' part first in
          let linked_on : link (plan_left linked l) b.g ≡ link (plan_left linked l') next = ap (λ p. link p b.g) left in (
            record {
              before = b.before ++ made.more;
              gs = b.gs;
              g = next;
              can = b.can;
              there = still_there;
              all_there = b.all_there;
              gathers = made.gathers;
              idle = made.idle;
              outside = outside_stay b.before made.more m new hs b.gs b.g.instance (subst (λ k. LeavesOthers k m new) here made.others) b.apart b.outside;
              apart = subst (AreApart b.gs) (sym here) b.apart;
              wait = all_wait (scenes_of m.instances) (scenes_of new.instances) grows grown b.g.whole next.whole more b.gs b.wait;
              below = stay_below.item item b.g its.1.0 b.below;
              called = made_called (TargetStands (scenes_of new.instances)) item b.g lifted (called_still (scenes_of m.instances) (scenes_of new.instances) grows grown b.g b.called);
              stand = stand;
              imported = λ r. ap (λ i. get nat_eq i r) made.imported ∙ b.imported r;
              complete = completed_alike linked hs b.gs l l' (link (plan_left linked l') next) same_own' ∙ ap (completed linked hs b.gs l) (sym linked_on) ∙ b.complete;
              goes = (its.0.1, its.1.1);
              outer = outer_alike PlanWaits linked hs b.gs l l' (link (plan_left linked l') next) same_own' (subst (OuterGo PlanWaits linked hs b.gs l) linked_on b.outer);
            },
            refl,
          )
