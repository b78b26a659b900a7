-- A component in the component begins to be made, and is held once it is made: the assembly stands between two items again.
use Rattle.std.proofs.Common.{◌≡◌, ◌∙◌, ap, sym, refl, subst, ℕ, ◌≤◌, nat_eq, List, [], ◌∷◌, ◌++◌, length, Some, None, append-nil, arith, slice_get}
use Rattle.std.proofs.lemmas.List.{length-map}
use Rattle.indexmap.specs.IndexMap.{get}
use Rattle.core_store.specs.State.{empty as empty_store}
use Rattle.core_store.specs.Scene.{Scene, scene_of}
use Rattle.comp_types.specs.GivenResources.{numbered}
use Rattle.comp_worlds.specs.Groups.{Begins as BeginsStage}
use Rattle.comp_inside.specs.Linked.{OwnBrought}
use Rattle.comp_link.specs.Plans.{NamedArg, Plan, Then, OfComponent}
use Rattle.comp_link.specs.Linking.{Givens, Whole, Making, begun, and_stage, givens_of, with_component, link, link_item, canon_in, owner_in}
use Rattle.comp_link.specs.declared.linked.Linked.{Linked}
use Rattle.comp_joins.specs.Growing.{Grows}
use Rattle.comp_joins.specs.Settled.{AreBelow}
use Rattle.comp_joins.proofs.Below.{stay_below}
use Rattle.call_moments.specs.Fits.{scenes_of}
use Rattle.call_moments.specs.Leads.{Moment}
use Rattle.instance_making.specs.declared.named.Named.{Named}
use Rattle.instance_making.specs.declared.given.Given.{Given}
use Rattle.instance_making.specs.declared.making.Making.{Making as CodeMaking}
use Rattle.instance_making.specs.Made.{AreMade}
use Rattle.instance_making.specs.Shown.{Stands as StandsFor}
use Rattle.comp_interp.specs.declared.level.Level.{Level}
use Rattle.comp_interp.specs.Completing.{plan_left, own_held, completed, OuterGo}
use Rattle.comp_link.specs.Groups.{making_of}
use Rattle.comp_interp.specs.Parts.{part_items, part_own, part_limit}
use Rattle.comp_interp.specs.Gathered.{scene_at, Made}
use Rattle.comp_interp.specs.Outer.{AreOutside, AreApart}
use Rattle.comp_interp.specs.Standing.{AllCalled, TargetStands, Stands}
use Rattle.comp_interp.specs.Between.{PlanGoes, PlanWaits, AllWait, IsThere, AllThere, Between, BetweenWith}
use Rattle.comp_interp.proofs.Completing.{plan_done, completed_in, outer_in, outer_out, completed_alike, outer_alike}
use Rattle.comp_interp.proofs.Fitting.{Grew}
use Rattle.comp_interp.proofs.Gathering.{leaves_same}
use Rattle.comp_interp.proofs.Lists.{by_number, get_front, push_here, push_there, same_lists}
use Rattle.comp_interp.proofs.Outer.{outside_stay, outside_length, outside_push, outside_pop, apart_push, apart_pop}
use Rattle.comp_interp.proofs.Standing.{entered_stands}
use Rattle.comp_interp.proofs.Stepping.{grew_same, same_own, called_still, all_wait, longer}
use Rattle.comp_interp.proofs.Targets.{entered_called, held_called}

-- ---- an instance more

module _ {S : Type 0} (before : List Givens) (old new : Moment S) (listed : List (Named Given)) (l : CodeMaking) (w : Whole) (items : Givens) (whole : length old.instances ≡ w.next_instance) (made : Made before old new listed l (begun w items)) where
  abbrev first_scene : Scene
  first_scene = scene_of empty_store

  -- its store comes after the others
  pub stores_more : scenes_of new.instances ≡ scenes_of old.instances ++ first_scene ∷ []
  stores_more = same_lists (scenes_of new.instances) (scenes_of old.instances ++ first_scene ∷ []) (λ k. by_number k w.next_instance
      (λ e.
      ap (scene_at new.instances) e ∙ made.gathers.own.store
      ∙ sym (ap (slice_get (scenes_of old.instances ++ first_scene ∷ [])) (e ∙ last) ∙ push_here (scenes_of old.instances) first_scene))
      (λ differ. made.others.scenes k differ ∙ sym (push_there (scenes_of old.instances) first_scene k (λ e. differ (e ∙ sym last)))))
    where
      last : w.next_instance ≡ length (scenes_of old.instances)
      last = sym whole ∙ sym (let e : length (scenes_of old.instances) ≡ length old.instances = simp (length-map) in e)

  pub stores_in_front : (k : ℕ) (x : Scene) → slice_get (scenes_of old.instances) k ≡ Some x → (v : Scene) × (slice_get (scenes_of new.instances) k ≡ Some v) × Grew x v
  stores_in_front k x at = (x, ap (λ xs. slice_get xs k) stores_more ∙ get_front (scenes_of old.instances) (first_scene ∷ []) k x at, grew_same x)

  pub one_stands : (canons : ℕ → ℕ → _) (owner : ℕ → _) → Stands (scenes_of old.instances) canons owner → Stands (scenes_of new.instances) canons owner
  one_stands canons owner stands = subst (λ xs. Stands xs canons owner) (sym stores_more) (entered_stands (scenes_of old.instances) canons canons owner stands (λ k n. refl) first_scene refl refl)

wait_push : (ss : List Scene) (w : Whole) (gs : List Making) (g : Making) → AllWait ss w gs → AreBelow g × Grows g.whole w × AllCalled (TargetStands ss) g → AllWait ss w (gs ++ g ∷ [])
wait_push ss w [] g h k = (k, tt)
wait_push ss w (x ∷ gs) g h k = (h.0, wait_push ss w gs g h.1 k)

wait_pop : (ss : List Scene) (w : Whole) (gs : List Making) (g : Making) → AllWait ss w (gs ++ g ∷ []) → AllWait ss w gs × AreBelow g × Grows g.whole w × AllCalled (TargetStands ss) g
wait_pop ss w [] g h = (tt, h.0.0, h.0.1, h.0.2)
wait_pop ss w (x ∷ gs) g h = let rest = wait_pop ss w gs g h.1 in ((h.0, rest.0), rest.1, rest.2, rest.3)

there_push : (linked : Linked) (hs : List Level) (l : Level) → AllThere linked hs → IsThere linked l → AllThere linked (hs ++ l ∷ [])
there_push linked [] l h k = (k, tt)
there_push linked (x ∷ hs) l h k = (h.0, there_push linked hs l h.1 k)

there_pop : (linked : Linked) (hs : List Level) (l : Level) → AllThere linked (hs ++ l ∷ []) → AllThere linked hs × IsThere linked l
there_pop linked [] l h = (tt, h.0)
there_pop linked (x ∷ hs) l h = let rest = there_pop linked hs l h.1 in ((h.0, rest.0), rest.1)

entered_grows : (w : Whole) (items : Givens) → Grows w (begun (and_stage w BeginsStage) items).whole
entered_grows w items = record {
  stages = BeginsStage ∷ [];
  stages_behind = refl;
  canons = [];
  canons_behind = sym (append-nil w.canons);
  owners = [];
  owners_behind = sym (append-nil w.owners);
  numbers = refl;
  instances = omega arith;
}

-- ---- a component begins to be made: the level in which it will be held waits, with its plan after the component

module _ {S : Type 0} (linked : Linked) (listed listed' : List (Named Given)) (hs : List Level) (l holder inner : Level) (m new : Moment S) (b : Between linked listed hs l m)
    (part : holder.part ≡ l.part) (first : holder.first ≡ l.first) (making : holder.making ≡ l.making) (plan : Plan) (own : List (ℕ × ℕ)) (args : List NamedArg)
    (left : plan_left linked l ≡ Then (OfComponent plan own args) (plan_left linked holder)) (its_plan : plan_left linked inner ≡ plan) (its_own : own_held linked inner ≡ own) (there : IsThere linked inner)
    (made : Made b.before m new listed' inner.making (begun (and_stage b.g.whole BeginsStage) (givens_of b.g args))) where
  abbrev entered : Making
  entered = begun (and_stage b.g.whole BeginsStage) (givens_of b.g args)

  abbrev its : PlanGoes (Then (OfComponent plan own args) (plan_left linked holder)) b.g
  its = subst (λ p. PlanGoes p b.g) left b.goes

  abbrev outer_gs : List Making
  outer_gs = b.gs ++ b.g ∷ []

  apart_now : AreApart outer_gs entered.instance
  apart_now = apart_push b.before m hs b.gs b.g b.outside b.gathers.own b.apart b.g.whole.next_instance (sym b.gathers.whole.rows)

  outside_now : AreOutside b.before m (hs ++ holder ∷ []) outer_gs
  outside_now = outside_push b.before m hs b.gs holder b.g b.outside (subst (λ x. StandsFor b.before x b.g) (sym making) b.gathers.stands) b.gathers.own

  in_front : (k : ℕ) (x : Scene) → slice_get (scenes_of m.instances) k ≡ Some x → (v : Scene) × (slice_get (scenes_of new.instances) k ≡ Some v) × Grew x v
  in_front = stores_in_front b.before m new listed' inner.making (and_stage b.g.whole BeginsStage) (givens_of b.g args) b.gathers.whole.instances made

  grown : length (scenes_of m.instances) ≤ length (scenes_of new.instances)
  grown = longer b.before m new listed' inner.making b.g entered b.gathers.own made b.gathers.whole (entered_grows b.g.whole (givens_of b.g args))

  still : (g : Making) → AllCalled (TargetStands (scenes_of m.instances)) g → AllCalled (TargetStands (scenes_of new.instances)) g
  still g h = called_still (scenes_of m.instances) (scenes_of new.instances) in_front grown g h

  count : length b.gs ≡ length hs
  count = outside_length b.before m hs b.gs b.outside

  abbrev inside : Making
  inside = link (plan_left linked inner) entered

  -- what will be made by the end is the same
  inside_is : with_component b.g (own_held linked inner) inside ≡ link_item (OfComponent plan own args) b.g
  inside_is = ap (λ p. with_component b.g (own_held linked inner) (link p entered)) its_plan ∙ ap (λ o. with_component b.g o (link plan entered)) its_own

  holds_on : link (plan_left linked holder) (with_component b.g (own_held linked inner) inside) ≡ link (plan_left linked l) b.g
  holds_on = ap (link (plan_left linked holder)) inside_is ∙ sym (ap (λ p. link p b.g) left)

  same_own' : own_held linked holder ≡ own_held linked l
  same_own' = same_own linked l holder part first

  complete_now : completed linked (hs ++ holder ∷ []) outer_gs inner inside ≡ making_of linked
  complete_now =
      completed_in linked hs b.gs holder b.g inner inside count
      ∙ ap (completed linked hs b.gs holder) holds_on
      ∙ completed_alike linked hs b.gs l holder (link (plan_left linked l) b.g) same_own'
      ∙ b.complete

  waits_now : PlanWaits (plan_left linked holder) b.g (own_held linked inner) inside
  waits_now = (
    subst (PlanGoes (plan_left linked holder)) (sym inside_is) (its.0.1, its.1.1),
    subst (λ p. OwnBrought (link p entered).resources (own_held linked inner)) (sym its_plan) (subst (OwnBrought (link plan entered).resources) (sym its_own) its.1.0.2),
  )

  pub entered_between : BetweenWith linked listed' (hs ++ holder ∷ []) inner new entered.whole
  entered_between = (
    record {
      before = b.before ++ made.more;
      gs = outer_gs;
      g = entered;
      can = b.can;
      there = there;
      all_there = there_push linked hs holder b.all_there (subst (λ p. part_limit linked p ≤ length linked.components) (sym part) b.there);
      gathers = made.gathers;
      idle = made.idle;
      outside = outside_stay b.before made.more m new (hs ++ holder ∷ []) outer_gs entered.instance made.others apart_now outside_now;
      apart = apart_now;
      wait =
          wait_push (scenes_of new.instances) entered.whole b.gs b.g
          (all_wait (scenes_of m.instances) (scenes_of new.instances) in_front grown b.g.whole entered.whole (entered_grows b.g.whole (givens_of b.g args)) b.gs b.wait)
          (b.below, entered_grows b.g.whole (givens_of b.g args), still b.g b.called);
      below = stay_below.enters b.g args its.1.0.0 b.below;
      called = entered_called (TargetStands (scenes_of new.instances)) b.g args (still b.g b.called);
      stand = one_stands b.before m new listed' inner.making (and_stage b.g.whole BeginsStage) (givens_of b.g args) b.gathers.whole.instances made (canon_in b.g.whole.canons) (owner_in b.g.whole.owners) b.stand;
      imported = λ r. ap (λ i. get nat_eq i r) made.imported ∙ b.imported r;
      complete = complete_now;
      goes = subst (λ p. PlanGoes p entered) (sym its_plan) (its.0.0.1, its.1.0.1);
      outer =
          outer_in PlanWaits linked hs b.gs holder b.g inner inside count
          (outer_alike PlanWaits linked hs b.gs l holder (link (plan_left linked holder) (with_component b.g (own_held linked inner) inside)) same_own' (subst (OuterGo PlanWaits linked hs b.gs l) (sym holds_on) b.outer)) waits_now;
    },
    refl,
  )

-- ---- it is made, and is held

-- of the levels outside, what the last of them made
last_of : {S : Type 0} → (before : List Givens) (m : Moment S) (hs : List Level) (holder : Level) (gs : List Making) → AreOutside before m (hs ++ holder ∷ []) gs → (front : List Making) × (g : Making) × (gs ≡ front ++ g ∷ [])
last_of before m [] holder [] h = absurd h
last_of before m [] holder (g ∷ []) h = ([], g, refl)
last_of before m [] holder (g ∷ x ∷ gs) h = absurd h.1
last_of before m (y ∷ hs) holder [] h = absurd h
last_of before m (y ∷ hs) holder (x ∷ gs) h = let rest = last_of before m hs holder gs h.1 in (x ∷ rest.0, rest.1, ap (λ xs. x ∷ xs) rest.2)

module _ {S : Type 0} (linked : Linked) (listed listed' : List (Named Given)) (hs : List Level) (holder l : Level) (m : Moment S) (b : Between linked listed (hs ++ holder ∷ []) l m) (making : CodeMaking)
    (ended : slice_get (part_items linked l.part) l.at ≡ None)
    (held : (before : List Givens) (g h : Making) → AreMade listed before → StandsFor before holder.making g → StandsFor before l.making h →
    AreMade listed' (before ++ h.exports ∷ []) × StandsFor (before ++ h.exports ∷ []) making (with_component g (numbered (part_own linked l.part) l.first) h)) where
  abbrev Of : List Making → Type 0
  Of gs = AreOutside b.before m (hs ++ holder ∷ []) gs × AreApart gs b.g.instance × AllWait (scenes_of m.instances) b.g.whole gs × (completed linked (hs ++ holder ∷ []) gs l (link (plan_left linked l) b.g) ≡ making_of linked)
      × OuterGo PlanWaits linked (hs ++ holder ∷ []) gs l (link (plan_left linked l) b.g)

  abbrev goes_on : Level
  goes_on = record holder { making = making }

  pub held_between : BetweenWith linked listed' hs goes_on m b.g.whole
  held_between =
      let last = last_of b.before m hs holder b.gs b.outside in
      let gs = last.0 in
      let g = last.1 in
      let all : Of (gs ++ g ∷ []) = subst Of last.2 (b.outside, b.apart, b.wait, b.complete, b.outer) in
      let out = outside_pop b.before m hs gs holder g all.0 in
      let apart = apart_pop gs g b.g.instance all.1 in
      let wait = wait_pop (scenes_of m.instances) b.g.whole gs g all.2 in
      let own : List (ℕ × ℕ) = own_held linked l in
      let done : link (plan_left linked l) b.g ≡ b.g = plan_done linked l b.g ended in
      let new : Making = with_component g own b.g in
      let count : length gs ≡ length hs = outside_length b.before m hs gs out.0 in
      let now = held b.before g b.g b.gathers.made out.1 b.gathers.stands in
      let rest = outer_out PlanWaits linked hs gs holder g l (link (plan_left linked l) b.g) count all.4 in
      let waits : PlanWaits (plan_left linked holder) g own b.g = subst (PlanWaits (plan_left linked holder) g own) done rest.1 in
      let on : link (plan_left linked holder) (with_component g own (link (plan_left linked l) b.g)) ≡ link (plan_left linked holder) new = ap (λ x. link (plan_left linked holder) (with_component g own x)) done in
      let same : own_held linked goes_on ≡ own_held linked holder = refl in (
        record {
          before = b.before ++ b.g.exports ∷ [];
          gs = gs;
          g = new;
          can = b.can;
          there = (there_pop linked hs holder b.all_there).1;
          all_there = (there_pop linked hs holder b.all_there).0;
          gathers = record { made = now.0; stands = now.1; own = record { canons = out.2.canons; store = out.2.store }; whole = record { instances = b.gathers.whole.instances; rows = b.gathers.whole.rows; canons = b.gathers.whole.canons; next = b.gathers.whole.next; owners = b.gathers.whole.owners } };
          idle = b.idle;
          outside = outside_stay b.before (b.g.exports ∷ []) m m hs gs g.instance (leaves_same g.instance m) apart.0 out.0;
          apart = apart.0;
          wait = wait.0;
          below = stay_below.leaves g b.g own wait.2 waits.1 wait.1 b.below;
          called = held_called (TargetStands (scenes_of m.instances)) g b.g own wait.3 b.called;
          stand = b.stand;
          imported = b.imported;
          complete =
              completed_alike linked hs gs holder goes_on (link (plan_left linked goes_on) new) same
              ∙ ap (completed linked hs gs holder) (sym on)
              ∙ sym (completed_in linked hs gs holder g l (link (plan_left linked l) b.g) count)
              ∙ all.3;
          goes = waits.0;
          outer = outer_alike PlanWaits linked hs gs holder goes_on (link (plan_left linked goes_on) new) same (subst (OuterGo PlanWaits linked hs gs holder) on rest.0);
        },
        refl,
      )
