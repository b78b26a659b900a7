-- The outermost component begins to be made, with no instance before it.
use Rattle.std.proofs.Common.{◌≡◌, ◌∙◌, ap, sym, refl, subst, ℕ, ◌≤◌, nat_eq, List, [], ◌∷◌, ◌++◌, length, drop, Ok, arith}
use Rattle.indexmap.specs.IndexMap.{get}
use Rattle.std.proofs.Math.Seq.{take-length}
use Rattle.std.proofs.lemmas.Option.{none-some}
use Rattle.host_port.specs.Hosts.{HostStep}
use Rattle.comp_worlds.specs.Acts.{Next}
use Rattle.comp_link.specs.Linking.{Whole, begun, link, all_outside, all_known, behind_known, canon_in, owner_in}
use Rattle.comp_link.specs.declared.linked.Linked.{Linked}
use Rattle.comp_link.specs.Planned.{and_components, plan_items, plan_in}
use Rattle.comp_joins.proofs.Held.{all_outside_held, each_known}
use Rattle.comp_joins.proofs.Below.{stay_below}
use Rattle.comp_joins.specs.Sound.{at_first}
use Rattle.call_moments.specs.Configs.{world_of}
use Rattle.call_moments.specs.Held.{AllLend}
use Rattle.call_moments.specs.Fits.{scenes_of}
use Rattle.call_moments.specs.Leads.{Moment, calls_of, maps_of, AreStill}
use Rattle.instance_making.specs.declared.named.Named.{Named}
use Rattle.instance_making.specs.declared.given.Given.{Given}
use Rattle.comp_interp.specs.declared.level.Level.{Level}
use Rattle.comp_interp.specs.declared.part.Part.{Part}
use Rattle.comp_interp.specs.declared.part.Part.TheVariants.{Whole as WholePart}
use Rattle.comp_interp.specs.Sound.{CanBeMade}
use Rattle.comp_interp.specs.Parts.{part_items, part_limit, named_below}
use Rattle.comp_interp.specs.Completing.{plan_left}
use Rattle.comp_interp.specs.Gathered.{IsIdle, Made, AreDone, Enters, Imported}
use Rattle.comp_link.specs.Groups.{linked_group}
use Rattle.comp_interp.specs.Standing.{TargetStands, Stands}
use Rattle.comp_interp.specs.Between.{PlanGoes}
use Rattle.comp_interp.specs.Going.{LevelsStand}
use Rattle.comp_interp.proofs.Gathering.{nothing_done}
use Rattle.comp_interp.proofs.Holding.{one_stands}

-- where there is no instance, no code runs
pub idle_none : {S : Type 0} → (m : Moment S) → m.instances ≡ [] → m.frames ≡ [] → IsIdle m
idle_none m none frames = record {
  still = subst AreStill (sym none) (λ k i at. absurd (none-some i at));
  calls = λ k. ap (λ is. calls_of is k) none;
  frames = frames;
  lend = subst (λ is. AllLend (maps_of is) [] []) (sym none) (λ k. record { free = tt; lent = λ n d lt. absurd (omega (arith, lt)) });
}

nothing_stands : Stands [] (canon_in []) (owner_in [])
nothing_stands = record {
  funcs = λ k n f is. absurd (none-some f is);
  owners = λ r. tt;
  provided = λ k place n w ty at found. absurd (none-some w at);
  deepest = λ k w at. absurd (none-some w at);
}

-- nothing of its plan is made yet
all_left : (linked : Linked) (l : Level) → l.part ≡ WholePart → l.at ≡ 0 → plan_left linked l ≡ plan_in linked
all_left linked l part at = go l.part part l.at at
  where
    go : (p : Part) → p ≡ WholePart → (n : ℕ) → n ≡ 0 → plan_items linked.modules (named_below linked (part_limit linked p)) (drop n (part_items linked p)) ≡ plan_in linked
    go p is n zero' =
        ap (λ q. plan_items linked.modules (named_below linked (part_limit linked q)) (drop n (part_items linked q))) is
        ∙ ap (λ k. plan_items linked.modules (named_below linked (length linked.components)) (drop k linked.items)) zero'
        ∙ ap (λ cs. plan_items linked.modules (and_components linked.modules [] cs) linked.items) (take-length linked.components)

module _ {S : Type 0} (h : HostStep S) (linked : Linked) (can : CanBeMade linked) (first mid new : Moment S) (listed listed' : List (Named Given)) (given : Named Given) (level : Level) (none : first.instances ≡ []) (frames : first.frames ≡ [])
    (im : Imported linked.imports first listed given mid) (enters : Enters h listed mid given (Ok level) listed' new) (part : level.part ≡ WholePart) (at : level.at ≡ 0) where
  abbrev before_all : Whole
  before_all = record { next_instance = 0; next_resource = behind_known (all_known [] linked.imports); stages = []; canons = []; owners = [] }

  no_instance : mid.instances ≡ []
  no_instance = ap (λ (x : Moment S). x.instances) im.is ∙ none

  idle : IsIdle mid
  idle = idle_none mid no_instance (ap (λ (x : Moment S). x.frames) im.is ∙ frames)

  came : Made im.before mid new listed' level.making (begun before_all (all_outside [] linked.imports)) × (world_of new.instances new.kept.state ≡ world_of mid.instances mid.kept.state) × (new.kept ≡ mid.kept) × (new.budget ≡ mid.budget)
  came = enters im.before before_all (all_outside [] linked.imports) im.made im.whole idle im.holds

  left : plan_left linked level ≡ plan_in linked
  left = all_left linked level part at

  first_stands : Stands (scenes_of new.instances) (canon_in []) (owner_in [])
  first_stands =
      one_stands im.before mid new listed' level.making before_all (all_outside [] linked.imports) im.whole.instances came.0 (canon_in []) (owner_in [])
      (subst (λ is. Stands (scenes_of is) (canon_in []) (owner_in [])) (sym no_instance) nothing_stands)

  none_done : AreDone h (linked_group linked) [] first new
  none_done =
      let kept : new.kept ≡ first.kept = came.2 ∙ ap (λ (x : Moment S). x.kept) im.is in
      let budget : new.budget ≡ first.budget = came.3 ∙ ap (λ (x : Moment S). x.budget) im.is in
      let world : world_of new.instances new.kept.state ≡ world_of first.instances first.kept.state = came.1 ∙ ap (λ (x : Moment S). world_of x.instances x.kept.state) im.is in
      nothing_done h (linked_group linked) first
      ∙ ap (λ k. Next k.seen first.budget (world_of first.instances first.kept.state) tt) (sym kept)
      ∙ ap (λ n. Next new.kept.seen n (world_of first.instances first.kept.state) tt) (sym budget)
      ∙ ap (λ w. Next new.kept.seen new.budget w tt) (sym world)

  pub first_stood : LevelsStand h linked first listed' (level ∷ []) new
  first_stood = record {
    outer = [];
    inner = level;
    are = refl;
    stood = record {
      between = record {
        before = im.before ++ came.0.more;
        gs = [];
        g = at_first linked.imports;
        can = can;
        there = subst (λ p. part_limit linked p ≤ length linked.components) (sym part) (omega arith);
        all_there = tt;
        gathers = came.0.gathers;
        idle = came.0.idle;
        outside = tt;
        apart = tt;
        wait = tt;
        below = stay_below.first linked.imports;
        called = (all_outside_held (λ r. Unit {0}) (TargetStands (scenes_of new.instances)) (λ i. tt) [] linked.imports (each_known (λ r. Unit {0}) (TargetStands (scenes_of new.instances)) (all_known [] linked.imports) (λ r is. tt)), tt, tt, tt, tt, tt);
        stand = first_stands;
        imported = λ r. ap (λ i. get nat_eq i r) came.0.imported ∙ im.known r;
        complete = ap (λ p. link p (at_first linked.imports)) left;
        goes = subst (λ p. PlanGoes p (at_first linked.imports)) (sym left) (can.sound, can.knows);
        outer = tt;
      };
      done = none_done;
    };
  }
