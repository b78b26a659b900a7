-- A module is instantiated, and its start function runs where it has one.
use Rattle.std.proofs.Common.{◌≡◌, ◌∙◌, ap, sym, refl, subst, ℕ, ◌+◌, ◌≤◌, List, [], ◌∷◌, ◌++◌, length, Option, Some, None, Result, Ok, Err, length-append, arith, slice_get}
use Rattle.std.proofs.lemmas.List.{length-map}
use Rattle.wasm_ast.specs.declared.module.Module.{Module}
use Rattle.wasm_ast.specs.declared.component.CoreArg.{CoreArg}
use Rattle.core_body.specs.Context.{arrow}
use Rattle.core_store.specs.Scene.{scene_of}
use Rattle.core_instance.specs.Instantiation.{functions_from}
use Rattle.host_port.specs.Hosts.{HostStep}
use Rattle.comp_worlds.specs.Acts.{gives}
use Rattle.comp_worlds.specs.Groups.{Group}
use Rattle.comp_worlds.specs.Calls.{starts}
use Rattle.comp_worlds.specs.Hosts.{hosted}
use Rattle.comp_frames.specs.Running.{running}
use Rattle.comp_frames.proofs.Heads.{before_next}
use Rattle.comp_link.specs.Plans.{Then, OfModule}
use Rattle.comp_link.specs.Linking.{Givens, Making, externs_for, with_module, canon_in, owner_in}
use Rattle.comp_link.specs.declared.linked.Linked.{Linked}
use Rattle.comp_joins.specs.Fits.{HasCodeIfAny, ModuleFits}
use Rattle.instance_state.specs.Owning.{owner_in as owner_known}
use Rattle.call_moments.specs.declared.end.Stop.{Stop}
use Rattle.call_moments.specs.Grouped.{canon_in as canon_known}
use Rattle.call_moments.specs.CodeLaws.{nested}
use Rattle.call_moments.specs.Configs.{world_of}
use Rattle.call_moments.specs.Fits.{scenes_of, Takes}
use Rattle.call_moments.specs.Leads.{Moment, so_far, Same, IsAtRest, Ends}
use Rattle.call_moments.specs.Outside.{ComesOut, RunsStart}
use Rattle.instance_making.specs.declared.named.Named.{Named}
use Rattle.instance_making.specs.declared.given.Given.{Given}
use Rattle.instance_making.specs.declared.making.Making.{Making as CodeMaking}
use Rattle.comp_interp.specs.declared.level.Level.{Level}
use Rattle.comp_interp.specs.Completing.{plan_left}
use Rattle.comp_link.specs.Groups.{linked_group}
use Rattle.comp_interp.specs.Gathered.{row_at, scene_at, Gathers, IsIdle, Made, stage_of, stages_act, IsInstantiated, CanStart, ModuleComes}
use Rattle.comp_interp.specs.Standing.{Stands}
use Rattle.comp_interp.specs.Between.{PlanGoes, Between, BetweenWith}
use Rattle.comp_interp.proofs.Fitted.{is_at_rest}
use Rattle.comp_interp.proofs.Fitting.{Grew, takes}
use Rattle.comp_interp.proofs.Standing.{module_stands}
use Rattle.comp_interp.proofs.Stepping.{stores_are, step_between}

-- ---- a start function ran: what was made is made still

module _ {S : Type 0} (h : HostStep S) (before : List Givens) (old mid new : Moment S) (listed : List (Named Given)) (l : CodeMaking) (g : Making) (made : Made before old mid listed l g) (same : Same mid new) where
  abbrev rows_same : (k : ℕ) → row_at new.group.canons.items k ≡ row_at mid.group.canons.items k
  rows_same k = ap (λ group. row_at group.canons.items k) same.group

  abbrev scenes_same : (k : ℕ) → scene_at new.instances k ≡ scene_at mid.instances k
  scenes_same k = ap (λ xs. slice_get xs k) same.scenes

  instances_same : length new.instances ≡ length mid.instances
  instances_same =
      let a : length (scenes_of new.instances) ≡ length new.instances = simp (length-map) in
      let b : length (scenes_of mid.instances) ≡ length mid.instances = simp (length-map) in
      sym a ∙ ap length same.scenes ∙ b

  pub made_still : (G : Group) → IsAtRest h G new → Made before old new listed l g
  made_still G rest = record {
    more = made.more;
    gathers = record {
      made = made.gathers.made;
      stands = made.gathers.stands;
      own = record { canons = rows_same g.instance ∙ made.gathers.own.canons; store = scenes_same g.instance ∙ made.gathers.own.store };
      whole = record {
        instances = instances_same ∙ made.gathers.whole.instances;
        rows = ap (λ group. length group.canons.items) same.group ∙ made.gathers.whole.rows;
        canons = λ k n. ap (λ group. canon_known group.canons.items k n) same.group ∙ made.gathers.whole.canons k n;
        next = ap (λ group. group.owners.first + length group.owners.items.items) same.group ∙ made.gathers.whole.next;
        owners = λ r. ap (λ group. owner_known group.owners r) same.group ∙ made.gathers.whole.owners r;
      };
    };
    idle = record { still = rest.still; calls = rest.calls; frames = rest.frames; lend = rest.lend };
    others = record { rows = λ j differ. rows_same j ∙ made.others.rows j differ; scenes = λ j differ. scenes_same j ∙ made.others.scenes j differ };
    imported = ap (λ group. group.imported) same.group ∙ made.imported;
  }

-- ---- it has none, or it runs

module _ {S : Type 0} (h : HostStep S) (m : Module) (args : List CoreArg) (made made' : List (Named Given)) (old mid : Moment S) (l l' : CodeMaking) where
  pub comes_without : (o : Option ℕ) → o ≡ None → IsInstantiated h m args made old l (Ok o) made' mid l' → ModuleComes h m args made old l (Ok tt) made' mid l'
  unfolding gives
  comes_without o none is = λ before g G ga idle fits can.
      let so = is before g ga idle fits in
      (so.0, so.2 G ∙ ap (λ x. so_far mid (starts G (hosted h) (running G (hosted h)) (nested 0) g.instance x)) none ∙ before_next mid.kept.seen mid.budget (world_of mid.instances mid.kept.state) tt)

  module _ (o : Option ℕ) (f : ℕ) (some : o ≡ Some f) (is : IsInstantiated h m args made old l (Ok o) made' mid l') (new : Moment S) where
    to_start : (before : List Givens) (g : Making) (G : Group) → Gathers before made old l g → IsIdle old → ModuleFits g.shadow m (externs_for g m args) →
        so_far old (stages_act h G (stage_of g m args ∷ [])) ≡ so_far mid (starts G (hosted h) (running G (hosted h)) (nested 0) l'.instance (Some f))
    to_start before g G ga idle fits =
        let so = is before g ga idle fits in
        so.2 G
        ∙ ap (λ x. so_far mid (starts G (hosted h) (running G (hosted h)) (nested 0) g.instance x)) some
        ∙ ap (λ k. so_far mid (starts G (hosted h) (running G (hosted h)) (nested 0) k (Some f))) (sym so.0.gathers.stands.instance)

    starts_so : (before : List Givens) (g : Making) (G : Group) → Gathers before made old l g → IsIdle old → ModuleFits g.shadow m (externs_for g m args) → CanStart h G before old g m args → (result : Result (Unit {0}) Stop) → RunsStart h mid l'.instance f result new →
        ComesOut h (λ u. u) G (so_far mid (starts G (hosted h) (running G (hosted h)) (nested 0) l'.instance (Some f))) mid result new
    starts_so before g G ga idle fits can result runs =
        let so = is before g ga idle fits in
        runs G (can.rest mid made' l' so.0) (subst (λ k. Takes (scenes_of mid.instances) k f 0) (sym so.0.gathers.stands.instance) (can.takes mid made' l' f so.0 (sym so.1 ∙ some)))

    pub comes_with : (result : Result (Unit {0}) Stop) → RunsStart h mid l'.instance f result new → ModuleComes h m args made old l result made' new l'
    comes_with (Ok u) runs = λ before g G ga idle fits can.
        let so = is before g ga idle fits in
        let came = starts_so before g G ga idle fits can (Ok u) runs in
        (made_still h before old mid new made' l' (with_module g m (externs_for g m args)) so.0 came.0 G came.1, to_start before g G ga idle fits ∙ came.2)
    comes_with (Err stop) runs = λ before g G ga idle fits can.
        subst (λ x. Ends h G x new stop) (sym (to_start before g G ga idle fits)) (starts_so before g G ga idle fits can (Err stop) runs)

-- ---- the assembly stands between two items again, and so a start function can be called before

module _ {S : Type 0} (linked : Linked) (listed : List (Named Given)) (hs : List Level) (l l' : Level) (m : Moment S) (b : Between linked listed hs l m) (module' : Module) (args : List CoreArg)
    (part : l'.part ≡ l.part) (first : l'.first ≡ l.first) (left : plan_left linked l ≡ Then (OfModule module' args) (plan_left linked l')) where
  abbrev made_so : Making
  made_so = with_module b.g module' (externs_for b.g module' args)

  pub module_fits : ModuleFits b.g.shadow module' (externs_for b.g module' args)
  module_fits = (subst (λ p. PlanGoes p b.g) left b.goes).0.0

  no_fewer : {A : Type 0} → (xs ys : List A) → length xs ≤ length (xs ++ ys)
  no_fewer xs ys = let e : length (xs ++ ys) ≡ length xs + length ys = length-append xs ys in omega (arith, e)

  grown : Grew (scene_of b.g.shadow) (scene_of made_so.shadow)
  grown = record { more = functions_from module' (length b.g.shadow.instances) 0 module'.code; functions = refl; memories = no_fewer b.g.shadow.memories _ }

  pub module_between : (new : Moment S) (listed' : List (Named Given)) (lm : CodeMaking) → Made b.before m new listed' lm made_so → BetweenWith linked listed' hs (record l' { making = lm }) new made_so.whole
  module_between new listed' lm made =
      step_between linked listed hs l m b (record l' { making = lm }) part first (OfModule module' args) left listed' new made refl grown tt
      (subst (λ xs. Stands xs (canon_in b.g.whole.canons) (owner_in b.g.whole.owners)) (sym (stores_are b.before m new listed' lm b.g made_so b.gathers.own made refl))
      (module_stands (scenes_of m.instances) (canon_in b.g.whole.canons) (owner_in b.g.whole.owners) b.stand b.g.instance (scene_of b.g.shadow) (scene_of made_so.shadow) b.gathers.own.store module' (length b.g.shadow.instances) refl grown.memories refl))

  pub can_start : (h : HostStep S) → CanStart h (linked_group linked) b.before m b.g module' args
  can_start h = record {
    rest = λ mid listed' lm made. is_at_rest linked listed' hs (record l' { making = lm }) mid (module_between mid listed' lm made).0 h;
    takes = λ mid listed' lm f made is. takes (scenes_of mid.instances) b.g.instance made_so.shadow made.gathers.own.store f (arrow [] []) (subst (λ o. HasCodeIfAny made_so.shadow o (arrow [] [])) is module_fits.start);
  }
