-- Items that change no store but that of their own instance: what the definition adds is what was made.
use Rattle.std.proofs.Common.{◌≡◌, ◌∙◌, ap, sym, refl, subst, ℕ, ◌+◌, ◌==◌, List, [], ◌∷◌, ◌++◌, length, set, Some, Bool, true, false, Ok, Vec, append-nil, length-set, slice_get}
use Rattle.std.specs.Option.{option_map}
use Rattle.std.specs.Global.{Global}
use Rattle.std.proofs.lemmas.List.{length_push}
use Rattle.std.proofs.lemmas.Option.{slice_get-map}
use Rattle.wasm_ast.specs.declared.module.CoreFunc.{CoreFunc}
use Rattle.core_store.specs.declared.value.StoreFunc.TheVariants.{Outside}
use Rattle.core_store.specs.Scene.{Scene, scene_of}
use Rattle.instance_state.specs.Ready.{Runs}
use Rattle.instance_state.specs.Done.{Provides}
use Rattle.host_port.specs.Hosts.{HostStep}
use Rattle.comp_worlds.specs.Acts.{Next, seen_before, gives}
use Rattle.comp_worlds.specs.Groups.{Stage, Group, Provides as ProvidesStage}
use Rattle.comp_worlds.specs.Locals.{gives_in, provides}
use Rattle.comp_worlds.specs.Calls.{pick, does_all}
use Rattle.comp_worlds.specs.Hosts.{hosted}
use Rattle.comp_frames.specs.Running.{running}
use Rattle.comp_frames.proofs.Heads.{before_next, on_some}
use Rattle.comp_link.specs.Linking.{Givens, Placed, Whole, Making, with_canon, canon_in}
use Rattle.instance_state.specs.declared.instance.Instance.{Instance}
use Rattle.instance_state.specs.Shown.{config_of}
use Rattle.instance_state.specs.declared.canon.Canon.{Canon}
use Rattle.instance_state.specs.Targets.{func_of}
use Rattle.call_moments.specs.Grouped.{canon_in as canon_known}
use Rattle.call_moments.specs.CodeLaws.{nested}
use Rattle.call_moments.specs.Configs.{world_of}
use Rattle.call_moments.specs.Held.{AllLend}
use Rattle.call_moments.proofs.Worlds.{config_at, changed}
use Rattle.call_moments.specs.Leads.{Moment, calls_of}
use Rattle.call_moments.proofs.Instances.{calls_here, calls_set, still_set, maps_same}
use Rattle.instance_making.specs.declared.named.Named.{Named}
use Rattle.instance_making.specs.declared.given.Given.{Given}
use Rattle.instance_making.specs.declared.making.Making.{Making as CodeMaking}
use Rattle.instance_making.specs.Made.{AreMade}
use Rattle.instance_making.specs.Shown.{Stands}
use Rattle.comp_interp.specs.Gathered.{row_at, scene_at, HasWhole, Gathers, IsIdle, LeavesOthers, Made, AreDone}
use Rattle.comp_interp.proofs.Lists.{cancelled, set_here, set_there}
use Rattle.comp_interp.proofs.Pushed.{canon_pushed}

-- what of a making goes with the group and the stores stays
pub record Unchanged (m m' : Making) : Type 0 where
  pub whole : m'.whole ≡ m.whole
  pub instance : m'.instance ≡ m.instance
  pub shadow : m'.shadow ≡ m.shadow
  pub canons : m'.canons ≡ m.canons

pub some_same : {A : Type 0} → (x y : A) → Some x ≡ Some y → x ≡ y
some_same x y e = let q : x ≡ y = cc in q

picked : {A : Type 0} → (b : Bool) (x y z : A) → x ≡ z → y ≡ z → pick b x y ≡ z
picked true x y z e f = e
picked false x y z e f = f

-- ---- one instance of all is another one

pub scene_is : (is : List Instance) (k : ℕ) (i : Instance) → slice_get is k ≡ Some i → scene_at is k ≡ Some (scene_of i.code.store)
scene_is is k i found = slice_get-map (λ (x : Instance). scene_of x.code.store) is k ∙ ap (option_map (λ (x : Instance). scene_of x.code.store)) found

pub scene_there : (is : List Instance) (k j : ℕ) (i : Instance) → (j ≡ k → ⊥) → scene_at (set is k i) j ≡ scene_at is j
scene_there is k j i differ =
    slice_get-map (λ (x : Instance). scene_of x.code.store) (set is k i) j
    ∙ ap (option_map (λ (x : Instance). scene_of x.code.store)) (set_there is k j i differ)
    ∙ sym (slice_get-map (λ (x : Instance). scene_of x.code.store) is j)

pub row_is : (rows : List (Vec Canon Global)) (k : ℕ) (row : Vec Canon Global) → slice_get rows k ≡ Some row → row_at rows k ≡ Some (length row.items)
row_is rows k row found = ap (option_map (λ (r : Vec Canon Global). length r.items)) found

pub row_there : (rows : List (Vec Canon Global)) (k j : ℕ) (row : Vec Canon Global) → (j ≡ k → ⊥) → row_at (set rows k row) j ≡ row_at rows j
row_there rows k j row differ = ap (option_map (λ (r : Vec Canon Global). length r.items)) (set_there rows k j row differ)

module _ {S : Type 0} where
  pub leaves_same : (k : ℕ) (m : Moment S) → LeavesOthers k m m
  leaves_same k m = record { rows = λ j differ. refl; scenes = λ j differ. refl }

  -- another instance in the place of one, whose code is idle as well
  pub idle_set : (m : Moment S) (k : ℕ) (i j : Instance) → slice_get m.instances k ≡ Some i → j.code.going ≡ false → j.code.calls ≡ [] → j.handles ≡ i.handles → IsIdle m → IsIdle (record m { instances = set m.instances k j })
  idle_set m k i j found quiet none same idle = record {
    still = still_set m.instances k i found j idle.still quiet;
    calls = λ n. ap (λ (f : ℕ → _). f n) (calls_set m.instances k i found j) ∙ picked (n == k) j.code.calls (calls_of m.instances n) [] none (idle.calls n);
    frames = idle.frames;
    lend = subst (λ ms. AllLend ms [] []) (sym (maps_same m.instances k i found j same)) idle.lend;
  }

module _ {S : Type 0} (h : HostStep S) where
  pub nothing_done : (G : Group) (m : Moment S) → AreDone h G [] m m
  unfolding gives
  nothing_done G m = before_next m.kept.seen m.budget (world_of m.instances m.kept.state) tt

  -- ---- the world stays as it is

  pub unchanged_made : (before more : List Givens) (made made' : List (Named Given)) (m : Moment S) (l l' : CodeMaking) (g g' : Making) (stages : List Stage) → Gathers before made m l g → IsIdle m → Unchanged g g' →
      AreMade made' (before ++ more) → Stands (before ++ more) l' g' → g'.whole.stages ≡ g.whole.stages ++ stages → Made before m m made' l' g' × ((G : Group) → AreDone h G stages m m)
  unchanged_made before more made made' m l l' g g' stages ga idle u are stands e = (
    record {
      more = more;
      gathers = record {
        made = are;
        stands = stands;
        own = record {
          canons = ap (row_at m.group.canons.items) u.instance ∙ ga.own.canons ∙ ap Some (sym u.canons);
          store = ap (scene_at m.instances) u.instance ∙ ga.own.store ∙ ap (λ s. Some (scene_of s)) (sym u.shadow);
        };
        whole = subst (HasWhole m) (sym u.whole) ga.whole;
      };
      idle = idle;
      others = leaves_same g'.instance m;
      imported = refl;
    },
    λ G. subst (λ ss. AreDone h G ss m m) (cancelled g.whole.stages [] stages (append-nil g.whole.stages ∙ sym (ap (λ (w : Whole). w.stages) u.whole) ∙ e)) (nothing_done G m),
  )

  -- ---- a canonical function more

  module _ (before : List Givens) (made : List (Named Given)) (m : Moment S) (l : CodeMaking) (g : Making) (ga : Gathers before made m l g) (idle : IsIdle m)
      (i : Instance) (runs : Runs) (found : slice_get m.instances l.instance ≡ Some i) (place : ℕ) (ty : CoreFunc) (was : Provides i.code ty l.canons runs (Ok place))
      (canon : Canon) (row row' : Vec Canon Global) (rows : Vec (Vec Canon Global) Global) (row_found : slice_get m.group.canons.items l.instance ≡ Some row) (pushed : row'.items ≡ row.items ++ canon ∷ [])
      (rows_are : rows.items ≡ set m.group.canons.items l.instance row') where
    abbrev after : Instance
    after = record { code = runs; handles = i.handles; entered = i.entered; closed = i.closed }

    abbrev then_moment : Moment S
    then_moment = record m { group = record m.group { canons = rows }; instances = set m.instances l.instance after }

    abbrev made_so : Making
    made_so = with_canon g ty (func_of canon)

    -- its place is the one that the plan gives it
    store_same : scene_of i.code.store ≡ scene_of g.shadow
    store_same = some_same (scene_of i.code.store) (scene_of g.shadow) (sym (scene_is m.instances l.instance i found) ∙ ap (scene_at m.instances) ga.stands.instance ∙ ga.own.store)

    pub place_is : place ≡ length g.shadow.functions
    place_is = was.0 ∙ ap (λ (s : Scene). length s.functions) store_same

    row_length : length row.items ≡ g.canons
    row_length = some_same (length row.items) g.canons (sym (row_is m.group.canons.items l.instance row row_found) ∙ ap (row_at m.group.canons.items) ga.stands.instance ∙ ga.own.canons)

    new_row : row_at rows.items g.instance ≡ Some (g.canons + 1)
    new_row =
        ap (λ rs. row_at rs g.instance) rows_are
        ∙ ap (row_at (set m.group.canons.items l.instance row')) (sym ga.stands.instance)
        ∙ row_is (set m.group.canons.items l.instance row') l.instance row' (set_here m.group.canons.items l.instance row row' row_found)
        ∙ ap (λ xs. Some (length xs)) pushed
        ∙ ap Some (length_push row.items canon ∙ ap (λ n. n + 1) row_length)

    new_scene : scene_at (set m.instances l.instance after) g.instance ≡ Some (scene_of made_so.shadow)
    new_scene =
        ap (scene_at (set m.instances l.instance after)) (sym ga.stands.instance)
        ∙ scene_is (set m.instances l.instance after) l.instance after (set_here m.instances l.instance i after found)
        ∙ ap (λ (r : Runs). Some (scene_of r.store)) was.1
        ∙ ap (λ (s : Scene). Some (record s { functions = s.functions ++ Outside ty l.canons ∷ [] })) store_same
        ∙ ap (λ n. Some (record (scene_of g.shadow) { functions = g.shadow.functions ++ Outside ty n ∷ [] })) ga.stands.canons

    new_canons : (j n : ℕ) → canon_known rows.items j n ≡ canon_in made_so.whole.canons j n
    new_canons j n =
        ap (λ rs. canon_known rs j n) rows_are
        ∙ canon_pushed m.group.canons.items l.instance row row' canon g.whole.canons row_found pushed ga.whole.canons j n
        ∙ ap (λ p. canon_in (g.whole.canons ++ p ∷ []) j n) placed_same
      where
        placed_same : ◌≡◌ {A = Placed} (record { instance = l.instance; number = length row.items; canon = func_of canon }) (record { instance = g.instance; number = g.canons; canon = func_of canon })
        placed_same =
            ap (λ k. let p : Placed = record { instance = k; number = length row.items; canon = func_of canon } in p) ga.stands.instance
            ∙ ap (λ c. let p : Placed = record { instance = g.instance; number = c; canon = func_of canon } in p) row_length

    provided_idle : IsIdle then_moment
    provided_idle =
        let idle' = idle_set m l.instance i after found
        (ap (λ (r : Runs). r.going) was.1 ∙ idle.still l.instance i found)
        (ap (λ (r : Runs). r.calls) was.1 ∙ sym (calls_here m.instances l.instance i found) ∙ idle.calls l.instance) refl
        idle in
        record { still = idle'.still; calls = idle'.calls; frames = idle'.frames; lend = idle'.lend }

    pub provided_made : (l' : CodeMaking) → Stands before l' made_so → Made before m then_moment made l' made_so
    provided_made l' stands = record {
      more = [];
      gathers = record {
        made = subst (λ all. AreMade made all) (sym (append-nil before)) ga.made;
        stands = subst (λ all. Stands all l' made_so) (sym (append-nil before)) stands;
        own = record { canons = new_row; store = new_scene };
        whole = record {
          instances = length-set m.instances l.instance after ∙ ga.whole.instances;
          rows = ap length rows_are ∙ length-set m.group.canons.items l.instance row' ∙ ga.whole.rows;
          canons = new_canons;
          next = ga.whole.next;
          owners = ga.whole.owners;
        };
      };
      idle = provided_idle;
      others = record {
        rows = λ j differ. ap (λ rs. row_at rs j) rows_are ∙ row_there m.group.canons.items l.instance j row' (λ e. differ (e ∙ ga.stands.instance));
        scenes = λ j differ. scene_there m.instances l.instance j after (λ e. differ (e ∙ ga.stands.instance));
      };
      imported = refl;
    }

    here_done : (G : Group) → AreDone h G (ProvidesStage l.instance ty l.canons ∷ []) m then_moment
    unfolding gives
    here_done G =
        ap (seen_before m.kept.seen)
        (on_some (world_of m.instances m.kept.state) m.budget l.instance (provides ty l.canons) (λ (u : Unit {0}). does_all G (hosted h) (running G (hosted h)) (nested 0) []) (gives_in tt (config_of after))
        (ap (provides ty l.canons) (config_at m.instances l.instance i after found)
        ∙ sym (ap (λ (r : Runs). Some (gives_in tt (config_of (record { code = r; handles = i.handles; entered = i.entered; closed = i.closed })))) was.1))
        ∙ ap (λ v. Next [] m.budget v tt) (changed m.instances l.instance i after found m.kept.state))
        ∙ before_next m.kept.seen m.budget (world_of (set m.instances l.instance after) m.kept.state) tt

    pub provided_done : (G : Group) (stages : List Stage) → made_so.whole.stages ≡ g.whole.stages ++ stages → AreDone h G stages m then_moment
    provided_done G stages e =
        subst (λ ss. AreDone h G ss m then_moment) (stage_same ∙ cancelled g.whole.stages (ProvidesStage g.instance ty g.canons ∷ []) stages e) (here_done G)
      where
        stage_same : ◌≡◌ {A = List Stage} (ProvidesStage l.instance ty l.canons ∷ []) (ProvidesStage g.instance ty g.canons ∷ [])
        stage_same = ap (λ k. ProvidesStage k ty l.canons ∷ []) ga.stands.instance ∙ ap (λ c. ProvidesStage g.instance ty c ∷ []) ga.stands.canons

  -- all of it, of the moment that is reached
  pub provided_so : (before : List Givens) (made : List (Named Given)) (m : Moment S) (l : CodeMaking) (g : Making) (ga : Gathers before made m l g) (idle : IsIdle m) (i : Instance) (runs : Runs) (found : slice_get m.instances l.instance ≡ Some i) (place : ℕ) (ty : CoreFunc)
      (was : Provides i.code ty l.canons runs (Ok place)) (canon : Canon) (row row' : Vec Canon Global) (row_found : slice_get m.group.canons.items l.instance ≡ Some row) (pushed : row'.items ≡ row.items ++ canon ∷ []) (l' : CodeMaking) →
      (place ≡ length g.shadow.functions → Stands before l' (with_canon g ty (func_of canon))) → (stages : List Stage) → (with_canon g ty (func_of canon)).whole.stages ≡ g.whole.stages ++ stages → (new : Moment S) → new.group.canons.items ≡ set m.group.canons.items l.instance row' →
      new ≡ record m { group = record m.group { canons = new.group.canons }; instances = set m.instances l.instance (record { code = runs; handles = i.handles; entered = i.entered; closed = i.closed }) } →
      Made before m new made l' (with_canon g ty (func_of canon)) × ((G : Group) → AreDone h G stages m new)
  provided_so before made m l g ga idle i runs found place ty was canon row row' row_found pushed l' stands stages e new rows_are same =
      let rows = new.group.canons in
      let at = place_is before made m l g ga idle i runs found place ty was canon row row' rows row_found pushed rows_are in
      subst (λ (x : Moment S). Made before m x made l' (with_canon g ty (func_of canon)) × ((G : Group) → AreDone h G stages m x)) (sym same) (
        provided_made before made m l g ga idle i runs found place ty was canon row row' rows row_found pushed rows_are l' (stands at),
        λ G. provided_done before made m l g ga idle i runs found place ty was canon row row' rows row_found pushed rows_are G stages e,
      )
