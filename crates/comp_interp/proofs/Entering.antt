-- A resource more, and an instance of which nothing is made yet.
use Rattle.std.proofs.Common.{◌≡◌, ◌∙◌, ap, sym, refl, subst, ℕ, suc, ◌+◌, List, [], ◌∷◌, ◌++◌, length, Option, Some, None, false, Vec, append-nil, arith, slice_get}
use Rattle.std.specs.Option.{option_map, option_and_then}
use Rattle.std.specs.Global.{Global}
use Rattle.std.proofs.Math.Path.{fun_ext}
use Rattle.std.proofs.lemmas.List.{length_push}
use Rattle.std.proofs.lemmas.Option.{slice_get-map, slice_get_past}
use Rattle.core_store.specs.State.{empty as empty_store}
use Rattle.core_store.specs.Scene.{scene_of}
use Rattle.host_port.specs.Hosts.{HostStep}
use Rattle.comp_worlds.specs.Acts.{Next, Spent, seen_before, gives}
use Rattle.comp_worlds.specs.Groups.{Stage, Begins as BeginsStage, Group, World, Config}
use Rattle.comp_worlds.specs.Calls.{at_rest}
use Rattle.comp_frames.proofs.Heads.{before_next, before_spent, step_spent, step_then}
use Rattle.comp_link.specs.Linking.{Givens, Owned, Whole, Making, begun, with_resource, place_at, canon_in, owner_in}
use Rattle.instance_state.specs.declared.owners.Owner.{Owner as CodeOwner}
use Rattle.instance_state.specs.Owning.{owner_in as owner_known}
use Rattle.instance_state.specs.declared.instance.Instance.{Instance}
use Rattle.instance_state.specs.Shown.{config_of}
use Rattle.instance_state.specs.declared.canon.Canon.{Canon}
use Rattle.instance_state.specs.Targets.{func_of}
use Rattle.call_moments.specs.declared.end.Stop.TheVariants as stops
use Rattle.call_moments.specs.Grouped.{canon_in as canon_known}
use Rattle.call_moments.specs.Configs.{config_or_rest, world_of}
use Rattle.call_moments.specs.Held.{AllLend}
use Rattle.call_moments.specs.Leads.{Moment, calls_in, calls_of, so_far, Ends}
use Rattle.instance_making.specs.declared.named.Named.{Named}
use Rattle.instance_making.specs.declared.given.Given.{Given}
use Rattle.instance_making.specs.declared.making.Making.{Making as CodeMaking}
use Rattle.instance_making.specs.Made.{AreMade, Holds, IsInstance}
use Rattle.instance_making.specs.Shown.{Stands}
use Rattle.instance_making.proofs.MoreLemmas.{made_and, made_last}
use Rattle.comp_interp.specs.Gathered.{row_at, scene_at, HasWhole, Gathers, IsIdle, Made, stages_act, AreDone}
use Rattle.comp_interp.proofs.Lists.{cancelled, push_here, push_there, by_number}
use Rattle.comp_interp.proofs.Pushed.{owned_from, owner_pushed}
use Rattle.comp_interp.proofs.Gathering.{nothing_done, some_same}

-- ---- a resource more

module _ {S : Type 0} (h : HostStep S) (before : List Givens) (made : List (Named Given)) (m : Moment S) (l : CodeMaking) (g : Making) (ga : Gathers before made m l g) (idle : IsIdle m)
    (resource : ℕ) (destructor : Option ℕ) (place : Option ℕ) (place_is : place ≡ option_map (place_at g.core_functions) destructor)
    (items : Vec CodeOwner Global) (pushed : items.items ≡ m.group.owners.items.items ++ record { instance = l.instance; destructor = place } ∷ []) where
  abbrev owned_moment : Moment S
  owned_moment = record m { group = record m.group { owners = record m.group.owners { items = items } } }

  abbrev owned_making : Making
  owned_making = with_resource g resource destructor

  new_next : m.group.owners.first + length items.items ≡ g.whole.next_resource + 1
  new_next =
      let longer : length items.items ≡ length m.group.owners.items.items + 1 = ap length pushed ∙ length_push m.group.owners.items.items _ in
      let was : m.group.owners.first + length m.group.owners.items.items ≡ g.whole.next_resource = ga.whole.next in
      omega (arith, longer, was)

  new_owners : (r : ℕ) → owner_known owned_moment.group.owners r ≡ owner_in owned_making.whole.owners r
  new_owners r =
      ap (λ xs. owned_from m.group.owners.first xs r) pushed
      ∙ owner_pushed m.group.owners.first m.group.owners.items.items (record { instance = l.instance; destructor = place }) g.whole.owners ga.whole.owners r
      ∙ ap (λ o. owner_in (g.whole.owners ++ o ∷ []) r) owned_same
    where
      owned_same : ◌≡◌ {A = Owned} (record { resource = m.group.owners.first + length m.group.owners.items.items; owner = record { instance = l.instance; destructor = place } })
          (record { resource = g.whole.next_resource; owner = record { instance = g.instance; destructor = option_map (place_at g.core_functions) destructor } })
      owned_same =
          ap (λ n. let o : Owned = record { resource = n; owner = record { instance = l.instance; destructor = place } } in o) ga.whole.next
          ∙ ap (λ k. let o : Owned = record { resource = g.whole.next_resource; owner = record { instance = k; destructor = place } } in o) ga.stands.instance
          ∙ ap (λ d. let o : Owned = record { resource = g.whole.next_resource; owner = record { instance = g.instance; destructor = d } } in o) place_is

  pub resource_made : (l' : CodeMaking) (stages : List Stage) → Stands before l' owned_making → owned_making.whole.stages ≡ g.whole.stages ++ stages → Made before m owned_moment made l' owned_making × ((G : Group) → AreDone h G stages m owned_moment)
  resource_made l' stages stands e = (
    record {
      more = [];
      gathers = record {
        made = subst (λ all. AreMade made all) (sym (append-nil before)) ga.made;
        stands = subst (λ all. Stands all l' owned_making) (sym (append-nil before)) stands;
        own = record { canons = ga.own.canons; store = ga.own.store };
        whole = record { instances = ga.whole.instances; rows = ga.whole.rows; canons = ga.whole.canons; next = new_next; owners = new_owners };
      };
      idle = record { still = idle.still; calls = idle.calls; frames = idle.frames; lend = idle.lend };
      others = record { rows = λ j differ. refl; scenes = λ j differ. refl };
      imported = refl;
    },
    λ G. subst (λ ss. AreDone h G ss m owned_moment) (cancelled g.whole.stages [] stages (append-nil g.whole.stages ∙ e)) (nothing_done h G m),
  )

-- ---- an instance more

-- one after the others
by_place : {P : Type 0} → (is : List Instance) (i : Instance) (k : ℕ) (of : Option Instance → P) → of (Some i) ≡ of None → of (slice_get (is ++ i ∷ []) k) ≡ of (slice_get is k)
by_place is i k of same = by_number k (length is)
    (λ e. ap (λ n. of (slice_get (is ++ i ∷ []) n)) e ∙ ap of (push_here is i) ∙ same ∙ sym (ap of (slice_get_past is k (omega (arith, e)))))
    (λ differ. ap of (push_there is i k differ))

module _ {S : Type 0} (h : HostStep S) (before : List Givens) (made : List (Named Given)) (m : Moment S) (w : Whole) (items : Givens) (are : AreMade made before) (whole : HasWhole m w) (idle : IsIdle m)
    (given : Named Given) (holds : Holds before given items) (i : Instance) (code : i.code ≡ record { store = empty_store; calls = []; going = false }) (config : config_of i ≡ at_rest)
    (instances : List Instance) (one_more : instances ≡ m.instances ++ i ∷ []) (row : Vec Canon Global) (none : row.items ≡ []) (rows : Vec (Vec Canon Global) Global) (rows_are : rows.items ≡ m.group.canons.items ++ row ∷ []) where
  abbrev entered_moment : Moment S
  entered_moment = record m { group = record m.group { canons = rows }; instances = instances }

  pub rest_more : (s : S) → world_of instances s ≡ world_of m.instances s
  rest_more s =
      ap (λ is. world_of is s) one_more
      ∙ ap (λ (f : ℕ → Config ℕ). let v : World S = record { configs = f; below = s } in v) (fun_ext (λ k. by_place m.instances i k config_or_rest config))

  new_row : row_at rows.items w.next_instance ≡ Some 0
  new_row =
      ap (λ rs. row_at rs w.next_instance) rows_are
      ∙ ap (row_at (m.group.canons.items ++ row ∷ [])) (sym whole.rows)
      ∙ ap (option_map (λ (r : Vec Canon Global). length r.items)) (push_here m.group.canons.items row)
      ∙ ap (λ xs. Some (length xs)) none

  new_scene : scene_at instances w.next_instance ≡ Some (scene_of empty_store)
  new_scene =
      ap (λ is. scene_at is w.next_instance) one_more
      ∙ ap (scene_at (m.instances ++ i ∷ [])) (sym whole.instances)
      ∙ slice_get-map (λ (x : Instance). scene_of x.code.store) (m.instances ++ i ∷ []) (length m.instances)
      ∙ ap (option_map (λ (x : Instance). scene_of x.code.store)) (push_here m.instances i)
      ∙ ap (λ c. Some (scene_of c.store)) code

  new_canons : (k n : ℕ) → canon_known rows.items k n ≡ canon_in w.canons k n
  new_canons k n = ap (λ rs. canon_known rs k n) rows_are ∙ by_number k (length m.group.canons.items) last other ∙ whole.canons k n
    where
      last : k ≡ length m.group.canons.items → canon_known (m.group.canons.items ++ row ∷ []) k n ≡ canon_known m.group.canons.items k n
      last e =
          ap (λ j. canon_known (m.group.canons.items ++ row ∷ []) j n) e
          ∙ ap (λ o. option_map func_of (option_and_then (λ (r : Vec Canon Global). slice_get r.items n) o)) (push_here m.group.canons.items row)
          ∙ ap (λ xs. option_map func_of (slice_get xs n)) none
          ∙ sym (ap (λ o. option_map func_of (option_and_then (λ (r : Vec Canon Global). slice_get r.items n) o)) (slice_get_past m.group.canons.items k (omega (arith, e))))

      other : (k ≡ length m.group.canons.items → ⊥) → canon_known (m.group.canons.items ++ row ∷ []) k n ≡ canon_known m.group.canons.items k n
      other differ = ap (λ o. option_map func_of (option_and_then (λ (r : Vec Canon Global). slice_get r.items n) o)) (push_there m.group.canons.items row k differ)

  entered_idle : IsIdle entered_moment
  entered_idle = record {
    still = λ k x at. by_number k (length m.instances)
        (λ e. let found : Some x ≡ Some i = sym at ∙ ap (λ is. slice_get is k) one_more ∙ ap (slice_get (m.instances ++ i ∷ [])) e ∙ push_here m.instances i in ap (λ (y : Instance). y.code.going) (some_same x i found) ∙ ap (λ c. c.going) code)
        (λ differ. idle.still k x (sym (push_there m.instances i k differ) ∙ ap (λ is. slice_get is k) (sym one_more) ∙ at));
    calls = λ k. ap (λ is. calls_of is k) one_more ∙ by_place m.instances i k calls_in (ap (λ c. c.calls) code) ∙ idle.calls k;
    frames = idle.frames;
    lend = subst (λ (v : World S). AllLend (λ k. (v.configs k).map) [] []) (sym (rest_more m.kept.state)) idle.lend;
  }

  pub entered_made : (made' : List (Named Given)) (l : CodeMaking) → made' ≡ made ++ given ∷ [] → Stands (before ++ items ∷ []) l (begun w items) → Made before m entered_moment made' l (begun w items)
  entered_made made' l e stands = record {
    more = items ∷ [];
    gathers = record {
      made = subst (λ is. AreMade is (before ++ items ∷ [])) (sym e) (made_and before made given items are holds);
      stands = stands;
      own = record { canons = new_row; store = new_scene };
      whole = record {
        instances = ap length one_more ∙ length_push m.instances i ∙ ap (λ n. n + 1) whole.instances;
        rows = ap length rows_are ∙ length_push m.group.canons.items row ∙ ap (λ n. n + 1) whole.rows;
        canons = new_canons;
        next = whole.next;
        owners = whole.owners;
      };
    };
    idle = entered_idle;
    others = record {
      rows = λ j differ. ap (λ rs. row_at rs j) rows_are ∙ ap (option_map (λ (r : Vec Canon Global). length r.items)) (push_there m.group.canons.items row j (λ e'. differ (e' ∙ whole.rows)));
      scenes = λ j differ.
          ap (λ is. scene_at is j) one_more
          ∙ slice_get-map (λ (x : Instance). scene_of x.code.store) (m.instances ++ i ∷ []) j
          ∙ ap (option_map (λ (x : Instance). scene_of x.code.store)) (push_there m.instances i j (λ e'. differ (e' ∙ whole.instances)))
          ∙ sym (slice_get-map (λ (x : Instance). scene_of x.code.store) m.instances j);
    };
    imported = refl;
  }

-- its number among those that are made
pub entered_number : (before : List Givens) (made : List (Named Given)) (items : Givens) (place : ℕ) → AreMade made before → place ≡ length made → IsInstance (before ++ items ∷ []) place items
entered_number before made items place are e = made_last before made items place are e

-- ---- its step comes first

module _ {S : Type 0} (h : HostStep S) (G : Group) where
  pub step_done : (old new : Moment S) → new.kept ≡ old.kept → old.budget ≡ new.budget + 1 → world_of new.instances new.kept.state ≡ world_of old.instances old.kept.state → AreDone h G (BeginsStage ∷ []) old new
  unfolding gives
  step_done old new kept taken same =
      let one : old.budget ≡ suc new.budget = omega (arith, taken) in
      ap (λ n. seen_before old.kept.seen (stages_act h G (BeginsStage ∷ []) (world_of old.instances old.kept.state) n)) one
      ∙ ap (seen_before old.kept.seen) (step_then (λ (u : Unit {0}). stages_act h G []) (world_of old.instances old.kept.state) new.budget)
      ∙ before_next old.kept.seen new.budget (world_of old.instances old.kept.state) tt
      ∙ ap (λ v. Next old.kept.seen new.budget v tt) (sym same)
      ∙ ap (λ k. Next k.seen new.budget (world_of new.instances new.kept.state) tt) (sym kept)

  pub step_spends : (old new : Moment S) → new.kept ≡ old.kept → old.budget ≡ 0 → Ends h G (so_far old (stages_act h G (BeginsStage ∷ []))) new stops.Spent
  step_spends old new kept none =
      ap (λ n. seen_before old.kept.seen (stages_act h G (BeginsStage ∷ []) (world_of old.instances old.kept.state) n)) none
      ∙ ap (seen_before old.kept.seen) (step_spent (λ (u : Unit {0}). stages_act h G []) (world_of old.instances old.kept.state))
      ∙ before_spent old.kept.seen
      ∙ ap (λ k. Spent k.seen) (sym kept)
