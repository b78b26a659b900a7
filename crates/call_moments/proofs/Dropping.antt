-- Handles of resources are made, read and dropped by core code.
use Rattle.std.proofs.Common.{◌≡◌, ◌≤◌, ◌<◌, ◌==◌, ℕ, zero, suc, Bool, List, [], ◌∷◌, ◌++◌, length, map, set, reverse, Option, Some, None, Ok, Err, true, false, refl, sym, ap, subst, ◌∙◌}
use Rattle.std.proofs.lemmas.List.{length-map}
use Rattle.std.specs.Prelude.{Result, IsErrAnd, slice_get, nat_eq, option_map}
use Rattle.virt_base.specs.declared.core_type.CoreType.TheVariants.{I32}
use Rattle.core_store.specs.Words.{words, HaveTypes}
use Rattle.core_store.specs.Scene.{scene_of}
use Rattle.core_store.specs.declared.value.CoreValue.{CoreValue}
use Rattle.core_store.specs.declared.value.CoreValue.TheVariants as values
use Rattle.indexmap.specs.IndexMap.{get}
use Rattle.wit_types.specs.PlainValue.{PlainValue}
use Rattle.host_port.specs.Hosts.{HostStep, Kept, drops}
use Rattle.comp_worlds.specs.Acts.{Trapped, Over, seen_before, Act, ◌>>◌}
use Rattle.comp_worlds.specs.Groups.{Nesting, deeper, Group, Func, ResourceNew, ResourceRep, ResourceDrop, Owner, Config, World}
use Rattle.comp_worlds.specs.Locals.{Local, gives_in, done, enter, makes, reads, removes}
use Rattle.comp_worlds.specs.Calls.{on, below, begins_call, owned_by, owns, plainly, as_words, performs}
use Rattle.comp_worlds.specs.Hosts.{hosted}
use Rattle.comp_frames.proofs.Heads.{before_before, then_alike}
use Rattle.comp_frames.proofs.Hosting.{host_loses}
use Rattle.comp_frames.specs.Running.{running}
use Rattle.comp_frames.specs.Frames.{Awaiting, Destroys as ToDestroy, instance_in, comes_back}
use Rattle.comp_frames.specs.Laws.{destroys, drops_own, drops_taken}
use Rattle.comp_frames.proofs.Steps.{calls_go_back}
use Rattle.instance_state.specs.declared.instance.Instance.{Instance}
use Rattle.instance_state.specs.Shown.{config_of}
use Rattle.instance_state.specs.declared.owners.Owner.{Owner as CodeOwner}
use Rattle.instance_state.specs.Owning.{owner_of, owner_in}
use Rattle.call_moments.specs.Steps.{BeginsCall}
use Rattle.call_moments.specs.Words.{only_word_in}
use Rattle.call_moments.specs.declared.depth.Depth.{Depth}
use Rattle.call_moments.specs.declared.end.Stop.{Stop}
use Rattle.call_moments.specs.declared.end.Stop.TheVariants as stops
use Rattle.call_moments.specs.declared.frame.Flow.{Flow}
use Rattle.call_moments.specs.declared.frame.Flow.TheVariants as flows
use Rattle.call_moments.specs.declared.frame.Purpose.TheVariants as purposes
use Rattle.call_moments.specs.declared.frame.Visit.{Visit}
use Rattle.call_moments.specs.declared.frame.Visit.TheVariants as visits
use Rattle.call_moments.specs.CodeLaws.{nested}
use Rattle.call_moments.specs.Configs.{world_of}
use Rattle.call_moments.specs.LoanLaws.{LeavesLent}
use Rattle.call_moments.specs.Shown.{depth_of, visits_of}
use Rattle.call_moments.proofs.Lending.{handles_stay}
use Rattle.call_moments.specs.Fits.{scenes_of, core_type_of, Takes, OwnerFits, FuncFits}
use Rattle.call_moments.specs.Waiting.{instance_of}
use Rattle.call_moments.specs.Leads.{Moment, sizes_of, so_far, Same, Waits, Ends, Leads}
use Rattle.call_moments.specs.Functions.{IsChanged, Does, CanBegin, CodeBegins, Resumes, HasDestroyed, run, behind, back_to}
use Rattle.call_moments.specs.Canonical.{Performs, DropsAtHost, Destroys}
use Rattle.call_moments.proofs.Insides.{not_there}
use Rattle.call_moments.proofs.Instances.{found_at}
use Rattle.call_moments.proofs.Following.{with_instance, same_set, waits_on, waits_kept, leads_by, ends_by, on_then, on_trapped, begin_then, begin_ends, after_begin, after_does, does_fail}
use Rattle.call_moments.proofs.Granting.{word_alone, word_there}
use Rattle.call_moments.proofs.Serves.{stays, ends_as}

set_same : (is : List Instance) (k : ℕ) (i : Instance) → slice_get is k ≡ Some i → set is k i ≡ is
set_same [] k i e = refl
set_same (x ∷ is) zero i e = let same : x ≡ i = cc in ap (λ (y : Instance). y ∷ is) (sym same)
set_same (x ∷ is) (suc k) i e = ap (λ (ys : List Instance). x ∷ ys) (set_same is k i e)

-- an instance is there by its scene
count_scenes : {S : Type 0} (m : Moment S) (k : ℕ) → k < length (scenes_of m.instances) → k < length m.instances
count_scenes m k lt = subst (λ n. k < n) (length-map m.instances (λ (i : Instance). scene_of i.code.store)) lt

scenes_count : {S : Type 0} (m : Moment S) (k : ℕ) → k < length m.instances → k < length (scenes_of m.instances)
scenes_count m k lt = subst (λ n. k < n) (sym (length-map m.instances (λ (i : Instance). scene_of i.code.store))) lt

-- ---- what an instance does by itself with one word, and its results go back

module _ {S : Type 0} (h : HostStep S) (old : Moment S) (k : ℕ) (args : List CoreValue) where
  -- each asks for one word
  pub makes_none : (r : ℕ) (e : Nesting) → only_word_in args ≡ None → (result : Result Flow Stop) (new : Moment S) → Performs h old k e (ResourceNew r) args result new
  makes_none r e none result new = λ G waiting w inner fits typed. absurd (word_there args typed none)

  pub reads_none : (r : ℕ) (e : Nesting) → only_word_in args ≡ None → (result : Result Flow Stop) (new : Moment S) → Performs h old k e (ResourceRep r) args result new
  reads_none r e none result new = λ G waiting w inner fits typed. absurd (word_there args typed none)

  pub drops_none : (r : ℕ) (e : Nesting) → only_word_in args ≡ None → (result : Result Flow Stop) (new : Moment S) → Performs h old k e (ResourceDrop r) args result new
  drops_none r e none result new = λ G waiting w inner fits typed. absurd (word_there args typed none)

  pub performs_there : (func : Func) (e : Nesting) → length old.instances ≤ k → (result : Result Flow Stop) (new : Moment S) → Performs h old k e func args result new
  performs_there func e le result new = λ G waiting w inner fits typed. absurd (not_there h G old waiting _ [] w k inner le)

  module _ (word : ℕ) (one : only_word_in args ≡ Some word) (i : Instance) (found : slice_get old.instances k ≡ Some i) where
    -- an operation that answers a word
    module _ (G : Group) (waiting : List (Awaiting S)) (op : List ℕ → Config ℕ → Option (Local ℕ (List ℕ))) where
      abbrev then_back : Act (World S) (Option PlainValue)
      then_back = on k (op (words args)) >> λ ws. back_to h G waiting (as_words ws)

      word_fails : (new : Moment S) (result : Result Flow Stop) → HaveTypes (I32 ∷ []) args → op (word ∷ []) (config_of i) ≡ None → new.kept ≡ old.kept → IsErrAnd result (λ s. s ≡ stops.Trapped) → Leads h G (so_far old then_back) old result new
      word_fails new result typed none same e =
          ends_as h old new G _ stops.Trapped result e
          (on_trapped h G old k i (op (words args)) _ found (ap (λ ws. op ws (config_of i)) (word_alone args word typed one) ∙ none) ∙ ap (λ (x : Kept S). Over x.seen Trapped) (sym same))

      word_leads : (j : Instance) (answer : ℕ) (xs : List CoreValue) (new : Moment S) (result : Result Flow Stop) → HaveTypes (I32 ∷ []) args → op (word ∷ []) (config_of i) ≡ Some (gives_in (answer ∷ []) (config_of j)) → j.code ≡ i.code → LeavesLent (op (word ∷ [])) →
          xs ≡ values.I32 answer ∷ [] → Waits h G old waiting [] (Some 1) → Resumes h (with_instance old k j) xs result new → Leads h G (so_far old then_back) old result new
      word_leads j answer xs new result typed goes code leaves is w resumes =
          leads_by h G _ _ old (with_instance old k j) new result
          (on_then h G old k i j found code (op (words args)) (λ ws. back_to h G waiting (as_words ws)) (answer ∷ []) (ap (λ ws. op ws (config_of i)) (word_alone args word typed one) ∙ goes))
          (same_set h G old k i j found code)
          (subst (λ ys. Resumes h (with_instance old k j) ys result new) is resumes G waiting
          (waits_on h G old k i j found code (λ lent. leaves (config_of i) (gives_in (answer ∷ []) (config_of j)) lent goes) waiting [] (Some 1) w))

    module _ (r : ℕ) (e : Nesting) (may : Bool) (owning : may ≡ owned_by (owner_in old.group.owners r) k) where
      makes_so : (G : Group) (waiting : List (Awaiting S)) → owned_by (owner_in old.group.owners r) k ≡ owns G k r →
          so_far old (performs G (hosted h) (running G (hosted h)) e k (words args) (Some (ResourceNew r)) >> back_to h G waiting) ≡ so_far old (then_back G waiting (makes plainly may r))
      makes_so G waiting fits =
          ap (so_far old) ((calls_go_back G h (nested 0)).making k (back_to h G waiting) e (words args) r)
          ∙ ap (λ b. so_far old (then_back G waiting (makes plainly b r))) (sym (owning ∙ fits))

      pub makes_fails : (new : Moment S) (result : Result Flow Stop) → makes plainly may r (word ∷ []) (config_of i) ≡ None → new.kept ≡ old.kept → IsErrAnd result (λ s. s ≡ stops.Trapped) → Performs h old k e (ResourceNew r) args result new
      makes_fails new result none same err = λ G waiting w inner fits typed.
          leads_by h G _ _ old old new result (makes_so G waiting fits) (stays h old) (word_fails G waiting (makes plainly may r) new result typed none same err)

      pub makes_leads : (j : Instance) (answer : ℕ) (xs : List CoreValue) (new : Moment S) (result : Result Flow Stop) → makes plainly may r (word ∷ []) (config_of i) ≡ Some (gives_in (answer ∷ []) (config_of j)) → j.code ≡ i.code → xs ≡ values.I32 answer ∷ [] →
          Resumes h (with_instance old k j) xs result new → Performs h old k e (ResourceNew r) args result new
      makes_leads j answer xs new result goes code is resumes = λ G waiting w inner fits typed.
          leads_by h G _ _ old old new result (makes_so G waiting fits) (stays h old) (word_leads G waiting (makes plainly may r) j answer xs new result typed goes code (handles_stay.makes may r (word ∷ [])) is w resumes)

      reads_so : (G : Group) (waiting : List (Awaiting S)) → owned_by (owner_in old.group.owners r) k ≡ owns G k r →
          so_far old (performs G (hosted h) (running G (hosted h)) e k (words args) (Some (ResourceRep r)) >> back_to h G waiting) ≡ so_far old (then_back G waiting (reads plainly may r))
      reads_so G waiting fits =
          ap (so_far old) ((calls_go_back G h (nested 0)).reading k (back_to h G waiting) e (words args) r)
          ∙ ap (λ b. so_far old (then_back G waiting (reads plainly b r))) (sym (owning ∙ fits))

      pub reads_fails : (new : Moment S) (result : Result Flow Stop) → reads plainly may r (word ∷ []) (config_of i) ≡ None → new.kept ≡ old.kept → IsErrAnd result (λ s. s ≡ stops.Trapped) → Performs h old k e (ResourceRep r) args result new
      reads_fails new result none same err = λ G waiting w inner fits typed.
          leads_by h G _ _ old old new result (reads_so G waiting fits) (stays h old) (word_fails G waiting (reads plainly may r) new result typed none same err)

      pub reads_leads : (answer : ℕ) (xs : List CoreValue) (new : Moment S) (result : Result Flow Stop) → reads plainly may r (word ∷ []) (config_of i) ≡ Some (gives_in (answer ∷ []) (config_of i)) → xs ≡ values.I32 answer ∷ [] → Resumes h old xs result new →
          Performs h old k e (ResourceRep r) args result new
      reads_leads answer xs new result goes is resumes = λ G waiting w inner fits typed.
          let put : with_instance old k i ≡ old = ap (λ is. record old { instances = is }) (set_same old.instances k i found) in
          leads_by h G _ _ old old new result (reads_so G waiting fits) (stays h old)
          (word_leads G waiting (reads plainly may r) i answer xs new result typed goes refl (handles_stay.reads may r (word ∷ [])) is w (subst (λ m. Resumes h m xs result new) (sym put) resumes))

    -- ---- a handle is dropped
    module _ (r : ℕ) (e : Nesting) where
      abbrev Drops : Result Flow Stop → Moment S → Type 0
      Drops result new = Performs h old k e (ResourceDrop r) args result new

      drops_so : (G : Group) (waiting : List (Awaiting S)) → so_far old (performs G (hosted h) (running G (hosted h)) e k (words args) (Some (ResourceDrop r)) >> back_to h G waiting) ≡ so_far old (on k (removes r (words args)) >> λ x. drops_taken G h (nested 0) k (back_to h G waiting) e r x)
      drops_so G waiting = ap (so_far old) ((calls_go_back G h (nested 0)).dropping k (back_to h G waiting) e (words args) r)

      pub drops_fails : (new : Moment S) (result : Result Flow Stop) → removes r (word ∷ []) (config_of i) ≡ None → new.kept ≡ old.kept → IsErrAnd result (λ s. s ≡ stops.Trapped) → Drops result new
      drops_fails new result none same err = λ G waiting w inner fits typed.
          ends_as h old new G _ stops.Trapped result err
          (drops_so G waiting ∙ on_trapped h G old k i (removes r (words args)) _ found (ap (λ ws. removes r ws (config_of i)) (word_alone args word typed one) ∙ none) ∙ ap (λ (x : Kept S). Over x.seen Trapped) (sym same))

      module _ (j : Instance) (taken : Option ℕ) (goes : removes r (word ∷ []) (config_of i) ≡ Some (gives_in taken (config_of j))) (code : j.code ≡ i.code) where
        abbrev mid : Moment S
        mid = with_instance old k j

        taken_so : (G : Group) (waiting : List (Awaiting S)) → HaveTypes (I32 ∷ []) args →
            so_far old (performs G (hosted h) (running G (hosted h)) e k (words args) (Some (ResourceDrop r)) >> back_to h G waiting) ≡ so_far mid (drops_taken G h (nested 0) k (back_to h G waiting) e r taken)
        taken_so G waiting typed =
            drops_so G waiting ∙ on_then h G old k i j found code (removes r (words args)) (λ x. drops_taken G h (nested 0) k (back_to h G waiting) e r x) taken (ap (λ ws. removes r ws (config_of i)) (word_alone args word typed one) ∙ goes)

        waits_mid : (G : Group) (waiting : List (Awaiting S)) → Waits h G old waiting [] (Some 0) → Waits h G mid waiting [] (Some 0)
        waits_mid G waiting w = waits_on h G old k i j found code (λ lent. handles_stay.drops r (word ∷ []) (config_of i) (gives_in taken (config_of j)) lent goes) waiting [] (Some 0) w

        -- nothing was owned
        pub drops_borrowed : taken ≡ None → (xs : List CoreValue) → xs ≡ [] → (new : Moment S) (result : Result Flow Stop) → Resumes h mid xs result new → Drops result new
        drops_borrowed none xs is new result resumes = λ G waiting w inner fits typed.
            leads_by h G _ _ old mid new result (taken_so G waiting typed ∙ ap (λ x. so_far mid (drops_taken G h (nested 0) k (back_to h G waiting) e r x)) none) (same_set h G old k i j found code)
            (subst (λ ys. Resumes h mid ys result new) is resumes G waiting (waits_mid G waiting w))

        module _ (rep : ℕ) (some : taken ≡ Some rep) where
          -- what is done by the resource's owner
          abbrev owner_drops : (G : Group) → List (Awaiting S) → Option Owner → Act (World S) (Option PlainValue)
          owner_drops G waiting o = drops_own G h (nested 0) k (back_to h G waiting) (owned_by o k) e r rep o

          owned_so : (G : Group) (waiting : List (Awaiting S)) (o : Option Owner) → HaveTypes (I32 ∷ []) args → G.owner r ≡ o →
              so_far old (performs G (hosted h) (running G (hosted h)) e k (words args) (Some (ResourceDrop r)) >> back_to h G waiting) ≡ so_far mid (owner_drops G waiting o)
          owned_so G waiting o typed is =
              taken_so G waiting typed ∙ ap (λ x. so_far mid (drops_taken G h (nested 0) k (back_to h G waiting) e r x)) some ∙ ap (λ x. so_far mid (owner_drops G waiting x)) is

          pub drops_host : option_map owner_of None ≡ owner_in old.group.owners r → (new : Moment S) (result : Result Flow Stop) → DropsAtHost h mid r rep result new → Drops result new
          drops_host nobody new result leads = λ G waiting w inner fits typed.
              let is : G.owner r ≡ None = sym fits.0 ∙ sym nobody in
              let named = subst (λ o. OwnerFits (scenes_of old.instances) G old.group.owners (λ x. get nat_eq old.group.imported x) r o) is fits.1 in
              leads_by h G _ _ old mid new result (owned_so G waiting None typed is) (same_set h G old k i j found code) (leads G waiting e (waits_mid G waiting w) named)

      module _ (j : Instance) (rep : ℕ) (goes : removes r (word ∷ []) (config_of i) ≡ Some (gives_in (Some rep) (config_of j))) (code : j.code ≡ i.code) (depth : Depth) (at : e ≡ depth_of depth) where
        pub drops_owner : (owner : CodeOwner) → option_map owner_of (Some owner) ≡ owner_in old.group.owners r → (new : Moment S) (result : Result Flow Stop) → Destroys h (with_instance old k j) k depth owner rep result new → Drops result new
        drops_owner owner somebody new result leads = λ G waiting w inner fits typed.
            let is : G.owner r ≡ Some (owner_of owner) = sym fits.0 ∙ sym somebody in
            let same = same_set h G old k i j found code in
            let their = subst (λ o. OwnerFits (scenes_of old.instances) G old.group.owners (λ x. get nat_eq old.group.imported x) r o) is fits.1 in
            leads_by h G _ _ old (with_instance old k j) new result
            (owned_so j (Some rep) goes code rep refl G waiting (Some (owner_of owner)) typed is
            ∙ ap (λ d. so_far (with_instance old k j) (drops_own G h (nested 0) k (back_to h G waiting) (owner.instance == k) d r rep (Some (owner_of owner)))) at)
            same
            (leads G waiting r (waits_mid j (Some rep) goes code G waiting w) (count_scenes (with_instance old k j) owner.instance (subst (λ ss. owner.instance < length ss) (sym same.scenes) their.0))
            (subst (λ ss. (f : ℕ) → owner.destructor ≡ Some f → Takes ss owner.instance f 1) (sym same.scenes) their.1))

-- ---- a handle of the host is dropped

module _ {S : Type 0} (h : HostStep S) (old : Moment S) (resource rep : ℕ) (new : Moment S) (result : Result Flow Stop) where
  pub loses_none : get nat_eq old.group.imported resource ≡ None → DropsAtHost h old resource rep result new
  loses_none none = λ G waiting e w named. absurd (let no : None ≡ Some (G.imported resource) = sym none ∙ named in cc)

  pub loses : (mid : Moment S) (name : _) → get nat_eq old.group.imported resource ≡ Some name → mid ≡ record old { kept = drops h old.kept name rep } → (xs : List CoreValue) → xs ≡ [] → Resumes h mid xs result new → DropsAtHost h old resource rep result new
  loses mid name there is xs none resumes = λ G waiting e w named.
      let both : Some name ≡ Some (G.imported resource) = sym there ∙ named in
      let same : name ≡ G.imported resource = cc in
      let is' : mid ≡ record old { kept = drops h old.kept (G.imported resource) rep } = is ∙ ap (λ n. record old { kept = drops h old.kept n rep }) same in
      leads_by h G _ _ old mid new result
      (ap (seen_before old.kept.seen) (host_loses h e (world_of old.instances old.kept.state) old.budget (G.imported resource) rep (λ _. back_to h G waiting []))
      ∙ before_before old.kept.seen _ _
      ∙ ap (λ m. so_far m (back_to h G waiting [])) (sym is'))
      (subst (λ m. Same old m) (sym is') (record { group = refl; scenes = refl }))
      (subst (λ ys. Resumes h mid ys result new) none resumes G waiting (subst (λ m. Waits h G m waiting [] (Some 0)) (sym is') (waits_kept h G old (drops h old.kept (G.imported resource) rep) waiting [] (Some 0) w)))

-- ---- a destructor runs, or there is none

-- what is left after a destructor is left in every instance
behind_any : {S : Type 0} (h : HostStep S) (G : Group) (waiting : List (Awaiting S)) (k at : ℕ) (visit : Visit) (results : List CoreValue) →
    comes_back G (hosted h) (nested 0) k (back_to h G waiting) at (ToDestroy (visits_of visit)) results ≡ behind h G waiting at (ToDestroy (visits_of visit)) results
behind_any h G waiting k at visits.Own results = refl
behind_any h G waiting k at visits.Other results = refl

module _ {S : Type 0} (h : HostStep S) (k at : ℕ) (visit : Visit) (depth : Depth) (rep : ℕ) where
  -- the instance is entered by now, if it is another one
  abbrev pub RunsDestructor : Moment S → Option ℕ → Result Flow Stop → Moment S → Type 0
  RunsDestructor old destructor result new =
      (G : Group) (waiting : List (Awaiting S)) → Waits h G old waiting [] (Some 0) → at < length old.instances → ((f : ℕ) → destructor ≡ Some f → Takes (scenes_of old.instances) at f 1) →
      Leads h G (so_far old (destroys G h (nested 0) k (back_to h G waiting) (depth_of depth) at (visits_of visit) rep destructor)) old result new

  module _ (old new : Moment S) (destructor : Option ℕ) (result : Result Flow Stop) where
    pub none_runs : destructor ≡ None → HasDestroyed h old at visit result new → RunsDestructor old destructor result new
    none_runs none leads = λ G waiting w lt takes.
        leads_by h G _ _ old old new result
        (ap (λ d. so_far old (destroys G h (nested 0) k (back_to h G waiting) (depth_of depth) at (visits_of visit) rep d)) none ∙ ap (so_far old) (behind_any h G waiting k at visit []))
        (stays h old) (leads G waiting [] w lt)

    module _ (f : ℕ) (some : destructor ≡ Some f) where
      -- it runs, and then what is after it
      abbrev runs_it : (G : Group) → List (Awaiting S) → Nesting → Act (World S) (Option PlainValue)
      runs_it G waiting e = run h G e at f (values.I32 rep ∷ []) >> behind h G waiting at (ToDestroy (visits_of visit))

      runs_so : (G : Group) (waiting : List (Awaiting S)) → so_far old (destroys G h (nested 0) k (back_to h G waiting) (depth_of depth) at (visits_of visit) rep destructor) ≡ so_far old (begins_call (nested depth.calls) >> λ _. runs_it G waiting (deeper (nested depth.calls)))
      runs_so G waiting =
          ap (λ d. so_far old (destroys G h (nested 0) k (back_to h G waiting) (depth_of depth) at (visits_of visit) rep d)) some
          ∙ ap (so_far old) (then_alike (begins_call (nested depth.calls)) _ _ (λ _. then_alike (run h G (deeper (nested depth.calls)) at f (values.I32 rep ∷ [])) _ _ (λ results. behind_any h G waiting k at visit results)))

      pub begin_stops : (stop : Stop) → BeginsCall old.budget depth.calls new.budget (Err stop) → new.kept ≡ old.kept → IsErrAnd result (λ s. s ≡ stop) → RunsDestructor old destructor result new
      begin_stops stop b same e = λ G waiting w lt takes. ends_as h old new G _ stop result e (ends_by h G _ _ new stop (runs_so G waiting) (begin_ends h G old new depth.calls new.budget stop _ same b))

      module _ (mid : Moment S) (depth' : Depth) (b : BeginsCall old.budget depth.calls mid.budget (Ok depth')) (is : mid ≡ record old { budget = mid.budget }) (args : List CoreValue) (one : args ≡ values.I32 rep ∷ []) where
        runs_on : ((G : Group) (waiting : List (Awaiting S)) → Waits h G mid waiting [] (Some 0) → CanBegin (scenes_of mid.instances) (sizes_of mid.instances) (instance_of (reverse mid.frames)) at f 1 (purposes.Destroys visit) →
            Leads h G (so_far mid (runs_it G waiting (depth_of depth'))) mid result new) → RunsDestructor old destructor result new
        runs_on rest = λ G waiting w lt takes.
            leads_by h G _ _ old old new result (runs_so G waiting) (stays h old)
            (after_begin h G waiting [] (Some 0) old mid new result w depth.calls depth' (runs_it G waiting (deeper (nested depth.calls))) b is (λ w2 deep.
            subst (λ e. Leads h G (so_far mid (runs_it G waiting e)) mid result new) (sym deep)
            (rest G waiting w2 (record { takes = subst (λ (m : Moment S). Takes (scenes_of m.instances) at f 1) (sym is) (takes f some); fits = tt; answers = tt; room = tt }))))

        pub code_runs : CodeBegins h mid at f args depth' (purposes.Destroys visit) (Ok tt) new → result ≡ Ok flows.Goes → RunsDestructor old destructor result new
        code_runs begins goes =
            let there : CodeBegins h mid at f (values.I32 rep ∷ []) depth' (purposes.Destroys visit) (Ok tt) new = subst (λ xs. CodeBegins h mid at f xs depth' (purposes.Destroys visit) (Ok tt) new) one begins in
            runs_on (λ G waiting w can. subst (λ r. Leads h G (so_far mid (runs_it G waiting (depth_of depth'))) mid r new) (sym goes) (there G waiting w can))

        pub code_stops : (stop : Stop) → CodeBegins h mid at f args depth' (purposes.Destroys visit) (Err stop) new → IsErrAnd result (λ s. s ≡ stop) → RunsDestructor old destructor result new
        code_stops stop begins e =
            let there : CodeBegins h mid at f (values.I32 rep ∷ []) depth' (purposes.Destroys visit) (Err stop) new = subst (λ xs. CodeBegins h mid at f xs depth' (purposes.Destroys visit) (Err stop) new) one begins in
            runs_on (λ G waiting w can. ends_as h mid new G _ stop result e (there G waiting w can))

module _ {S : Type 0} (h : HostStep S) (old : Moment S) (k : ℕ) (depth : Depth) (owner : CodeOwner) (rep : ℕ) (new : Moment S) (result : Result Flow Stop) where
  -- by the instance itself
  pub destroys_own : (owner.instance == k) ≡ true → owner.instance ≡ k → RunsDestructor h k owner.instance visits.Own depth rep old owner.destructor result new → Destroys h old k depth owner rep result new
  destroys_own own same runs = λ G waiting r w lt takes.
      leads_by h G _ _ old old new result
      (ap (λ b. so_far old (drops_own G h (nested 0) k (back_to h G waiting) b (depth_of depth) r rep (Some (owner_of owner)))) own
      ∙ ap (λ n. so_far old (destroys G h (nested 0) k (back_to h G waiting) (depth_of depth) n false rep owner.destructor)) (sym same))
      (stays h old) (runs G waiting w lt takes)

  -- by another one, which is entered
  pub destroys_other : (owner.instance == k) ≡ false → (mid : Moment S) → IsChanged enter owner.instance old mid → RunsDestructor h k owner.instance visits.Other depth rep mid owner.destructor result new → Destroys h old k depth owner rep result new
  destroys_other other mid d runs = λ G waiting r w lt takes.
      leads_by h G _ _ old old new result
      (ap (λ b. so_far old (drops_own G h (nested 0) k (back_to h G waiting) b (depth_of depth) r rep (Some (owner_of owner)))) other)
      (stays h old)
      (after_does h G waiting [] (Some 0) old mid new result w enter handles_stay.enters owner.instance (destroys G h (nested 0) k (back_to h G waiting) (depth_of depth) owner.instance true rep owner.destructor) d (λ w2 same.
      runs G waiting w2 (count_scenes mid owner.instance (subst (λ ss. owner.instance < length ss) (sym same.scenes) (scenes_count old owner.instance lt)))
      (subst (λ ss. (f : ℕ) → owner.destructor ≡ Some f → Takes ss owner.instance f 1) (sym same.scenes) takes)))

  pub destroys_refused : (owner.instance == k) ≡ false → (stop : Stop) → Does enter owner.instance old (Err stop) new → IsErrAnd result (λ s. s ≡ stop) → Destroys h old k depth owner rep result new
  destroys_refused other stop d e = λ G waiting r w lt takes.
      let found = found_at old.instances owner.instance lt in
      ends_as h old new G _ stop result e
      (ends_by h G _ _ new stop (ap (λ b. so_far old (drops_own G h (nested 0) k (back_to h G waiting) b (depth_of depth) r rep (Some (owner_of owner)))) other) (does_fail h G enter owner.instance old new stop _ d found.0 found.1))
