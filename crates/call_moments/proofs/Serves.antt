-- Lifted functions run, and post-returns.
use Rattle.std.proofs.Common.{◌≡◌, ◌≤◌, ◌<◌, ℕ, List, [], ◌∷◌, length, reverse, Option, Some, None, Ok, Err, Bool, true, false, refl, sym, ap, subst, ◌∙◌, arith}
use Rattle.std.specs.Prelude.{Result, IsSomeAnd, IsErrAnd, slice_get, nat_lt}
use Rattle.std.proofs.lemmas.Bool.Decides.{nat_tests}
use Rattle.std.proofs.lemmas.Option.{slice_get_past}
use Rattle.std.proofs.lemmas.List.{length-map}
use Rattle.core_store.specs.Scene.{Scene, scene_of}
use Rattle.core_interp.specs.Session.{IsCallable}
use Rattle.core_store.specs.declared.value.CoreValue.{CoreValue}
use Rattle.wit_types.specs.PlainValue.{PlainValue}
use Rattle.abi_layout.specs.Functions.{core_params}
use Rattle.host_port.specs.Hosts.{HostStep}
use Rattle.comp_worlds.specs.Acts.{Out, Act, ◌>>◌}
use Rattle.comp_worlds.specs.Groups.{Nesting, deeper, Group, World, Nothing, Below, Served as IsServed}
use Rattle.comp_worlds.specs.Locals.{exit, close}
use Rattle.comp_worlds.specs.Calls.{on, begins_call}
use Rattle.comp_worlds.specs.Hosts.{hosted}
use Rattle.comp_frames.specs.Frames.{Awaiting, Serves, Returns, instance_in, is_left}
use Rattle.instance_state.specs.Targets.{lifting_of}
use Rattle.instance_state.specs.declared.instance.Instance.{Instance}
use Rattle.call_moments.specs.declared.depth.Depth.{Depth}
use Rattle.call_moments.specs.Steps.{BeginsCall}
use Rattle.call_moments.specs.declared.frame.Served.{Served}
use Rattle.call_moments.specs.declared.frame.Due.{Due as CodeDue}
use Rattle.call_moments.specs.declared.frame.Due.TheVariants as dues
use Rattle.call_moments.specs.declared.frame.Back.{Back as CodeBack}
use Rattle.call_moments.specs.declared.frame.Back.TheVariants as backs
use Rattle.call_moments.specs.declared.frame.Stored.{Stored}
use Rattle.call_moments.specs.declared.frame.Stored.TheVariants as stored
use Rattle.call_moments.specs.declared.end.Stop.{Stop}
use Rattle.call_moments.specs.declared.frame.Flow.{Flow}
use Rattle.call_moments.specs.declared.frame.Flow.TheVariants as flows
use Rattle.call_moments.specs.declared.frame.Purpose.TheVariants as purposes
use Rattle.call_moments.specs.declared.frame.Service.{Service}
use Rattle.call_moments.specs.Shown.{depth_of, service_of, due_of, back_of}
use Rattle.call_moments.specs.CodeLaws.{nested}
use Rattle.call_moments.proofs.Lending.{handles_stay}
use Rattle.call_moments.specs.Fits.{scenes_of, Takes}
use Rattle.call_moments.specs.Waiting.{due_back, instance_of, ServiceFits}
use Rattle.call_moments.specs.Leads.{Moment, sizes_of, so_far, Same, Waits, Ends, Leads}
use Rattle.call_moments.specs.Functions.{CanBegin, CodeBegins, IsChanged, Does, LeadsOn, Serving, GoesBack, IsLeft, IsStored, PostReturns, run, behind, back_to, answer_to}
use Rattle.call_moments.proofs.Following.{leads_by, after_begin, after_does, begin_ends}
use Rattle.call_moments.proofs.Leaving.{left_host, left_quietly, left_by, exit_goes}

-- a function that a lifted one names may begin
can_serve : {S : Type 0} (m : Moment S) (service : Service) (flat : List CoreValue) → ServiceFits (scenes_of m.instances) (instance_of (reverse m.frames)) (service_of service) → length flat ≡ length (core_params (lifting_of service.lifting.value).ty) →
    CanBegin (scenes_of m.instances) (sizes_of m.instances) (instance_of (reverse m.frames)) service.instance (lifting_of service.lifting.value).code (length flat) (purposes.Serves service)
can_serve m service flat fits count = record {
  takes = subst (λ n. Takes (scenes_of m.instances) service.instance (lifting_of service.lifting.value).code n) (sym count) fits.0.code;
  fits = fits;
  answers = refl;
  room = tt;
}

module _ {S : Type 0} (h : HostStep S) (old new : Moment S) where
  pub ends_as : (G : Group) (whole : Out (World S) (Option PlainValue)) (stop : Stop) (result : Result Flow Stop) → IsErrAnd result (λ s. s ≡ stop) → Ends h G whole new stop → Leads h G whole old result new
  ends_as G whole stop (Ok flow) e l = absurd e
  ends_as G whole stop (Err s) e l = subst (λ x. Ends h G whole new x) (sym e) l

  module _ (service : Service) (flat : List CoreValue) (code : ℕ) (is : code ≡ (lifting_of service.lifting.value).code) where
    pub serve_goes : CodeBegins h old service.instance code flat service.depth (purposes.Serves service) (Ok tt) new → Serving h old service flat (Ok flows.Goes) new
    serve_goes b = λ G waiting w fits count.
        let begins : CodeBegins h old service.instance (lifting_of service.lifting.value).code flat service.depth (purposes.Serves service) (Ok tt) new =
        subst (λ f. CodeBegins h old service.instance f flat service.depth (purposes.Serves service) (Ok tt) new) is b in
        begins G waiting w (can_serve old service flat fits count)

    pub serve_ends : (stop : Stop) (result : Result Flow Stop) → CodeBegins h old service.instance code flat service.depth (purposes.Serves service) (Err stop) new → IsErrAnd result (λ s. s ≡ stop) → Serving h old service flat result new
    serve_ends stop result b e = λ G waiting w fits count.
        let begins : CodeBegins h old service.instance (lifting_of service.lifting.value).code flat service.depth (purposes.Serves service) (Err stop) new =
        subst (λ f. CodeBegins h old service.instance f flat service.depth (purposes.Serves service) (Err stop) new) is b in
        ends_as G _ stop result e (begins G waiting w (can_serve old service flat fits count))

-- ---- post-returns: a call begins, the instance is closed, and core code begins
module _ {S : Type 0} (h : HostStep S) (old mid1 mid2 new : Moment S) (served : Served) (post : ℕ) (back : CodeBack) (depth : Depth) (result : Result Flow Stop) where
  abbrev k : ℕ
  k = served.instance

  -- what is left where the post-return begins
  abbrev runs_post : (G : Group) → List (Awaiting S) → Nesting → Act (World S) (Option PlainValue)
  runs_post G waiting e = run h G e k post served.results >> behind h G waiting k (Returns (back_of back))

  pub post_leads : BeginsCall old.budget served.depth.calls mid1.budget (Ok depth) → mid1 ≡ record old { budget = mid1.budget } → IsChanged close k mid1 mid2 →
      ((G : Group) (waiting : List (Awaiting S)) → Waits h G mid2 waiting [] (due_back (back_of back)) → CanBegin (scenes_of mid2.instances) (sizes_of mid2.instances) (instance_of (reverse mid2.frames)) k post (length served.results) (purposes.Returns back) →
      Leads h G (so_far mid2 (runs_post G waiting (depth_of depth))) mid2 result new) → PostReturns h old served post back result new
  post_leads b is d rest = λ G waiting w takes.
      after_begin h G waiting [] (due_back (back_of back)) old mid1 new result w served.depth.calls depth (on k close >> λ _. runs_post G waiting (deeper (depth_of served.depth))) b is (λ w1 deep.
      after_does h G waiting [] (due_back (back_of back)) mid1 mid2 new result w1 close handles_stay.closes k (runs_post G waiting (deeper (depth_of served.depth))) d (λ w2 same.
      let scenes : scenes_of mid2.instances ≡ scenes_of old.instances = same.scenes ∙ ap (λ (m : Moment S). scenes_of m.instances) is in
      subst (λ e. Leads h G (so_far mid2 (runs_post G waiting e)) mid2 result new) (sym deep)
      (rest G waiting w2 (record { takes = subst (λ ss. Takes ss k post (length served.results)) (sym scenes) takes; fits = tt; answers = tt; room = tt }))))

module _ {S : Type 0} (h : HostStep S) where
  -- no step was left, or the call would be one too many
  pub post_fails : (old new : Moment S) (served : Served) (post : ℕ) (back : CodeBack) (stop : Stop) (result : Result Flow Stop) → BeginsCall old.budget served.depth.calls new.budget (Err stop) → new.kept ≡ old.kept → IsErrAnd result (λ s. s ≡ stop) →
      PostReturns h old served post back result new
  post_fails old new served post back stop result b same e = λ G waiting w takes.
      ends_as h old new G _ stop result e (begin_ends h G old new served.depth.calls new.budget stop _ same b)

  pub post_there : (old : Moment S) (k f count : ℕ) → Takes (scenes_of old.instances) k f count → length old.instances ≤ k → ⊥
  post_there old k f count takes le =
      let none : slice_get (scenes_of old.instances) k ≡ None = slice_get_past (scenes_of old.instances) k (subst (λ n. n ≤ k) (sym (length-map old.instances (λ (i : Instance). scene_of i.code.store))) le) in
      subst (λ (o : Option Scene). IsSomeAnd o (λ (v : Scene). IsCallable (slice_get v.functions f) count)) none takes

  pub takes_within : (old : Moment S) (k f count : ℕ) → Takes (scenes_of old.instances) k f count → k < length old.instances
  takes_within old k f count takes = go (nat_lt k (length old.instances)) refl
    where
      go : (b : Bool) → nat_lt k (length old.instances) ≡ b → k < length old.instances
      go true e = grind (arith, nat_tests)
      go false e = absurd (post_there old k f count takes (grind (arith, nat_tests)))

  -- ---- an answered call is left

  pub stays : (m : Moment S) → Same m m
  stays m = record { group = refl; scenes = refl }

  pub host_leads : (old new : Moment S) (due : CodeDue) (back : CodeBack) (result : Result Flow Stop) → due ≡ dues.Host → GoesBack h old back result new → IsLeft h old due back result new
  host_leads old new due back result e r =
      subst (λ d. IsLeft h old d back result new) (sym e) (λ G waiting e w fits at.
      leads_by h G (so_far old (is_left G (hosted h) (nested 0) e (Below Nothing) >> λ _. answer_to h G waiting back)) (so_far old (answer_to h G waiting back)) old old new result (left_host h G old waiting e Nothing (answer_to h G waiting back)) (stays old)
      (r G waiting w))

  pub quiet_leads : (old mid new : Moment S) (due : CodeDue) (served : Served) (back : CodeBack) (result : Result Flow Stop) → due ≡ dues.Served served → served.lifting.value.post ≡ None → IsChanged exit served.instance old mid → GoesBack h mid back result new →
      IsLeft h old due back result new
  quiet_leads old mid new due served back result e none d r =
      subst (λ x. IsLeft h old x back result new) (sym e) (λ G waiting e w fits at.
      leads_by h G _ (so_far old (on served.instance exit >> λ _. answer_to h G waiting back)) old old new result
      (left_quietly h G old waiting (instance_in waiting) (back_to h G waiting) e served.instance (lifting_of served.lifting.value) served.results (back_of back) none) (stays old)
      (after_does h G waiting [] (due_back (back_of back)) old mid new result w exit handles_stay.exits served.instance (answer_to h G waiting back) d (λ w2 same. r G waiting w2)))

  pub post_leads_on : (old new : Moment S) (due : CodeDue) (served : Served) (post : ℕ) (back : CodeBack) (result : Result Flow Stop) → due ≡ dues.Served served → served.lifting.value.post ≡ Some post → PostReturns h old served post back result new →
      IsLeft h old due back result new
  post_leads_on old new due served post back result e some r =
      subst (λ x. IsLeft h old x back result new) (sym e) (λ G waiting e w fits at.
      subst (λ n. Leads h G (so_far old (is_left G (hosted h) (nested 0) n (IsServed served.instance (lifting_of served.lifting.value) served.results) >> λ _. answer_to h G waiting back)) old result new) at
      (leads_by h G _ (so_far old (begins_call (depth_of served.depth) >> λ _. on served.instance close >> λ _. run h G (deeper (depth_of served.depth)) served.instance post served.results >> behind h G waiting served.instance (Returns (back_of back)))) old old new result
      (left_by h G old waiting (instance_in waiting) (back_to h G waiting) (depth_of served.depth) served.instance (lifting_of served.lifting.value) served.results (back_of back) post some) (stays old)
      (r G waiting w (fits.1 post some))))

  pub left_there : (old new : Moment S) (due : CodeDue) (served : Served) (back : CodeBack) (stop : Stop) (result : Result Flow Stop) → due ≡ dues.Served served → Does exit served.instance old (Err stop) new → (after : Moment S) → IsLeft h old due back result after
  left_there old new due served back stop result e d after =
      subst (λ x. IsLeft h old x back result after) (sym e) (λ G waiting e w fits at. absurd (exit_goes h old new served.instance stop (subst (λ n. served.instance < n) (length-map old.instances (λ (i : Instance). scene_of i.code.store)) fits.0) d))

  -- ---- all is stored

  pub stored_params : (old new : Moment S) (then : Stored) (service : Service) (flat : List CoreValue) (result : Result Flow Stop) → then ≡ stored.Params service → Serving h old service flat result new → IsStored h old then flat result new
  stored_params old new then service flat result e r =
      subst (λ t. IsStored h old t flat result new) (sym e) (λ G waiting storing flats w fits count is.
      subst (λ xs. Leads h G (so_far old (run h G (depth_of service.depth) service.instance (lifting_of service.lifting.value).code xs >> behind h G waiting service.instance (Serves (service_of service)))) old result new) (sym is)
      (r G waiting w fits.0 (count ∙ ap length fits.1)))

  pub stored_result : (old new : Moment S) (then : Stored) (due : CodeDue) (flat : List CoreValue) (result : Result Flow Stop) → then ≡ stored.Result due → IsLeft h old due (backs.Inside flat) result new → IsStored h old then flat result new
  stored_result old new then due flat result e r =
      subst (λ t. IsStored h old t flat result new) (sym e) (λ G waiting storing flats w fits count is.
      subst (λ xs. Leads h G (so_far old (is_left G (hosted h) (nested 0) storing.depth (due_of due) >> λ _. back_to h G waiting xs)) old result new) (sym is)
      (r G waiting storing.depth (subst (λ n. Waits h G old waiting [] (Some n)) (sym count) w) fits.0 fits.1))
