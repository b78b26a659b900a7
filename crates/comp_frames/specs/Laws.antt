-- What each canonical call leads to where core code outside awaits its results, a step at a time.
use Rattle.std.specs.Prelude.{◌≡◌, ℕ, if◌then◌else◌, List, [], ◌∷◌, Option, Some, None, Bool, true, false}
use Rattle.core_store.specs.declared.value.CoreValue.{CoreValue}
use Rattle.core_store.specs.declared.value.CoreValue.TheVariants as values
use Rattle.core_store.specs.Words.{words, values_in}
use Rattle.core_store.specs.Config.{Reply}
use Rattle.wit_types.specs.Plain.{Plain}
use Rattle.wit_types.specs.PlainValue.{PlainValue}
use Rattle.abi_layout.specs.Functions.{lowered, core_params}
use Rattle.abi_layout.specs.Handles.{renumbered}
use Rattle.abi_layout.specs.Storing.{Lowered}
use Rattle.abi_store.specs.Plan.{Plan, at_plan, flat_plan, spill_plan}
use Rattle.host_port.specs.Hosts.{HostStep}
use Rattle.comp_worlds.specs.Acts.{Act, ◌>>◌, gives}
use Rattle.comp_worlds.specs.Passing.{Passed, params_tuple, answer_tuple, handles_of, most_params, most_results, spills_over, lower_params}
use Rattle.comp_worlds.specs.Groups.{Nesting, deeper, at_depth, Options, Import, Lifting, Target, Mine, Theirs, type_of, LoweredFunc, ResourceNew, ResourceDrop, ResourceRep, Owner, Group, World, Served, Below, Answer, Inside, Outside}
use Rattle.comp_worlds.specs.Locals.{is_open, enter, exit, close, reopen, lifts, ends_loans, adds_handles, makes, reads, removes}
use Rattle.comp_worlds.specs.Calls.{on, below, begins_call, owns, borrowed, unborrowed, plainly, place_in, as_words, asks_for, lowers_closed, answers, leaves, performs}
use Rattle.comp_worlds.specs.Hosts.{hosted}
use Rattle.comp_frames.specs.Running.{running}
use Rattle.comp_frames.specs.Pausing.{asks}
use Rattle.comp_frames.specs.Left.{goes_granted, does_due}
use Rattle.comp_frames.specs.Frames.{Asker, Caller, FromOutside, FromCode, Params, Result, Storing, Back, Purpose, Grants, Returns, Destroys, Awaiting, Rest, is_left, goes_back, is_answered, has_served, is_stored, is_storing, comes_back, resumes, ends_in}

module _ {S : Type 0} (G : Group) (h : HostStep S) (d : Nesting) where
  -- what is done by code of the instance k is asked of these, and goes back to it
  module _ (k : ℕ) (back : List CoreValue → Rest G (hosted h) d) where
    -- parameters are lowered into the instance that is called, in which that many calls are in progress, and its function runs
    abbrev pub is_called : Caller → Nesting → ℕ → Lifting → Passed ℕ → Rest G (hosted h) d
    is_called caller e callee lifting passed =
        on callee (adds_handles (borrowed G plainly callee) (handles_of (params_tuple lifting.ty) passed)) >> λ indexes.
        lowers_closed G (hosted h) (running G (hosted h)) e callee lifting.options 0 (lower_params (params_tuple lifting.ty) (renumbered (params_tuple lifting.ty) passed.value indexes)) >> λ flats.
        running G (hosted h) e callee lifting.code (values_in 0 (core_params lifting.ty) flats) >> has_served G (hosted h) d k back (record { instance = callee; lifting = lifting; caller = caller; depth = e })

    -- a call of a lifted function begins
    abbrev pub calls_lifted : Caller → Nesting → ℕ → Lifting → Passed ℕ → Rest G (hosted h) d
    calls_lifted caller e callee lifting passed = begins_call e >> λ _. on callee enter >> λ _. is_called caller (deeper e) callee lifting passed

    -- a function that core code called is asked
    abbrev pub asks_target : Asker → Nesting → Target → Passed ℕ → Rest G (hosted h) d
    asks_target asker e (Theirs import) passed = below ((hosted h).ask e Inside import passed) >> λ a. is_answered G (hosted h) d k back (FromCode asker) e (record { passed = a.passed; due = Below a.due })
    asks_target asker e (Mine callee lifting) passed = calls_lifted (FromCode asker) e callee lifting passed

    -- a destructor of the instance, which was entered for it or was not
    abbrev pub destroys : Nesting → ℕ → Bool → ℕ → Option ℕ → Rest G (hosted h) d
    destroys e at visits x None = comes_back G (hosted h) d k back at (Destroys visits) []
    destroys e at visits x (Some f) = begins_call e >> λ _. running G (hosted h) (deeper e) at f (values.I32 x ∷ []) >> comes_back G (hosted h) d k back at (Destroys visits)

    -- what a resource's handle stood for is dropped
    abbrev pub drops_own : Bool → Nesting → ℕ → ℕ → Option Owner → Rest G (hosted h) d
    drops_own owns e r x None = below ((hosted h).drop e (G.imported r) x) >> λ _. back []
    drops_own true e r x (Some o) = destroys e k false x o.destructor
    drops_own false e r x (Some o) = on o.instance enter >> λ _. destroys e o.instance true x o.destructor

    -- a handle was taken out, and owned this
    abbrev pub drops_taken : Nesting → ℕ → Option ℕ → Rest G (hosted h) d
    drops_taken e r None = back []
    drops_taken e r (Some x) = drops_own (owns G k r) e r x (G.owner r)

  -- Each canonical call, where the results go back.
  pub record CallsGoBack : Type 0 where
    pub asked : (fs : List (Awaiting S)) (k number : ℕ) (args : List CoreValue) (purpose : Purpose) (now : ℕ) (resume : Reply → Act (World S) (List CoreValue)) →
        (asks G (hosted h) d k number args now resume >> ends_in G (hosted h) d fs k purpose)
        ≡ (begins_call (at_depth d now) >> λ _.
        performs G (hosted h) (running G (hosted h)) (deeper (at_depth d now)) k (words args) (G.canons k number) >>
        resumes G (hosted h) d (record { instance = k; purpose = purpose; now = now; resume = resume } ∷ fs))
    pub making : (k : ℕ) (back : List CoreValue → Rest G (hosted h) d) (e : Nesting) (args : List ℕ) (r : ℕ) →
        (performs G (hosted h) (running G (hosted h)) e k args (Some (ResourceNew r)) >> back) ≡ (on k (makes plainly (owns G k r) r args) >> λ ws. back (as_words ws))
    pub reading : (k : ℕ) (back : List CoreValue → Rest G (hosted h) d) (e : Nesting) (args : List ℕ) (r : ℕ) →
        (performs G (hosted h) (running G (hosted h)) e k args (Some (ResourceRep r)) >> back) ≡ (on k (reads plainly (owns G k r) r args) >> λ ws. back (as_words ws))
    pub dropping : (k : ℕ) (back : List CoreValue → Rest G (hosted h) d) (e : Nesting) (args : List ℕ) (r : ℕ) →
        (performs G (hosted h) (running G (hosted h)) e k args (Some (ResourceDrop r)) >> back) ≡ (on k (removes r args) >> λ x. drops_taken k back e r x)
    pub calling : (k : ℕ) (back : List CoreValue → Rest G (hosted h) d) (e : Nesting) (args : List ℕ) (target : Target) (options : Options) →
        (performs G (hosted h) (running G (hosted h)) e k args (Some (LoweredFunc target options)) >> back)
        ≡ (on k is_open >> λ _.
        on k (lifts most_params (params_tuple (type_of target)) options args) >> λ l.
        asks_target k back (record { target = target; options = options; place = place_in (type_of target) args; loans = l.loans }) e target l.passed)

  -- A call from outside, up to the tuple of its result.
  pub record CallsFromOutside : Type 0 where
    pub lifted : (k : ℕ) (back : List CoreValue → Rest G (hosted h) d) (e : Nesting) (callee : ℕ) (lifting : Lifting) (passed : Passed ℕ) →
        (answers G (hosted h) (running G (hosted h)) e Outside (Mine callee lifting) passed >> λ answer. leaves G (hosted h) (running G (hosted h)) e answer.due >> λ _. gives (Some answer.passed.value))
        ≡ calls_lifted k back FromOutside e callee lifting passed
    pub imported : (e : Nesting) (import : Import) (passed : Passed ℕ) →
        (answers G (hosted h) (running G (hosted h)) e Outside (Theirs import) passed >> λ answer. leaves G (hosted h) (running G (hosted h)) e answer.due >> λ _. gives (Some answer.passed.value))
        ≡ (below ((hosted h).ask e Outside import passed) >> λ a. gives (Some a.passed.value))

  -- Values are stored while the instance is closed, and then the call goes on.
  pub record StoringGoesOn : Type 0 where
    -- a request for room
    pub asking : (at : ℕ) (back : List CoreValue → Rest G (hosted h) d) (k : ℕ) (storing : Storing) (f align len : ℕ) (left : Lowered) →
        is_storing G (hosted h) d at back k storing (asks_for G (hosted h) (running G (hosted h)) storing.depth k (Some f) align len >> λ results. goes_granted G (hosted h) (running G (hosted h)) storing.depth k storing.options align len left (words results))
        ≡ (begins_call storing.depth >> λ _.
        running G (hosted h) (deeper storing.depth) k f (values.I32 0 ∷ values.I32 0 ∷ values.I32 align ∷ values.I32 len ∷ []) >>
        comes_back G (hosted h) d at back k (Grants storing align len left))
    -- from the beginning
    pub closing : (at : ℕ) (back : List CoreValue → Rest G (hosted h) d) (k : ℕ) (storing : Storing) (x : Act (World S) (List ℕ)) →
        ((on k close >> λ _. x >> λ flats. on k reopen >> λ _. gives flats) >> is_stored G (hosted h) d at back storing)
        ≡ (on k close >> λ _. is_storing G (hosted h) d at back k storing x)

  -- An answered call is left, and what it answered goes back.
  pub record LeavesCalls : Type 0 where
    pub quietly : (at : ℕ) (back : List CoreValue → Rest G (hosted h) d) (e : Nesting) (k : ℕ) (lifting : Lifting) (results : List CoreValue) (to : Back) → lifting.post ≡ None →
        (is_left G (hosted h) d e (Served k lifting results) >> λ _. goes_back G (hosted h) d at back to) ≡ (on k exit >> λ _. goes_back G (hosted h) d at back to)
    pub by_post_return : (at : ℕ) (back : List CoreValue → Rest G (hosted h) d) (e : Nesting) (k : ℕ) (lifting : Lifting) (results : List CoreValue) (to : Back) (f : ℕ) → lifting.post ≡ Some f →
        (is_left G (hosted h) d e (Served k lifting results) >> λ _. goes_back G (hosted h) d at back to)
        ≡ (begins_call e >> λ _. on k close >> λ _. running G (hosted h) (deeper e) k f results >> comes_back G (hosted h) d at back k (Returns to))

  -- the plans by which parameters and a result are stored
  abbrev pub params_plan : Plain → PlainValue → Plan
  params_plan ty v = if spills_over most_params ty then spill_plan ty v else flat_plan ty v

  abbrev pub result_plan : Plain → ℕ → PlainValue → Plan
  result_plan ty at v = if spills_over most_results ty then at_plan at ty v else flat_plan ty v

  -- what a plan does in an instance
  abbrev pub does_plan : Nesting → ℕ → Options → Plan → Act (World S) (List ℕ)
  does_plan e k options plan = does_due G (hosted h) (running G (hosted h)) e k options plan.due plan.left None

  -- Handles come into the table, and then values are stored by a plan.
  pub record LowersByPlans : Type 0 where
    pub params : (at : ℕ) (back : List CoreValue → Rest G (hosted h) d) (caller : Caller) (e : Nesting) (callee : ℕ) (lifting : Lifting) (passed : Passed ℕ) →
        is_called at back caller e callee lifting passed
        ≡ (on callee (adds_handles (borrowed G plainly callee) (handles_of (params_tuple lifting.ty) passed)) >> λ indexes.
        on callee close >> λ _.
        is_storing G (hosted h) d at back callee (record { options = lifting.options; depth = e; types = core_params lifting.ty; next = Params (record { instance = callee; lifting = lifting; caller = caller; depth = e }) })
        (does_plan e callee lifting.options (params_plan (params_tuple lifting.ty) (renumbered (params_tuple lifting.ty) passed.value indexes))))
    pub result : (at : ℕ) (back : List CoreValue → Rest G (hosted h) d) (asker : Asker) (e : Nesting) (answer : Answer) →
        is_answered G (hosted h) d at back (FromCode asker) e answer
        ≡ (on at (ends_loans asker.loans) >> λ _.
        on at (adds_handles unborrowed (handles_of (answer_tuple (type_of asker.target)) answer.passed)) >> λ indexes.
        on at close >> λ _.
        is_storing G (hosted h) d at back at (record { options = asker.options; depth = e; types = (lowered (type_of asker.target)).results; next = Result answer.due })
        (does_plan e at asker.options (result_plan (answer_tuple (type_of asker.target)) asker.place (renumbered (answer_tuple (type_of asker.target)) answer.passed.value indexes))))
