-- Acts one after the other, with what is left brought after each of them.
use Rattle.std.proofs.Common.{◌≡◌, ℕ, List, [], ◌∷◌, Option, Some, None, Bool, true, false, refl, sym, ◌∙◌, ap}
use Rattle.std.specs.Prelude.{◌==◌}
use Rattle.core_store.specs.declared.value.CoreValue.{CoreValue}
use Rattle.core_store.specs.declared.value.CoreValue.TheVariants as values
use Rattle.core_store.specs.Words.{words, values_in}
use Rattle.abi_layout.specs.Functions.{lowered, core_params}
use Rattle.host_port.specs.Calls.{PlainAnswer, Gives, Trap, Ended, Bad}
use Rattle.host_port.specs.Hosts.{HostStep}
use Rattle.comp_worlds.specs.Acts.{seen_before, then_do, Act, ◌>>◌, gives}
use Rattle.comp_worlds.specs.Passing.{Passed, params_tuple, answer_tuple, handles_of, most_params, most_results, in_tuple}
use Rattle.comp_worlds.specs.Groups.{Nesting, deeper, at_depth, Options, Import, Lifting, Target, Mine, Theirs, type_of, Owner, Group, World, Due, Nothing, Served, Below, Answer, Origin, Inside, Outside, Ports}
use Rattle.comp_worlds.specs.Locals.{is_open, enter, exit, close, reopen, lifts, ends_loans, has_no_borrow, adds_handles, makes, reads, removes}
use Rattle.comp_worlds.specs.Calls.{on, below, below_end, begins_call, owned_by, owns, borrowed, plainly, during, place_in, as_words, asks_for, lowers_params, lowers_result, post_returns, answers, leaves, calls, destructs, visits, drops, destructs_own, drops_by, drops_if, performs}
use Rattle.comp_worlds.specs.Hosts.{passed_by, call_of, answered_by, reacts, hosted}
use Rattle.comp_frames.specs.Running.{running}
use Rattle.comp_frames.proofs.Heads.{then_then, gives_then, then_alike}
use Rattle.comp_frames.proofs.Hosting.{host_left}
use Rattle.comp_frames.specs.Left.{goes_granted}
use Rattle.comp_frames.specs.Frames.{Asker, Caller, FromOutside, FromCode, Rest, is_left, goes_back, is_answered, has_served, is_stored, ends_in}
use Rattle.comp_frames.specs.Laws.{is_called, calls_lifted, asks_target, destroys, drops_own, drops_taken, CallsGoBack, CallsFromOutside, StoringGoesOn, LeavesCalls}

-- with what comes after two acts
then_both : {W A B C D : Type 0} → (x : Act W A) (y : A → Act W B) (f : A → B → Act W C) (g : C → Act W D) → ((x >> λ a. y a >> f a) >> g) ≡ (x >> λ a. y a >> λ b. f a b >> g)
then_both x y f g = then_then x (λ a. y a >> f a) g ∙ then_alike x _ _ (λ a. then_then (y a) (f a) g)

module _ {S : Type 0} (G : Group) (h : HostStep S) (d : Nesting) where
  abbrev P : Ports S
  P = hosted h

  abbrev run : Nesting → ℕ → ℕ → List CoreValue → Act (World S) (List CoreValue)
  run = running G (hosted h)

  -- a host answers, and nothing is due
  by_host : {A : Type 0} → (import : Import) (passed : Passed ℕ) (f g : Answer → Act (World S) A) → ((q : Passed ℕ) → f (record { passed = q; due = Nothing }) ≡ g (record { passed = q; due = Nothing })) →
      (below (reacts h import passed) >> f) ≡ (below (reacts h import passed) >> g)
  unfolding ◌>>◌ below reacts
  by_host import passed f g same = λ i w n. at w n (h.call w.below (call_of import passed)).answer i
    where
      at : (w : World S) (n : ℕ) (a : PlainAnswer) →
          then_do (below_end w (answered_by (h.call w.below (call_of import passed)).seen (h.call w.below (call_of import passed)).next (answer_tuple import.ty) a n)) f
          ≡ then_do (below_end w (answered_by (h.call w.below (call_of import passed)).seen (h.call w.below (call_of import passed)).next (answer_tuple import.ty) a n)) g
      at w n (Gives value) = ap (λ (go : Act (World S) _). seen_before (h.call w.below (call_of import passed)).seen (go (record { configs = w.configs; below = (h.call w.below (call_of import passed)).next }) n)) (same (passed_by (answer_tuple import.ty) (in_tuple value)))
      at w n Trap = refl
      at w n Ended = refl
      at w n Bad = refl

  -- ---- lifted functions

  -- a lifted function is called, and `more` comes after its answer
  module _ (k : ℕ) (back : List CoreValue → Rest G P d) (caller : Caller) (e : Nesting) (callee : ℕ) (lifting : Lifting) (more : Answer → Rest G P d)
      (same : (q : Passed ℕ) (results : List CoreValue) → more (record { passed = q; due = Served callee lifting results }) ≡ is_answered G P d k back caller (deeper e) (record { passed = q; due = Served callee lifting results })) where
    abbrev answer : Passed ℕ → List CoreValue → Answer
    answer q results = record { passed = q; due = Served callee lifting results }

    back_of : (results : List CoreValue) →
        ((on callee (lifts most_results (answer_tuple lifting.ty) lifting.options (words results)) >> λ l. on callee (has_no_borrow l.loans) >> λ _. gives (answer l.passed results)) >> more)
        ≡ has_served G P d k back (record { instance = callee; lifting = lifting; caller = caller; depth = deeper e }) results
    back_of results =
        then_both (on callee (lifts most_results (answer_tuple lifting.ty) lifting.options (words results))) (λ l. on callee (has_no_borrow l.loans)) (λ l _. gives (answer l.passed results)) more
        ∙ then_alike (on callee (lifts most_results (answer_tuple lifting.ty) lifting.options (words results))) _ _
        (λ l. then_alike (on callee (has_no_borrow l.loans)) _ _ (λ _. gives_then (answer l.passed results) more ∙ same l.passed results))

    runs_on : (args : List ℕ) →
        ((run (deeper e) callee lifting.code (values_in 0 (core_params lifting.ty) args) >> λ results.
        on callee (lifts most_results (answer_tuple lifting.ty) lifting.options (words results)) >> λ l. on callee (has_no_borrow l.loans) >> λ _. gives (answer l.passed results)) >> more)
        ≡ (run (deeper e) callee lifting.code (values_in 0 (core_params lifting.ty) args) >> has_served G P d k back (record { instance = callee; lifting = lifting; caller = caller; depth = deeper e }))
    runs_on args = then_then (run (deeper e) callee lifting.code (values_in 0 (core_params lifting.ty) args)) _ more ∙ then_alike (run (deeper e) callee lifting.code (values_in 0 (core_params lifting.ty) args)) _ _ back_of

    abbrev args_in : Passed ℕ → Act (World S) (List ℕ)
    args_in passed = lowers_params G P run (deeper e) callee lifting.options (params_tuple lifting.ty) passed

    abbrev code : List ℕ → Act (World S) Answer
    code args =
        run (deeper e) callee lifting.code (values_in 0 (core_params lifting.ty) args) >> λ results.
        on callee (lifts most_results (answer_tuple lifting.ty) lifting.options (words results)) >> λ l. on callee (has_no_borrow l.loans) >> λ _. gives (answer l.passed results)

    lowers_on : (passed : Passed ℕ) → ((args_in passed >> code) >> more) ≡ is_called G h d k back caller (deeper e) callee lifting passed
    lowers_on passed =
        then_then (args_in passed) code more ∙ then_alike (args_in passed) _ _ runs_on
        ∙ then_then (on callee (adds_handles (borrowed G plainly callee) (handles_of (params_tuple lifting.ty) passed))) _ _

    pub lifted_answers : (from : Origin) (passed : Passed ℕ) → (answers G P run e from (Mine callee lifting) passed >> more) ≡ calls_lifted G h d k back caller e callee lifting passed
    lifted_answers from passed =
        then_both (begins_call e) (λ _. on callee enter) (λ _ _. args_in passed >> code) more
        ∙ then_alike (begins_call e) _ _ (λ _. then_alike (on callee enter) _ _ (λ _. lowers_on passed))

  -- ---- destructors

  module _ (k : ℕ) (back : List CoreValue → Rest G P d) (e : Nesting) (x : ℕ) where
    abbrev nothing : Unit {0} → Rest G P d
    nothing u = back []

    destroys_own : (f : Option ℕ) → (destructs G P run e k x f >> nothing) ≡ destroys G h d k back e k false x f
    destroys_own None = gives_then tt nothing
    destroys_own (Some f) =
        then_both (begins_call e) (λ _. run (deeper e) k f (values.I32 x ∷ [])) (λ _ _. gives tt) nothing
        ∙ then_alike (begins_call e) _ _ (λ _. then_alike (run (deeper e) k f (values.I32 x ∷ [])) _ _ (λ _. gives_then tt nothing))

    leaves_visited : (at : ℕ) (f : Option ℕ) → (destructs G P run e at x f >> λ _. on at exit >> nothing) ≡ destroys G h d k back e at true x f
    leaves_visited at None = gives_then tt (λ _. on at exit >> nothing)
    leaves_visited at (Some f) =
        then_both (begins_call e) (λ _. run (deeper e) at f (values.I32 x ∷ [])) (λ _ _. gives tt) (λ _. on at exit >> nothing)
        ∙ then_alike (begins_call e) _ _ (λ _. then_alike (run (deeper e) at f (values.I32 x ∷ [])) _ _ (λ _. gives_then tt (λ _. on at exit >> nothing)))

    visits_other : (o : Owner) → (visits G P run e o x >> nothing) ≡ drops_own G h d k back false e 0 x (Some o)
    visits_other o =
        then_both (on o.instance enter) (λ _. destructs G P run e o.instance x o.destructor) (λ _ _. on o.instance exit) nothing
        ∙ then_alike (on o.instance enter) _ _ (λ _. leaves_visited o.instance o.destructor)

    module _ (r : ℕ) where
      abbrev drops_of : Option Owner → Bool → Act (World S) (Unit {0})
      drops_of o true = destructs_own G P run e k x o
      drops_of o false = drops G P run e r x o

      is_of : (b : Bool) → drops_by G P run e k r x b ≡ drops_of (G.owner r) b
      is_of true = refl
      is_of false = refl

      of_owner : (o : Owner) (b : Bool) → (drops_of (Some o) b >> nothing) ≡ drops_own G h d k back b e r x (Some o)
      of_owner o true = destroys_own o.destructor
      of_owner o false = visits_other o

      of : (o : Option Owner) → (drops_of o (owned_by o k) >> nothing) ≡ drops_own G h d k back (owned_by o k) e r x o
      of None = refl
      of (Some o) = of_owner o (o.instance == k)

      pub drops_what_was_owned : ((drops_by G P run e k r x (owns G k r) >> λ _. gives []) >> back) ≡ drops_own G h d k back (owns G k r) e r x (G.owner r)
      drops_what_was_owned =
          then_then (drops_by G P run e k r x (owns G k r)) (λ _. gives []) back ∙ then_alike (drops_by G P run e k r x (owns G k r)) _ nothing (λ _. gives_then [] back)
          ∙ ap (λ (y : Act (World S) (Unit {0})). y >> nothing) (is_of (owns G k r)) ∙ of (G.owner r)

  -- ---- canonical calls

  module _ (k : ℕ) (back : List CoreValue → Rest G P d) (e : Nesting) where
    one_act : {A : Type 0} → (x : Act (World S) A) (f : A → List CoreValue) → ((x >> λ a. gives (f a)) >> back) ≡ (x >> λ a. back (f a))
    one_act x f = then_then x (λ a. gives (f a)) back ∙ then_alike x _ _ (λ a. gives_then (f a) back)

    dropped : (r : ℕ) (x : Option ℕ) → (drops_if G P run e k r x >> back) ≡ drops_taken G h d k back e r x
    dropped r None = gives_then [] back
    dropped r (Some x) = drops_what_was_owned k back e x r

    -- the result of a call is lowered, and the call left
    abbrev is_got : Asker → Answer → Act (World S) (List CoreValue)
    is_got asker answer =
        on k (ends_loans asker.loans) >> λ _.
        lowers_result G P run (during e answer.due) k asker.options (answer_tuple (type_of asker.target)) asker.place answer.passed >> λ results.
        leaves G P run e answer.due >> λ _.
        gives (values_in 0 (lowered (type_of asker.target)).results results)

    got : (asker : Asker) (answer : Answer) → is_left G P d (during e answer.due) answer.due ≡ leaves G P run e answer.due → (is_got asker answer >> back) ≡ is_answered G P d k back (FromCode asker) (during e answer.due) answer
    got asker answer same =
        then_both (on k (ends_loans asker.loans)) (λ _. lowers_result G P run (during e answer.due) k asker.options (answer_tuple (type_of asker.target)) asker.place answer.passed)
        (λ _ results. leaves G P run e answer.due >> λ _. gives (values_in 0 (lowered (type_of asker.target)).results results)) back
        ∙ then_alike (on k (ends_loans asker.loans)) _ _ (λ _.
        then_alike (lowers_result G P run (during e answer.due) k asker.options (answer_tuple (type_of asker.target)) asker.place answer.passed) _ _ (λ results.
        one_act (leaves G P run e answer.due) (λ _. values_in 0 (lowered (type_of asker.target)).results results)
        ∙ ap (λ (y : Act (World S) (Unit {0})). y >> λ _. back (values_in 0 (lowered (type_of asker.target)).results results)) (sym same)))

    asked_target : (target : Target) (asker : Asker) (passed : Passed ℕ) → ((answers G P run e Inside target passed >> is_got asker) >> back) ≡ asks_target G h d k back asker e target passed
    asked_target (Mine callee lifting) asker passed =
        then_then (answers G P run e Inside (Mine callee lifting) passed) (is_got asker) back
        ∙ lifted_answers k back (FromCode asker) e callee lifting (λ answer. is_got asker answer >> back) (λ q results. got asker (record { passed = q; due = Served callee lifting results }) refl) Inside passed
    asked_target (Theirs import) asker passed =
        then_then (answers G P run e Inside (Theirs import) passed) (is_got asker) back
        ∙ then_then (below (reacts h import passed)) (λ a. gives (record { passed = a.passed; due = Below a.due })) (λ answer. is_got asker answer >> back)
        ∙ by_host import passed _ (λ a. is_answered G P d k back (FromCode asker) e (record { passed = a.passed; due = Below a.due })) (λ q.
        gives_then (record { passed = q; due = Below Nothing }) (λ answer. is_got asker answer >> back) ∙ got asker (record { passed = q; due = Below Nothing }) refl)

    called : (args : List ℕ) (target : Target) (options : Options) →
        (calls G P run e k target options args >> back)
        ≡ (on k is_open >> λ _.
        on k (lifts most_params (params_tuple (type_of target)) options args) >> λ l.
        asks_target G h d k back (record { target = target; options = options; place = place_in (type_of target) args; loans = l.loans }) e target l.passed)
    called args target options =
        then_both (on k is_open) (λ _. on k (lifts most_params (params_tuple (type_of target)) options args)) (λ _ l. answers G P run e Inside target l.passed >> is_got (record { target = target; options = options; place = place_in (type_of target) args; loans = l.loans })) back
        ∙ then_alike (on k is_open) _ _ (λ _. then_alike (on k (lifts most_params (params_tuple (type_of target)) options args)) _ _ (λ l. asked_target target (record { target = target; options = options; place = place_in (type_of target) args; loans = l.loans }) l.passed))

  pub calls_go_back : CallsGoBack G h d
  calls_go_back = record {
    asked = λ fs k number args purpose now resume.
        then_both (begins_call (at_depth d now)) (λ _. performs G P run (deeper (at_depth d now)) k (words args) (G.canons k number)) _ (ends_in G P d fs k purpose);
    making = λ k back e args r. one_act k back e (on k (makes plainly (owns G k r) r args)) as_words;
    reading = λ k back e args r. one_act k back e (on k (reads plainly (owns G k r) r args)) as_words;
    dropping = λ k back e args r. then_then (on k (removes r args)) (drops_if G P run e k r) back ∙ then_alike (on k (removes r args)) _ _ (dropped k back e r);
    calling = λ k back e args target options. called k back e args target options;
  }

  -- ---- calls from outside

  from_outside : (e : Nesting) (answer : Answer) → Rest G P d
  from_outside e answer = leaves G P run e answer.due >> λ _. gives (Some answer.passed.value)

  -- nothing is left to do after a call of the host
  left_host : {A : Type 0} → (e : Nesting) (due : Due) (x : Act (World S) A) → (below ((hosted h).leave e due) >> λ _. x) ≡ x
  left_host e due x = λ i w n. host_left h e w n due (λ _. x) i

  pub calls_from_outside : CallsFromOutside G h d
  unfolding from_outside
  calls_from_outside = record {
    lifted = λ k back e callee lifting passed. lifted_answers k back FromOutside e callee lifting (from_outside e) (λ q results. refl) Outside passed;
    imported = λ e import passed.
        then_then (below ((hosted h).ask e Outside import passed)) (λ a. gives (record { passed = a.passed; due = Below a.due })) (from_outside e)
        ∙ then_alike (below ((hosted h).ask e Outside import passed)) _ _ (λ a. gives_then (record { passed = a.passed; due = Below a.due }) (from_outside e) ∙ left_host e a.due (gives (Some a.passed.value)));
  }

  -- ---- storing

  pub storing_goes_on : StoringGoesOn G h d
  storing_goes_on = record {
    asking = λ at back k storing f align len left.
        then_then (asks_for G P run storing.depth k (Some f) align len) (λ results. goes_granted G P run storing.depth k storing.options align len left (words results)) _
        ∙ then_then (begins_call storing.depth) (λ _. run (deeper storing.depth) k f (values.I32 0 ∷ values.I32 0 ∷ values.I32 align ∷ values.I32 len ∷ [])) _;
    closing = λ at back k storing x.
        then_both (on k close) (λ _. x) (λ _ flats. on k reopen >> λ _. gives flats) (is_stored G P d at back storing)
        ∙ then_alike (on k close) _ _ (λ _. then_alike x _ _ (λ flats.
        then_then (on k reopen) (λ _. gives flats) (is_stored G P d at back storing) ∙ then_alike (on k reopen) _ _ (λ _. gives_then flats (is_stored G P d at back storing))));
  }

  -- ---- leaving

  module _ (e : Nesting) (k : ℕ) (results : List CoreValue) (more : Unit {0} → Rest G P d) where
    without : ((post_returns G P run e k results None >> λ _. on k exit) >> more) ≡ (on k exit >> more)
    without = ap (λ (y : Act (World S) (Unit {0})). y >> more) (gives_then tt (λ _. on k exit))

    with_one : (f : ℕ) → ((post_returns G P run e k results (Some f) >> λ _. on k exit) >> more) ≡ (begins_call e >> λ _. on k close >> λ _. run (deeper e) k f results >> λ _. on k reopen >> λ _. on k exit >> more)
    with_one f =
        then_then (post_returns G P run e k results (Some f)) (λ _. on k exit) more
        ∙ then_both (begins_call e) (λ _. on k close) (λ _ _. run (deeper e) k f results >> λ _. on k reopen) (λ _. on k exit >> more)
        ∙ then_alike (begins_call e) _ _ (λ _. then_alike (on k close) _ _ (λ _. then_then (run (deeper e) k f results) (λ _. on k reopen) (λ _. on k exit >> more)))

  pub leaves_calls : LeavesCalls G h d
  leaves_calls = record {
    quietly = λ at back e k lifting results to is.
        ap (λ post. (post_returns G P run e k results post >> λ _. on k exit) >> λ _. goes_back G P d at back to) is ∙ without e k results (λ _. goes_back G P d at back to);
    by_post_return = λ at back e k lifting results to f is.
        ap (λ post. (post_returns G P run e k results post >> λ _. on k exit) >> λ _. goes_back G P d at back to) is ∙ with_one e k results (λ _. goes_back G P d at back to) f;
  }
