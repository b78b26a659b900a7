-- What is seen over a host that shows something else is what is seen, shown so.
use Rattle.std.proofs.Common.{◌≡◌, ℕ, zero, suc, ◌+◌, List, [], ◌∷◌, ◌++◌, map, Option, Some, None, Bool, true, false, refl, sym, ◌∙◌, ap, subst₂}
use Rattle.core_store.specs.State.{State as Store}
use Rattle.core_store.specs.declared.value.CoreValue.{CoreValue}
use Rattle.core_store.specs.Words.{words, values_in}
use Rattle.core_store.specs.Config.{Reply, Outcome, Done, Trapped as CoreTrapped, Asks, Spent as CoreSpent, TooDeep as CoreTooDeep}
use Rattle.core_store.specs.Eval.{eval}
use Rattle.wit_types.specs.Plain.{Plain}
use Rattle.abi_layout.specs.Functions.{core_params}
use Rattle.abi_layout.specs.Storing.{Step, Ask, Write, Place, Refuse, Lowered}
use Rattle.host_port.specs.declared.call.Resource.{Resource}
use Rattle.host_port.specs.Calls.{PlainAnswer, PlainObservation, Gives, Trap, Ended, Bad, Returned}
use Rattle.host_port.specs.Hosts.{HostStep}
use Rattle.comp_worlds.specs.Acts.{End, Trapped, ScriptEnded, BadAnswer, TooDeep, end_item, Out, Next, Over, Spent, observed_of, seen_of, IsPrefixOf, seen_before, then_do, Act, ◌>>◌, gives, traps, spent, takes_step, with_more, shows}
use Rattle.comp_worlds.specs.Passing.{Passed, params_tuple, answer_tuple, out_of_tuple, most_results, spills_over}
use Rattle.comp_worlds.specs.Groups.{Nesting, Endless, deeper, has_room, at_depth, store_at, Import, Options, Target, Mine, Theirs, type_of, Func, LoweredFunc, ResourceNew, ResourceDrop, ResourceRep, Owner, Stage, Provides, Makes, Begins, Group, Config, World, Due, Nothing, Served, Below, Origin, Inside, Outside, Ports}
use Rattle.comp_worlds.specs.Locals.{Local}
use Rattle.comp_worlds.specs.Calls.{on_end, on, below_end, below, Pause, Finished, Question, core_end, core, store_of, too_deep, if_room, finds_room, begins_call, Run, owns, asks_for, stores, lowers_closed, lowers_params, finds_place, lowers_result, post_returns, answers, during, leaves, place_in, calls, destructs, visits, drops, destructs_own, drops_by, drops_if, performs, goes_on, drives, runs, deep_enough, answers_if, drops_given, group, starts, does, does_all, is_made}
use Rattle.comp_worlds.specs.Hosts.{call_of, answered_by, reacts, loses, stays, asks_host, hosted}
use Rattle.comp_worlds.specs.Observed.{stack, first_state, are_made, Call, makes_calls, runs_calls}
use Rattle.comp_grammar.specs.Trees.{Tree}
use Rattle.comp_link.specs.Linking.{group_of}
use Rattle.comp_link.specs.Components.{component_seen}
use Rattle.output_same.specs.Shown.{untyped, showing, ShowsUntyped, ByHosts}

-- ---- what comes out, shown so

abbrev shown_by : {W A : Type 0} → (PlainObservation → PlainObservation) → Out W A → Out W A
shown_by f (Next o l w a) = Next (map f o) l w a
shown_by f (Over o e) = Over (map f o) e
shown_by f (Spent o) = Spent (map f o)

-- the first does what the second does, and shows it so
record AsShown {W A : Type 0} (f : PlainObservation → PlainObservation) (x y : Act W A) : Type 0 where
  each : (w : W) (n : ℕ) → x w n ≡ shown_by f (y w n)

map_append : (f : PlainObservation → PlainObservation) (xs ys : List PlainObservation) → map f (xs ++ ys) ≡ map f xs ++ map f ys
map_append f [] ys = refl
map_append f (x ∷ xs) ys = ap (λ z. f x ∷ z) (map_append f xs ys)

before_shown : {W A : Type 0} → (f : PlainObservation → PlainObservation) (o : List PlainObservation) (u : Out W A) → seen_before (map f o) (shown_by f u) ≡ shown_by f (seen_before o u)
before_shown f o (Next o' l w a) = ap (λ z. Next z l w a) (sym (map_append f o o'))
before_shown f o (Over o' e) = ap (λ z. Over z e) (sym (map_append f o o'))
before_shown f o (Spent o') = ap Spent (sym (map_append f o o'))

then_shown : {W A B : Type 0} → (f : PlainObservation → PlainObservation) (x y : Act W A) (go go' : A → Act W B) → AsShown f x y → ((a : A) → AsShown f (go a) (go' a)) → AsShown f (x >> go) (y >> go')
unfolding ◌>>◌
then_shown {W} {A} {B} f x y go go' h each = record { each = λ w n. ap (λ u. then_do u go) (h.each w n) ∙ at (y w n) }
  where
    at : (u : Out W A) → then_do (shown_by f u) go ≡ shown_by f (then_do u go')
    at (Next o l w a) = ap (seen_before (map f o)) ((each a).each w l) ∙ before_shown f o (go' a w l)
    at (Over o e) = refl
    at (Spent o) = refl

gives_shown : {W A : Type 0} → (f : PlainObservation → PlainObservation) (a : A) → AsShown {W = W} f (gives a) (gives a)
unfolding gives
gives_shown f a = record { each = λ w n. refl }

traps_shown : {W A : Type 0} → (f : PlainObservation → PlainObservation) → AsShown {W = W} {A = A} f traps traps
unfolding traps
traps_shown f = record { each = λ w n. refl }

spent_shown : {W A : Type 0} → (f : PlainObservation → PlainObservation) → AsShown {W = W} {A = A} f spent spent
unfolding spent
spent_shown f = record { each = λ w n. refl }

step_shown : {W : Type 0} → (f : PlainObservation → PlainObservation) → AsShown {W = W} f takes_step takes_step
unfolding takes_step
step_shown {W} f = record { each = at }
  where
    at : (w : W) (n : ℕ) → takes_step w n ≡ shown_by f (takes_step w n)
    at w zero = refl
    at w (suc n) = refl

more_shown : {W A : Type 0} → (f : PlainObservation → PlainObservation) (used : ℕ) (x y : Act W A) → AsShown f x y → AsShown f (with_more used x) (with_more used y)
unfolding with_more
more_shown f used x y h = record { each = λ w n. h.each w (used + n) }

room_shown : {W : Type 0} → (f : PlainObservation → PlainObservation) (d : Nesting) → AsShown {W = W} f (finds_room d) (finds_room d)
unfolding finds_room
room_shown {W} f d = record { each = λ w n. at w n (has_room d) }
  where
    deep : (n : ℕ) → too_deep {W = W} n ≡ shown_by f (too_deep {W = W} n)
    deep zero = refl
    deep (suc n) = refl

    at : (w : W) (n : ℕ) (b : Bool) → if_room b w n ≡ shown_by f (if_room b w n)
    at w n true = refl
    at w n false = deep n

begins_shown : {W : Type 0} → (f : PlainObservation → PlainObservation) (d : Nesting) → AsShown {W = W} f (begins_call d) (begins_call d)
begins_shown f d = then_shown f takes_step takes_step _ _ (step_shown f) (λ _. room_shown f d)

module _ {S : Type 0} where
  on_shown : {A : Type 0} → (f : PlainObservation → PlainObservation) (k : ℕ) (op : Config ℕ → Option (Local ℕ A)) → AsShown {W = World S} f (on k op) (on k op)
  unfolding on
  on_shown {A} f k op = record { each = λ w n. at w n (op (w.configs k)) }
    where
      at : (w : World S) (n : ℕ) (o : Option (Local ℕ A)) → on_end w k n o ≡ shown_by f (on_end w k n o)
      at w n None = refl
      at w n (Some l) = refl

  below_shown : {A : Type 0} → (f : PlainObservation → PlainObservation) (x y : Act S A) → AsShown f x y → AsShown {W = World S} f (below x) (below y)
  unfolding below
  below_shown {A} f x y h = record { each = λ w n. ap (below_end w) (h.each w.below n) ∙ at w (y w.below n) }
    where
      at : (w : World S) (u : Out S A) → below_end w (shown_by f u) ≡ shown_by f (below_end w u)
      at w (Next o l s a) = refl
      at w (Over o e) = refl
      at w (Spent o) = refl

  core_shown : (f : PlainObservation → PlainObservation) (k : ℕ) (store : Store) (at : ℕ) (args : List CoreValue) (replies : List Reply) → AsShown {W = World S} f (core k store at args replies) (core k store at args replies)
  unfolding core
  core_shown f k store g args replies = record { each = λ w n. at w n (eval store g args replies n) }
    where
      at : (w : World S) (n : ℕ) (o : Outcome) → core_end w k n o ≡ shown_by f (core_end w k n o)
      at w n (Done results s left) = refl
      at w n CoreTrapped = refl
      at w n (Asks number asked s left) = refl
      at w n CoreSpent = refl
      at w n CoreTooDeep = refl

  store_shown : (f : PlainObservation → PlainObservation) (k : ℕ) → AsShown {W = World S} f (store_of k) (store_of k)
  unfolding store_of
  store_shown f k = record { each = λ w n. refl }

-- what meets the imports does so
record PortsShow {S : Type 0} (f : PlainObservation → PlainObservation) (p q : Ports S) : Type 0 where
  ask : (d : Nesting) (from : Origin) (import : Import) (passed : Passed ℕ) → AsShown f (p.ask d from import passed) (q.ask d from import passed)
  leave : (d : Nesting) (due : Due) → AsShown f (p.leave d due) (q.leave d due)
  drop : (d : Nesting) (resource : Resource) (x : ℕ) → AsShown f (p.drop d resource x) (q.drop d resource x)

-- ---- canonical calls

abbrev RunShows : {S : Type 0} → (PlainObservation → PlainObservation) → Run S → Run S → Type 0
RunShows f run run' = (d : Nesting) (k at : ℕ) (args : List CoreValue) → AsShown f (run d k at args) (run' d k at args)

module _ {S : Type 0} (f : PlainObservation → PlainObservation) (G : Group) (p q : Ports S) (show : PortsShow f p q) (run run' : Run S) (h : RunShows f run run') where
  asks_shown : (d : Nesting) (k : ℕ) (at : Option ℕ) (align len : ℕ) → AsShown f (asks_for G p run d k at align len) (asks_for G q run' d k at align len)
  asks_shown d k None align len = traps_shown f
  asks_shown d k (Some at) align len = then_shown f _ _ _ _ (begins_shown f d) (λ _. h (deeper d) k at _)

  stores_shown : (d : Nesting) (k : ℕ) (options : Options) (target : ℕ) (answers : List ℕ) (steps : List Step) → AsShown f (stores G p run d k options target answers steps) (stores G q run' d k options target answers steps)
  stores_shown d k options target answers [] = gives_shown f answers
  stores_shown d k options target answers (Ask align len ∷ steps) =
      then_shown f _ _ _ _ (asks_shown d k options.realloc align len)
      (λ results. then_shown f _ _ _ _ (on_shown f k _) (λ at. stores_shown d k options target (answers ++ at ∷ []) steps))
  stores_shown d k options target answers (Write base offset bytes ∷ steps) =
      then_shown f _ _ _ _ (on_shown f k _) (λ _. stores_shown d k options target answers steps)
  stores_shown d k options target answers (Place base offset request ∷ steps) =
      then_shown f _ _ _ _ (on_shown f k _) (λ _. stores_shown d k options target answers steps)
  stores_shown d k options target answers (Refuse ∷ steps) = traps_shown f

  closed_shown : (d : Nesting) (k : ℕ) (options : Options) (target : ℕ) (l : Lowered) → AsShown f (lowers_closed G p run d k options target l) (lowers_closed G q run' d k options target l)
  closed_shown d k options target l =
      then_shown f _ _ _ _ (on_shown f k _) (λ _.
      then_shown f _ _ _ _ (stores_shown d k options target [] l.steps) (λ answers.
      then_shown f _ _ _ _ (on_shown f k _) (λ _. gives_shown f _)))

  params_shown : (d : Nesting) (k : ℕ) (options : Options) (ty : Plain) (passed : Passed ℕ) → AsShown f (lowers_params G p run d k options ty passed) (lowers_params G q run' d k options ty passed)
  params_shown d k options ty passed = then_shown f _ _ _ _ (on_shown f k _) (λ indexes. closed_shown d k options 0 _)

  place_shown : (b : Bool) (k : ℕ) (options : Options) (ty : Plain) (at : ℕ) → AsShown f (finds_place G p run b k options ty at) (finds_place G q run' b k options ty at)
  place_shown true k options ty at = on_shown f k _
  place_shown false k options ty at = gives_shown f tt

  result_shown : (d : Nesting) (k : ℕ) (options : Options) (ty : Plain) (at : ℕ) (passed : Passed ℕ) → AsShown f (lowers_result G p run d k options ty at passed) (lowers_result G q run' d k options ty at passed)
  result_shown d k options ty at passed =
      then_shown f _ _ _ _ (on_shown f k _) (λ indexes.
      then_shown f _ _ _ _ (place_shown (spills_over most_results ty) k options ty at) (λ _. closed_shown d k options at _))

  post_shown : (d : Nesting) (k : ℕ) (results : List CoreValue) (post : Option ℕ) → AsShown f (post_returns G p run d k results post) (post_returns G q run' d k results post)
  post_shown d k results None = gives_shown f tt
  post_shown d k results (Some at) =
      then_shown f _ _ _ _ (begins_shown f d) (λ _.
      then_shown f _ _ _ _ (on_shown f k _) (λ _.
      then_shown f _ _ _ _ (h (deeper d) k at results) (λ _. on_shown f k _)))

  answers_shown : (d : Nesting) (from : Origin) (target : Target) (passed : Passed ℕ) → AsShown f (answers G p run d from target passed) (answers G q run' d from target passed)
  answers_shown d from (Theirs import) passed = then_shown f _ _ _ _ (below_shown f _ _ (show.ask d from import passed)) (λ a. gives_shown f _)
  answers_shown d from (Mine k lifting) passed =
      then_shown f _ _ _ _ (begins_shown f d) (λ _.
      then_shown f _ _ _ _ (on_shown f k _) (λ _.
      then_shown f _ _ _ _ (params_shown (deeper d) k lifting.options (params_tuple lifting.ty) passed) (λ args.
      then_shown f _ _ _ _ (h (deeper d) k lifting.code (values_in 0 (core_params lifting.ty) args)) (λ results.
      then_shown f _ _ _ _ (on_shown f k _) (λ l.
      then_shown f _ _ _ _ (on_shown f k _) (λ _. gives_shown f _))))))

  leaves_shown : (d : Nesting) (due : Due) → AsShown f (leaves G p run d due) (leaves G q run' d due)
  leaves_shown d Nothing = gives_shown f tt
  leaves_shown d (Below due) = below_shown f _ _ (show.leave d due)
  leaves_shown d (Served k lifting results) = then_shown f _ _ _ _ (post_shown (deeper d) k results lifting.post) (λ _. on_shown f k _)

  calls_shown : (d : Nesting) (k : ℕ) (target : Target) (options : Options) (args : List ℕ) → AsShown f (calls G p run d k target options args) (calls G q run' d k target options args)
  calls_shown d k target options args =
      then_shown f _ _ _ _ (on_shown f k _) (λ _.
      then_shown f _ _ _ _ (on_shown f k _) (λ l.
      then_shown f _ _ _ _ (answers_shown d Inside target l.passed) (λ answer.
      then_shown f _ _ _ _ (on_shown f k _) (λ _.
      then_shown f _ _ _ _ (result_shown (during d answer.due) k options (answer_tuple (type_of target)) (place_in (type_of target) args) answer.passed) (λ results.
      then_shown f _ _ _ _ (leaves_shown d answer.due) (λ _. gives_shown f _))))))

  destructs_shown : (d : Nesting) (k x : ℕ) (destructor : Option ℕ) → AsShown f (destructs G p run d k x destructor) (destructs G q run' d k x destructor)
  destructs_shown d k x None = gives_shown f tt
  destructs_shown d k x (Some at) = then_shown f _ _ _ _ (begins_shown f d) (λ _. then_shown f _ _ _ _ (h (deeper d) k at _) (λ _. gives_shown f tt))

  visits_shown : (d : Nesting) (o : Owner) (x : ℕ) → AsShown f (visits G p run d o x) (visits G q run' d o x)
  visits_shown d o x = then_shown f _ _ _ _ (on_shown f o.instance _) (λ _. then_shown f _ _ _ _ (destructs_shown d o.instance x o.destructor) (λ _. on_shown f o.instance _))

  drops_shown : (d : Nesting) (r x : ℕ) (o : Option Owner) → AsShown f (drops G p run d r x o) (drops G q run' d r x o)
  drops_shown d r x None = below_shown f _ _ (show.drop d (G.imported r) x)
  drops_shown d r x (Some o) = visits_shown d o x

  own_shown : (d : Nesting) (k x : ℕ) (o : Option Owner) → AsShown f (destructs_own G p run d k x o) (destructs_own G q run' d k x o)
  own_shown d k x None = gives_shown f tt
  own_shown d k x (Some o) = destructs_shown d k x o.destructor

  drops_by_shown : (d : Nesting) (k r x : ℕ) (b : Bool) → AsShown f (drops_by G p run d k r x b) (drops_by G q run' d k r x b)
  drops_by_shown d k r x true = own_shown d k x (G.owner r)
  drops_by_shown d k r x false = drops_shown d r x (G.owner r)

  drops_if_shown : (d : Nesting) (k r : ℕ) (o : Option ℕ) → AsShown f (drops_if G p run d k r o) (drops_if G q run' d k r o)
  drops_if_shown d k r None = gives_shown f []
  drops_if_shown d k r (Some x) = then_shown f _ _ _ _ (drops_by_shown d k r x (owns G k r)) (λ _. gives_shown f [])

  performs_shown : (d : Nesting) (k : ℕ) (args : List ℕ) (func : Option Func) → AsShown f (performs G p run d k args func) (performs G q run' d k args func)
  performs_shown d k args None = traps_shown f
  performs_shown d k args (Some (LoweredFunc target options)) = calls_shown d k target options args
  performs_shown d k args (Some (ResourceNew r)) = then_shown f _ _ _ _ (on_shown f k _) (λ ws. gives_shown f _)
  performs_shown d k args (Some (ResourceRep r)) = then_shown f _ _ _ _ (on_shown f k _) (λ ws. gives_shown f _)
  performs_shown d k args (Some (ResourceDrop r)) = then_shown f _ _ _ _ (on_shown f k _) (λ o. drops_if_shown d k r o)

  goes_on_shown : (again again' : Reply → Act (World S) (List CoreValue)) → ((r : Reply) → AsShown f (again r) (again' r)) → (d : Nesting) (k : ℕ) (pause : Pause) → AsShown f (goes_on G p run again d k pause) (goes_on G q run' again' d k pause)
  goes_on_shown again again' each d k (Finished results) = gives_shown f results
  goes_on_shown again again' each d k (Question number args now used) =
      then_shown f _ _ _ _ (begins_shown f (at_depth d now)) (λ _.
      then_shown f _ _ _ _ (performs_shown (deeper (at_depth d now)) k (words args) (G.canons k number)) (λ results.
      then_shown f _ _ _ _ (store_shown f k) (λ store. more_shown f used _ _ (each _))))

-- ---- the knot

module _ {S : Type 0} (f : PlainObservation → PlainObservation) (G : Group) (p q : Ports S) (show : PortsShow f p q) where
  drives_shown : (D : ℕ) (d : Nesting) (k at : ℕ) (args : List CoreValue) (store : Store) (replies : List Reply) → AsShown f (drives G p D d k at args store replies) (drives G q D d k at args store replies)
  drives_shown zero d k at args store replies = spent_shown f
  drives_shown (suc D) d k at args store replies =
      then_shown f _ _ _ _ (core_shown f k store at args replies) (λ pause.
      goes_on_shown f G p q show _ _
      (λ d' m g args'. then_shown f _ _ _ _ (store_shown f m) (λ store'. drives_shown D d' m g args' (store_at d' store') []))
      _ _ (λ reply. drives_shown D d k at args store (replies ++ reply ∷ [])) d k pause)

  runs_shown : (D : ℕ) → RunShows f (runs G p D) (runs G q D)
  runs_shown D d k at args = then_shown f _ _ _ _ (store_shown f k) (λ store. drives_shown D d k at args (store_at d store) [])

deep_shown : {W A : Type 0} → (f : PlainObservation → PlainObservation) (x y : ℕ → Act W A) → ((D : ℕ) → AsShown f (x D) (y D)) → AsShown f (deep_enough x) (deep_enough y)
unfolding deep_enough
deep_shown f x y h = record { each = λ w n. (h (suc n)).each w n }

-- ---- a group over others

module _ {S : Type 0} (f : PlainObservation → PlainObservation) (G : Group) (p q : Ports S) (show : PortsShow f p q) where
  if_shown : (D : ℕ) (d : Nesting) (from : Origin) (o : Option Target) (passed : Passed ℕ) → AsShown f (answers_if G p (runs G p D) d from o passed) (answers_if G q (runs G q D) d from o passed)
  if_shown D d from None passed = traps_shown f
  if_shown D d from (Some target) passed = answers_shown f G p q show _ _ (runs_shown f G p q show D) d from target passed

  given_shown : (D : ℕ) (d : Nesting) (x : ℕ) (o : Option ℕ) → AsShown f (drops_given G p (runs G p D) d x o) (drops_given G q (runs G q D) d x o)
  given_shown D d x None = traps_shown f
  given_shown D d x (Some r) = drops_shown f G p q show _ _ (runs_shown f G p q show D) d r x (G.owner r)

  asked_shown : (d : Nesting) (from : Origin) (o : Option Target) (passed : Passed ℕ) → AsShown f (deep_enough (λ fuel. answers_if G p (runs G p fuel) d from o passed)) (deep_enough (λ fuel. answers_if G q (runs G q fuel) d from o passed))
  asked_shown d from o passed = deep_shown f _ _ (λ D. if_shown D d from o passed)

  left_shown : (d : Nesting) (due : Due) → AsShown f (deep_enough (λ fuel. leaves G p (runs G p fuel) d due)) (deep_enough (λ fuel. leaves G q (runs G q fuel) d due))
  left_shown d due = deep_shown f _ _ (λ D. leaves_shown f G p q show _ _ (runs_shown f G p q show D) d due)

  group_shows : PortsShow f (group G p) (group G q)
  group_shows = record {
    ask = λ d from import passed. asked_shown d from (G.exports import.interface import.function) passed;
    leave = left_shown;
    drop = λ d resource x. deep_shown f _ _ (λ D. given_shown D d x (G.given resource));
  }

  starts_shown : (run run' : Run S) → RunShows f run run' → (d : Nesting) (k : ℕ) (start : Option ℕ) → AsShown f (starts G p run d k start) (starts G q run' d k start)
  starts_shown run run' h d k None = gives_shown f tt
  starts_shown run run' h d k (Some at) = then_shown f _ _ _ _ (h d k at []) (λ _. gives_shown f tt)

  does_shown : (run run' : Run S) → RunShows f run run' → (d : Nesting) (stage : Stage) → AsShown f (does G p run d stage) (does G q run' d stage)
  does_shown run run' h d (Provides k ty number) = on_shown f k _
  does_shown run run' h d (Makes k make start) = then_shown f _ _ _ _ (step_shown f) (λ _. then_shown f _ _ _ _ (on_shown f k _) (λ _. starts_shown run run' h d k start))
  does_shown run run' h d Begins = step_shown f

  all_shown : (run run' : Run S) → RunShows f run run' → (d : Nesting) (stages : List Stage) → AsShown f (does_all G p run d stages) (does_all G q run' d stages)
  all_shown run run' h d [] = gives_shown f tt
  all_shown run run' h d (stage ∷ stages) = then_shown f _ _ _ _ (does_shown run run' h d stage) (λ _. all_shown run run' h d stages)

  made_shown : (d : Nesting) → AsShown f (is_made G p d) (is_made G q d)
  made_shown d = deep_shown f _ _ (λ D. all_shown _ _ (runs_shown f G p q show D) d G.stages)

-- ---- groups over a host

module _ {S : Type 0} (f : PlainObservation → PlainObservation) (h : HostStep S) where
  reacts_shown : (import : Import) (passed : Passed ℕ) → AsShown f (reacts (showing f h) import passed) (reacts h import passed)
  unfolding reacts
  reacts_shown import passed = record { each = λ s n. at s n (h.call s (call_of import passed)).seen (h.call s (call_of import passed)).next (h.call s (call_of import passed)).answer }
    where
      at : (s : S) (n : ℕ) (o : List PlainObservation) (s' : S) (a : PlainAnswer) → answered_by (map f o) s' (answer_tuple import.ty) a n ≡ shown_by f (answered_by o s' (answer_tuple import.ty) a n)
      at s n o s' (Gives value) = refl
      at s n o s' Trap = refl
      at s n o s' Ended = refl
      at s n o s' Bad = refl

  asks_host_shown : (d : Nesting) (from : Origin) (import : Import) (passed : Passed ℕ) → AsShown f (asks_host (showing f h) d from import passed) (asks_host h d from import passed)
  asks_host_shown d Inside import passed = reacts_shown import passed
  asks_host_shown d Outside import passed = then_shown f _ _ _ _ (begins_shown f d) (λ _. reacts_shown import passed)

  host_shows : PortsShow f (hosted (showing f h)) (hosted h)
  unfolding stays loses
  host_shows = record { ask = asks_host_shown; leave = λ d due. record { each = λ s n. refl }; drop = λ d resource x. record { each = λ s n. refl } }

module _ {S : Type 0} (f : PlainObservation → PlainObservation) (p q : Ports S) (show : PortsShow f p q) where
  stack_shows : (groups : List Group) → PortsShow f (stack groups p) (stack groups q)
  stack_shows [] = show
  stack_shows (G ∷ Gs) = group_shows f G (stack Gs p) (stack Gs q) (stack_shows Gs)

  are_made_shown : (d : Nesting) (groups : List Group) → AsShown f (are_made d groups p) (are_made d groups q)
  are_made_shown d [] = gives_shown f tt
  are_made_shown d (G ∷ Gs) = then_shown f _ _ _ _ (below_shown f _ _ (are_made_shown d Gs)) (λ _. made_shown f G (stack Gs p) (stack Gs q) (stack_shows Gs) d)

  -- what a call returns is shown as it is
  module _ (returned : (v : _) → f (Returned v) ≡ Returned v) where
    returns_shown : {W : Type 0} → (v : _) → AsShown {W = W} f (shows (Returned v ∷ [])) (shows (Returned v ∷ []))
    unfolding shows
    returns_shown v = record { each = λ w n. ap (λ o. Next (o ∷ []) n w tt) (sym (returned v)) }

    calls_shown_so : (G : Group) (d : Nesting) (calls : List Call) → AsShown f (makes_calls G p d calls) (makes_calls G q d calls)
    calls_shown_so G d [] = gives_shown f tt
    calls_shown_so G d (call ∷ rest) =
        then_shown f _ _ _ _ (asked_shown f G p q show d Outside (G.exports call.interface call.function) _) (λ answer.
        then_shown f _ _ _ _ (left_shown f G p q show d answer.due) (λ _.
        then_shown f _ _ _ _ (returns_shown (out_of_tuple answer.passed.value)) (λ _. calls_shown_so G d rest)))

-- ---- without types

untyped_ends : (e : End) → untyped (end_item e) ≡ end_item e
untyped_ends Trapped = refl
untyped_ends ScriptEnded = refl
untyped_ends BadAnswer = refl
untyped_ends TooDeep = refl

observed_shown : {W A : Type 0} → (u : Out W A) → observed_of (shown_by untyped u) ≡ map untyped (observed_of u)
observed_shown (Next o l w a) = refl
observed_shown (Over o e) = ap (λ z. map untyped o ++ z ∷ []) (sym (untyped_ends e)) ∙ sym (map_append untyped o (end_item e ∷ []))
observed_shown (Spent o) = sym (map_append untyped o _)

seen_shown : {W A : Type 0} → (u : Out W A) → seen_of (shown_by untyped u) ≡ map untyped (seen_of u)
seen_shown (Next o l w a) = refl
seen_shown (Over o e) = ap (λ z. map untyped o ++ z ∷ []) (sym (untyped_ends e)) ∙ sym (map_append untyped o (end_item e ∷ []))
seen_shown (Spent o) = refl

pub shows_untyped : {S : Type 0} → (h : HostStep S) → ShowsUntyped h
unfolding runs_calls
shows_untyped h G Gs s d calls n = record {
  observed = ap observed_of same ∙ observed_shown (runs_calls d G Gs h s calls n);
  seen = ap seen_of same ∙ seen_shown (runs_calls d G Gs h s calls n);
}
  where
    same : runs_calls d G Gs (showing untyped h) s calls n ≡ shown_by untyped (runs_calls d G Gs h s calls n)
    same = (then_shown untyped _ _ _ _ (are_made_shown untyped (hosted (showing untyped h)) (hosted h) (host_shows untyped h) d (G ∷ Gs))
        (λ _. calls_shown_so untyped (stack Gs (hosted (showing untyped h))) (stack Gs (hosted h)) (stack_shows untyped (hosted (showing untyped h)) (hosted h) (host_shows untyped h) Gs) (λ v. refl) G d calls)).each (first_state (G ∷ Gs) s) n

-- ---- the same, over hosts that show no types

module _ {S T : Type 0} (h : HostStep S) (h' : HostStep T) where
  untyped_seen : {X : Type 0} → (k : HostStep X) (tree : Tree) (x : X) (calls : List Call) (n : ℕ) → component_seen tree (showing untyped k) x calls n ≡ map untyped (component_seen tree k x calls n)
  untyped_seen k tree x calls n = (shows_untyped k (group_of tree) [] x Endless calls n).seen

  pub by_hosts : ByHosts h h'
  by_hosts = record {
    over = λ output app s t same calls are.
        let k = same calls are in
        record {
          first = λ n. let r = k.first n in (r.0, subst₂ IsPrefixOf (untyped_seen h output s calls n) (untyped_seen h' app t calls r.0) r.1);
          second = λ n. let r = k.second n in (r.0, subst₂ IsPrefixOf (untyped_seen h' app t calls n) (untyped_seen h output s calls r.0) r.1);
        };
    back = λ output app s t same calls are.
        let k = same calls are in
        record {
          first = λ n. let r = k.first n in (r.0, subst₂ IsPrefixOf (sym (untyped_seen h output s calls n)) (sym (untyped_seen h' app t calls r.0)) r.1);
          second = λ n. let r = k.second n in (r.0, subst₂ IsPrefixOf (sym (untyped_seen h' app t calls n)) (sym (untyped_seen h output s calls r.0)) r.1);
        };
  }
