-- Whatever is done to a group is done alike with more steps, where that holds of what meets its imports.
use Rattle.std.proofs.Common.{◌≡◌, ℕ, zero, suc, ◌+◌, ◌-◌, ◌≤◌, List, [], ◌∷◌, ◌++◌, Option, Some, None, Bool, true, false, refl, ◌∙◌, ap, arith}
use Rattle.core_store.specs.State.{State}
use Rattle.core_store.specs.declared.value.CoreValue.{CoreValue}
use Rattle.core_store.specs.Words.{words, values_in}
use Rattle.core_store.specs.Config.{Reply, Outcome, Done, Trapped as CoreTrapped, Asks, Spent as CoreSpent, TooDeep as CoreTooDeep}
use Rattle.core_store.specs.Eval.{eval}
use Rattle.core_store.specs.Laws.{Further}
use Rattle.core_store.proofs.Further.{further}
use Rattle.wit_types.specs.Plain.{Plain}
use Rattle.abi_layout.specs.Functions.{core_params}
use Rattle.abi_layout.specs.Storing.{Step, Ask, Write, Place, Refuse, Lowered}
use Rattle.comp_worlds.specs.Acts.{Out, Next, Over, Spent, Act, takes_step, Extends}
use Rattle.comp_worlds.specs.Passing.{Passed, params_tuple, answer_tuple, most_results, spills_over}
use Rattle.comp_worlds.specs.Groups.{Nesting, deeper, has_room, at_depth, store_at, Options, Target, Mine, Theirs, type_of, Func, LoweredFunc, ResourceNew, ResourceDrop, ResourceRep, Owner, Stage, Provides, Makes, Begins, Group, Config, World, Due, Nothing, Served, Below, Origin, Inside, Ports}
use Rattle.comp_worlds.specs.Locals.{Local, with_store}
use Rattle.comp_worlds.specs.Calls.{with_config, on_end, on, below_end, below, Pause, Finished, Question, core_end, core, store_of, too_deep, if_room, finds_room, begins_call, Run, owns, asks_for, stores, lowers_closed, lowers_params, finds_place, lowers_result, post_returns, answers, during, leaves, place_in, calls, destructs, visits, drops, destructs_own, drops_by, drops_if, performs, goes_on, drives, runs, deep_enough, answers_if, drops_given, group, starts, does, does_all, is_made}
use Rattle.comp_worlds.specs.Laws.{PortsGrow}
use Rattle.comp_worlds.proofs.Growing.{prefix_nil, Longer, Same, then_longer, gives_longer, traps_longer, spent_longer, more_longer, step_longer}

-- ---- what is done to a world

module _ {S : Type 0} where
  on_longer : {A : Type 0} → (k : ℕ) (op : Config ℕ → Option (Local ℕ A)) → Same {W = World S} (on k op)
  unfolding on
  on_longer {A} k op = record { each = λ w n i. at w n i (op (w.configs k)) }
    where
      at : (w : World S) (n i : ℕ) (o : Option (Local ℕ A)) → Extends i (on_end w k n o) (on_end w k (i + n) o)
      at w n i None = refl
      at w n i (Some l) = refl

  pub below_longer : {A : Type 0} → (x y : Act S A) → Longer x y → Longer {W = World S} (below x) (below y)
  unfolding below
  below_longer {A} x y h = record { each = λ w n i. at w i (x w.below n) (y w.below (i + n)) (h.each w.below n i) }
    where
      at : (w : World S) (i : ℕ) (u v : Out S A) → Extends i u v → Extends i (below_end w u) (below_end w v)
      at w i (Next o l s a) v e = ap (below_end w) e
      at w i (Over o e') v e = ap (below_end w) e
      at w i (Spent o) (Next o' l s a) e = e
      at w i (Spent o) (Over o' e') e = e
      at w i (Spent o) (Spent o') e = e

  core_longer : (k : ℕ) (store : State) (f : ℕ) (args : List CoreValue) (replies : List Reply) → Same {W = World S} (core k store f args replies)
  unfolding core
  core_longer k store f args replies = record { each = λ w n i. at w n i (eval store f args replies n) (eval store f args replies (i + n)) (further store f args replies n i) }
    where
      at : (w : World S) (n i : ℕ) (o o' : Outcome) → Further i o o' → Extends i (core_end w k n o) (core_end w k (i + n) o')
      at w n i (Done results s left) o' h = ap (core_end w k (i + n)) h
      at w n i CoreTrapped o' h = ap (core_end w k (i + n)) h
      at w n i (Asks number asked s left) o' h =
          let e : (i + n) - (i + left) ≡ n - left = omega arith in
          ap (core_end w k (i + n)) h ∙ ap (λ z. Next [] (i + left) (with_config w k (with_store (w.configs k) s)) (Question number asked s.nesting z)) e
      at w n i CoreSpent o' h = prefix_nil _
      at w n i CoreTooDeep o' h = ap (core_end w k (i + n)) h

  store_longer : (k : ℕ) → Same {W = World S} (store_of k)
  unfolding store_of
  store_longer k = record { each = λ w n i. refl }

room_longer : {W : Type 0} → (d : Nesting) → Same {W = W} (finds_room d)
unfolding finds_room
room_longer {W} d = record { each = λ w n k. at w k (has_room d) n }
  where
    deep : (k m : ℕ) → Extends k (too_deep {W = W} m) (too_deep {W = W} (k + m))
    deep k zero = prefix_nil _
    deep k (suc m) = let e : k + suc m ≡ suc (k + m) = omega arith in ap (too_deep {W = W}) e

    at : (w : W) (k : ℕ) (b : Bool) (m : ℕ) → Extends k (if_room {W = W} b w m) (if_room {W = W} b w (k + m))
    at w k true m = refl
    at w k false m = deep k m

pub begins_longer : {W : Type 0} → (d : Nesting) → Same {W = W} (begins_call d)
begins_longer d = then_longer takes_step takes_step _ _ step_longer (λ _. room_longer d)

-- ---- canonical calls

abbrev RunLonger : {S : Type 0} → Run S → Run S → Type 0
RunLonger run run' = (d : Nesting) (k f : ℕ) (args : List CoreValue) → Longer (run d k f args) (run' d k f args)

module _ {S : Type 0} (G : Group) (p : Ports S) (grow : PortsGrow p) (run run' : Run S) (h : RunLonger run run') where
  asks_longer : (d : Nesting) (k : ℕ) (f : Option ℕ) (align len : ℕ) → Longer (asks_for G p run d k f align len) (asks_for G p run' d k f align len)
  asks_longer d k None align len = traps_longer _ _
  asks_longer d k (Some f) align len = then_longer _ _ _ _ (begins_longer d) (λ _. h (deeper d) k f _)

  stores_longer : (d : Nesting) (k : ℕ) (options : Options) (target : ℕ) (answers : List ℕ) (steps : List Step) → Longer (stores G p run d k options target answers steps) (stores G p run' d k options target answers steps)
  stores_longer d k options target answers [] = gives_longer answers
  stores_longer d k options target answers (Ask align len ∷ steps) =
      then_longer _ _ _ _ (asks_longer d k options.realloc align len)
      (λ results. then_longer _ _ _ _ (on_longer k _) (λ at. stores_longer d k options target (answers ++ at ∷ []) steps))
  stores_longer d k options target answers (Write base offset bytes ∷ steps) =
      then_longer _ _ _ _ (on_longer k _) (λ _. stores_longer d k options target answers steps)
  stores_longer d k options target answers (Place base offset request ∷ steps) =
      then_longer _ _ _ _ (on_longer k _) (λ _. stores_longer d k options target answers steps)
  stores_longer d k options target answers (Refuse ∷ steps) = traps_longer _ _

  closed_longer : (d : Nesting) (k : ℕ) (options : Options) (target : ℕ) (l : Lowered) → Longer (lowers_closed G p run d k options target l) (lowers_closed G p run' d k options target l)
  closed_longer d k options target l =
      then_longer _ _ _ _ (on_longer k _) (λ _.
      then_longer _ _ _ _ (stores_longer d k options target [] l.steps) (λ answers.
      then_longer _ _ _ _ (on_longer k _) (λ _. gives_longer _)))

  params_longer : (d : Nesting) (k : ℕ) (options : Options) (ty : Plain) (passed : Passed ℕ) → Longer (lowers_params G p run d k options ty passed) (lowers_params G p run' d k options ty passed)
  params_longer d k options ty passed = then_longer _ _ _ _ (on_longer k _) (λ indexes. closed_longer d k options 0 _)

  place_longer : (b : Bool) (k : ℕ) (options : Options) (ty : Plain) (at : ℕ) → Longer (finds_place G p run b k options ty at) (finds_place G p run' b k options ty at)
  place_longer true k options ty at = on_longer k _
  place_longer false k options ty at = gives_longer tt

  result_longer : (d : Nesting) (k : ℕ) (options : Options) (ty : Plain) (at : ℕ) (passed : Passed ℕ) → Longer (lowers_result G p run d k options ty at passed) (lowers_result G p run' d k options ty at passed)
  result_longer d k options ty at passed =
      then_longer _ _ _ _ (on_longer k _) (λ indexes.
      then_longer _ _ _ _ (place_longer (spills_over most_results ty) k options ty at) (λ _. closed_longer d k options at _))

  post_longer : (d : Nesting) (k : ℕ) (results : List CoreValue) (post : Option ℕ) → Longer (post_returns G p run d k results post) (post_returns G p run' d k results post)
  post_longer d k results None = gives_longer tt
  post_longer d k results (Some f) =
      then_longer _ _ _ _ (begins_longer d) (λ _.
      then_longer _ _ _ _ (on_longer k _) (λ _.
      then_longer _ _ _ _ (h (deeper d) k f results) (λ _. on_longer k _)))

  answers_longer : (d : Nesting) (from : Origin) (target : Target) (passed : Passed ℕ) → Longer (answers G p run d from target passed) (answers G p run' d from target passed)
  answers_longer d from (Theirs import) passed = then_longer _ _ _ _ (below_longer _ _ (record { each = grow.ask d from import passed })) (λ a. gives_longer _)
  answers_longer d from (Mine k lifting) passed =
      then_longer _ _ _ _ (begins_longer d) (λ _.
      then_longer _ _ _ _ (on_longer k _) (λ _.
      then_longer _ _ _ _ (params_longer (deeper d) k lifting.options (params_tuple lifting.ty) passed) (λ args.
      then_longer _ _ _ _ (h (deeper d) k lifting.code (values_in 0 (core_params lifting.ty) args)) (λ results.
      then_longer _ _ _ _ (on_longer k _) (λ l.
      then_longer _ _ _ _ (on_longer k _) (λ _. gives_longer _))))))

  leaves_longer : (d : Nesting) (due : Due) → Longer (leaves G p run d due) (leaves G p run' d due)
  leaves_longer d Nothing = gives_longer tt
  leaves_longer d (Below due) = below_longer _ _ (record { each = grow.leave d due })
  leaves_longer d (Served k lifting results) = then_longer _ _ _ _ (post_longer (deeper d) k results lifting.post) (λ _. on_longer k _)

  calls_longer : (d : Nesting) (k : ℕ) (target : Target) (options : Options) (args : List ℕ) → Longer (calls G p run d k target options args) (calls G p run' d k target options args)
  calls_longer d k target options args =
      then_longer _ _ _ _ (on_longer k _) (λ _.
      then_longer _ _ _ _ (on_longer k _) (λ l.
      then_longer _ _ _ _ (answers_longer d Inside target l.passed) (λ answer.
      then_longer _ _ _ _ (on_longer k _) (λ _.
      then_longer _ _ _ _ (result_longer (during d answer.due) k options (answer_tuple (type_of target)) (place_in (type_of target) args) answer.passed) (λ results.
      then_longer _ _ _ _ (leaves_longer d answer.due) (λ _. gives_longer _))))))

  destructs_longer : (d : Nesting) (k x : ℕ) (destructor : Option ℕ) → Longer (destructs G p run d k x destructor) (destructs G p run' d k x destructor)
  destructs_longer d k x None = gives_longer tt
  destructs_longer d k x (Some f) = then_longer _ _ _ _ (begins_longer d) (λ _. then_longer _ _ _ _ (h (deeper d) k f _) (λ _. gives_longer tt))

  visits_longer : (d : Nesting) (o : Owner) (x : ℕ) → Longer (visits G p run d o x) (visits G p run' d o x)
  visits_longer d o x = then_longer _ _ _ _ (on_longer o.instance _) (λ _. then_longer _ _ _ _ (destructs_longer d o.instance x o.destructor) (λ _. on_longer o.instance _))

  drops_longer : (d : Nesting) (r x : ℕ) (o : Option Owner) → Longer (drops G p run d r x o) (drops G p run' d r x o)
  drops_longer d r x None = below_longer _ _ (record { each = grow.drop d (G.imported r) x })
  drops_longer d r x (Some o) = visits_longer d o x

  own_longer : (d : Nesting) (k x : ℕ) (o : Option Owner) → Longer (destructs_own G p run d k x o) (destructs_own G p run' d k x o)
  own_longer d k x None = gives_longer tt
  own_longer d k x (Some o) = destructs_longer d k x o.destructor

  drops_by_longer : (d : Nesting) (k r x : ℕ) (b : Bool) → Longer (drops_by G p run d k r x b) (drops_by G p run' d k r x b)
  drops_by_longer d k r x true = own_longer d k x (G.owner r)
  drops_by_longer d k r x false = drops_longer d r x (G.owner r)

  drops_if_longer : (d : Nesting) (k r : ℕ) (o : Option ℕ) → Longer (drops_if G p run d k r o) (drops_if G p run' d k r o)
  drops_if_longer d k r None = gives_longer []
  drops_if_longer d k r (Some x) = then_longer _ _ _ _ (drops_by_longer d k r x (owns G k r)) (λ _. gives_longer [])

  performs_longer : (d : Nesting) (k : ℕ) (args : List ℕ) (f : Option Func) → Longer (performs G p run d k args f) (performs G p run' d k args f)
  performs_longer d k args None = traps_longer _ _
  performs_longer d k args (Some (LoweredFunc target options)) = calls_longer d k target options args
  performs_longer d k args (Some (ResourceNew r)) = then_longer _ _ _ _ (on_longer k _) (λ ws. gives_longer _)
  performs_longer d k args (Some (ResourceRep r)) = then_longer _ _ _ _ (on_longer k _) (λ ws. gives_longer _)
  performs_longer d k args (Some (ResourceDrop r)) = then_longer _ _ _ _ (on_longer k _) (λ o. drops_if_longer d k r o)

  goes_on_longer : (again again' : Reply → Act (World S) (List CoreValue)) → ((r : Reply) → Longer (again r) (again' r)) → (d : Nesting) (k : ℕ) (pause : Pause) → Longer (goes_on G p run again d k pause) (goes_on G p run' again' d k pause)
  goes_on_longer again again' each d k (Finished results) = gives_longer results
  goes_on_longer again again' each d k (Question number args now used) =
      then_longer _ _ _ _ (begins_longer (at_depth d now)) (λ _.
      then_longer _ _ _ _ (performs_longer (deeper (at_depth d now)) k (words args) (G.canons k number)) (λ results.
      then_longer _ _ _ _ (store_longer k) (λ store. more_longer used _ _ (each _))))

-- ---- the knot

module _ {S : Type 0} (G : Group) (p : Ports S) (grow : PortsGrow p) where
  drives_longer : (D D' : ℕ) → D ≤ D' → (d : Nesting) (k f : ℕ) (args : List CoreValue) (store : State) (replies : List Reply) → Longer (drives G p D d k f args store replies) (drives G p D' d k f args store replies)
  drives_longer zero D' le d k f args store replies = spent_longer _
  drives_longer (suc D) zero le d k f args store replies = absurd (omega arith)
  drives_longer (suc D) (suc D') le d k f args store replies =
      let less : D ≤ D' = omega arith in
      then_longer _ _ _ _ (core_longer k store f args replies) (λ pause.
      goes_on_longer G p grow _ _
      (λ d' m g args'. then_longer _ _ _ _ (store_longer m) (λ store'. drives_longer D D' less d' m g args' (store_at d' store') []))
      _ _ (λ reply. drives_longer D D' less d k f args store (replies ++ reply ∷ [])) d k pause)

  pub runs_longer : (D D' : ℕ) → D ≤ D' → RunLonger (runs G p D) (runs G p D')
  runs_longer D D' le d k f args = then_longer _ _ _ _ (store_longer k) (λ store. drives_longer D D' le d k f args (store_at d store) [])

deep_longer : {W A : Type 0} → (x : ℕ → Act W A) → ((D D' : ℕ) → D ≤ D' → Longer (x D) (x D')) → Same (deep_enough x)
unfolding deep_enough
deep_longer x h = record { each = λ w n k. (h (suc n) (suc (k + n)) (omega arith)).each w n k }

-- ---- a group over others

module _ {S : Type 0} (G : Group) (p : Ports S) (grow : PortsGrow p) where
  if_longer : (D D' : ℕ) → D ≤ D' → (d : Nesting) (from : Origin) (o : Option Target) (passed : Passed ℕ) → Longer (answers_if G p (runs G p D) d from o passed) (answers_if G p (runs G p D') d from o passed)
  if_longer D D' le d from None passed = traps_longer _ _
  if_longer D D' le d from (Some target) passed = answers_longer G p grow _ _ (runs_longer G p grow D D' le) d from target passed

  given_longer : (D D' : ℕ) → D ≤ D' → (d : Nesting) (x : ℕ) (o : Option ℕ) → Longer (drops_given G p (runs G p D) d x o) (drops_given G p (runs G p D') d x o)
  given_longer D D' le d x None = traps_longer _ _
  given_longer D D' le d x (Some r) = drops_longer G p grow _ _ (runs_longer G p grow D D' le) d r x (G.owner r)

  pub asked_longer : (d : Nesting) (from : Origin) (o : Option Target) (passed : Passed ℕ) → Same (deep_enough (λ fuel. answers_if G p (runs G p fuel) d from o passed))
  asked_longer d from o passed = deep_longer _ (λ D D' le. if_longer D D' le d from o passed)

  pub left_longer : (d : Nesting) (due : Due) → Same (deep_enough (λ fuel. leaves G p (runs G p fuel) d due))
  left_longer d due = deep_longer _ (λ D D' le. leaves_longer G p grow _ _ (runs_longer G p grow D D' le) d due)

  dropped_longer : (d : Nesting) (x : ℕ) (o : Option ℕ) → Same (deep_enough (λ fuel. drops_given G p (runs G p fuel) d x o))
  dropped_longer d x o = deep_longer _ (λ D D' le. given_longer D D' le d x o)

  pub group_grows : PortsGrow (group G p)
  group_grows = record {
    ask = λ d from import passed. (asked_longer d from (G.exports import.interface import.function) passed).each;
    leave = λ d due. (left_longer d due).each;
    drop = λ d resource x. (dropped_longer d x (G.given resource)).each;
  }

  starts_longer : (run run' : Run S) → RunLonger run run' → (d : Nesting) (k : ℕ) (start : Option ℕ) → Longer (starts G p run d k start) (starts G p run' d k start)
  starts_longer run run' h d k None = gives_longer tt
  starts_longer run run' h d k (Some f) = then_longer _ _ _ _ (h d k f []) (λ _. gives_longer tt)

  does_longer : (run run' : Run S) → RunLonger run run' → (d : Nesting) (stage : Stage) → Longer (does G p run d stage) (does G p run' d stage)
  does_longer run run' h d (Provides k ty number) = on_longer k _
  does_longer run run' h d (Makes k make start) = then_longer _ _ _ _ step_longer (λ _. then_longer _ _ _ _ (on_longer k _) (λ _. starts_longer run run' h d k start))
  does_longer run run' h d Begins = step_longer

  all_longer : (run run' : Run S) → RunLonger run run' → (d : Nesting) (stages : List Stage) → Longer (does_all G p run d stages) (does_all G p run' d stages)
  all_longer run run' h d [] = gives_longer tt
  all_longer run run' h d (stage ∷ stages) = then_longer _ _ _ _ (does_longer run run' h d stage) (λ _. all_longer run run' h d stages)

  pub made_longer : (d : Nesting) → Same (is_made G p d)
  made_longer d = deep_longer _ (λ D D' le. all_longer _ _ (runs_longer G p grow D D' le) d G.stages)
