-- Core code that makes canonical calls leaves each store as many items, and so do calls from outside.
use Rattle.std.proofs.Common.{◌≡◌, ℕ, zero, suc, ◌+◌, ◌-◌, List, [], ◌∷◌, ◌++◌, refl, sym, ◌∙◌}
use Rattle.core_store.specs.State.{State}
use Rattle.core_store.specs.declared.value.CoreValue.{CoreValue}
use Rattle.core_store.specs.Words.{words}
use Rattle.core_store.specs.Config.{Reply, Outcome, Done, Trapped as CoreTrapped, Asks, Spent as CoreSpent, TooDeep as CoreTooDeep}
use Rattle.core_store.specs.Eval.{eval}
use Rattle.comp_worlds.specs.Acts.{Act, then_do, ◌>>◌, gives, with_more, shows}
use Rattle.comp_worlds.specs.Passing.{out_of_tuple}
use Rattle.host_port.specs.Calls.{Returned}
use Rattle.comp_worlds.specs.Groups.{Nesting, Endless, Nested, deeper, at_depth, store_at, Group, World, Outside, Ports}
use Rattle.comp_worlds.specs.Locals.{with_store}
use Rattle.comp_worlds.specs.Calls.{with_config, Pause, Question, core_end, core, store_of, begins_call, Run, performs, goes_on, drives, runs, answers_if, leaves}
use Rattle.comp_worlds.specs.Observed.{Call, without_handles, asks_export, leaves_export, makes_calls}
use Rattle.comp_joins.specs.Made.{SameItems}
use Rattle.comp_joins.proofs.Evals.{AsMany, Ended, evals_end, AllAnswered, none_answered, one_answered}
use Rattle.comp_joins.proofs.Acts.{Kept, Keeps, seen_kept, kept_from, then_from, then_keeps, gives_keeps, spent_keeps, shows_keeps, begins_keeps, more_keeps, deep_keeps, store_then, set_same}
use Rattle.comp_joins.proofs.Calls.{RunKeeps, performs_keep, answers_if_keep, leaves_keep}

store_at_same : (d : Nesting) (s : State) → AsMany (store_at d s) s
store_at_same Endless s = refl
store_at_same (Nested most now) s = refl

module _ {S : Type 0} (G : Group) (p : Ports S) where
  -- core code of any instance, from its beginning
  abbrev run_at : ℕ → Run S
  run_at fuel d m g args = store_of m >> λ store. drives G p fuel d m g args (store_at d store) []

  abbrev again_at : ℕ → Nesting → ℕ → ℕ → List CoreValue → State → List Reply → Reply → Act (World S) (List CoreValue)
  again_at fuel d k f args store replies reply = drives G p fuel d k f args store (replies ++ reply ∷ [])

  -- in a store with as many items as the instance's
  abbrev Drives : ℕ → Type 0
  Drives fuel =
      (d : Nesting) (k f : ℕ) (args : List CoreValue) (store : State) (replies : List Reply) → AllAnswered store f args replies → (w : World S) (n : ℕ) → AsMany store (w.configs k).store →
      Kept w (drives G p fuel d k f args store replies w n)

  run_keeps : (fuel : ℕ) → Drives fuel → RunKeeps (run_at fuel)
  run_keeps fuel rec d m g args w n =
      store_then m (λ store. drives G p fuel d m g args (store_at d store) []) w n
      (rec d m g args (store_at d (w.configs m).store) [] (none_answered (store_at d (w.configs m).store) g args) w n (store_at_same d (w.configs m).store))

  module _ (fuel : ℕ) (rec : Drives fuel) (d : Nesting) (k f : ℕ) (args : List CoreValue) (store : State) (replies : List Reply) (h : AllAnswered store f args replies) (w : World S) (n : ℕ) (many : AsMany store (w.configs k).store) where
    abbrev behind : Pause → Act (World S) (List CoreValue)
    behind = goes_on G p (run_at fuel) (again_at fuel d k f args store replies) d k

    -- the canonical call that answers a question, and what is after it
    asked : (number : ℕ) (xs : List CoreValue) (t : State) (left : ℕ) → eval store f args replies n ≡ Asks number xs t left → AsMany store t → Kept w (then_do (core_end w k n (Asks number xs t left)) behind)
    asked number xs t left e ended =
        let d' : Nesting = at_depth d t.nesting in
        let v1 : World S = with_config w k (with_store (w.configs k) t) in
        let same1 : SameItems w v1 = set_same w k (with_store (w.configs k) t) (sym many ∙ ended) in
        let pause : Pause = Question number xs t.nesting (n - left) in
        seen_kept w [] (behind pause v1 left)
        (kept_from w v1 (behind pause v1 left) same1
        (then_from (begins_call d') _ v1 left (begins_keeps d' v1 left)
        (λ a v2 l2 same2. then_from (performs G p (run_at fuel) (deeper d') k (words xs) (G.canons k number)) _ v2 l2 (performs_keep G p (run_at fuel) (run_keeps fuel rec) (deeper d') k (words xs) (G.canons k number) v2 l2)
        (λ results v3 l3 same3.
        let now : State = (v3.configs k).store in
        let reply : Reply = record { results = results; store = record (store_at d now) { nesting = t.nesting } } in
        let still : AsMany store now = many ∙ same1 k ∙ same2 k ∙ same3 k in
        store_then k (λ store'. with_more (n - left) (again_at fuel d k f args store replies (record { results = results; store = record (store_at d store') { nesting = t.nesting } }))) v3 l3
        (more_keeps (n - left) (again_at fuel d k f args store replies reply) v3 l3
        (rec d k f args store (replies ++ reply ∷ []) (one_answered store f args replies reply n number xs t left h e (sym ended ∙ still ∙ sym (store_at_same d now))) v3 (n - left + l3) still))))))

    ended_at : (o : Outcome) → eval store f args replies n ≡ o → Ended store o → Kept w (then_do (core_end w k n o) behind)
    ended_at CoreTrapped e ended = tt
    ended_at CoreSpent e ended = tt
    ended_at CoreTooDeep e ended = tt
    ended_at (Done results t left) e ended =
        let v1 : World S = with_config w k (with_store (w.configs k) t) in
        seen_kept w [] (gives results v1 left) (kept_from w v1 (gives results v1 left) (set_same w k (with_store (w.configs k) t) (sym many ∙ ended)) (gives_keeps results v1 left))
    ended_at (Asks number xs t left) e ended = asked number xs t left e ended

  deeper_drives : (fuel : ℕ) → Drives fuel → Drives (suc fuel)
  unfolding ◌>>◌ core
  deeper_drives fuel rec d k f args store replies h w n many = ended_at fuel rec d k f args store replies h w n many (eval store f args replies n) refl (evals_end store f args replies n (h n))

  drives_keep : (fuel : ℕ) → Drives fuel
  drives_keep zero d k f args store replies h w n many = spent_keeps (List CoreValue) w n
  drives_keep (suc fuel) d k f args store replies h w n many = deeper_drives fuel (drives_keep fuel) d k f args store replies h w n many

  pub runs_keep : (fuel : ℕ) → RunKeeps (runs G p fuel)
  runs_keep fuel = run_keeps fuel (drives_keep fuel)

  -- ---- calls from outside

  pub calls_keep : (d : Nesting) (calls : List Call) → Keeps (makes_calls G p d calls)
  calls_keep d [] = gives_keeps tt
  calls_keep d (call ∷ rest) =
      then_keeps (asks_export G p d call) _ (deep_keeps (λ fuel. answers_if G p (runs G p fuel) d Outside (G.exports call.interface call.function) (without_handles call)) (λ fuel. answers_if_keep G p (runs G p fuel) (runs_keep fuel) d Outside (G.exports call.interface call.function) (without_handles call)))
      (λ answer. then_keeps (leaves_export G p d answer.due) _ (deep_keeps (λ fuel. leaves G p (runs G p fuel) d answer.due) (λ fuel. leaves_keep G p (runs G p fuel) (runs_keep fuel) d answer.due))
      (λ a. then_keeps (shows (Returned (out_of_tuple answer.passed.value) ∷ [])) _ (shows_keeps (Returned (out_of_tuple answer.passed.value) ∷ [])) (λ b. calls_keep d rest)))
