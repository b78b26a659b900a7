-- The acts of a group without fuel, and core code unfolded.
use Rattle.std.proofs.Common.{◌≡◌, ℕ, suc, List, [], ◌∷◌, ◌++◌, Option, refl, ◌∙◌, ap, arith}
use Rattle.core_store.specs.State.{State}
use Rattle.core_store.specs.declared.value.CoreValue.{CoreValue}
use Rattle.core_store.specs.Config.{Reply}
use Rattle.core_store.specs.Eval.{eval}
use Rattle.core_store.proofs.Steps.{within}
use Rattle.host_port.specs.Calls.{Returned}
use Rattle.host_port.specs.Hosts.{HostStep}
use Rattle.comp_worlds.specs.Acts.{Act, ◌>>◌, gives, shows}
use Rattle.comp_worlds.specs.Passing.{Passed, out_of_tuple}
use Rattle.comp_worlds.specs.Groups.{Nesting, store_at, Target, Group, World, Due, Origin, Outside, Ports}
use Rattle.comp_worlds.specs.Calls.{below, core, store_of, goes_on, runs, drives, deep_enough, leaves, answers_if, drops_given, does_all, is_made}
use Rattle.comp_worlds.specs.Hosts.{hosted}
use Rattle.comp_worlds.specs.Observed.{first_state, Call, without_handles, makes_calls, runs_calls}
use Rattle.comp_worlds.proofs.Fair.{Fair, host_fair}
use Rattle.comp_worlds.proofs.Whole.{nothing_before}
use Rattle.comp_frames.specs.Running.{running, driving, serves}
use Rattle.comp_frames.specs.RunsLaws.{SameBelow, NeedsNoFuel, MeetsWithoutFuel, Unfolds, RunsServe}
use Rattle.comp_frames.proofs.Matching.{Same}
use Rattle.comp_frames.proofs.Acting.{same_stores, same_closed, same_params, same_result, same_posts, same_answers, same_leaves, same_calls, same_destructs, same_drops, same_performs, same_answers_if, same_drops_given, same_all, matches_pause}
use Rattle.comp_frames.proofs.Driving.{runs_agree, drives_agree}

-- equal in less than b steps
below_same : {W A : Type 0} → (b : ℕ) (x y : Act W A) → Same b x y → SameBelow b x y
below_same b x y h w n lt = (h w n lt).0

module _ {S : Type 0} (G : Group) (p : Ports S) (fair : Fair p) where
  pub needs_no_fuel : NeedsNoFuel G p
  needs_no_fuel = record {
    core_code = λ b d k f args. below_same b _ _ (runs_agree G p fair b d k f args);
    storing = λ b d k options target made steps. below_same b _ _ (same_stores G p fair b (runs G p b) (running G p) (runs_agree G p fair b) d k options target made steps);
    lowering = λ b d k options target l. below_same b _ _ (same_closed G p fair b (runs G p b) (running G p) (runs_agree G p fair b) d k options target l);
    params = λ b d k options ty passed. below_same b _ _ (same_params G p fair b (runs G p b) (running G p) (runs_agree G p fair b) d k options ty passed);
    result = λ b d k options ty at passed. below_same b _ _ (same_result G p fair b (runs G p b) (running G p) (runs_agree G p fair b) d k options ty at passed);
    post = λ b d k results f. below_same b _ _ (same_posts G p fair b (runs G p b) (running G p) (runs_agree G p fair b) d k results f);
    answering = λ b d from target passed. below_same b _ _ (same_answers G p fair b (runs G p b) (running G p) (runs_agree G p fair b) d from target passed);
    leaving = λ b d due. below_same b _ _ (same_leaves G p fair b (runs G p b) (running G p) (runs_agree G p fair b) d due);
    calling = λ b d k target options args. below_same b _ _ (same_calls G p fair b (runs G p b) (running G p) (runs_agree G p fair b) d k target options args);
    destroying = λ b d k x f. below_same b _ _ (same_destructs G p fair b (runs G p b) (running G p) (runs_agree G p fair b) d k x f);
    dropping = λ b d r x o. below_same b _ _ (same_drops G p fair b (runs G p b) (running G p) (runs_agree G p fair b) d r x o);
    performing = λ b d k args f. below_same b _ _ (same_performs G p fair b (runs G p b) (running G p) (runs_agree G p fair b) d k args f);
    making = λ b d stages. below_same b _ _ (same_all G p fair b (runs G p b) (running G p) (runs_agree G p fair b) d stages);
  }

  -- with n steps more fuel than n does
  deep_same : {A : Type 0} → (x : ℕ → Act (World S) A) (y : Act (World S) A) → ((b : ℕ) → Same b (x b) y) → deep_enough x ≡ y
  unfolding deep_enough
  deep_same x y h = λ i w n. (h (suc n) w n (omega arith)).0 i

  pub asks_so : (d : Nesting) (from : Origin) (target : Option Target) (passed : Passed ℕ) → deep_enough (λ fuel. answers_if G p (runs G p fuel) d from target passed) ≡ answers_if G p (running G p) d from target passed
  asks_so d from target passed = deep_same _ _ (λ b. same_answers_if G p fair b (runs G p b) (running G p) (runs_agree G p fair b) d from target passed)

  pub leaves_so : (d : Nesting) (due : Due) → deep_enough (λ fuel. leaves G p (runs G p fuel) d due) ≡ leaves G p (running G p) d due
  leaves_so d due = deep_same _ _ (λ b. same_leaves G p fair b (runs G p b) (running G p) (runs_agree G p fair b) d due)

  pub drops_so : (d : Nesting) (x : ℕ) (r : Option ℕ) → deep_enough (λ fuel. drops_given G p (runs G p fuel) d x r) ≡ drops_given G p (running G p) d x r
  drops_so d x r = deep_same _ _ (λ b. same_drops_given G p fair b (runs G p b) (running G p) (runs_agree G p fair b) d x r)

  serves_so : (d : Nesting) (list : List Call) → makes_calls G p d list ≡ serves G p d list
  serves_so d [] = refl
  serves_so d (call ∷ rest) = λ i.
      asks_so d Outside (G.exports call.interface call.function) (without_handles call) i >> λ answer.
      leaves_so d answer.due i >> λ _.
      shows (Returned (out_of_tuple answer.passed.value) ∷ []) >> λ _.
      serves_so d rest i

  pub meets_without_fuel : MeetsWithoutFuel G p
  meets_without_fuel = record {
    ports = λ i. record {
      ask = λ d from import passed. asks_so d from (G.exports import.interface import.function) passed i;
      leave = λ d due. leaves_so d due i;
      drop = λ d resource x. drops_so d x (G.given resource) i;
    };
    making = λ d. deep_same _ _ (λ b. same_all G p fair b (runs G p b) (running G p) (runs_agree G p fair b) d G.stages);
    asking = λ d call. asks_so d Outside (G.exports call.interface call.function) (without_handles call);
    leaving = leaves_so;
    serving = serves_so;
  }

  begins : (d : Nesting) (k f : ℕ) (args : List CoreValue) → running G p d k f args ≡ (store_of k >> λ store. driving G p d k f args (store_at d store) [])
  unfolding ◌>>◌ store_of deep_enough
  begins d k f args = refl

  drives_on : (d : Nesting) (k f : ℕ) (args : List CoreValue) (store : State) (replies : List Reply) → driving G p d k f args store replies ≡ (core k store f args replies >> goes_on G p (running G p) (λ reply. driving G p d k f args store (replies ++ reply ∷ [])) d k)
  unfolding ◌>>◌ core deep_enough
  drives_on d k f args store replies = λ i w n.
      (matches_pause G p fair n (runs G p n) (running G p) (runs_agree G p fair n)
      (λ reply. drives G p n d k f args store (replies ++ reply ∷ [])) (λ reply. driving G p d k f args store (replies ++ reply ∷ [])) d k
      (λ reply. drives_agree G p fair n d k f args store (replies ++ reply ∷ []))
      n (eval store f args replies n) (omega arith) (within store f args replies n) w).0 i

  pub unfolds : Unfolds G p
  unfolds = record { running_is = begins; driving_is = drives_on }

  -- it begins in the store of its instance, with the nesting of its caller
  pub running_here : (d : Nesting) (k f : ℕ) (args : List CoreValue) (w : World S) (n : ℕ) → running G p d k f args w n ≡ driving G p d k f args (store_at d (w.configs k).store) [] w n
  unfolding ◌>>◌ store_of
  running_here d k f args w n = ap (λ (x : Act (World S) (List CoreValue)). x w n) (begins d k f args) ∙ nothing_before (driving G p d k f args (store_at d (w.configs k).store) [] w n)

-- below nothing is done
below_nothing : {S A : Type 0} → (f : Unit {0} → Act (World S) A) (w : World S) (n : ℕ) → (below (gives tt) >> f) w n ≡ f tt w n
unfolding ◌>>◌ below gives
below_nothing f w n = nothing_before (f tt w n)

made_alone : {S : Type 0} → (h : HostStep S) (d : Nesting) (G : Group) → (below {S = S} {A = Unit {0}} (gives tt) >> λ _. is_made G (hosted h) d) ≡ does_all G (hosted h) (running G (hosted h)) d G.stages
made_alone {S} h d G = (λ i w n. below_nothing (λ _. is_made G (hosted h) d) w n i) ∙ (meets_without_fuel G (hosted h) (host_fair h)).making d

pub runs_serve : {S : Type 0} → (h : HostStep S) → RunsServe h
unfolding runs_calls
runs_serve {S} h d G s list n =
    ap (λ (x : Act (World S) (Unit {0})). (x >> λ _. makes_calls G (hosted h) d list) (first_state (G ∷ []) s) n) (made_alone h d G)
    ∙ ap (λ (x : Act (World S) (Unit {0})). (does_all G (hosted h) (running G (hosted h)) d G.stages >> λ _. x) (first_state (G ∷ []) s) n) ((meets_without_fuel G (hosted h) (host_fair h)).serving d list)
