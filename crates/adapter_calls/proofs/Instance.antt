-- What is done to one instance of a group, and core code of it that asks nothing.
use Rattle.std.proofs.Common.{◌≡◌, ◌∙◌, refl, sym, ap, ℕ, suc, ◌==◌, List, [], ◌∷◌, Option, Some, None, Bool, true, false}
use Rattle.std.proofs.lemmas.Bool.{eq-eqb}
use Rattle.core_store.specs.State.{State}
use Rattle.core_store.specs.declared.value.CoreValue.{CoreValue}
use Rattle.core_store.specs.Config.{Reply, Done, Trapped as CoreTrapped}
use Rattle.core_store.specs.Eval.{eval}
use Rattle.core_store.proofs.Steps.{within as within_steps}
use Rattle.comp_worlds.specs.Acts.{Out, Next, Over, Spent, Trapped, seen_before, then_do, Act, ◌>>◌, gives, takes_step}
use Rattle.comp_worlds.specs.Groups.{Endless, store_at, Group, Config, World, Ports}
use Rattle.comp_worlds.specs.Locals.{Local, with_store}
use Rattle.comp_worlds.specs.Calls.{pick, with_config, on_end, on, core_end, store_of, finds_room, begins_call, goes_on}
use Rattle.comp_frames.specs.Running.{Rest, IsRest, comes_to, running, driving, going}
use Rattle.comp_frames.specs.RunsLaws.{Unfolds, GoesByItsRest}
use Rattle.adapter_calls.specs.Instance.{standing, IsQuiet}

pub seen_none : {W A : Type 0} → (x : Out W A) → seen_before [] x ≡ x
seen_none (Next o l w a) = refl
seen_none (Over o e) = refl
seen_none (Spent o) = refl

module _ {S : Type 0} (w : World S) (k : ℕ) where
  pub at_k : (c : Config ℕ) (s : S) → (standing w k c s).configs k ≡ c
  at_k c s = ap (λ b. pick b c (w.configs k)) (eq-eqb k k refl)

  pick_twice : (b : Bool) (a c d : Config ℕ) → pick b a (pick b c d) ≡ pick b a d
  pick_twice true a c d = refl
  pick_twice false a c d = refl

  pub again : (c d : Config ℕ) (s : S) → with_config (standing w k c s) k d ≡ standing w k d s
  again c d s = λ i. record { configs = λ j. pick_twice (j == k) d c (w.configs j) i; below = s }

  pub stored : (c : Config ℕ) (t : State) (s : S) → with_config (standing w k c s) k (with_store ((standing w k c s).configs k) t) ≡ standing w k (with_store c t) s
  stored c t s = ap (λ d. with_config (standing w k c s) k (with_store d t)) (at_k c s) ∙ again c (with_store c t) s

  pub on_k : {A : Type 0} → (op : Config ℕ → Option (Local ℕ A)) (c d : Config ℕ) (s : S) (a : A) (n : ℕ) → op c ≡ Some (record { config = d; answer = a }) → on k op (standing w k c s) n ≡ Next [] n (standing w k d s) a
  unfolding on
  on_k op c d s a n does =
      ap (λ e. on_end (standing w k c s) k n (op e)) (at_k c s) ∙ ap (on_end (standing w k c s) k n) does ∙ ap (λ v. Next [] n v a) (again c d s)

  pub on_none : {A : Type 0} → (op : Config ℕ → Option (Local ℕ A)) (c : Config ℕ) (s : S) (n : ℕ) → op c ≡ None → on k op (standing w k c s) n ≡ Over [] Trapped
  unfolding on
  on_none op c s n none = ap (λ e. on_end (standing w k c s) k n (op e)) (at_k c s) ∙ ap (on_end (standing w k c s) k n) none

  pub store_at_k : (c : Config ℕ) (s : S) (n : ℕ) → store_of k (standing w k c s) n ≡ Next [] n (standing w k c s) c.store
  unfolding store_of
  store_at_k c s n = ap (λ (d : Config ℕ). Next [] n (standing w k c s) d.store) (at_k c s)

-- a step, and room for a call more
pub begins : {S : Type 0} → (v : World S) (n : ℕ) → begins_call Endless v (suc n) ≡ Next [] n v tt
unfolding ◌>>◌ takes_step finds_room
begins v n = refl

pub quiet_store : (t : State) → IsQuiet t → store_at Endless t ≡ t
quiet_store t q = λ i. record t { nesting = sym q.nesting i; deepest = sym q.deepest i }

-- ---- core code that asks nothing

module _ {S : Type 0} (G : Group) (p : Ports S) (unfolds : Unfolds G p) (by : GoesByItsRest G p) (w : World S) (k : ℕ) where
  ends : (store : State) (f : ℕ) (args : List CoreValue) (c : Config ℕ) (s : S) (n : ℕ) → driving G p Endless k f args store [] (standing w k c s) n
      ≡ then_do (core_end (standing w k c s) k n (eval store f args [] n)) (goes_on G p (running G p) (λ reply. going G p Endless k (λ replies. (λ (used : List Reply) (m : ℕ). eval store f args used m) (reply ∷ replies))) Endless k)
  unfolding ◌>>◌ comes_to
  ends store f args c s n =
      ap (λ (act : Act (World S) (List CoreValue)). act (standing w k c s) n) (by.begun Endless k f args store [] ∙ by.unfolds Endless k (λ replies m. eval store f args replies m) (λ replies m. within_steps store f args replies m))

  pub from_store : (f : ℕ) (args : List CoreValue) (c : Config ℕ) (s : S) (n : ℕ) → IsQuiet c.store → running G p Endless k f args (standing w k c s) n ≡ driving G p Endless k f args c.store [] (standing w k c s) n
  unfolding ◌>>◌
  from_store f args c s n quiet =
      ap (λ (act : Act (World S) (List CoreValue)). act (standing w k c s) n) (unfolds.running_is Endless k f args)
      ∙ ap (λ o. then_do o (λ store. driving G p Endless k f args (store_at Endless store) [])) (store_at_k w k c s n)
      ∙ seen_none (driving G p Endless k f args (store_at Endless c.store) [] (standing w k c s) n)
      ∙ ap (λ t. driving G p Endless k f args t [] (standing w k c s) n) (quiet_store c.store quiet)

  -- whatever calls are in progress, it begins without them
  from_endless : (f : ℕ) (args : List CoreValue) (c : Config ℕ) (s : S) (n : ℕ) → running G p Endless k f args (standing w k c s) n ≡ driving G p Endless k f args (store_at Endless c.store) [] (standing w k c s) n
  unfolding ◌>>◌
  from_endless f args c s n =
      ap (λ (act : Act (World S) (List CoreValue)). act (standing w k c s) n) (unfolds.running_is Endless k f args)
      ∙ ap (λ o. then_do o (λ store. driving G p Endless k f args (store_at Endless store) [])) (store_at_k w k c s n)
      ∙ seen_none (driving G p Endless k f args (store_at Endless c.store) [] (standing w k c s) n)

  pub returns_meanwhile : (f : ℕ) (args results : List CoreValue) (c : Config ℕ) (t : State) (s : S) (n m : ℕ) → eval (store_at Endless c.store) f args [] n ≡ Done results t m → running G p Endless k f args (standing w k c s) n ≡ Next [] m (standing w k (with_store c t) s) results
  unfolding gives
  returns_meanwhile f args results c t s n m done =
      from_endless f args c s n ∙ ends (store_at Endless c.store) f args c s n
      ∙ ap (λ o. then_do (core_end (standing w k c s) k n o) (goes_on G p (running G p) (λ reply. going G p Endless k (λ replies. (λ (used : List Reply) (j : ℕ). eval (store_at Endless c.store) f args used j) (reply ∷ replies))) Endless k)) done
      ∙ ap (λ v. Next [] m v results) (stored w k c t s)

  pub traps_meanwhile : (f : ℕ) (args : List CoreValue) (c : Config ℕ) (s : S) (n : ℕ) → eval (store_at Endless c.store) f args [] n ≡ CoreTrapped → running G p Endless k f args (standing w k c s) n ≡ Over [] Trapped
  traps_meanwhile f args c s n trapped =
      from_endless f args c s n ∙ ends (store_at Endless c.store) f args c s n
      ∙ ap (λ o. then_do (core_end (standing w k c s) k n o) (goes_on G p (running G p) (λ reply. going G p Endless k (λ replies. (λ (used : List Reply) (j : ℕ). eval (store_at Endless c.store) f args used j) (reply ∷ replies))) Endless k)) trapped

  -- it returns, or traps
  pub runs_alone : (f : ℕ) (args results : List CoreValue) (c : Config ℕ) (t : State) (s : S) (n m : ℕ) → IsQuiet c.store → eval c.store f args [] n ≡ Done results t m → running G p Endless k f args (standing w k c s) n ≡ Next [] m (standing w k (with_store c t) s) results
  unfolding gives
  runs_alone f args results c t s n m quiet done =
      from_store f args c s n quiet ∙ ends c.store f args c s n
      ∙ ap (λ o. then_do (core_end (standing w k c s) k n o) (goes_on G p (running G p) (λ reply. going G p Endless k (λ replies. (λ (used : List Reply) (j : ℕ). eval c.store f args used j) (reply ∷ replies))) Endless k)) done
      ∙ ap (λ v. Next [] m v results) (stored w k c t s)

  pub traps_alone : (f : ℕ) (args : List CoreValue) (c : Config ℕ) (s : S) (n : ℕ) → IsQuiet c.store → eval c.store f args [] n ≡ CoreTrapped → running G p Endless k f args (standing w k c s) n ≡ Over [] Trapped
  traps_alone f args c s n quiet trapped =
      from_store f args c s n quiet ∙ ends c.store f args c s n
      ∙ ap (λ o. then_do (core_end (standing w k c s) k n o) (goes_on G p (running G p) (λ reply. going G p Endless k (λ replies. (λ (used : List Reply) (j : ℕ). eval c.store f args used j) (reply ∷ replies))) Endless k)) trapped

-- ---- at the end of core code

module _ {S : Type 0} (G : Group) (p : Ports S) (by : GoesByItsRest G p) (w : World S) (k : ℕ) where
  pub goes_to_trap : (X : Rest) → IsRest X → (d : Config ℕ) (s : S) (n : ℕ) → X [] n ≡ CoreTrapped → going G p Endless k X (standing w k d s) n ≡ Over [] Trapped
  unfolding ◌>>◌ comes_to
  goes_to_trap X rest d s n trapped =
      ap (λ (act : Act (World S) (List CoreValue)). act (standing w k d s) n) (by.unfolds Endless k X rest)
      ∙ ap (λ o. then_do (core_end (standing w k d s) k n o) (goes_on G p (running G p) (λ reply. going G p Endless k (λ replies. X (reply ∷ replies))) Endless k)) trapped

  pub goes_to_end : (X : Rest) → IsRest X → (d : Config ℕ) (t : State) (s : S) (results : List CoreValue) (n m : ℕ) → X [] n ≡ Done results t m → going G p Endless k X (standing w k d s) n ≡ Next [] m (standing w k (with_store d t) s) results
  unfolding ◌>>◌ comes_to gives
  goes_to_end X rest d t s results n m done =
      ap (λ (act : Act (World S) (List CoreValue)). act (standing w k d s) n) (by.unfolds Endless k X rest)
      ∙ ap (λ o. then_do (core_end (standing w k d s) k n o) (goes_on G p (running G p) (λ reply. going G p Endless k (λ replies. X (reply ∷ replies))) Endless k)) done
      ∙ ap (λ v. Next [] m v results) (stored w k d t s)
