-- With n steps the questions of core code are never nested deeper than n, so that any fuel above does.
use Rattle.std.proofs.Common.{◌≡◌, ℕ, zero, suc, ◌≤◌, List, [], ◌∷◌, ◌++◌, sym, ◌∙◌, ap, arith, append_assoc, append-nil}
use Rattle.core_store.specs.State.{State}
use Rattle.core_store.specs.declared.value.CoreValue.{CoreValue}
use Rattle.core_store.specs.Config.{Reply}
use Rattle.core_store.specs.Eval.{eval}
use Rattle.core_store.proofs.Steps.{within}
use Rattle.comp_worlds.specs.Acts.{then_do, ◌>>◌}
use Rattle.comp_worlds.specs.Groups.{Nesting, store_at, Group, World, Ports}
use Rattle.comp_worlds.specs.Calls.{core_end, core, goes_on, drives, runs, deep_enough}
use Rattle.comp_worlds.proofs.Fair.{Left, Fair}
use Rattle.comp_frames.specs.Running.{Rest, IsRest, comes_to, running, driving, goes_to, going}
use Rattle.comp_frames.proofs.Matching.{Same, same_less, same_store}
use Rattle.comp_frames.proofs.Acting.{Agrees, matches_pause}

module _ {S : Type 0} (G : Group) (p : Ports S) (fair : Fair p) where
  same_drives : (b m m' : ℕ) → b ≤ m → b ≤ m' → (d : Nesting) (k f : ℕ) (args : List CoreValue) (store : State) (replies : List Reply) → Same b (drives G p m d k f args store replies) (drives G p m' d k f args store replies)
  unfolding ◌>>◌ core
  same_drives zero m m' le le' d k f args store replies = λ w n lt. absurd (omega arith)
  same_drives (suc b) zero m' le le' d k f args store replies = λ w n lt. absurd (omega arith)
  same_drives (suc b) (suc m) zero le le' d k f args store replies = λ w n lt. absurd (omega arith)
  same_drives (suc b) (suc m) (suc m') le le' d k f args store replies = λ w n lt.
      matches_pause G p fair b (runs G p m) (runs G p m')
      (λ d' k' f' args'. same_store b k' _ _ (λ store'. same_drives b m m' (omega arith) (omega arith) d' k' f' args' (store_at d' store') []))
      (λ reply. drives G p m d k f args store (replies ++ reply ∷ [])) (λ reply. drives G p m' d k f args store (replies ++ reply ∷ [])) d k
      (λ reply. same_drives b m m' (omega arith) (omega arith) d k f args store (replies ++ reply ∷ []))
      n (eval store f args replies n) (omega arith) (within store f args replies n) w

  pub same_runs : (b m m' : ℕ) → b ≤ m → b ≤ m' → Agrees b (runs G p m) (runs G p m')
  same_runs b m m' le le' d k f args = same_store b k _ _ (λ store. same_drives b m m' le le' d k f args (store_at d store) [])

  pub runs_agree : (m : ℕ) → Agrees m (runs G p m) (running G p)
  unfolding deep_enough
  runs_agree m d k f args w n lt = same_runs (suc n) m (suc n) (omega arith) (omega arith) d k f args w n (omega arith)

  pub running_agrees : (b : ℕ) → Agrees b (running G p) (running G p)
  unfolding deep_enough
  running_agrees b d k f args w n lt = same_runs (suc n) (suc n) (suc n) (omega arith) (omega arith) d k f args w n (omega arith)

  same_goes : (b m m' : ℕ) → b ≤ m → b ≤ m' → (d : Nesting) (k : ℕ) (X : Rest) → IsRest X → Same b (goes_to G p m d k X) (goes_to G p m' d k X)
  unfolding ◌>>◌ comes_to
  same_goes zero m m' le le' d k X rest = λ w n lt. absurd (omega arith)
  same_goes (suc b) zero m' le le' d k X rest = λ w n lt. absurd (omega arith)
  same_goes (suc b) (suc m) zero le le' d k X rest = λ w n lt. absurd (omega arith)
  same_goes (suc b) (suc m) (suc m') le le' d k X rest = λ w n lt.
      matches_pause G p fair b (running G p) (running G p) (running_agrees b)
      (λ reply. goes_to G p m d k (λ replies. X (reply ∷ replies))) (λ reply. goes_to G p m' d k (λ replies. X (reply ∷ replies))) d k
      (λ reply. same_goes b m m' (omega arith) (omega arith) d k (λ replies. X (reply ∷ replies)) (λ replies. rest (reply ∷ replies)))
      n (X [] n) (omega arith) (rest [] n) w

  pub goes_agree : (m : ℕ) (d : Nesting) (k : ℕ) (X : Rest) → IsRest X → Same m (goes_to G p m d k X) (going G p d k X)
  unfolding deep_enough
  goes_agree m d k X rest w n lt = same_goes (suc n) m (suc n) (omega arith) (omega arith) d k X rest w n (omega arith)

  pub going_left : (d : Nesting) (k : ℕ) (X : Rest) → IsRest X → (w : World S) (n : ℕ) → Left n (going G p d k X w n)
  unfolding deep_enough
  going_left d k X rest w n = (same_goes (suc n) (suc n) (suc n) (omega arith) (omega arith) d k X rest w n (omega arith)).1

  pub drives_agree : (m : ℕ) (d : Nesting) (k f : ℕ) (args : List CoreValue) (store : State) (replies : List Reply) → Same m (drives G p m d k f args store replies) (driving G p d k f args store replies)
  unfolding deep_enough
  drives_agree m d k f args store replies w n lt = same_drives (suc n) m (suc n) (omega arith) (omega arith) d k f args store replies w n (omega arith)

  -- from the beginning, where these replies were given
  pub same_begun : (b m m' : ℕ) → b ≤ m → b ≤ m' → (d : Nesting) (k f : ℕ) (args : List CoreValue) (store : State) (used : List Reply) (X : Rest) → ◌≡◌ {A = Rest} (λ replies n. eval store f args (used ++ replies) n) X → Same b (drives G p m d k f args store used) (goes_to G p m' d k X)
  unfolding ◌>>◌ core comes_to
  same_begun zero m m' le le' d k f args store used X is = λ w n lt. absurd (omega arith)
  same_begun (suc b) zero m' le le' d k f args store used X is = λ w n lt. absurd (omega arith)
  same_begun (suc b) (suc m) zero le le' d k f args store used X is = λ w n lt. absurd (omega arith)
  same_begun (suc b) (suc m) (suc m') le le' d k f args store used X is = λ w n lt.
      let now : eval store f args used n ≡ X [] n = ap (λ us. eval store f args us n) (sym (append-nil used)) ∙ ap (λ (Y : Rest). Y [] n) is in
      let later : (reply : Reply) → ◌≡◌ {A = Rest} (λ replies i. eval store f args ((used ++ reply ∷ []) ++ replies) i) (λ replies. X (reply ∷ replies)) =
      λ reply. (λ j replies i. eval store f args (append_assoc used (reply ∷ []) replies j) i) ∙ ap {B = Rest} (λ (Y : Rest). λ replies. Y (reply ∷ replies)) is in
      let h =
      matches_pause G p fair b (runs G p m) (running G p) (λ d' k' f' args'. same_less m b _ _ (omega arith) (runs_agree m d' k' f' args'))
      (λ reply. drives G p m d k f args store (used ++ reply ∷ [])) (λ reply. goes_to G p m' d k (λ replies. X (reply ∷ replies))) d k
      (λ reply. same_begun b m m' (omega arith) (omega arith) d k f args store (used ++ reply ∷ []) (λ replies. X (reply ∷ replies)) (later reply))
      n (eval store f args used n) (omega arith) (within store f args used n) w in
      (h.0 ∙ ap (λ o. then_do (core_end w k n o) (goes_on G p (running G p) (λ reply. goes_to G p m' d k (λ replies. X (reply ∷ replies))) d k)) now, h.1)
