-- Core code from where it stands.
use Rattle.std.proofs.Common.{◌≡◌, ℕ, zero, suc, ◌+◌, ◌-◌, ◌≤◌, ◌<◌, List, [], ◌∷◌, ◌++◌, refl, sym, ◌∙◌, ap, arith}
use Rattle.core_store.specs.State.{State}
use Rattle.core_store.specs.declared.value.CoreValue.{CoreValue}
use Rattle.core_store.specs.Words.{words}
use Rattle.core_store.specs.Config.{Reply, Outcome, Done, Trapped as CoreTrapped, Asks, Spent as CoreSpent, TooDeep as CoreTooDeep}
use Rattle.core_store.specs.Eval.{eval}
use Rattle.core_store.specs.Laws.{Within}
use Rattle.core_interp.specs.Session.{granted}
use Rattle.comp_worlds.specs.Acts.{seen_before, then_do, Act, ◌>>◌, gives, with_more}
use Rattle.comp_worlds.specs.Groups.{Nesting, deeper, at_depth, store_at, Group, World, Ports}
use Rattle.comp_worlds.specs.Calls.{Question, core_end, store_of, goes_on, deep_enough}
use Rattle.comp_worlds.proofs.Fair.{Fair}
use Rattle.comp_frames.specs.Running.{Rest, IsRest, comes_to, stored, running, driving, goes_to, going}
use Rattle.comp_frames.specs.RunsLaws.{GoesByItsRest}
use Rattle.comp_frames.proofs.Matching.{Matches, left_less, matches_seen, matches_then, matches_call}
use Rattle.comp_frames.proofs.Acting.{same_performs, matches_pause}
use Rattle.comp_frames.proofs.Driving.{running_agrees, goes_agree, going_left, same_begun}

module _ {S : Type 0} (G : Group) (p : Ports S) (fair : Fair p) where
  begun : (d : Nesting) (k f : ℕ) (args : List CoreValue) (store : State) (used : List Reply) → driving G p d k f args store used ≡ going G p d k (λ replies n. eval store f args (used ++ replies) n)
  unfolding deep_enough
  begun d k f args store used = λ i w n. (same_begun G p fair (suc n) (suc n) (suc n) (omega arith) (omega arith) d k f args store used (λ replies m. eval store f args (used ++ replies) m) refl w n (omega arith)).0 i

  goes_unfold : (d : Nesting) (k : ℕ) (X : Rest) → IsRest X → going G p d k X ≡ (comes_to k X >> goes_on G p (running G p) (λ reply. going G p d k (λ replies. X (reply ∷ replies))) d k)
  unfolding ◌>>◌ comes_to deep_enough
  goes_unfold d k X rest = λ i w n.
      (matches_pause G p fair n (running G p) (running G p) (running_agrees G p fair n)
      (λ reply. goes_to G p n d k (λ replies. X (reply ∷ replies))) (λ reply. going G p d k (λ replies. X (reply ∷ replies))) d k
      (λ reply. goes_agree G p fair n d k (λ replies. X (reply ∷ replies)) (λ replies. rest (reply ∷ replies)))
      n (X [] n) (omega arith) (rest [] n) w).0 i

  -- with that many steps taken, from a question on
  module _ (b n t : ℕ) (most : n ≤ b) (d : Nesting) (k : ℕ) (X : Rest) (rest : IsRest X)
      (so : (reply : Reply) (m : ℕ) → m < b → (w : World S) → going G p d k (λ replies. X (reply ∷ replies)) w (t + m) ≡ going G p d k (λ replies. granted X t (reply ∷ replies)) w m) where
    abbrev again : Reply → Act (World S) (List CoreValue)
    again reply = going G p d k (λ replies. X (reply ∷ replies))

    abbrev moved_again : Reply → Act (World S) (List CoreValue)
    moved_again reply = going G p d k (λ replies. granted X t (reply ∷ replies))

    later : (reply : Reply) (l j : ℕ) (w : World S) → l ≤ n → j < l → Matches (t + n) (again reply w (t + n - l + j)) (moved_again reply w (n - l + j))
    later reply l j w le less =
        let m : ℕ = n - l + j in
        let same : t + n - l + j ≡ t + m = omega arith in (
          ap (again reply w) same ∙ so reply m (omega arith) w,
          left_less (t + n - l + j) (t + n) (again reply w (t + n - l + j)) (omega arith) (going_left G p fair d k (λ replies. X (reply ∷ replies)) (λ replies. rest (reply ∷ replies)) w (t + n - l + j)),
        )

    asked : (number : ℕ) (args : List CoreValue) (now l : ℕ) → l ≤ n → (w : World S) →
        Matches (t + n) (goes_on G p (running G p) again d k (Question number args now (t + n - l)) w l) (goes_on G p (running G p) moved_again d k (Question number args now (n - l)) w l)
    unfolding ◌>>◌ store_of with_more
    asked number args now l le w =
        matches_call (t + n) l (at_depth d now) _ _ w
        (λ i less.
        matches_then (t + n) i _ _ _ _ (same_performs G p fair (suc i) (running G p) (running G p) (running_agrees G p fair (suc i)) (deeper (at_depth d now)) k (words args) (G.canons k number) w i (omega arith))
        (λ results w' j le'.
        let reply : Reply = record { results = results; store = record (store_at d (w'.configs k).store) { nesting = now } } in
        matches_seen (t + n) [] (again reply w' (t + n - l + j)) (moved_again reply w' (n - l + j)) (later reply l j w' le (omega arith))))

    ends_moved : (o : Outcome) → Within n o → (w : World S) → then_do (core_end w k (t + n) o) (goes_on G p (running G p) again d k) ≡ then_do (core_end w k n o) (goes_on G p (running G p) moved_again d k)
    unfolding gives
    ends_moved (Done results c l) less w = refl
    ends_moved CoreTrapped less w = refl
    ends_moved (Asks number args c l) less w = ap (seen_before []) (asked number args c.nesting l less (stored w k c)).0
    ends_moved CoreSpent less w = refl
    ends_moved CoreTooDeep less w = refl

  -- the steps that were taken count once
  moved : (b n t : ℕ) → n < b → (d : Nesting) (k : ℕ) (X : Rest) → IsRest X → IsRest (granted X t) → (w : World S) → going G p d k X w (t + n) ≡ going G p d k (granted X t) w n
  unfolding ◌>>◌ comes_to
  moved zero n t lt d k X rest more w = absurd (omega arith)
  moved (suc b) n t lt d k X rest more w =
      ap (λ (x : Act (World S) (List CoreValue)). x w (t + n)) (goes_unfold d k X rest)
      ∙ ends_moved b n t (omega arith) d k X rest
      (λ reply m less w'. moved b m t less d k (λ replies. X (reply ∷ replies)) (λ replies. rest (reply ∷ replies)) (λ replies. more (reply ∷ replies)) w')
      (X [] (t + n)) (more [] n) w
      ∙ sym (ap (λ (x : Act (World S) (List CoreValue)). x w n) (goes_unfold d k (granted X t) more))

  pub goes_by_its_rest : GoesByItsRest G p
  unfolding with_more
  goes_by_its_rest = record {
    begun = begun;
    unfolds = goes_unfold;
    taken = λ d k X steps rest more i w n. moved (suc n) n steps (omega arith) d k X rest more w i;
    alike = λ d k X Y same i. going G p d k (λ replies n. same replies n i);
  }
