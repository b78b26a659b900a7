-- What the pauses of a machine lead to.
use Rattle.std.proofs.Common.{◌≡◌, ℕ, zero, suc, ◌+◌, ◌-◌, ◌≤◌, ◌<◌, List, [], ◌∷◌, ◌++◌, Bool, true, false, ◌==◌, refl, sym, ◌∙◌, ap, subst, arith, append-nil}
use Rattle.core_store.specs.State.{State}
use Rattle.core_store.specs.declared.value.CoreValue.{CoreValue}
use Rattle.core_store.specs.Config.{Reply, Outcome, Done, Trapped as CoreTrapped, Asks, Spent as CoreSpent, TooDeep as CoreTooDeep}
use Rattle.core_store.specs.Eval.{deep, eval}
use Rattle.core_store.specs.Laws.{Within}
use Rattle.core_store.proofs.Steps.{within}
use Rattle.core_interp.specs.declared.machine.Machine.{Machine}
use Rattle.core_interp.specs.declared.machine.Pause.{Pause}
use Rattle.core_interp.specs.declared.machine.Pause.TheVariants as pauses
use Rattle.core_interp.specs.Session.{Follows, Says, granted}
use Rattle.core_interp.specs.Session as machine
use Rattle.comp_worlds.specs.Acts.{Next, then_do, Act, ◌>>◌, gives, with_more}
use Rattle.comp_worlds.specs.Groups.{Nesting, Group, Config, World, Ports}
use Rattle.comp_worlds.specs.Locals.{with_store}
use Rattle.comp_worlds.specs.Calls.{pick, set, with_config, Finished, Question, core_end, core, goes_on}
use Rattle.comp_worlds.proofs.Joint.{set_here}
use Rattle.comp_worlds.proofs.Fair.{Fair}
use Rattle.comp_worlds.proofs.Whole.{nothing_before}
use Rattle.comp_frames.specs.Running.{Rest, stored, running, driving, going}
use Rattle.comp_frames.specs.Pausing.{IsRunBy, LeadsTo, PausesLead}
use Rattle.comp_frames.proofs.Unfolding.{unfolds}
use Rattle.comp_frames.proofs.Going.{goes_by_its_rest}
use Rattle.comp_frames.proofs.Resting.{machines_rest}

-- ---- the store in the world is not looked at

set_twice : (J : ℕ → Config ℕ) (k : ℕ) (x y : Config ℕ) → set (set J k x) k y ≡ set J k y
set_twice J k x y = λ i m. at (J m) (m == k) i
  where
    at : (j : Config ℕ) (b : Bool) → pick b y (pick b x j) ≡ pick b y j
    at j true = refl
    at j false = refl

stored_twice : {S : Type 0} → (w : World S) (k : ℕ) (s t : State) → stored (stored w k s) k t ≡ stored w k t
stored_twice w k s t =
    ap (λ c. with_config (stored w k s) k (with_store c t)) (set_here w.configs k (with_store (w.configs k) s))
    ∙ (λ i. record { configs = set_twice w.configs k (with_store (w.configs k) s) (with_store (w.configs k) t) i; below = w.below })

end_aside : {S : Type 0} → (w : World S) (k n : ℕ) (s : State) (o : Outcome) → core_end (stored w k s) k n o ≡ core_end w k n o
end_aside w k n s (Done results t left) = ap (λ z. Next [] left z (Finished results)) (stored_twice w k s t)
end_aside w k n s CoreTrapped = refl
end_aside w k n s (Asks number args t left) = ap (λ z. Next [] left z (Question number args t.nesting (n - left))) (stored_twice w k s t)
end_aside w k n s CoreSpent = refl
end_aside w k n s CoreTooDeep = refl

module _ {S : Type 0} (G : Group) (p : Ports S) (fair : Fair p) (d : Nesting) (k : ℕ) where
  starts : (f : ℕ) (args : List CoreValue) (store : State) (m : Machine) → Follows store f args [] 0 m store → IsRunBy G p d k m store (driving G p d k f args store [])
  unfolding with_more
  starts f args store m follows = record {
    first = store;
    function = f;
    args = args;
    used = [];
    taken = 0;
    follows = follows;
    is = λ i w n. let q : n ≡ 0 + n = omega arith in driving G p d k f args store [] w (q i);
  }

  module _ (first : State) (f : ℕ) (args : List CoreValue) (used : List Reply) (taken : ℕ) where
    abbrev again : Reply → Act (World S) (List CoreValue)
    again reply = driving G p d k f args first (used ++ reply ∷ [])

    -- it comes to where the evaluation stands
    comes : (w : World S) (b : ℕ) (o : Outcome) → eval first f args used (taken + b) ≡ o →
        with_more taken (driving G p d k f args first used) w b ≡ then_do (core_end w k (taken + b) o) (goes_on G p (running G p) again d k)
    unfolding ◌>>◌ core with_more
    comes w b o is = ap (λ (x : Act (World S) (List CoreValue)). x w (taken + b)) ((unfolds G p fair).driving_is d k f args first used) ∙ ap (λ z. then_do (core_end w k (taken + b) z) (goes_on G p (running G p) again d k)) is

    pub driving_aside : (store : State) (w : World S) (n : ℕ) → driving G p d k f args first used (stored w k store) n ≡ driving G p d k f args first used w n
    unfolding ◌>>◌ core
    driving_aside store w n =
        ap (λ (x : Act (World S) (List CoreValue)). x (stored w k store) n) ((unfolds G p fair).driving_is d k f args first used)
        ∙ ap (λ u. then_do u (goes_on G p (running G p) (λ reply. driving G p d k f args first (used ++ reply ∷ [])) d k)) (end_aside w k n store (eval first f args used n))
        ∙ sym (ap (λ (x : Act (World S) (List CoreValue)). x w n) ((unfolds G p fair).driving_is d k f args first used))

    -- the steps of the machine are steps of the evaluation
    whole : (b left : ℕ) → left ≤ b → (X : ℕ → Outcome) (o : Outcome) → X (taken + (b - left) + left) ≡ o → X (taken + b) ≡ o
    whole b left le X o is = let q : taken + b ≡ taken + (b - left) + left = omega arith in ap X q ∙ is

    more_aside : (store : State) (w : World S) (n : ℕ) → with_more taken (driving G p d k f args first used) (stored w k store) n ≡ with_more taken (driving G p d k f args first used) w n
    unfolding with_more
    more_aside store w n = driving_aside store w (taken + n)

    -- no reply more is given
    unanswered : (n : ℕ) (o : Outcome) → eval first f args (used ++ []) n ≡ o → eval first f args used n ≡ o
    unanswered n o is = ap (λ us. eval first f args us n) (sym (append-nil used)) ∙ is

    leads : (b left : ℕ) (pause : Pause) (m : Machine) (s : State) → left ≤ b → Says first f args used (taken + (b - left)) left pause m s → LeadsTo G p d k (with_more taken (driving G p d k f args first used)) b left pause m s
    unfolding gives with_more
    leads b left (pauses.Done values) m s le says = λ w.
        comes w b (Done values s left) (whole b left le (eval first f args used) _ (unanswered _ _ (says.0 [] left)))
    leads b left pauses.Trapped m s le says = λ w.
        comes w b CoreTrapped (whole b left le (eval first f args used) _ (unanswered _ _ (says.0 [] left)))
    leads b left (pauses.AtHost number asked) m s le says =
        let count : taken + b - left ≡ taken + (b - left) = omega arith in (
          λ reply. with_more (taken + (b - left)) (again reply),
          λ w. comes w b (Asks number asked s left) (whole b left le (eval first f args used) _ (says.0 left))
              ∙ nothing_before (goes_on G p (running G p) again d k (Question number asked s.nesting (taken + b - left)) (stored w k s) left)
              ∙ ap (λ u. goes_on G p (running G p) again d k (Question number asked s.nesting u) (stored w k s) left) count,
          λ r answer. record { first = first; function = f; args = args; used = used ++ r ∷ []; taken = taken + (b - left); follows = says.2 r answer; is = refl },
        )
    leads b left pauses.Spent m s le says =
        let none : left ≡ 0 = says.0 in
        let all : taken + (b - left) ≡ taken + b = omega arith in (
          λ w. comes w b CoreSpent (ap (eval first f args used) (sym all) ∙ unanswered _ _ (says.1 [])),
          record {
            first = first;
            function = f;
            args = args;
            used = used;
            taken = taken + (b - left);
            follows = says.2;
            is = λ i w n. let q : taken + (b + n) ≡ taken + (b - left) + n = omega arith in driving G p d k f args first used w (q i);
          },
        )
    leads b left pauses.TooDeep m s le says = λ w.
        comes w b CoreTooDeep (whole b left le (eval first f args used) _ (unanswered _ _ (says.1 [] left) ∙ due left says.0))
      where
        due : (n : ℕ) → 0 < n → deep n ≡ CoreTooDeep
        due zero lt = absurd (omega arith)
        due (suc n) lt = refl

by_rest : {S : Type 0} → (G : Group) (p : Ports S) (fair : Fair p) (d : Nesting) (k : ℕ) (m : Machine) (s : State) (act : Act (World S) (List CoreValue)) → IsRunBy G p d k m s act → act ≡ going G p d k (machine.goes_on m s)
by_rest G p fair d k m s act by =
    let l = goes_by_its_rest G p fair in
    let X : Rest = λ replies n. eval by.first by.function by.args (by.used ++ replies) n in
    by.is
    ∙ ap (with_more by.taken) (l.begun d k by.function by.args by.first by.used)
    ∙ l.taken d k X by.taken (λ replies n. within by.first by.function by.args (by.used ++ replies) n) (λ replies n. subst (Within n) (sym (by.follows.so_far replies n)) (machines_rest m s replies n))
    ∙ l.alike d k (granted X by.taken) (machine.goes_on m s) by.follows.so_far

pub pauses_lead : {S : Type 0} → (G : Group) (p : Ports S) (fair : Fair p) → PausesLead G p
pauses_lead {S} G p fair = record {
  starts = λ d k. starts G p fair d k;
  leads = λ d k m s act b pause m' s' left by h.
      subst (λ x. LeadsTo G p d k x b left pause m' s') (sym by.is)
      (leads G p fair d k by.first by.function by.args by.used by.taken b left pause m' s' h.budget (h.says by.first by.function by.args by.used by.taken by.follows));
  aside = λ d k m s act by store w n.
      subst (λ (x : Act (World S) (List CoreValue)). x (stored w k store) n ≡ x w n) (sym by.is) (more_aside G p fair d k by.first by.function by.args by.used by.taken store w n);
  by_rest = λ d k. by_rest G p fair d k;
}
