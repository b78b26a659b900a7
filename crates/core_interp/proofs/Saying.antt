-- What a pause says of the call from its start.
use Rattle.std.proofs.Common.{◌≡◌, ℕ, ◌+◌, ◌-◌, ◌<◌, ◌≤◌, List, [], ◌∷◌, ◌++◌, length, refl, sym, ap, ◌∙◌, subst, arith, append_assoc}
use Rattle.std.specs.Prelude.{reverse, slice_get}
use Rattle.std.proofs.lemmas.List.{append-nil}
use Rattle.core_store.specs.declared.value.CoreValue.{CoreValue}
use Rattle.core_store.specs.State.{State}
use Rattle.core_store.specs.Words.{words, HaveTypes}
use Rattle.core_store.specs.Config.{Reply, Outcome, Done, Asks}
use Rattle.core_store.specs.Eval.{eval}
use Rattle.core_store.specs.Scene.{Scene, Grew, CameBack, scene_of, results_at}
use Rattle.core_store.specs.Laws.{Further, Answers, StoreIs}
use Rattle.core_store.proofs.Further.{further}
use Rattle.core_store.proofs.Stores.{grew_on, grew_self, grew_same, stores_back}
use Rattle.core_slots.specs.Stacked.{Stacked, with_operands}
use Rattle.core_interp.specs.declared.running.Running.{Running}
use Rattle.core_interp.specs.declared.machine.Stage.TheVariants.{Starts}
use Rattle.core_interp.specs.declared.machine.Machine.{Machine}
use Rattle.core_interp.specs.declared.machine.Pause.{Pause}
use Rattle.core_interp.specs.declared.machine.Pause.TheVariants as pauses
use Rattle.core_interp.specs.Session.{results_due, goes_on, IsCallable, CanRun, IsAnswer, awaited, resumed, PauseLeads, PauseTraps, granted, Follows, Says, Pauses}
use Rattle.core_interp.proofs.Pauses.{start_can, start_goes, due_more}

-- ---- the answers to the questions of a call

-- a question is asked of one store, whatever the steps
asked_once : (first : State) (f : ℕ) (args : List CoreValue) (us : List Reply) (i j k l p q : ℕ) (vs ws : List CoreValue) (s t : State) → eval first f args us i ≡ Asks k vs s p → eval first f args us j ≡ Asks l ws t q → s ≡ t
asked_once first f args us i j k l p q vs ws s t e h =
    let one : eval first f args us (j + i) ≡ Asks k vs s (j + p) = subst (λ o. Further j o (eval first f args us (j + i))) e (further first f args us i j) in
    let two : eval first f args us (i + j) ≡ Asks l ws t (i + q) = subst (λ o. Further i o (eval first f args us (i + j))) h (further first f args us j i) in
    let same : i + j ≡ j + i = omega arith in
    asks_same k l (j + p) (i + q) vs ws s t (sym one ∙ ap (eval first f args us) (sym same) ∙ two)
  where
    asks_same : (k l p q : ℕ) (vs ws : List CoreValue) (s t : State) → Asks k vs s p ≡ Asks l ws t q → s ≡ t
    asks_same k l p q vs ws s t e = cc

-- one more reply: it is the last, or one of those before
last_or_before : (P : List Reply → Reply → Type 0) (used : List Reply) (r : Reply) → P used r → ((before after : List Reply) (x : Reply) → used ≡ before ++ x ∷ after → P before x) → (before after : List Reply) (x : Reply) → used ++ r ∷ [] ≡ before ++ x ∷ after → P before x
last_or_before P [] r last old [] after x e = subst (P []) (heads r x [] after e) last
  where
    heads : (r x : Reply) (xs ys : List Reply) → r ∷ xs ≡ x ∷ ys → r ≡ x
    heads r x xs ys e = cc
last_or_before P [] r last old (b ∷ []) after x e = absurd (short b r x after e)
  where
    short : (b r x : Reply) (after : List Reply) → r ∷ [] ≡ b ∷ x ∷ after → ⊥
    short b r x after e = cc
last_or_before P [] r last old (b ∷ c ∷ bs) after x e = absurd (short b c r x bs after e)
  where
    short : (b c r x : Reply) (bs after : List Reply) → r ∷ [] ≡ b ∷ c ∷ (bs ++ x ∷ after) → ⊥
    short b c r x bs after e = cc
last_or_before P (u ∷ us) r last old [] after x e = old [] us x (ap (λ z. z ∷ us) (heads u x (us ++ r ∷ []) after e))
  where
    heads : (u x : Reply) (xs ys : List Reply) → u ∷ xs ≡ x ∷ ys → u ≡ x
    heads u x xs ys e = cc
last_or_before P (u ∷ us) r last old (b ∷ bs) after x e =
    let same = heads u b (us ++ r ∷ []) (bs ++ x ∷ after) e in
    subst (λ z. P (z ∷ bs) x) same (last_or_before (λ vs y. P (u ∷ vs) y) us r last (λ vs ws y q. old (u ∷ vs) ws y (ap (λ zs. u ∷ zs) q)) bs after x (tails u b (us ++ r ∷ []) (bs ++ x ∷ after) e))
  where
    heads : (u x : Reply) (xs ys : List Reply) → u ∷ xs ≡ x ∷ ys → u ≡ x
    heads u x xs ys e = cc

    tails : (u x : Reply) (xs ys : List Reply) → u ∷ xs ≡ x ∷ ys → xs ≡ ys
    tails u x xs ys e = cc

pub none_answered : (X : List Reply → Outcome) → Answers CameBack X []
none_answered X = record { each = λ before after r k vs s left e h. absurd (none before after r e) }
  where
    none : (before after : List Reply) (r : Reply) → [] ≡ before ++ r ∷ after → ⊥
    none [] after r e = cc
    none (b ∷ bs) after r e = cc

one_answered : (first : State) (f : ℕ) (args : List CoreValue) (used : List Reply) (r : Reply) (number : ℕ) (asked : List CoreValue) (s : State) (i left : ℕ) →
    ((n : ℕ) → Answers CameBack (λ us. eval first f args us n) used) → eval first f args used i ≡ Asks number asked s left → CameBack s r.store → (n : ℕ) → Answers CameBack (λ us. eval first f args us n) (used ++ r ∷ [])
one_answered first f args used r number asked s i left old e back n = record {
  each = λ before after x k vs t p q h.
      last_or_before (λ us y. (k : ℕ) (vs : List CoreValue) (t : State) (p : ℕ) → eval first f args us n ≡ Asks k vs t p → CameBack t y.store) used r
      (λ k vs t p h. subst (λ z. CameBack z r.store) (asked_once first f args used i n number k left p asked vs s t e h) back)
      (λ bs cs y q k vs t p h. (old n).each bs cs y k vs t p q h)
      before after x q k vs t p h;
}

-- ---- the call and the machine

same_due : (m m' : Machine) (s t : State) → m'.entry ≡ m.entry → scene_of s ≡ scene_of t → results_due m' t ≡ results_due m s
same_due m m' s t e q = ap (results_at (scene_of t)) e ∙ ap (λ (w : Scene). results_at w m.entry) (sym q)

module _ (first : State) (f : ℕ) (args : List CoreValue) (used : List Reply) (taken a b : ℕ) (m m' : Machine) (s t : State) (x : Follows first f args used taken m s) (entry : m'.entry ≡ m.entry) (scene : scene_of s ≡ scene_of t) where
  later : (rs : List Reply) (n : ℕ) → eval first f args (used ++ rs) (taken + (a - b) + n) ≡ granted (goes_on m s) (a - b) rs n
  later rs n = let q : taken + (a - b) + n ≡ taken + (a - b + n) = omega arith in ap (eval first f args (used ++ rs)) q ∙ x.so_far rs (a - b + n)

  grew : Grew first t
  grew = grew_on first s t x.grew (grew_same s t scene)

  due : results_due m' t ≡ results_at (scene_of first) f
  due = same_due m m' s t entry scene ∙ x.due

  done : (values : List CoreValue) → ((rs : List Reply) (n : ℕ) → granted (goes_on m s) (a - b) rs n ≡ Done values t n) → CameBack first t
  done values l =
      let end : eval first f args used (taken + (a - b) + 0) ≡ Done values t 0 = ap (λ us. eval first f args us (taken + (a - b) + 0)) (sym (append-nil used)) ∙ later [] 0 ∙ l [] 0 in
      subst (StoreIs first) end (stores_back first f args used (taken + (a - b) + 0) (x.answers (taken + (a - b) + 0)))

  answered : (number : ℕ) (asked : List CoreValue) → ((n : ℕ) → eval first f args used (taken + (a - b) + n) ≡ Asks number asked t n) → m'.entry < length t.functions → (r : Reply) → IsAnswer (awaited m') t r →
      ((rs : List Reply) (n : ℕ) → granted (goes_on m s) (a - b) (r ∷ rs) n ≡ goes_on (resumed m' r.results) r.store rs n) × CanRun (resumed m' r.results) r.store → Follows first f args (used ++ r ∷ []) (taken + (a - b)) (resumed m' r.results) r.store
  answered number asked e lt r ans l = record {
    can = l.1;
    so_far = λ rs n. ap (λ us. eval first f args us (taken + (a - b) + n)) (append_assoc used (r ∷ []) rs) ∙ later (r ∷ rs) n ∙ l.0 rs n;
    answers = one_answered first f args used r number asked t (taken + (a - b) + 0) 0 x.answers (e 0) ans.back;
    grew = grew_on first t r.store grew ans.back.grew;
    due = due_more m' t r.store ans.back.grew lt ∙ due;
  }

  says : (p : Pause) → PauseTraps (goes_on m s) (a - b) p → PauseLeads (granted (goes_on m s) (a - b)) b p m' t → Says first f args used (taken + (a - b)) b p m' t
  says (pauses.Done v) h l = (λ rs n. later rs n ∙ l.0 rs n, subst (λ ts. HaveTypes ts v) due l.1, done v l.0)
  says pauses.Trapped h l =
      let some = h.0 in (
        λ rs n. later rs n ∙ l rs n,
        omega arith,
        λ rs. (let q : taken + (a - b) - 1 ≡ taken + (a - b - 1) = omega arith in ap (eval first f args (used ++ rs)) q) ∙ x.so_far rs (a - b - 1) ∙ h.1 rs,
      )
  says pauses.TooDeep h l = (l.0, λ rs n. later rs n ∙ l.1 rs n)
  says (pauses.AtHost k v) h l =
      let asks : (n : ℕ) → eval first f args used (taken + (a - b) + n) ≡ Asks k v t n = λ n. ap (λ us. eval first f args us (taken + (a - b) + n)) (sym (append-nil used)) ∙ later [] n ∙ l.0 n in (
        asks,
        l.2,
        λ r ans. answered k v asks l.3 r ans (l.1 r ans),
      )
  says pauses.Spent h l = (
    l.0,
    λ rs. (let q : taken + (a - b) ≡ taken + (a - b) + 0 = omega arith in ap (eval first f args (used ++ rs)) q) ∙ later rs 0 ∙ l.1 rs,
    record { can = l.3 t (back_here t); so_far = λ rs n. later rs n ∙ l.2 rs n; answers = x.answers; grew = grew; due = due },
    l.3,
  )
    where
      back_here : (u : State) → CameBack u u
      back_here u = record { grew = grew_self u; nesting = refl }

pub pauses_so : (a b : ℕ) (m m' : Machine) (s t : State) (p : Pause) → b ≤ a → m'.entry ≡ m.entry → scene_of s ≡ scene_of t → PauseTraps (goes_on m s) (a - b) p → PauseLeads (granted (goes_on m s) (a - b)) b p m' t → Pauses m s a p m' t b
pauses_so a b m m' s t p le entry scene h l = record {
  budget = le;
  scene = scene;
  says = λ first f args used taken x. says first f args used taken a b m m' s t x entry scene p h l;
}

-- ---- the start
pub start_follows : (s : State) (f w : ℕ) (a0 a : Stacked) (args : List CoreValue) (k : Running) → IsCallable (slice_get s.functions f) (length args) → a0 ≡ record { operands = []; locals = []; callers = [] } → a ≡ with_operands a0 (reverse (words args) ++ a0.operands) → k.function ≡ f → k.at ≡ 0 → k.slots ≡ a → k.controls.items ≡ [] → Follows s f args [] 0 (record { entry = f; stage = Starts; running = k; awaits = w }) s
start_follows s f w a0 a args k h e0 e ef eat ea ec = record {
  can = start_can s f w a0 a args k h e0 e ef eat ea ec;
  so_far = λ rs n. start_goes s f w a0 a args k rs n e0 e ea;
  answers = λ n. none_answered (λ us. eval s f args us n);
  grew = grew_self s;
  due = refl;
}
