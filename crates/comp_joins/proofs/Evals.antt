-- Core code leaves a store as many items as it had, where each reply's store has as many as its question's.
use Rattle.std.proofs.Common.{◌≡◌, ◌⊎◌, inl, inr, ℕ, ◌+◌, List, [], ◌∷◌, ◌++◌, length, refl, sym, ◌∙◌, ap, subst, arith}
use Rattle.std.proofs.Math.Path.{ap₂}
use Rattle.core_store.specs.State.{State}
use Rattle.core_store.specs.declared.value.CoreValue.{CoreValue}
use Rattle.core_store.specs.Config.{Reply, Outcome, Done, Trapped, Asks, Spent, TooDeep}
use Rattle.core_store.specs.Eval.{entered_store, left_store, eval}
use Rattle.core_store.specs.Scene.{Scene, scene_of}
use Rattle.core_store.specs.Laws.{Answers, Further}
use Rattle.core_store.proofs.Further.{further}
use Rattle.core_store.proofs.Keeping.{Same, Ends, eval_ends}
use Rattle.comp_joins.specs.Made.{Items, items_of}

abbrev pub AsMany : State → State → Type 0
AsMany s t = items_of s ≡ items_of t

abbrev pub items_in : Scene → Items
items_in w = record { functions = length w.functions; tables = w.tables; memories = w.memories; globals = w.globals; segments = w.segments; elements = w.elements; instances = length w.instances }

pub scenes_same : (s t : State) → scene_of s ≡ scene_of t → AsMany s t
scenes_same s t e = ap items_in e

self : (s : State) → AsMany s s
self s = refl

chain : (s t u : State) → AsMany s t → AsMany t u → AsMany s u
chain s t u a b = a ∙ b

weaker : (s t : State) → AsMany s t → AsMany s t
weaker s t a = a

same : (s t : State) → Same s t → AsMany s t
same s t x = scenes_same s t x.scene

begins : (s : State) → AsMany s (entered_store s)
begins s = refl

comes_back : (s t : State) → AsMany (entered_store s) t → AsMany s (left_store t)
comes_back s t a = a

abbrev pub Ended : State → Outcome → Type 0
Ended s (Done values t left) = AsMany s t
Ended s Trapped = Unit {0}
Ended s (Asks number args t left) = AsMany s t
Ended s Spent = Unit {0}
Ended s TooDeep = Unit {0}

from_ends : (s : State) (o : Outcome) → Ends AsMany AsMany self chain weaker chain same begins comes_back s o → Ended s o
from_ends s (Done values t left) h = h
from_ends s Trapped h = tt
from_ends s (Asks number args t left) h = h
from_ends s Spent h = tt
from_ends s TooDeep h = tt

pub evals_end : (s : State) (f : ℕ) (args : List CoreValue) (replies : List Reply) (n : ℕ) → Answers AsMany (λ used. eval s f args used n) replies → Ended s (eval s f args replies n)
evals_end s f args replies n x = from_ends s (eval s f args replies n) (eval_ends AsMany AsMany self chain weaker chain same begins comes_back s f args replies n x)

-- ---- one question more, whatever the steps

-- with more steps the question is the same
abbrev Asked : Outcome → State → State
Asked (Asks number args t left) s = t
Asked _ s = s

one_question : (s : State) (f : ℕ) (args : List CoreValue) (replies : List Reply) (n n' number number' : ℕ) (xs ys : List CoreValue) (t u : State) (left left' : ℕ) → eval s f args replies n ≡ Asks number xs t left → eval s f args replies n' ≡ Asks number' ys u left' → t ≡ u
one_question s f args replies n n' number number' xs ys t u left left' e e' =
    let more : Further n' (Asks number xs t left) (eval s f args replies (n' + n)) = subst (λ o. Further n' o (eval s f args replies (n' + n))) e (further s f args replies n n') in
    let more' : Further n (Asks number' ys u left') (eval s f args replies (n + n')) = subst (λ o. Further n o (eval s f args replies (n + n'))) e' (further s f args replies n' n) in
    let at : n' + n ≡ n + n' = omega arith in
    let alike : Asks number xs t (n' + left) ≡ Asks number' ys u (n + left') = sym more ∙ ap (eval s f args replies) at ∙ more' in
    ap (λ o. Asked o t) alike

module _ {A : Type 0} where
  never : (xs ys : List A) (x : A) → [] ≡ xs ++ x ∷ ys → ⊥
  never [] ys x e = let q : [] ≡ x ∷ ys = e in cc
  never (y ∷ xs) ys x e = let q : [] ≡ y ∷ (xs ++ x ∷ ys) = e in cc

  abbrev LastOr : List A → A → List A → A → Type 0
  LastOr xs x before r = ((xs ≡ before) × (x ≡ r)) ⊎ ((rest : List A) × (xs ≡ before ++ r ∷ rest))

  -- what stands in a list with one more is the last, or stands in the list
  last_or : (xs : List A) (x : A) (before after : List A) (r : A) → xs ++ x ∷ [] ≡ before ++ r ∷ after → LastOr xs x before r
  last_or [] x [] after r e = let q : x ≡ r = cc in inl (refl, q)
  last_or [] x (b ∷ before) after r e = absurd (let q : [] ≡ before ++ r ∷ after = cc in never before after r q)
  last_or (y ∷ xs) x [] after r e = let q : y ≡ r = cc in inr (xs, ap (λ z. z ∷ xs) q)
  last_or (y ∷ xs) x (b ∷ before) after r e = let q : y ≡ b = cc in (let rest : xs ++ x ∷ [] ≡ before ++ r ∷ after = cc in go q (last_or xs x before after r rest))
    where
      go : y ≡ b → LastOr xs x before r → LastOr (y ∷ xs) x (b ∷ before) r
      go q (inl e') = inl (ap₂ (λ z zs. z ∷ zs) q e'.0, e'.1)
      go q (inr e') = inr (e'.0, ap₂ (λ z zs. z ∷ zs) q e'.1)

-- with whatever number of steps
abbrev pub AllAnswered : State → ℕ → List CoreValue → List Reply → Type 0
AllAnswered s f args replies = (n : ℕ) → Answers AsMany (λ used. eval s f args used n) replies

pub none_answered : (s : State) (f : ℕ) (args : List CoreValue) → AllAnswered s f args []
none_answered s f args n = record { each = λ before after r number xs t left e asks. absurd (never before after r e) }

pub one_answered : (s : State) (f : ℕ) (args : List CoreValue) (replies : List Reply) (reply : Reply) (n number : ℕ) (xs : List CoreValue) (t : State) (left : ℕ) → AllAnswered s f args replies → eval s f args replies n ≡ Asks number xs t left → AsMany t reply.store
    → AllAnswered s f args (replies ++ reply ∷ [])
one_answered s f args replies reply n number xs t left h asks many n' = record { each = each }
  where
    each : (before after : List Reply) (r : Reply) (number' : ℕ) (ys : List CoreValue) (u : State) (left' : ℕ) → replies ++ reply ∷ [] ≡ before ++ r ∷ after → eval s f args before n' ≡ Asks number' ys u left' → AsMany u r.store
    each before after r number' ys u left' e asks' = go (last_or replies reply before after r e)
      where
        go : LastOr replies reply before r → AsMany u r.store
        go (inl last) =
            let same : t ≡ u = one_question s f args replies n n' number number' xs ys t u left left' asks (ap (λ z. eval s f args z n') last.0 ∙ asks') in
            subst (λ z. AsMany z r.store) same (subst (λ (z : Reply). AsMany t z.store) last.1 many)
        go (inr within) = (h n').each before within.0 r number' ys u left' within.1 asks'
