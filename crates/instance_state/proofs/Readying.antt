-- Calls stay ready.
use Rattle.std.proofs.Common.{◌≡◌, ◌∙◌, ◌≤◌, List, [], ◌∷◌, ◌++◌, Bool, true, false, refl, sym, ap, subst}
use Rattle.core_store.specs.State.{State}
use Rattle.core_store.specs.Scene.{scene_of, Grew}
use Rattle.core_store.proofs.Stores.{grew_on}
use Rattle.instance_state.specs.declared.calls.CoreCall.{CoreCall}
use Rattle.instance_state.specs.declared.runs.Counts.{Counts}
use Rattle.instance_state.specs.Ready.{Awaits, IsReady, AreReady}
use Rattle.instance_state.specs.Counting.{CountsOf}

pub awaits_on : (c : CoreCall) (s t : State) → Grew s t → Awaits c s → Awaits c t
awaits_on c s t grew a = λ rs u len further nesting. a rs u len (grew_on s t u grew further) nesting

pub counts_on : (s t : State) (c : Counts) → scene_of s ≡ scene_of t → CountsOf s c → CountsOf t c
counts_on s t c e h = record {
  tables = h.tables ∙ ap (λ w. w.tables) e;
  memories = h.memories ∙ ap (λ w. w.memories) e;
  globals = h.globals ∙ ap (λ w. w.globals) e;
}

-- those that await results still do where the store only grew
pub ready_on : (cs : List CoreCall) (s t : State) → Grew s t → AreReady cs false s → AreReady cs false t
ready_on [] s t grew r = r
ready_on (c ∷ []) s t grew r = (r.0, awaits_on c s t grew r.1)
ready_on (c ∷ d ∷ cs) s t grew r = (r.0, awaits_on c s t grew r.1, ready_on (d ∷ cs) s t grew r.2)

pub idle_on : (cs : List CoreCall) (going : Bool) (s t : State) → going ≡ false → Grew s t → AreReady cs going s → AreReady cs going t
idle_on cs going s t idle grew r = subst (λ g. AreReady cs g t) (sym idle) (ready_on cs s t grew (subst (λ g. AreReady cs g s) idle r))

pub differ : false ≡ true → ⊥
differ e = cc

-- one more call, inside the others
pub ready_and : (cs : List CoreCall) (c : CoreCall) (going : Bool) (s : State) → AreReady cs false s → c.nesting ≤ 65536 → IsReady going c s → AreReady (cs ++ c ∷ []) going s
ready_and [] c going s r few is = (few, is)
ready_and (d ∷ []) c going s r few is = (r.0, r.1, (few, is))
ready_and (d ∷ e ∷ cs) c going s r few is = (r.0, r.1, ready_and (e ∷ cs) c going s r.2 few is)

-- without the innermost the others await results
pub ready_outer : (cs : List CoreCall) (c : CoreCall) (going : Bool) (s : State) → AreReady (cs ++ c ∷ []) going s → AreReady cs false s
ready_outer [] c going s r = refl
ready_outer (d ∷ []) c going s r = (r.0, r.1)
ready_outer (d ∷ e ∷ cs) c going s r = (r.0, r.1, ready_outer (e ∷ cs) c going s r.2)

pub inner_ready : (cs : List CoreCall) (c : CoreCall) (going : Bool) (s : State) → AreReady (cs ++ c ∷ []) going s → (c.nesting ≤ 65536) × IsReady going c s
inner_ready [] c going s r = r
inner_ready (d ∷ []) c going s r = r.2
inner_ready (d ∷ e ∷ cs) c going s r = inner_ready (e ∷ cs) c going s r.2

first_or : {A : Type 0} → A → List A → A
first_or d [] = d
first_or d (x ∷ xs) = x

rest_of : {A : Type 0} → List A → List A
rest_of [] = []
rest_of (x ∷ xs) = xs

-- a list has one last item, and one list before it
pub one_last : {A : Type 0} (xs ys : List A) (x y : A) → xs ++ x ∷ [] ≡ ys ++ y ∷ [] → (xs ≡ ys) × (x ≡ y)
unfolding first_or rest_of
one_last [] [] x y e = (refl, ap (first_or x) e)
one_last {A} [] (z ∷ zs) x y e = absurd (none zs (ap rest_of e))
  where
    none : (zs : List A) → [] ≡ zs ++ y ∷ [] → ⊥
    none [] e = cc
    none (z ∷ zs) e = cc
one_last {A} (z ∷ zs) [] x y e = absurd (none zs (ap rest_of e))
  where
    none : (zs : List A) → zs ++ x ∷ [] ≡ [] → ⊥
    none [] e = cc
    none (z ∷ zs) e = cc
one_last (z ∷ zs) (w ∷ ws) x y e =
    let inner : (zs ≡ ws) × (x ≡ y) = one_last zs ws x y (ap rest_of e) in
    (ap (λ v. v ∷ zs) (ap (first_or z) e) ∙ ap (λ vs. w ∷ vs) inner.0, inner.1)
