-- The turns of the loops over the handles of a value.
use Rattle.std.proofs.Common.{◌≡◌, ℕ, suc, ◌+◌, ◌<◌, length, get_or, arith, drop-cons, List, [], ◌∷◌, ◌++◌, map, drop, Bool, true, false, Option, Some, None, refl, sym, ap, ◌∙◌, append_assoc, append-nil}
use Rattle.std.specs.Option.{option_map, option_and_then}
use Rattle.handle_space.specs.HandleMap.{HandleMap, Answered, Held, answered, lend, take_own}
use Rattle.comp_worlds.specs.Passing.{Handle, Own, Borrow, Lifted, and_loan, and_lifted, lift_handles, named_in, reps_in, rep_in, add_handle, and_index, add_handles}
use Rattle.value_handles.specs.declared.handle.ValueHandle.{ValueHandle}
use Rattle.value_handles.specs.declared.handle.ValueHandle.TheVariants as values
use Rattle.value_handles.specs.Shown.{number_of, shown}
use Rattle.instance_state.specs.Exchanged.{passing, One, taken_one, lent_one, one_due, IsOne, IsLifted, IsLowered}

-- ---- lifting

abbrev pub before : List (Handle ℕ) → List ℕ → Lifted ℕ → Lifted ℕ
before hs ls l = record { handles = hs ++ l.handles; map = l.map; loans = ls ++ l.loans }

-- what is due of all handles, where these were lifted, and this is due of the others
pub record Lifting (due rest : Option (Lifted ℕ)) (reps reps' loans loans' : List ℕ) : Type 0 where
  pub handles : List (Handle ℕ)
  pub lent : List ℕ
  pub reps_are : reps' ≡ reps ++ reps_in handles
  pub loans_are : loans' ≡ loans ++ lent
  pub due_is : due ≡ option_map (before handles lent) rest

reps-push : (hs : List (Handle ℕ)) (h : Handle ℕ) → reps_in (hs ++ h ∷ []) ≡ reps_in hs ++ rep_in h ∷ []
reps-push [] h = refl
reps-push (x ∷ hs) h = ap (λ (rs : List ℕ). rep_in x ∷ rs) (reps-push hs h)

nothing_before : (o : Option (Lifted ℕ)) → o ≡ option_map (before [] []) o
nothing_before None = refl
nothing_before (Some l) = refl

pub lifting_starts : (due : Option (Lifted ℕ)) (reps loans : List ℕ) → Lifting due due reps reps loans loans
lifting_starts due reps loans = record { handles = []; lent = []; reps_are = sym (append-nil reps); loans_are = sym (append-nil loans); due_is = nothing_before due }

one_before : (hs : List (Handle ℕ)) (ls : List ℕ) (h : Handle ℕ) (lent : Bool) (i : ℕ) (o : Option (Lifted ℕ)) → option_map (before hs ls) (option_map (and_lifted h lent i) o) ≡ option_map (before (hs ++ h ∷ []) (ls ++ and_loan lent i [])) o
one_before hs ls h lent i None = refl
one_before hs ls h true i (Some l) = ap Some (ap (λ (xs : List (Handle ℕ)). record { handles = xs; map = l.map; loans = ls ++ i ∷ l.loans }) (sym (append_assoc hs (h ∷ []) l.handles)) ∙ ap (λ (xs : List ℕ). record { handles = (hs ++ h ∷ []) ++ l.handles; map = l.map; loans = xs }) (sym (append_assoc ls (i ∷ []) l.loans)))
one_before hs ls h false i (Some l) = ap Some (ap (λ (xs : List (Handle ℕ)). record { handles = xs; map = l.map; loans = ls ++ l.loans }) (sym (append_assoc hs (h ∷ []) l.handles)) ∙ ap (λ (xs : List ℕ). record { handles = (hs ++ h ∷ []) ++ l.handles; map = l.map; loans = xs }) (sym (ap (λ (ys : List ℕ). ys ++ l.loans) (append-nil ls))))

-- one more is lifted
pub lifts_one : (due rest later : Option (Lifted ℕ)) (reps reps' reps'' loans loans' loans'' : List ℕ) (h : Handle ℕ) (lent : Bool) (i : ℕ) → Lifting due rest reps reps' loans loans' → rest ≡ option_map (and_lifted h lent i) later →
    reps'' ≡ reps' ++ rep_in h ∷ [] → loans'' ≡ loans' ++ and_loan lent i [] → Lifting due later reps reps'' loans loans''
lifts_one due rest later reps reps' reps'' loans loans' loans'' h lent i l is r ln = record {
  handles = l.handles ++ h ∷ [];
  lent = l.lent ++ and_loan lent i [];
  reps_are = r ∙ ap (λ (xs : List ℕ). xs ++ rep_in h ∷ []) l.reps_are ∙ append_assoc reps (reps_in l.handles) (rep_in h ∷ []) ∙ ap (λ (xs : List ℕ). reps ++ xs) (sym (reps-push l.handles h));
  loans_are = ln ∙ ap (λ (xs : List ℕ). xs ++ and_loan lent i []) l.loans_are ∙ append_assoc loans l.lent (and_loan lent i []);
  due_is = l.due_is ∙ ap (option_map (before l.handles l.lent)) is ∙ one_before l.handles l.lent h lent i later;
}

-- none is left
pub lifted_all : (due : Option (Lifted ℕ)) (m : HandleMap ℕ) (reps reps' loans loans' : List ℕ) → Lifting due (lift_handles [] m) reps reps' loans loans' → IsLifted due m reps reps' loans loans'
lifted_all due m reps reps' loans loans' l = rw l.due_is (refl, l.reps_are ∙ ap (λ (hs : List (Handle ℕ)). reps ++ reps_in hs) (sym (append-nil l.handles)), l.loans_are ∙ ap (λ (xs : List ℕ). loans ++ xs) (sym (append-nil l.lent)))

pub lifting_traps : (due : Option (Lifted ℕ)) (reps reps' loans loans' : List ℕ) (rest : Option (Lifted ℕ)) → Lifting due rest reps reps' loans loans' → rest ≡ None → due ≡ None
lifting_traps due reps reps' loans loans' rest l is = l.due_is ∙ ap (option_map (before l.handles l.lent)) is

-- what is due of one handle and the others
pub one_more : (hs later : List ValueHandle) (h : ValueHandle) (m : HandleMap ℕ) → hs ≡ h ∷ later →
    lift_handles (named_in (shown hs)) m ≡ option_and_then (λ (o : One). option_map (and_lifted o.handle o.lent (number_of h)) (lift_handles (named_in (shown later)) o.map)) (one_due h m)
one_more hs later (values.Own r i) m cut = ap (λ (xs : List ValueHandle). lift_handles (named_in (shown xs)) m) cut ∙ each (take_own m i r)
  where
    each : (o : Option (Answered ℕ ℕ)) →
        option_and_then (λ (a : Answered ℕ ℕ). option_map (and_lifted (Own r a.answer) false i) (lift_handles (named_in (shown later)) a.map)) o
        ≡ option_and_then (λ (x : One). option_map (and_lifted x.handle x.lent i) (lift_handles (named_in (shown later)) x.map)) (option_map (taken_one r) o)
    each None = refl
    each (Some a) = refl
one_more hs later (values.Borrow r i) m cut = ap (λ (xs : List ValueHandle). lift_handles (named_in (shown xs)) m) cut ∙ each (lend m i r)
  where
    each : (o : Option (Answered ℕ (Held ℕ))) →
        option_and_then (λ (a : Answered ℕ (Held ℕ)). option_map (and_lifted (Borrow r a.answer.rep) a.answer.owned i) (lift_handles (named_in (shown later)) a.map)) o
        ≡ option_and_then (λ (x : One). option_map (and_lifted x.handle x.lent i) (lift_handles (named_in (shown later)) x.map)) (option_map (lent_one r) o)
    each None = refl
    each (Some a) = refl

pub next_handle : (hs : List ValueHandle) (i : ℕ) (d : ValueHandle) → i < length hs → drop i hs ≡ get_or hs i d ∷ drop (i + 1) hs
next_handle hs i d lt = drop-cons hs i d lt ∙ ap (λ (n : ℕ). get_or hs i d ∷ drop n hs) (let same : suc i ≡ i + 1 = omega arith in same)

-- one turn
pub lifts_next : (due : Option (Lifted ℕ)) (hs later : List ValueHandle) (h : ValueHandle) (m m' : HandleMap ℕ) (reps reps' reps'' loans loans' loans'' : List ℕ) → hs ≡ h ∷ later →
    Lifting due (lift_handles (named_in (shown hs)) m) reps reps' loans loans' → IsOne (one_due h m) (number_of h) m' reps' reps'' loans' loans'' → Lifting due (lift_handles (named_in (shown later)) m') reps reps'' loans loans''
lifts_next due hs later h m m' reps reps' reps'' loans loans' loans'' cut l one = at (one_due h m) refl one
  where
    at : (o : Option One) → one_due h m ≡ o → IsOne o (number_of h) m' reps' reps'' loans' loans'' → Lifting due (lift_handles (named_in (shown later)) m') reps reps'' loans loans''
    at None e is = absurd is
    at (Some o) e is =
        lifts_one due _ _ reps reps' reps'' loans loans' loans'' o.handle o.lent (number_of h) l
        (one_more hs later h m cut ∙ ap (option_and_then (λ (x : One). option_map (and_lifted x.handle x.lent (number_of h)) (lift_handles (named_in (shown later)) x.map))) e ∙ ap (λ z. option_map (and_lifted o.handle o.lent (number_of h)) (lift_handles (named_in (shown later)) z)) is.0) is.1 is.2

pub lift_stops : (due : Option (Lifted ℕ)) (hs later : List ValueHandle) (h : ValueHandle) (m : HandleMap ℕ) (reps reps' loans loans' : List ℕ) → hs ≡ h ∷ later →
    Lifting due (lift_handles (named_in (shown hs)) m) reps reps' loans loans' → one_due h m ≡ None → due ≡ None
lift_stops due hs later h m reps reps' loans loans' cut l none =
    lifting_traps due reps reps' loans loans' _ l (one_more hs later h m cut ∙ ap (option_and_then (λ (x : One). option_map (and_lifted x.handle x.lent (number_of h)) (lift_handles (named_in (shown later)) x.map))) none)

-- ---- lowering

abbrev pub behind : List ℕ → Answered ℕ (List ℕ) → Answered ℕ (List ℕ)
behind is a = answered (is ++ a.answer) a.map

pub record Lowering (due rest : Option (Answered ℕ (List ℕ))) (indexes indexes' : List ℕ) : Type 0 where
  pub added : List ℕ
  pub indexes_are : indexes' ≡ indexes ++ added
  pub due_is : due ≡ option_map (behind added) rest

nothing_behind : (o : Option (Answered ℕ (List ℕ))) → o ≡ option_map (behind []) o
nothing_behind None = refl
nothing_behind (Some a) = refl

pub lowering_starts : (due : Option (Answered ℕ (List ℕ))) (indexes : List ℕ) → Lowering due due indexes indexes
lowering_starts due indexes = record { added = []; indexes_are = sym (append-nil indexes); due_is = nothing_behind due }

one_behind : (is : List ℕ) (i : ℕ) (o : Option (Answered ℕ (List ℕ))) → option_map (behind is) (option_map (and_index i) o) ≡ option_map (behind (is ++ i ∷ [])) o
one_behind is i None = refl
one_behind is i (Some a) = ap (λ (xs : List ℕ). Some (answered xs a.map)) (sym (append_assoc is (i ∷ []) a.answer))

pub lowers_one : (due rest later : Option (Answered ℕ (List ℕ))) (indexes indexes' indexes'' : List ℕ) (i : ℕ) → Lowering due rest indexes indexes' → rest ≡ option_map (and_index i) later → indexes'' ≡ indexes' ++ i ∷ [] → Lowering due later indexes indexes''
lowers_one due rest later indexes indexes' indexes'' i l is r = record {
  added = l.added ++ i ∷ [];
  indexes_are = r ∙ ap (λ (xs : List ℕ). xs ++ i ∷ []) l.indexes_are ∙ append_assoc indexes l.added (i ∷ []);
  due_is = l.due_is ∙ ap (option_map (behind l.added)) is ∙ one_behind l.added i later;
}

pub lowered_all : (due : Option (Answered ℕ (List ℕ))) (plain : ℕ → ℕ → Option ℕ) (m : HandleMap ℕ) (indexes indexes' : List ℕ) → Lowering due (add_handles plain [] m) indexes indexes' → IsLowered due m indexes indexes'
lowered_all due plain m indexes indexes' l = rw l.due_is (refl, l.indexes_are ∙ ap (λ (xs : List ℕ). indexes ++ xs) (sym (append-nil l.added)))

pub lowering_traps : (due rest : Option (Answered ℕ (List ℕ))) (indexes indexes' : List ℕ) → Lowering due rest indexes indexes' → rest ≡ None → due ≡ None
lowering_traps due rest indexes indexes' l is = l.due_is ∙ ap (option_map (behind l.added)) is

-- what is due of one handle and the others
pub handle_due : (plain : ℕ → ℕ → Option ℕ) (hs later : List ValueHandle) (h : ValueHandle) (m : HandleMap ℕ) (o : Option (Answered ℕ ℕ)) → hs ≡ h ∷ later → add_handle plain (passing h) m ≡ o →
    add_handles plain (map passing hs) m ≡ option_and_then (λ (a : Answered ℕ ℕ). option_map (and_index a.answer) (add_handles plain (map passing later) a.map)) o
handle_due plain hs later h m o cut e =
    ap (λ (xs : List ValueHandle). add_handles plain (map passing xs) m) cut ∙ ap (option_and_then (λ (a : Answered ℕ ℕ). option_map (and_index a.answer) (add_handles plain (map passing later) a.map))) e
