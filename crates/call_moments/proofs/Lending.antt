-- What is lent stays, whatever is done to an instance.
use Rattle.std.proofs.Common.{◌≡◌, ℕ, suc, ◌+◌, ◌-◌, ◌<◌, ◌==◌, Bool, true, false, not, cond, List, [], ◌∷◌, ◌++◌, length, get_or, All, Contains, Option, Some, None, refl, sym, ap, ◌∙◌, subst, arith}
use Rattle.std.specs.Option.{option_map, option_and_then}
use Rattle.std.proofs.lemmas.Bool.{eqb-true}
use Rattle.std.proofs.lemmas.List.Elements.{All-nil, All-append}
use Rattle.wit_types.specs.Plain.{Plain}
use Rattle.wit_types.specs.PlainValue.{PlainValue}
use Rattle.wit_types.specs.declared.value.Value.{Value}
use Rattle.abi_layout.specs.Handles.{handles}
use Rattle.abi_store.specs.Plan.{Plan}
use Rattle.handle_space.specs.HandleMap.{Entry, HandleMap, Answered, Held, answered, held, empty, entry_at, entry_of, own_entry, without, add, unlend, take, rep_of}
use Rattle.handle_space.proofs.MapLaws.{entry_of_is, take_is}
use Rattle.comp_worlds.specs.Passing.{Handle, Lifted, named_in, lift_handles, lift_words, unlend_all, add_handles}
use Rattle.comp_worlds.specs.Groups.{Options, Config}
use Rattle.comp_worlds.specs.Locals.{Local, Args, also, with_map, args_of, bytes_in, lifts, adds_handles, one_word, new_entry, removed, only_one, removes}
use Rattle.comp_worlds.proofs.Maps.{and_then_is, map_is, some_is, relent, Keeps, without_keeps, add_from, add_all_from}
use Rattle.comp_worlds.proofs.Loans.{count, Lending, lift_lending, unlend_there, unlend_sound}
use Rattle.instance_state.specs.declared.loan.Loan.{Loan}
use Rattle.instance_state.specs.Loans.{indexes_of, IsLentAs, AreLent}
use Rattle.instance_state.specs.Passed.{IsLiftedAs, IsLoweredAs}
use Rattle.call_moments.specs.Lending.{loans_at, IsLentFor, IsLending}
use Rattle.call_moments.specs.LoanLaws.{LeavesLent, HandlesStayWhileLent}
use Rattle.call_moments.proofs.LawsStoring.{also_is}
use Rattle.call_moments.proofs.Counting.{at_first, at_both, counted, at_least, some_and, and_some, of_at, LentEntry, entry_for, lent_for, held_few, free_by, sound_of}

-- the entry of a loan that lasts
lasting : (m : HandleMap ℕ) (held : List Loan) → IsLending m held → (k : ℕ) (d : Loan) → k < length held → LentEntry m held (get_or held k d)
lasting m held h k d lt = entry_for m held (get_or held k d) (h.lent k d lt)

-- a change that keeps each entry that is lent
kept : (m m' : HandleMap ℕ) (held : List Loan) → Keeps m m' → IsLending m held → IsLending m' held
kept m m' held keeps h = record {
  free = free_by m'.entries m'.freed (keeps.sound (sound_of m held h));
  lent = λ k d lt.
      let q = lasting m held h k d lt in
      let some = at_least held k d lt in
      let few = q.few in
      lent_for m' held (get_or held k d) q.entry (keeps.lent (sound_of m held h) (get_or held k d).index q.entry q.there (λ z. absurd (omega arith))) q.resource q.few;
}

same_map : (c : Config ℕ) (m : HandleMap ℕ) (held : List Loan) → m ≡ c.map → IsLending c.map held → IsLending m held
same_map c m held e h = subst (λ z. IsLending z held) (sym e) h

left : {A : Type 0} (c : Config ℕ) (k l : Local ℕ A) (held : List Loan) → k ≡ l → k.config.map ≡ c.map → IsLending c.map held → IsLending l.config.map held
left c k l held e same h = same_map c l.config.map held (ap (λ (z : Local _ _). z.config.map) (sym e) ∙ same) h

changed : {A : Type 0} (m : HandleMap ℕ) (k l : Local ℕ A) (held : List Loan) → k ≡ l → IsLending k.config.map held → IsLending l.config.map held
changed m k l held e h = subst (λ (z : Local _ _). IsLending z.config.map held) e h

-- ---- what is lent is not taken

taken_keeps : (m : HandleMap ℕ) (i r : ℕ) (a : Answered ℕ (Held ℕ)) → take m i r ≡ Some a → Keeps m a.map
taken_keeps m i r a h =
    let t = take_is m i r a h in
    subst (λ z. Keeps m z) (sym (ap (λ (z : Answered ℕ (Held ℕ)). z.map) t.3)) (without_keeps m i t.0 (entry_of_is m i r t.0 t.1).0 t.2)

take_lent : (m : HandleMap ℕ) (i r : ℕ) (e : Entry ℕ) → entry_at m i ≡ Some e → 0 < e.lent → take m i r ≡ None
take_lent m i r e there some =
    ap (λ (o : Option (Entry ℕ)). option_and_then (λ (x : Entry ℕ). cond (x.lent == 0) (Some (answered (held x) (without m i))) None) (option_and_then (λ (x : Entry ℕ). cond (x.resource == r) (Some x) None) o)) there
    ∙ of (e.resource == r)
  where
    idle : (b : Bool) → (e.lent == 0) ≡ b → cond b (Some (answered (held e) (without m i))) None ≡ None
    idle true z = let none : e.lent ≡ 0 = eqb-true e.lent 0 z in absurd (omega arith)
    idle false z = refl

    of : (b : Bool) → option_and_then (λ (x : Entry ℕ). cond (x.lent == 0) (Some (answered (held x) (without m i))) None) (cond b (Some e) None) ≡ None
    of true = idle (e.lent == 0) refl
    of false = refl

also_none : {A : Type 0} (b : Bool) (o : Option A) → o ≡ None → also b o ≡ None
also_none true o h = h
also_none false o h = refl

refuses : (c : Config ℕ) (lent : List Loan) (l : Loan) (r : ℕ) → IsLending c.map lent → Contains lent l → removes r (l.index ∷ []) c ≡ None
refuses c lent l r h at =
    let q = entry_for c.map lent l (subst (IsLentFor c.map lent) at.2 (h.lent at.0 l at.1)) in
    let some : 0 < loans_at l.index lent = subst (λ (x : Loan). 0 < loans_at x.index lent) at.2 (at_least lent at.0 l at.1) in
    let few = q.few in
    also_none (not c.closed) _ (ap (option_map (removed c)) (take_lent c.map l.index r q.entry q.there (omega arith)))

-- ---- values are lifted

lifts_map : (m : HandleMap ℕ) (l : Lifted ℕ) → Lending m l → (loans lent : List Loan) → indexes_of loans ≡ l.loans → All (IsLentAs l.map) loans → IsLending m lent → IsLending l.map (loans ++ lent)
lifts_map m l lending loans lent same new h = record {
  free = free_by l.map.entries l.map.freed (lending.sound (sound_of m lent h));
  lent = All-append (IsLentFor l.map (loans ++ lent)) loans lent
      (λ k d lt. joined (get_or loans k d) (new k d lt))
      (λ k d lt. lasts (get_or lent k d) (at_least lent k d lt) (lasting m lent h k d lt));
}
  where
    number : (i : ℕ) → loans_at i (loans ++ lent) ≡ count i l.loans + loans_at i lent
    number i = at_both i loans lent ∙ ap (λ n. n + loans_at i lent) (counted i loans ∙ ap (count i) same)

    joined : (x : Loan) → IsLentAs l.map x → IsLentFor l.map (loans ++ lent) x
    joined x is =
        let e = some_and (entry_of l.map x.index x.resource) (λ z. 0 < z.lent) is in
        let there = entry_of_is l.map x.index x.resource e.0 e.1 in
        let b = lending.before x.index e.0 there.0 in
        let few = held_few m lent h x.index b.entry b.there in
        let all = number x.index in
        let many : e.0.lent ≡ b.entry.lent + count x.index l.loans = ap (λ z. z.lent) b.is in
        lent_for l.map (loans ++ lent) x e.0 there.0 there.1 (omega arith)

    lasts : (x : Loan) → 0 < loans_at x.index lent → LentEntry m lent x → IsLentFor l.map (loans ++ lent) x
    lasts x some q =
        let few = q.few in
        let all = number x.index in
        lent_for l.map (loans ++ lent) x (relent q.entry (q.entry.lent + count x.index l.loans)) (lending.there (sound_of m lent h) x.index q.entry q.there (λ z. absurd (omega arith))) q.resource (omega arith)

lifting : (most : ℕ) (ty : Plain) (options : Options) (words : List ℕ) (c new : Config ℕ) (v : Value) (loans lent : List Loan) → IsLiftedAs ty (lifts most ty options words c) new [] (indexes_of loans) v → All (IsLentAs new.map) loans → IsLending c.map lent → IsLending new.map (loans ++ lent)
lifting most ty options words c new v loans lent is all h = at (lifts most ty options words c) refl is
  where
    at : (due : Option (Local ℕ (Args ℕ))) → lifts most ty options words c ≡ due → IsLiftedAs ty due new [] (indexes_of loans) v → IsLending new.map (loans ++ lent)
    at None e is' = absurd is'
    at (Some l) e is' =
        let p = and_then_is (λ (x : PlainValue). option_map (args_of ty x c) (lift_handles (named_in (handles ty x)) c.map)) (lift_words most ty (bytes_in options c.store) words) l e in
        let q = map_is (args_of ty p.0 c) (lift_handles (named_in (handles ty p.0)) c.map) l p.2 in
        let map_is_new : q.0.map ≡ new.map = ap (λ (z : Local ℕ (Args ℕ)). z.config.map) q.2 ∙ ap (λ (z : Config ℕ). z.map) is'.0 in
        let same : indexes_of loans ≡ q.0.loans = is'.2 ∙ ap (λ (z : Local ℕ (Args ℕ)). z.answer.loans) (sym q.2) in
        subst (λ z. IsLending z (loans ++ lent)) map_is_new
        (lifts_map c.map q.0 (lift_lending (named_in (handles ty p.0)) c.map q.0 q.1) loans lent same (subst (λ z. All (IsLentAs z) loans) (sym map_is_new) all) h)

-- ---- loans end

one_ends : (m : HandleMap ℕ) (l : Loan) (lent : List Loan) → IsLending m (l ∷ lent) → IsLentAs m l × IsLending (unlend m l.index) lent
one_ends m l lent h = (
  (let q = lasting m (l ∷ lent) h 0 l (omega arith) in
      let few = q.few in
      let some = at_least (l ∷ lent) 0 l (omega arith) in
      and_some (entry_of m l.index l.resource) (λ e. 0 < e.lent) q.entry (of_at m l.index l.resource q.entry q.there q.resource) (omega arith)),
  record {
    free = free_by (unlend m l.index).entries m.freed (unlend_sound (l.index ∷ []) m (sound_of m (l ∷ lent) h));
    lent = λ k d lt.
        let x : Loan = get_or lent k d in
        let q : LentEntry m (l ∷ lent) x = lasting m (l ∷ lent) h (suc k) d (omega arith) in
        let few = q.few in
        let first = at_first x.index l lent in
        lent_for (unlend m l.index) lent x (relent q.entry (q.entry.lent - count x.index (l.index ∷ []))) (unlend_there (l.index ∷ []) m x.index q.entry q.there) q.resource (omega arith);
  },
)

ends : (m : HandleMap ℕ) (loans lent : List Loan) → IsLending m (loans ++ lent) → AreLent loans m × IsLending (unlend_all (indexes_of loans) m) lent
ends m [] lent h = (tt, h)
ends m (l ∷ loans) lent h =
    let one = one_ends m l (loans ++ lent) h in
    let rest = ends (unlend m l.index) loans lent one.1 in
    ((one.0, rest.0), rest.1)

-- ---- all of it

adds : (plain : ℕ → ℕ → Option ℕ) (hs : List (Handle ℕ)) → LeavesLent (adds_handles plain hs)
adds plain hs c l lent e h =
    let q = map_is (λ (a : Answered ℕ (List ℕ)). record { config = with_map c a.map; answer = a.answer }) (add_handles plain hs c.map) l e in
    changed c.map (record { config = with_map c q.0.map; answer = q.0.answer }) l lent q.2 (kept c.map q.0.map lent (add_all_from plain hs c.map q.0 q.1).keeps h)

lowering : (ty : Plain) (v : PlainValue) (due_plan : PlainValue → Plan) (plain : ℕ → ℕ → Option ℕ) (hs : List (Handle ℕ)) (c new : Config ℕ) (plan : Plan) (lent : List Loan) →
    IsLoweredAs ty v due_plan (adds_handles plain hs c) new plan → IsLending c.map lent → IsLending new.map lent
lowering ty v due_plan plain hs c new plan lent is h = at (adds_handles plain hs c) refl is
  where
    at : (due : Option (Local ℕ (List ℕ))) → adds_handles plain hs c ≡ due → IsLoweredAs ty v due_plan due new plan → IsLending new.map lent
    at None e is' = absurd is'
    at (Some l) e is' = subst (λ (z : Config ℕ). IsLending z.map lent) is'.0 (adds plain hs c l lent e h)

pub handles_stay : HandlesStayWhileLent
handles_stay = record {
  none = record { free = tt; lent = All-nil (IsLentFor empty []) };
  enters = λ c l lent e h. left c _ l lent (some_is _ l (also_is (not c.entered) _ l e)) refl h;
  exits = λ c l lent e h. left c _ l lent (some_is _ l e) refl h;
  closes = λ c l lent e h. left c _ l lent (some_is _ l e) refl h;
  reopens = λ c l lent e h. left c _ l lent (some_is _ l e) refl h;
  makes = λ owns r args c l lent e h.
      let p = and_then_is (λ n. option_map (new_entry c) (add c.map (own_entry r n))) (only_one args) l (also_is (not c.closed) _ l (also_is owns _ l e)) in
      let q = map_is (new_entry c) (add c.map (own_entry r p.0)) l p.2 in
      changed c.map (new_entry c q.0) l lent q.2 (kept c.map q.0.map lent (add_from c.map (own_entry r p.0) q.0 q.1).keeps h);
  reads = λ owns r args c l lent e h.
      let p = and_then_is (λ i. option_map (λ x. one_word c x) (rep_of c.map i r)) (only_one args) l (also_is owns _ l e) in
      let q = map_is (λ x. one_word c x) (rep_of c.map p.0 r) l p.2 in
      left c (one_word c q.0) l lent q.2 refl h;
  drops = λ r args c l lent e h.
      let p = and_then_is (λ i. option_map (removed c) (take c.map i r)) (only_one args) l (also_is (not c.closed) _ l e) in
      let q = map_is (removed c) (take c.map p.0 r) l p.2 in
      changed c.map (removed c q.0) l lent q.2 (kept c.map q.0.map lent (taken_keeps c.map p.0 r q.0 q.1) h);
  refuses = refuses;
  adds = adds;
  lowers = lowering;
  lifts = lifting;
  ends = ends;
}
