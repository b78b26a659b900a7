-- What is lent is what a row's run lends, and loans that end leave the handles as before.
use Rattle.std.proofs.Common.{◌≡◌, ◌∙◌, refl, sym, ap, subst, ℕ, zero, suc, ◌+◌, ◌-◌, ◌==◌, nat_lt, cond, List, [], ◌∷◌, map, Option, Some, None, Bool, true, false, arith, slice_index_or, slice_set}
use Rattle.std.specs.Option.{option_map, option_and_then}
use Rattle.wit_types.specs.Plain.{Plain, PlainFunc}
use Rattle.wit_types.specs.PlainValue.{PlainValue}
use Rattle.abi_layout.specs.Handles.{handles}
use Rattle.handle_space.specs.HandleMap.{Entry, HandleMap, Answered, Held, answered, held, entry_at, with_entry, most_loans, lent_more, lent_less, lend, unlend}
use Rattle.comp_types.specs.Substitution.{value_with}
use Rattle.comp_worlds.specs.Groups.{Options, Config}
use Rattle.comp_worlds.specs.Locals.{Local, Args, bytes_in, args_of, done, lifts, with_map}
use Rattle.comp_worlds.specs.Passing as world
use Rattle.comp_worlds.specs.Passing.{Borrow, reps_in, blank, Lifted, and_loan, and_lifted, lift_handles, unlend_all}
use Rattle.comp_inside.proofs.Locals.{local_to, lifts_to}
use Rattle.comp_inside.proofs.Tables.{unlend_all_to}
use Rattle.row_runs.specs.Passing.{Named, OwnAt, BorrowAt, params_tuple, named_in, lends, lift_words}
use Rattle.adapter_calls.specs.Handling.{map_to, AreOwned}
use Rattle.adapter_calls.specs.Lending.{AreBorrowed, LentOrNot, LiftedOrNot, LiftsAsLent}
use Rattle.adapter_calls.proofs.Handling.{owned_at, owned_set}
use Rattle.adapter_calls.proofs.Lifting.{as_world, named_same}

-- ---- one loan, and its end

abbrev Entries : Type 0
Entries = List (Option (Entry ℕ))

-- the entry at an index is lent less
abbrev lent_once_less : Entries → ℕ → Entries
lent_once_less es i = slice_set es i (option_map lent_less (slice_index_or es i None))

as_before : (es : Entries) (i : ℕ) (e x : Entry ℕ) → slice_index_or es i None ≡ Some e → lent_less x ≡ e → lent_once_less (slice_set es i (Some x)) i ≡ es
as_before [] i e x is back = absurd cc
as_before (o ∷ es) zero e x is back = ap (λ y. Some y ∷ es) back ∙ ap (λ y. y ∷ es) (sym is)
as_before (o ∷ es) (suc i) e x is back = ap (λ ys. o ∷ ys) (as_before es i e x is back)

in_any_order : (es : Entries) (i j : ℕ) → lent_once_less (lent_once_less es i) j ≡ lent_once_less (lent_once_less es j) i
in_any_order [] i j = refl
in_any_order (o ∷ es) zero zero = refl
in_any_order (o ∷ es) zero (suc j) = refl
in_any_order (o ∷ es) (suc i) zero = refl
in_any_order (o ∷ es) (suc i) (suc j) = ap (λ ys. o ∷ ys) (in_any_order es i j)

unlend_first : (is : List ℕ) (m : HandleMap ℕ) (i : ℕ) → unlend_all is (unlend m i) ≡ unlend (unlend_all is m) i
unlend_first [] m i = refl
unlend_first (j ∷ is) m i = ap (λ (es : Entries). unlend_all is (record { entries = es; freed = m.freed })) (in_any_order m.entries i j) ∙ unlend_first is (unlend m j) i

-- a loan of an own handle, and the handles after it
pub record IsLoan (m : HandleMap ℕ) (i : ℕ) (a : Answered ℕ (Held ℕ)) : Type 0 where
  pub owned : a.answer.owned ≡ true
  pub back : unlend a.map i ≡ m
  pub all : AreOwned a.map.entries

abbrev more_of : Entry ℕ → Entry ℕ
more_of e = record { resource = e.resource; rep = e.rep; owned = e.owned; lent = e.lent + 1 }

less_again : (e : Entry ℕ) → lent_less (more_of e) ≡ e
less_again e = let same : (e.lent + 1) - 1 ≡ e.lent = omega arith in λ i. record { resource = e.resource; rep = e.rep; owned = e.owned; lent = same i }

loan_of : (m : HandleMap ℕ) (i : ℕ) (e : Entry ℕ) (a : Answered ℕ (Held ℕ)) → AreOwned m.entries → entry_at m i ≡ Some e → e.owned ≡ true → answered (held e) (with_entry m i (more_of e)) ≡ a → IsLoan m i a
loan_of m i e a all at owned one =
    subst (IsLoan m i) one
    (record { owned = owned; back = ap (λ (es : Entries). record { entries = es; freed = m.freed }) (as_before m.entries i e (more_of e) at (less_again e)); all = owned_set m.entries i (Some (more_of e)) owned all })

lent_by : (m : HandleMap ℕ) (i : ℕ) (e : Entry ℕ) (a : Answered ℕ (Held ℕ)) (b few : Bool) → AreOwned m.entries → entry_at m i ≡ Some e → e.owned ≡ true → e.owned ≡ b →
    option_map (λ more. answered (held e) (with_entry m i more)) (cond b (cond few (Some (more_of e)) None) (Some e)) ≡ Some a → IsLoan m i a
lent_by m i e a true true all at owned is given = loan_of m i e a all at owned cc
lent_by m i e a true false all at owned is given = absurd cc
lent_by m i e a false few all at owned is given = absurd cc

found : (m : HandleMap ℕ) (i r : ℕ) (a : Answered ℕ (Held ℕ)) (o : Option (Entry ℕ)) → AreOwned m.entries → entry_at m i ≡ o →
    option_and_then (λ (e : Entry ℕ). option_map (λ more. answered (held e) (with_entry m i more)) (lent_more e)) (option_and_then (λ (e : Entry ℕ). cond (e.resource == r) (Some e) None) o) ≡ Some a → IsLoan m i a
found m i r a None all at given = absurd cc
found m i r a (Some e) all at given = of_kind (e.resource == r) given
  where
    of_kind : (b : Bool) → option_and_then (λ (e : Entry ℕ). option_map (λ more. answered (held e) (with_entry m i more)) (lent_more e)) (cond b (Some e) None) ≡ Some a → IsLoan m i a
    of_kind true given = lent_by m i e a e.owned (nat_lt e.lent most_loans) all at (owned_at m.entries i e all at) refl given
    of_kind false given = absurd cc

is_loan : (m : HandleMap ℕ) (i r : ℕ) (a : Answered ℕ (Held ℕ)) → AreOwned m.entries → lend m i r ≡ Some a → IsLoan m i a
is_loan m i r a all given = found m i r a (entry_at m i) all refl given

-- ---- all loans of a value

abbrev LentSo : HandleMap ℕ → Option (Lifted ℕ) → Option (List ℕ) → Type 0
LentSo m o None = o ≡ None
LentSo m o (Some ids) = (l : Lifted ℕ) × (o ≡ Some l) × (reps_in l.handles ≡ ids) × (unlend_all l.loans l.map ≡ m)

one_more : (m : HandleMap ℕ) (r i : ℕ) (a : Answered ℕ (Held ℕ)) → IsLoan m i a → (o : Option (Lifted ℕ)) (x : Option (List ℕ)) → LentSo a.map o x →
    LentSo m (option_map (and_lifted (Borrow r a.answer.rep) a.answer.owned i) o) (option_map (λ (xs : List ℕ). a.answer.rep ∷ xs) x)
one_more m r i a loan o None none = ap (option_map (and_lifted (Borrow r a.answer.rep) a.answer.owned i)) none
one_more m r i a loan o (Some ids) (l, is, reps, back) =
    let all_back : unlend_all (and_loan a.answer.owned i l.loans) l.map ≡ m = ap (λ b. unlend_all (and_loan b i l.loans) l.map) loan.owned ∙ unlend_first l.loans l.map i ∙ ap (λ z. unlend z i) back ∙ loan.back in
    (and_lifted (Borrow r a.answer.rep) a.answer.owned i l, ap (option_map (and_lifted (Borrow r a.answer.rep) a.answer.owned i)) is, ap (λ xs. a.answer.rep ∷ xs) reps, all_back)

abbrev Rest : List Named → Type 0
Rest ns = (a : Answered ℕ (Held ℕ)) → AreOwned a.map.entries → LentSo a.map (lift_handles (map as_world ns) a.map) (lends ns a.map)

first_lent : (m : HandleMap ℕ) (r i : ℕ) (ns : List Named) → Rest ns → (o : Option (Answered ℕ (Held ℕ))) → ((a : Answered ℕ (Held ℕ)) → o ≡ Some a → IsLoan m i a) →
    LentSo m (option_and_then (λ (a : Answered ℕ (Held ℕ)). option_map (and_lifted (Borrow r a.answer.rep) a.answer.owned i) (lift_handles (map as_world ns) a.map)) o)
    (option_and_then (λ (a : Answered ℕ (Held ℕ)). option_map (λ (xs : List ℕ). a.answer.rep ∷ xs) (lends ns a.map)) o)
first_lent m r i ns rest None loan = refl
first_lent m r i ns rest (Some a) loan = one_more m r i a (loan a refl) (lift_handles (map as_world ns) a.map) (lends ns a.map) (rest a (loan a refl).all)

lent_all : (ns : List Named) → AreBorrowed ns → (m : HandleMap ℕ) → AreOwned m.entries → LentSo m (lift_handles (map as_world ns) m) (lends ns m)
lent_all [] lent m all = (record { handles = []; map = m; loans = [] }, refl, refl, refl)
lent_all (OwnAt r i ∷ ns) lent m all = absurd lent
lent_all (BorrowAt r i ∷ ns) lent m all = first_lent m r i ns (λ a owned. lent_all ns lent a.map owned) (lend m i r) (λ a is. is_loan m i r a all is)

-- ---- the whole

module _ (to : ℕ → ℕ) (once : (r s : ℕ) → to r ≡ to s → r ≡ s) (most : ℕ) (ty : PlainFunc) (options : Options) (words : List ℕ) (c : Config ℕ) (table : HandleMap ℕ) (is : c.map ≡ map_to to table) (all : AreOwned table.entries) where
  abbrev T : Plain
  T = params_tuple ty

  abbrev plain : Config ℕ
  plain = record { store = c.store; map = table; entered = c.entered; closed = c.closed }

  abbrev lifted_in : Option PlainValue → Option (Local ℕ (Args ℕ))
  lifted_in o = option_map (local_to to) (option_and_then (λ v. option_map (args_of T v plain) (lift_handles (world.named_in (handles T v)) table)) o)

  as_plain : lifts most (value_with to T) options words c ≡ lifted_in (lift_words most T (bytes_in options c.store) words)
  as_plain = ap (λ m. lifts most (value_with to T) options words (record { store = c.store; map = m; entered = c.entered; closed = c.closed })) is ∙ lifts_to to once most T options words plain

  one_value : (v : PlainValue) → lifts most (value_with to T) options words c ≡ lifted_in (Some v) → (o : Option (List ℕ)) → LentSo table (lift_handles (map as_world (named_in (handles T v))) table) o → LentOrNot to T most options words c table v o
  one_value v lifted None none = lifted ∙ ap (λ x. option_map (local_to to) (option_map (args_of T v plain) x)) (ap (λ ns. lift_handles ns table) (named_same (handles T v)) ∙ none)
  one_value v lifted (Some ids) (l, so, reps, back) = record {
    map = l.map;
    loans = l.loans;
    lifts_so = lifted
        ∙ ap (λ x. option_map (local_to to) (option_map (args_of T v plain) x)) (ap (λ ns. lift_handles ns table) (named_same (handles T v)) ∙ so)
        ∙ ap (λ xs. Some (record { config = with_map c (map_to to l.map); answer = record { passed = record { value = blank T v; reps = xs }; loans = l.loans } })) reps;
    ends = λ d at. ap (λ m. Some (done (with_map d m))) (ap (unlend_all l.loans) at ∙ unlend_all_to to l.loans l.map ∙ ap (map_to to) back);
  }

  by_value : (o : Option PlainValue) → lifts most (value_with to T) options words c ≡ lifted_in o → ((v : PlainValue) → AreBorrowed (named_in (handles T v))) → LiftedOrNot to T most options words c table o
  by_value None lifted lent = lifted
  by_value (Some v) lifted lent = one_value v lifted (lends (named_in (handles T v)) table) (lent_all (named_in (handles T v)) (lent v) table all)

pub lifts_as_lent_law : LiftsAsLent
lifts_as_lent_law to once most ty options words c table is all lent =
    by_value to once most ty options words c table is all (lift_words most (params_tuple ty) (bytes_in options c.store) words) (as_plain to once most ty options words c table is all) lent
