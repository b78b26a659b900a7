-- A call of the host's function is lifted, lent, asked, and its answer enters and is lowered.
use Rattle.std.proofs.Common.{◌≡◌, ◌∙◌, refl, sym, ap, subst, ℕ, ◌+◌, ◌≤◌, ◌&&◌, nat_le, nat_lt, not, List, [], map, length, Option, Some, None, Bool, true, false, append-nil, le-leb, slice_index}
use Rattle.std.specs.Option.{option_map}
use Rattle.core_store.specs.Words.{values_in}
use Rattle.core_store.specs.declared.value.CoreValue.{CoreValue}
use Rattle.wit_types.specs.Layout.{alignment, size}
use Rattle.wit_types.specs.Plain.{Plain, Name, PlainFunc}
use Rattle.wit_types.specs.PlainValue.{PlainValue}
use Rattle.abi_layout.specs.Functions.{lowered}
use Rattle.abi_layout.specs.Handles.{handles, renumbered}
use Rattle.abi_layout.specs.Storing.{Lowered}
use Rattle.handle_space.specs.HandleMap.{HandleMap, Answered}
use Rattle.adapter_transfer.specs.Transfer.{IsRealloc}
use Rattle.comp_types.specs.Substitution.{value_with}
use Rattle.host_port.specs.Calls.{PlainAnswer, Gives, Trap, Ended, Bad}
use Rattle.host_port.specs.Hosts.{HostStep, Reaction}
use Rattle.comp_worlds.specs.Acts.{Out, Trapped, Next, Over, seen_before, then_do, Act, ◌>>◌, gives}
use Rattle.comp_worlds.specs.Calls.{on, below, below_end, unborrowed, place_in, during, finds_place, lowers_closed, lowers_result, answers, leaves}
use Rattle.comp_worlds.specs.Groups.{Endless, Import, Theirs, Inside, Below, Nothing, Answer, Group, Config, World}
use Rattle.comp_worlds.specs.Hosts.{passed_by, answered_by, reacts, stays, hosted}
use Rattle.comp_worlds.specs.Locals.{Args, also, done, is_open, lifts, ends_loans, adds_handles, has_place, bytes_in, with_map}
use Rattle.comp_worlds.specs.Passing as world
use Rattle.comp_worlds.specs.Passing.{Passed, blank, handles_of, in_tuple}
use Rattle.comp_frames.specs.Running.{running}
use Rattle.comp_frames.specs.RunsLaws.{Unfolds, GoesByItsRest}
use Rattle.comp_inside.proofs.Types.{alignment_with, size_with, flat_with, answer_tuple_with, core_params_with, lowered_with, lower_result_with, renumbered_with}
use Rattle.row_runs.specs.Passing.{params_tuple, answer_tuple, named_in, lends, adds, lift_words, spills_over}
use Rattle.row_runs.specs.Stored.{Stored, flat_word, stored_in}
use Rattle.adapter_calls.specs.Entering.{entered}
use Rattle.adapter_calls.specs.Handling.{map_to, AreOwned}
use Rattle.adapter_calls.specs.Hosting.{import_of, reaction, low_answer, place_of, HasPlace, asking, ByStored, ByAdded, ByAnswer, ByLent, ByLifted, HostsAnswer}
use Rattle.adapter_calls.specs.Instance.{standing}
use Rattle.adapter_calls.specs.Lending.{AreBorrowed, IsLent, LentOrNot, LiftedOrNot}
use Rattle.adapter_calls.specs.Lifting.{AreOwn}
use Rattle.adapter_calls.specs.Storing.{Area, HasRoom, CanAskAll, cost, options_of, LoweredMeanwhile}
use Rattle.adapter_calls.proofs.Entering.{enters_so}
use Rattle.adapter_calls.proofs.Instance.{seen_none, on_k, on_none}
use Rattle.adapter_calls.proofs.Lending.{lifts_as_lent_law}
use Rattle.adapter_calls.proofs.Storing.{lowers_by_room}

module _ {S : Type 0} (h : HostStep S) (G : Group) (unfolds : (G : Group) → Unfolds G (hosted h)) (by : (G : Group) → GoesByItsRest G (hosted h)) (k : ℕ) (to : ℕ → ℕ) (once : (r s : ℕ) → to r ≡ to s → r ≡ s) (p : Area) (is_realloc : IsRealloc p.layout p.body) (interface function : Name) (ty : PlainFunc) (args : List ℕ)
    (borrowed : (v : PlainValue) → AreBorrowed (named_in (handles (params_tuple ty) v))) (own : (v : PlainValue) → AreOwn (named_in (handles (answer_tuple ty) v)))
    (w : World S) (c : Config ℕ) (s : S) (table : HandleMap ℕ) (now : Stored) (unclosed : c.closed ≡ false) (at : c.map ≡ map_to to table) (owned : AreOwned table.entries) (fresh : now.answers ≡ []) (room : HasRoom p c.store now) (place : HasPlace ty args now.memory) where
  abbrev I : Import
  I = import_of to interface function ty

  abbrev Asks : ℕ → Out (World S) (List CoreValue)
  Asks n = asking h G k to p I ty args w c s n

  abbrev T : Plain
  T = world.answer_tuple I.ty

  abbrev T' : Plain
  T' = value_with to (answer_tuple ty)

  type_so : T ≡ T'
  type_so = answer_tuple_with to ty

  low_so : (x : PlainValue) (indexes : List ℕ) → world.lower_result T (renumbered T (blank T x) indexes) ≡ low_answer ty x indexes
  low_so x indexes =
      ap (λ z. world.lower_result z (renumbered z (blank z x) indexes)) type_so
      ∙ ap (world.lower_result T') (renumbered_with to (answer_tuple ty) (blank T' x) indexes ∙ ap (λ y. renumbered (answer_tuple ty) y indexes) (renumbered_with to (answer_tuple ty) x []))
      ∙ lower_result_with to (answer_tuple ty) (renumbered (answer_tuple ty) (blank (answer_tuple ty) x) indexes)

  place_so : place_in I.ty args ≡ place_of ty args
  place_so = ap (λ ts. slice_index args (length ts)) (core_params_with to ty)

  -- ---- what is still to be done

  abbrev returning : List ℕ → Act (World S) (List CoreValue)
  returning results = leaves G (hosted h) (running G (hosted h)) Endless (Below Nothing) >> λ u. gives (values_in 0 (lowered I.ty).results results)

  abbrev put : PlainValue → List ℕ → Act (World S) (List ℕ)
  put x indexes = lowers_closed G (hosted h) (running G (hosted h)) Endless k (options_of p) (place_in I.ty args) (world.lower_result T (renumbered T (blank T x) indexes))

  abbrev placing : PlainValue → List ℕ → Act (World S) (List ℕ)
  placing x indexes = finds_place G (hosted h) (running G (hosted h)) (world.spills_over world.most_results T) k (options_of p) T (place_in I.ty args) >> λ u. put x indexes

  abbrev lowering : PlainValue → Act (World S) (List ℕ)
  lowering x = on k (adds_handles unborrowed (handles_of T (passed_by T x))) >> placing x

  abbrev after : List ℕ → Answer → Act (World S) (List CoreValue)
  after loans answer = on k (ends_loans loans) >> λ u.
      lowers_result G (hosted h) (running G (hosted h)) (during Endless answer.due) k (options_of p) T (place_in I.ty args) answer.passed >> λ results.
      leaves G (hosted h) (running G (hosted h)) Endless answer.due >> λ u.
      gives (values_in 0 (lowered I.ty).results results)

  abbrev asked : Args ℕ → Act (World S) (List CoreValue)
  asked l = answers G (hosted h) (running G (hosted h)) Endless Inside (Theirs I) l.passed >> after l.loans

  abbrev lifting : Act (World S) (Args ℕ)
  lifting = on k (lifts world.most_params (value_with to (params_tuple ty)) (options_of p) args)

  first : (n : ℕ) → Asks n ≡ then_do (lifting (standing w k c s) n) asked
  unfolding ◌>>◌
  first n =
      ap (λ o. then_do o (λ u. lifting >> asked)) (on_k w k is_open c c s tt n (ap (λ b. also (not b) (Some (done c))) unclosed))
      ∙ seen_none ((lifting >> asked) (standing w k c s) n)

  not_lifted : lifts world.most_params (value_with to (params_tuple ty)) (options_of p) args c ≡ None → (n : ℕ) → Asks n ≡ Over [] Trapped
  not_lifted none n = first n ∙ ap (λ o. then_do o asked) (on_none w k (lifts world.most_params (value_with to (params_tuple ty)) (options_of p) args) c s n none)

  -- ---- the host answers

  module _ (v : PlainValue) (ids : List ℕ) (x : IsLent to (params_tuple ty) 16 (options_of p) args c table v ids) where
    abbrev lent : Config ℕ
    lent = with_map c (map_to to x.map)

    abbrev passed : Passed ℕ
    passed = record { value = blank (params_tuple ty) v; reps = ids }

    abbrev r : Reaction S
    r = reaction h I ty s v ids

    abbrev by_host : PlainAnswer → ℕ → Out (World S) (List CoreValue)
    by_host a n = then_do (then_do (below_end (standing w k lent s) (answered_by r.seen r.next T a n)) (λ a'. gives (record { passed = a'.passed; due = Below a'.due }))) (after x.loans)

    second : (n : ℕ) → Asks n ≡ by_host r.answer n
    unfolding ◌>>◌ below reacts
    second n =
        first n
        ∙ ap (λ o. then_do o asked) (on_k w k (lifts world.most_params (value_with to (params_tuple ty)) (options_of p) args) c lent s (record { passed = passed; loans = x.loans }) n x.lifts_so)
        ∙ seen_none (asked (record { passed = passed; loans = x.loans }) (standing w k lent s) n)

    abbrev back : Config ℕ
    back = with_map lent (map_to to table)

    -- the loans end
    third : (value : Option PlainValue) → r.answer ≡ Gives value → (n : ℕ) → Asks n ≡ seen_before r.seen ((lowering (in_tuple value) >> returning) (standing w k back r.next) n)
    unfolding ◌>>◌ gives
    third value is n =
        let answer : Answer = record { passed = passed_by T (in_tuple value); due = Below Nothing } in
        second n ∙ ap (λ a. by_host a n) is
        ∙ ap (λ z. seen_before z (after x.loans answer (standing w k lent r.next) n)) (append-nil r.seen)
        ∙ ap (seen_before r.seen) (ap (λ o. then_do o (λ u. lowering (in_tuple value) >> returning)) (on_k w k (ends_loans x.loans) lent back r.next tt n (x.ends lent refl)) ∙ seen_none ((lowering (in_tuple value) >> returning) (standing w k back r.next) n))

    entering : (y : PlainValue) → adds_handles unborrowed (handles_of T (passed_by T y)) back ≡ option_map (entered to back) (adds (named_in (handles (answer_tuple ty) y)) table)
    entering y = ap (λ z. adds_handles unborrowed (handles_of z (passed_by z y)) back) type_so ∙ enters_so to ty y back table refl (own y)

    none_entered : (value : Option PlainValue) → r.answer ≡ Gives value → adds (named_in (handles (answer_tuple ty) (in_tuple value))) table ≡ None → (n : ℕ) → Asks n ≡ Over r.seen Trapped
    unfolding ◌>>◌
    none_entered value is none n =
        third value is n
        ∙ ap (λ o. seen_before r.seen (then_do (then_do o (placing (in_tuple value))) returning)) (on_none w k (adds_handles unborrowed (handles_of T (passed_by T (in_tuple value)))) back r.next n (entering (in_tuple value) ∙ ap (option_map (entered to back)) none))
        ∙ ap (λ z. Over z Trapped) (append-nil r.seen)

    -- ---- the answer is lowered

    module _ (value : Option PlainValue) (is : r.answer ≡ Gives value) (a : Answered ℕ (List ℕ)) (some : adds (named_in (handles (answer_tuple ty) (in_tuple value))) table ≡ Some a) where
      abbrev full : Config ℕ
      full = with_map back (map_to to a.map)

      abbrev low : Lowered
      low = low_answer ty (in_tuple value) a.answer

      spills_so : world.spills_over world.most_results T ≡ spills_over 1 (answer_tuple ty)
      spills_so = ap (λ z. spills_over 1 z) type_so ∙ ap (λ ts. nat_lt 1 (length ts)) (flat_with to (answer_tuple ty))

      is_there : spills_over 1 (answer_tuple ty) ≡ true → has_place (options_of p) (alignment T) (size T) (place_in I.ty args) full ≡ Some (done full)
      is_there spills =
          ap (λ z. has_place (options_of p) (alignment z) (size z) (place_in I.ty args) full) type_so
          ∙ ap (λ z. has_place (options_of p) z (size T') (place_in I.ty args) full) (alignment_with to (answer_tuple ty))
          ∙ ap (λ z. has_place (options_of p) (alignment (answer_tuple ty)) z (place_in I.ty args) full) (size_with to (answer_tuple ty))
          ∙ ap (λ z. has_place (options_of p) (alignment (answer_tuple ty)) (size (answer_tuple ty)) z full) place_so
          ∙ ap (λ z. also (z && nat_le (place_of ty args + size (answer_tuple ty)) (length (bytes_in (options_of p) full.store))) (Some (done full))) (place.aligned spills)
          ∙ ap (λ z. also z (Some (done full))) (le-leb (place_of ty args + size (answer_tuple ty)) (length (bytes_in (options_of p) full.store)) (subst (λ bytes. place_of ty args + size (answer_tuple ty) ≤ length bytes) (sym room.bytes) (place.within spills)))

      found : (b : Bool) → spills_over 1 (answer_tuple ty) ≡ b → (n : ℕ) → finds_place G (hosted h) (running G (hosted h)) b k (options_of p) T (place_in I.ty args) (standing w k full r.next) n ≡ Next [] n (standing w k full r.next) tt
      unfolding gives
      found true spills n = on_k w k (has_place (options_of p) (alignment T) (size T) (place_in I.ty args)) full full r.next tt n (is_there spills)
      found false spills n = refl

      fourth : (n : ℕ) → Asks n ≡ seen_before r.seen (then_do (lowers_closed G (hosted h) (running G (hosted h)) Endless k (options_of p) (place_of ty args) low (standing w k full r.next) n) returning)
      unfolding ◌>>◌
      fourth n =
          let act : Act (World S) (List ℕ) = put (in_tuple value) a.answer in
          third value is n
          ∙ ap (λ o. seen_before r.seen (then_do (then_do o (placing (in_tuple value))) returning)) (on_k w k (adds_handles unborrowed (handles_of T (passed_by T (in_tuple value)))) back full r.next a.answer n (entering (in_tuple value) ∙ ap (option_map (entered to back)) some))
          ∙ ap (λ o. seen_before r.seen (then_do o returning)) (seen_none (placing (in_tuple value) a.answer (standing w k full r.next) n))
          ∙ ap (λ b. seen_before r.seen (then_do (then_do (finds_place G (hosted h) (running G (hosted h)) b k (options_of p) T (place_in I.ty args) (standing w k full r.next) n) (λ u. act)) returning)) spills_so
          ∙ ap (λ o. seen_before r.seen (then_do (then_do o (λ u. act)) returning)) (found (spills_over 1 (answer_tuple ty)) refl n)
          ∙ ap (λ o. seen_before r.seen (then_do o returning)) (seen_none (act (standing w k full r.next) n))
          ∙ (λ i. seen_before r.seen (then_do (lowers_closed G (hosted h) (running G (hosted h)) Endless k (options_of p) (place_so i) (low_so (in_tuple value) a.answer i) (standing w k full r.next) n) returning))

      returned : (results : List ℕ) (d : Config ℕ) (n : ℕ) → returning results (standing w k d r.next) n ≡ Next [] n (standing w k d r.next) (values_in 0 (lowered ty).results results)
      unfolding ◌>>◌ gives below stays
      returned results d n = ap (λ f. Next [] n (standing w k d r.next) (values_in 0 f.results results)) (lowered_with to ty)

      lowered_as : (o : Option Stored) → LoweredMeanwhile h G k p (place_of ty args) low w full r.next now o → ByStored h G k to p I ty args w c s r low a.map o
      lowered_as None y = record {
        steps = cost low.steps;
        goes = λ n. fourth (cost low.steps + n) ∙ ap (λ o. seen_before r.seen (then_do o returning)) (y n) ∙ ap (λ z. Over z Trapped) (append-nil r.seen);
      }
      lowered_as (Some to') y = record {
        store = y.store;
        same = y.same;
        room = y.room;
        goes = λ n. fourth (cost low.steps + n)
            ∙ ap (λ o. seen_before r.seen (then_do o returning)) (y.goes n)
            ∙ ap (seen_before r.seen) (seen_none (returning (map (flat_word to'.answers) low.flats) (standing w k (record { store = y.store; map = map_to to a.map; entered = c.entered; closed = false }) r.next) n) ∙ returned (map (flat_word to'.answers) low.flats) (record { store = y.store; map = map_to to a.map; entered = c.entered; closed = false }) n)
            ∙ ap (λ z. Next z n (standing w k (record { store = y.store; map = map_to to a.map; entered = c.entered; closed = false }) r.next) (values_in 0 (lowered ty).results (map (flat_word to'.answers) low.flats))) (append-nil r.seen);
      }

      pub by_stored : CanAskAll low.steps → ByStored h G k to p I ty args w c s r low a.map (stored_in p.layout (place_of ty args) now low.steps)
      by_stored can = lowered_as (stored_in p.layout (place_of ty args) now low.steps) (lowers_by_room h unfolds by G k p is_realloc (place_of ty args) low can w full r.next now fresh room)

    by_added : (value : Option PlainValue) → r.answer ≡ Gives value → (o : Option (Answered ℕ (List ℕ))) → adds (named_in (handles (answer_tuple ty) (in_tuple value))) table ≡ o → ByAdded h G k to p I ty args w c s r (in_tuple value) now o
    by_added value is None none = record { steps = 0; goes = λ n. none_entered value is none (0 + n) }
    by_added value is (Some a) some = λ can. by_stored value is a some can

    pub by_answer : (a : PlainAnswer) → r.answer ≡ a → ByAnswer h G k to p I ty args w c s r table now a
    by_answer (Gives value) is = by_added value is (adds (named_in (handles (answer_tuple ty) (in_tuple value))) table) refl
    by_answer Trap is = record { steps = 0; goes = λ n. second (0 + n) ∙ ap (λ a. by_host a (0 + n)) is }
    by_answer Ended is = record { steps = 0; goes = λ n. second (0 + n) ∙ ap (λ a. by_host a (0 + n)) is }
    by_answer Bad is = record { steps = 0; goes = λ n. second (0 + n) ∙ ap (λ a. by_host a (0 + n)) is }

  by_lent : (v : PlainValue) (o : Option (List ℕ)) → LentOrNot to (params_tuple ty) 16 (options_of p) args c table v o → ByLent h G k to p I ty args w c s table now v o
  by_lent v None none = record { steps = 0; goes = λ n. not_lifted none (0 + n) }
  by_lent v (Some ids) x = by_answer v ids x (reaction h I ty s v ids).answer refl

  by_lifted : (o : Option PlainValue) → LiftedOrNot to (params_tuple ty) 16 (options_of p) args c table o → ByLifted h G k to p I ty args w c s table now o
  by_lifted None none = record { steps = 0; goes = λ n. not_lifted none (0 + n) }
  by_lifted (Some v) x = by_lent v (lends (named_in (handles (params_tuple ty) v)) table) x

  pub host_answers : ByLifted h G k to p I ty args w c s table now (lift_words 16 (params_tuple ty) now.memory args)
  host_answers =
      by_lifted (lift_words 16 (params_tuple ty) now.memory args)
      (subst (λ bytes. LiftedOrNot to (params_tuple ty) 16 (options_of p) args c table (lift_words 16 (params_tuple ty) bytes args)) room.bytes (lifts_as_lent_law to once 16 ty (options_of p) args c table at owned borrowed))

pub hosts_answer_law : {S : Type 0} → (h : HostStep S) → ((G : Group) → Unfolds G (hosted h)) → ((G : Group) → GoesByItsRest G (hosted h)) → HostsAnswer h
hosts_answer_law h unfolds by G k to once p is_realloc interface function ty args borrowed own w c s table now unclosed at owned fresh room place =
    host_answers h G unfolds by k to once p is_realloc interface function ty args borrowed own w c s table now unclosed at owned fresh room place
