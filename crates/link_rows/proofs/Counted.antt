-- The two hosts are related.
use Rattle.std.proofs.Common.{◌≡◌, ℕ, suc, ◌*◌, ◌<◌, List, [], ◌∷◌, Option, Some, None, true, false, refl, sym, ap, subst, arith, inl, inr}
use Rattle.wit_types.specs.Plain.{Plain, BoolType, SignedType, UnsignedType, CharType, StringType, ListType, RecordType, VariantType, FlagsType, OwnType, BorrowType}
use Rattle.wit_types.specs.PlainValue.{RecordValue, HandleValue, End, More}
use Rattle.host_port.specs.Calls.{PlainObservation}
use Rattle.comp_worlds.specs.Acts.{Out, Next, Over, Spent, seen_before, ◌>>◌, takes_step}
use Rattle.comp_worlds.specs.Passing.{Handle, Passed, params_tuple, answer_tuple, answer_parts, handles_of}
use Rattle.wit_types.specs.Plain.{AsTuple}
use Rattle.comp_worlds.specs.Groups.{Endless, Import, Group, Nothing, Answer, Origin, Inside, Outside}
use Rattle.comp_worlds.specs.Calls.{finds_room}
use Rattle.comp_worlds.specs.Hosts.{answered_by, reacts, loses, stays, asks_host, hosted}
use Rattle.comp_worlds.specs.Related.{Both, one_of, two_of, passed_over, Meet, Alike, Answered, Related}
use Rattle.link_rows.specs.Counters.{made, single, double, of_hosts, SameCount, SameAnswered, Given}

module _ (n m : ℕ) (same : n ≡ m) (given : List (Handle Both)) (o : List PlainObservation) where
  abbrev Answers : Option Plain → ℕ → Answer → ℕ → Answer → Type 0
  Answers answer s a t b = Answered of_hosts SameAnswered Given n m given (RecordType AsTuple (answer_parts answer)) s a t b

  -- nothing is handed out
  none_given : Answers None (suc n) (record { passed = record { value = RecordValue End; reps = [] }; due = Nothing }) (suc m) (record { passed = record { value = RecordValue End; reps = [] }; due = Nothing })
  none_given = record {
    answer = record { value = RecordValue End; reps = [] };
    is_first = refl;
    is_second = refl;
    stands = ap suc same;
    stay = λ r x hr l not. (let less : x.one < n = l.0 in omega arith, l.1);
    come = λ r x g. absurd g;
    apart = tt;
    fresh = λ r x hr g l not. g;
  }

  -- a handle is handed out
  one_given : (r0 : ℕ) → Answers (Some (OwnType r0)) (suc n) (record { passed = record { value = RecordValue (More (HandleValue 0) End); reps = n ∷ [] }; due = Nothing }) (suc m) (record { passed = record { value = RecordValue (More (HandleValue 0) End); reps = 2 * m ∷ [] }; due = Nothing })
  one_given r0 = record {
    answer = record { value = RecordValue (More (HandleValue 0) End); reps = record { one = n; two = 2 * m } ∷ [] };
    is_first = refl;
    is_second = refl;
    stands = ap suc same;
    stay = λ r x hr l not. (let less : x.one < n = l.0 in omega arith, l.1);
    come = λ r x g. elim g [
      | inl e ↦ record {
        paired = λ hr. (subst (λ z. z.one < suc n) e.1 (omega arith), subst (λ z. z.two ≡ 2 * z.one) e.1 (ap (λ k. 2 * k) (sym same)));
        equal = λ no. absurd (let q : true ≡ false = no in cc);
      }
      | inr none ↦ absurd none
    ];
    apart = (λ hr g. g, tt);
    fresh = λ r x hr g l not. elim g [ inl e ↦ (let less : n < n = subst (λ z. z.one < n) (sym e.1) l.0 in absurd (omega arith)) | inr none ↦ absurd none ];
  }

  alike : (answer : Option Plain) (i : ℕ) → Alike (Answers answer) (answered_by o (suc n) (RecordType AsTuple (answer_parts answer)) (made n answer) i) (answered_by o (suc m) (RecordType AsTuple (answer_parts answer)) (made (2 * m) answer) i)
  alike None i = (refl, none_given)
  alike (Some (OwnType r0)) i = (refl, one_given r0)
  alike (Some BoolType) i = (refl, refl)
  alike (Some (SignedType width)) i = (refl, refl)
  alike (Some (UnsignedType width)) i = (refl, refl)
  alike (Some CharType) i = (refl, refl)
  alike (Some StringType) i = (refl, refl)
  alike (Some (ListType item)) i = (refl, refl)
  alike (Some (RecordType form fields)) i = (refl, refl)
  alike (Some (VariantType form cases)) i = (refl, refl)
  alike (Some (FlagsType labels)) i = (refl, refl)
  alike (Some (BorrowType r)) i = (refl, refl)

-- after nothing that is seen
alike_behind : (P : ℕ → Answer → ℕ → Answer → Type 0) (x y : Out ℕ Answer) → Alike P x y → Alike P (seen_before [] x) (seen_before [] y)
alike_behind P (Next o l w a) (Next o' l' v b) h = h
alike_behind P (Over o e) (Over o' e') h = h
alike_behind P (Next o l w a) (Over o' e) h = h
alike_behind P (Next o l w a) (Spent o') h = h
alike_behind P (Over o e) (Next o' l w a) h = h
alike_behind P (Over o e) (Spent o') h = h
alike_behind P (Spent o) y h = absurd h

counters_meet : (from : Origin) (n m : ℕ) (import : Import) (passed : Passed Both) → n ≡ m →
    Meet (λ s a t b. Answered of_hosts SameAnswered Given n m (handles_of (params_tuple import.ty) passed) (answer_tuple import.ty) s a t b) (asks_host single Endless from import (passed_over one_of passed) n) (asks_host double Endless from import (passed_over two_of passed) m)
unfolding reacts ◌>>◌ takes_step finds_room
counters_meet Inside n m import passed same = (0, 0, alike n m same (handles_of (params_tuple import.ty) passed) _ import.ty.answer 0)
counters_meet Outside n m import passed same =
    (1, 1, alike_behind _ (reacts single import (passed_over one_of passed) n 0) (reacts double import (passed_over two_of passed) m 0) (alike n m same (handles_of (params_tuple import.ty) passed) _ import.ty.answer 0))

pub counters_related : (G : Group) → Related G of_hosts (hosted single) (hosted double) SameCount SameAnswered Given
unfolding loses stays
counters_related G = record {
  asks = λ from n m import passed asked same typed all each once apart. counters_meet from n m import passed same;
  leaves = λ n due m due' same. (0, 0, (refl, record { stands = same; stay = λ r x hr l. l }));
  drops = λ n m r x dropped none same good. (0, 0, (refl, record { stands = same; stay = λ r' x' hr l not. l }));
}
