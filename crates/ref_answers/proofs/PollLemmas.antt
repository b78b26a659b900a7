-- The places of pollables that are ready, one by one.
use Rattle.std.proofs.Common.{◌≡◌, ◌+◌, ◌<◌, ◌≤◌, ◌==◌, ℕ, suc, Bool, true, false, List, [], ◌∷◌, ◌++◌, length, drop, map, get_or, refl, sym, ap, ◌∙◌, arith}
use Rattle.std.proofs.lemmas.List.{append_assoc, append-nil, at_drop_more}
use Rattle.std.proofs.Math.ListN.{drop_of_length-le}
use Rattle.wit_types.specs.PlainValue.{PlainValue, ListValue, More}
use Rattle.reference_step.specs.Handles.{Content, is_host}
use Rattle.reference_step.specs.Pollables as pollables
use Rattle.reference_step.specs.Values.{number, number_values, numbers, values, list, id_in}
use Rattle.reference_step.specs.State.{Row, Traps, returns}
use Rattle.ref_answers.specs.Polled.{always_among, ready_place, polled}

ready_then : (host : Bool) (place : ℕ) (rest : List Bool) → ready_place host place ++ map number (always_among (place + 1) rest) ≡ map number (always_among place (host ∷ rest))
ready_then true place rest = refl
ready_then false place rest = refl

pub one_more : (done : List PlainValue) (hosts : List Bool) (place : ℕ) (d : Bool) (all : List PlainValue) → place < length hosts → done ++ map number (always_among place (drop place hosts)) ≡ all → (done ++ ready_place (get_or hosts place d) place) ++ map number (always_among (place + 1) (drop (place + 1) hosts)) ≡ all
one_more done hosts place d all within before =
    append_assoc done (ready_place (get_or hosts place d) place) (map number (always_among (place + 1) (drop (place + 1) hosts)))
    ∙ ap (λ rest. done ++ rest) (ready_then (get_or hosts place d) place (drop (place + 1) hosts) ∙ ap (map number) (sym (at_drop_more (always_among place) hosts place d within)))
    ∙ before

pub numbers_listed : (ns : List ℕ) → values (map number ns) ≡ number_values ns
numbers_listed [] = refl
numbers_listed (n ∷ ns) = ap (More (number n)) (numbers_listed ns)

among_is : (content : ℕ → Content) (place : ℕ) (vs : List PlainValue) → always_among place (map (λ v. is_host (content (id_in v))) vs) ≡ pollables.always_among content place vs
among_is content place [] = refl
among_is content place (v ∷ vs) = rw (among_is content (place + 1) vs) refl

-- the row of poll, where it is told of each pollable whether it is the host's
pub polled_is : (content : ℕ → Content) (vs : List PlainValue) → polled (map (λ v. is_host (content (id_in v))) vs) ≡ pollables.poll_of content vs
polled_is content [] = refl
polled_is content (v ∷ vs) = ap (λ ns. returns (numbers ns)) (among_is content 0 (v ∷ vs))

not_zero : (m : ℕ) → (suc m == 0) ≡ false
not_zero m = grind arith

pub polled_none : (hosts : List Bool) → (length hosts == 0) ≡ true → Traps ≡ polled hosts
polled_none [] e = refl
polled_none (h ∷ hosts) e =
    let clash : true ≡ false = sym e ∙ not_zero (length hosts) in
    cc

-- after the last pollable no place is to come
pub none_more : (done : List PlainValue) (hosts : List Bool) (place : ℕ) (all : List PlainValue) → length hosts ≤ place → done ++ map number (always_among place (drop place hosts)) ≡ all → done ≡ all
none_more done hosts place all past before =
    sym (append-nil done)
    ∙ ap (λ rest. done ++ map number (always_among place rest)) (sym (drop_of_length-le hosts past))
    ∙ before

pub poll_done : (row : Row) (places : List PlainValue) (hosts : List Bool) → row ≡ returns (list places) → places ≡ map number (always_among 0 hosts) → (length hosts == 0) ≡ false → row ≡ polled hosts
poll_done row places [] e p n =
    let clash : true ≡ false = n in
    cc
poll_done row places (h ∷ hosts) e p n = e ∙ ap (λ ps. returns (list ps)) p ∙ ap (λ vs. returns (ListValue vs)) (numbers_listed (always_among 0 (h ∷ hosts)))
