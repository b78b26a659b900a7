-- The component that takes handles computes, and meets the premises of the law.
use Rattle.std.proofs.Common.{◌≡◌, inl, inr, ℕ, ◌≤◌, ◌&&◌, nat_eq, cond, [], ◌∷◌, Option, Some, None, Bool, true, false, refl, ap, subst, arith}
use Rattle.std.specs.Prelude.{codes}
use Rattle.wit_types.specs.Plain.{Name}
use Rattle.comp_types.specs.Items.{same_name}
use Rattle.comp_worlds.specs.Acts.{◌>>◌, gives, traps, spent, takes_step, with_more, shows}
use Rattle.comp_worlds.specs.Calls.{on, below, core, store_of, finds_room, deep_enough}
use Rattle.comp_worlds.specs.Groups.{Import, Lifting, Target, Mine, Theirs, Func, LoweredFunc, Group}
use Rattle.comp_worlds.specs.Hosts.{reacts, loses, stays}
use Rattle.comp_worlds.specs.Observed.{runs_calls}
use Rattle.comp_worlds.specs.Parts.{IsImportOf}
use Rattle.comp_link.specs.Linking.{GivenFunc, Nothing, Giving, target_in, instance_in, find, exported, group_of}
use Rattle.comp_joins.specs.Alike.{IsNothing}
use Rattle.comp_joins.specs.Joining.{joining, asked, over_host, IsKnown, known_by, Meets, Fits, Agree, itself}
use Rattle.comp_joins.proofs.Finding.{alike_itself}
use Rattle.link_rows.specs.Taking.{keeper, taker, taking, one_later, TakingExamples, TakingPremises}

pub taking_examples : TakingExamples
unfolding ◌>>◌ gives traps spent takes_step with_more shows on below core store_of finds_room deep_enough reacts loses stays runs_calls
taking_examples = record { dropped = refl }

fits : Fits taking keeper taker itself one_later
fits = record {
  front = tt;
  between = ((tt, tt), refl, tt);
  behind = ((tt, tt), refl, ((tt, tt), refl, tt));
  first_given = alike_itself IsNothing refl Nothing;
  second_given = inl (record { given = alike_itself IsNothing refl (asked taking keeper taker one_later); exports = λ interface name. refl });
}

-- what is exported as f alone, and is no import
pub not_theirs : (k : ℕ) (l : Lifting) (interface name : Name) (f : Import) → target_in (exported (Giving (codes "f") (GivenFunc (Mine k l)) Nothing) interface name) ≡ Some (Theirs f) → ⊥
not_theirs k l [] name f is = go (same_name (codes "f") name) is
  where
    go : (b : Bool) → target_in (cond b (Some (GivenFunc (Mine k l))) None) ≡ Some (Theirs f) → ⊥
    go true is' = let q : Some (Mine k l) ≡ Some (Theirs f) = is' in cc
    go false is' = let q : None ≡ Some (Theirs f) = is' in cc
not_theirs k l (c ∷ cs) name f is = go (same_name (codes "f") (c ∷ cs)) is
  where
    go : (b : Bool) → target_in (find name (instance_in (cond b (Some (GivenFunc (Mine k l))) None))) ≡ Some (Theirs f) → ⊥
    go true is' = let q : None ≡ Some (Theirs f) = is' in cc
    go false is' = let q : None ≡ Some (Theirs f) = is' in cc

abbrev import_of : Option Func → Import → Import
import_of (Some (LoweredFunc (Theirs f) options)) other = f
import_of _ other = other

-- the keeper, over the host of the whole
abbrev whole : Group
whole = over_host (joining taking keeper taker) keeper itself

types_agree : (f : Import) → IsImportOf (group_of taker) f → Meets whole one_later f
types_agree f (inl (k, n, options, is)) = go (nat_eq 0 k && nat_eq 0 n) (nat_eq 0 k && nat_eq 1 n) is
  where
    go : (a b : Bool) → cond a ((group_of taker).canons 0 0) (cond b ((group_of taker).canons 0 1) None) ≡ Some (LoweredFunc (Theirs f) options) → Meets whole one_later f
    go true b is' = subst (Meets whole one_later) (ap (λ z. import_of z f) is') (_, refl, refl)
    go false true is' = absurd (let q : (group_of taker).canons 0 1 ≡ Some (LoweredFunc (Theirs f) options) = is' in cc)
    go false false is' = absurd (let q : None ≡ Some (LoweredFunc (Theirs f) options) = is' in cc)
types_agree f (inr (interface, name, is)) = absurd (not_theirs _ _ interface name f is)

resources_agree : (r : ℕ) → IsKnown (known_by taker) r → (group_of keeper).given ((group_of taker).imported r) ≡ Some (one_later r)
resources_agree r (inl same) = subst (λ z. (group_of keeper).given ((group_of taker).imported z) ≡ Some (one_later z)) same refl
resources_agree r (inr rest) = absurd rest

hosts_agree : (r : ℕ) → IsKnown (known_by taker) r → whole.given ((group_of taker).imported r) ≡ Some (one_later r)
hosts_agree r (inl same) = subst (λ z. whole.given ((group_of taker).imported z) ≡ Some (one_later z)) same refl
hosts_agree r (inr rest) = absurd rest

-- the keeper exports what makes a handle
abbrev Exported : Import → Type 0
Exported f = (target : Target) × ((group_of keeper).exports f.interface f.function ≡ Some target)

exports_all : (f : Import) → IsImportOf (group_of taker) f → Exported f
exports_all f (inl (k, n, options, is)) = go (nat_eq 0 k && nat_eq 0 n) (nat_eq 0 k && nat_eq 1 n) is
  where
    go : (a b : Bool) → cond a ((group_of taker).canons 0 0) (cond b ((group_of taker).canons 0 1) None) ≡ Some (LoweredFunc (Theirs f) options) → Exported f
    go true b is' = subst Exported (ap (λ z. import_of z f) is') (_, refl)
    go false true is' = absurd (let q : (group_of taker).canons 0 1 ≡ Some (LoweredFunc (Theirs f) options) = is' in cc)
    go false false is' = absurd (let q : None ≡ Some (LoweredFunc (Theirs f) options) = is' in cc)
exports_all f (inr (interface, name, is)) = absurd (not_theirs _ _ interface name f is)

agree : Agree (joining taking keeper taker) keeper taker itself one_later
agree = record {
  first_stays = ((tt, (tt, (tt, tt))), ((tt, tt), ((tt, tt), (tt, ((tt, tt), ((tt, tt), ((tt, (tt, tt)), ((tt, tt), ((tt, tt), ((tt, tt), tt))))))))));
  second_stays = (((tt, (tt, (tt, (tt, tt)))), tt), ((tt, tt), ((tt, (tt, tt)), ((tt, tt), ((tt, (tt, tt)), ((tt, tt), (tt, ((tt, tt), ((tt, tt), ((tt, tt), ((tt, tt), ((tt, tt), tt))))))))))));
  first_knows = (refl, (refl, (refl, (inr (inr (inl refl)), (tt, (tt, (tt, ((inr (inr (inl refl)), tt), ((inr (inr (inl refl)), (tt, tt)), (tt, tt))))))))));
  second_knows = (tt, (tt, (tt, (refl, (tt, (inl refl, (tt, (tt, (tt, (tt, (tt, tt)))))))))));
  first_once = λ r s same. same;
  second_once = λ r s same. omega (arith, same);
  first_begins = refl;
  known_before = λ r known. absurd known;
  own_before = λ r more less. less;
  second_begins = refl;
  behind = λ r le. let q : 2 ≤ r = le in omega (arith, q);
  types = types_agree;
  resources = hosts_agree;
}

pub premises_hold : TakingPremises
premises_hold = record { fits = fits; agree = agree; closed = record { imports = refl; functions = exports_all; resources = resources_agree } }
