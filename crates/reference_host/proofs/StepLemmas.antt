-- Reactions, step by step.
use Rattle.std.proofs.Common.{◌≡◌, ℕ, ◌≤◌, nat_lt, Bool, true, false, ◌&&◌, List, [], ◌++◌, Option, Some, None, Result, Ok, Err, refl, sym, ap, subst, ◌∙◌, arith, if◌then◌else◌}
use Rattle.std.specs.Prelude.{IfOk, OnOk}
use Rattle.std.proofs.lemmas.Bool.Decides.{nat_tests}
use Rattle.std.proofs.lemmas.List.{append-nil}
use Rattle.wit_types.specs.Limits.{parts}
use Rattle.wit_types.specs.Plain.{Name, Plain}
use Rattle.host_port.specs.declared.call.HostFunc.{HostFunc}
use Rattle.host_port.specs.Calls.{PlainAnswer, PlainObservation}
use Rattle.host_port.specs.Hosts.{Reaction}
use Rattle.reference_step.specs.State.{Reference}
use Rattle.ref_guards.specs.Noted.{parts_of_result}
use Rattle.ref_host_calls.specs.Reactions.{IsReaction}

pub if_true : {A : Type 0} (b : Bool) (x y : A) → b ≡ true → (if b then x else y) ≡ x
if_true true x y e = refl
if_true false x y e = cc

pub if_false : {A : Type 0} (b : Bool) (x y : A) → b ≡ false → (if b then x else y) ≡ y
if_false false x y e = refl
if_false true x y e = cc

-- what is asked by the names of a call's function
pub named_as : {A : Type 0} (ask : Name → Name → A) (f a b : HostFunc) (interface function : Name) → interface ≡ a.interface → a ≡ f → function ≡ b.function → b ≡ f
    → ask interface function ≡ ask f.interface f.function
named_as ask f a b interface function one is other same =
    ap (λ (n : Name). ask n function) (one ∙ ap (λ (g : HostFunc). g.interface) is)
    ∙ ap (ask f.interface) (other ∙ ap (λ (g : HostFunc). g.function) same)

-- what holds of a value holds of it in another form
pub ok_map : {A E : Type 0} (r : Result A E) (P Q : A → Type 0) → ((x : A) → P x → Q x) → IfOk r P → IfOk r Q
ok_map (Ok x) P Q go p = go x p
ok_map (Err e) P Q go p = p

pub on_map : {A E : Type 0} (r : Result A E) (P Q : Type 0) → (P → Q) → OnOk r P → OnOk r Q
on_map (Ok x) P Q go p = go p
on_map (Err e) P Q go p = p

pub on_two : {A E : Type 0} (r : Result A E) (P Q R : Type 0) → (P → Q → R) → OnOk r P → OnOk r Q → OnOk r R
on_two (Ok x) P Q R go p q = go p q
on_two (Err e) P Q R go p q = p

-- beside what holds after the call
pub ok_with : {A E : Type 0} (r : Result A E) (P Q : A → Type 0) (R : Type 0) → ((x : A) → P x → R → Q x) → IfOk r P → OnOk r R → IfOk r Q
ok_with (Ok x) P Q R go p q = go x p q
ok_with (Err e) P Q R go p q = p

-- the types of arguments and result, and the handles
pub no_types : (a b c : Bool) → (a && b) ≡ false → (a && (b && c)) ≡ false
no_types true true c is = cc
no_types true false c is = refl
no_types false b c is = refl

pub with_types : (a b c : Bool) → (a && b) ≡ true → (a && (b && c)) ≡ c
with_types true true c is = refl
with_types true false c is = cc
with_types false b c is = cc

pub small_result : (o : Option Plain) → ((ty : Plain) → o ≡ Some ty → parts ty ≤ 1000000) → parts_of_result o ≤ 1000000
small_result None small = omega arith
small_result (Some ty) small = small ty refl

pub heavy : (limit w : ℕ) → ¬ (w ≤ limit) → nat_lt limit w ≡ true
heavy limit w never = grind (arith, nat_tests)

pub light : (limit w : ℕ) → w ≤ limit → nat_lt limit w ≡ false
light limit w few = grind (arith, nat_tests)

module _ {S : Type 0} where
  -- an equal reaction
  pub goes_as : (x y : Reaction (Reference S)) (a : PlainAnswer) (s : Reference S) (before after : List PlainObservation) → x ≡ y → IsReaction y a s before after → IsReaction x a s before after
  goes_as x y a s before after is done = subst (λ (r : Reaction (Reference S)). IsReaction r a s before after) (sym is) done

  -- one by which the host is not asked
  pub ends_as : (x : Reaction (Reference S)) (a : PlainAnswer) (s : Reference S) (before : List PlainObservation) → x ≡ record { seen = []; answer = a; next = s } → IsReaction x a s before before
  ends_as x a s before is = record {
    answer = sym (ap (λ (r : Reaction (Reference S)). r.answer) is);
    next = sym (ap (λ (r : Reaction (Reference S)). r.next) is);
    seen = sym (ap (λ (r : Reaction (Reference S)). before ++ r.seen) is ∙ append-nil before);
  }
