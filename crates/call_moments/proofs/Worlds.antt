-- Instances change as the configurations of the definition do.
use Rattle.std.proofs.Common.{◌≡◌, ℕ, zero, suc, ◌==◌, Bool, true, false, List, [], ◌∷◌, set, Option, Some, None, refl, sym, ap, ◌∙◌, arith}
use Rattle.std.specs.Prelude.{slice_get}
use Rattle.std.proofs.Math.Path.{fun_ext}
use Rattle.std.proofs.lemmas.Bool.Decides.{nat_tests}
use Rattle.wit_types.specs.Plain.{Plain}
use Rattle.wit_types.specs.PlainValue.{PlainValue}
use Rattle.abi_store.specs.Plan.{Plan}
use Rattle.host_port.specs.Hosts.{HostStep}
use Rattle.comp_worlds.specs.Acts.{Trapped, Next, Over, then_do, Act, ◌>>◌}
use Rattle.comp_worlds.specs.Groups.{Config, World}
use Rattle.comp_worlds.specs.Locals.{Local, gives_in, done, close}
use Rattle.comp_worlds.specs.Calls.{pick, with_config, on_end, on}
use Rattle.comp_frames.proofs.Acts.{nothing_before}
use Rattle.comp_frames.proofs.Halts.{here, world_twice}
use Rattle.instance_state.specs.declared.instance.Instance.{Instance}
use Rattle.instance_state.specs.Shown.{config_of}
use Rattle.instance_state.specs.Passed.{IsLoweredAs}
use Rattle.call_moments.specs.Configs.{config_or_rest, configs_of, world_of, InstancesAct, Begins, StoresBegin}

pub same_place : (is : List Instance) (k : ℕ) (i j : Instance) → slice_get is k ≡ Some i → slice_get (set is k j) k ≡ Some j
same_place [] k i j h = absurd (cc)
same_place (x ∷ is) zero i j h = refl
same_place (x ∷ is) (suc k) i j h = same_place is k i j h

pub other_place : (is : List Instance) (k m : ℕ) (j : Instance) → (m == k) ≡ false → slice_get (set is k j) m ≡ slice_get is m
other_place [] k m j h = refl
other_place (x ∷ is) zero zero j h = absurd (let e : (zero == zero) ≡ true = grind (arith, nat_tests) in cc)
other_place (x ∷ is) zero (suc m) j h = refl
other_place (x ∷ is) (suc k) zero j h = refl
other_place (x ∷ is) (suc k) (suc m) j h = other_place is k m j (let e : (m == k) ≡ false = grind (arith, nat_tests) in e)

module _ (is : List Instance) (k : ℕ) (i j : Instance) (found : slice_get is k ≡ Some i) where
  pub config_at : configs_of is k ≡ config_of i
  config_at = ap config_or_rest found

  changed_at : (m : ℕ) → pick (m == k) (config_of j) (configs_of is m) ≡ configs_of (set is k j) m
  changed_at m = go (m == k) refl
    where
      go : (b : Bool) → (m == k) ≡ b → pick b (config_of j) (configs_of is m) ≡ configs_of (set is k j) m
      go true e = let same : m ≡ k = grind (arith, nat_tests) in sym (ap config_or_rest (ap (slice_get (set is k j)) same ∙ same_place is k i j found))
      go false e = sym (ap config_or_rest (other_place is k m j e))

  pub changed : {S : Type 0} (s : S) → with_config (world_of is s) k (config_of j) ≡ world_of (set is k j) s
  changed {S} s = ap (λ (f : ℕ → Config ℕ). let v : World S = record { configs = f; below = s } in v) (fun_ext changed_at)

  pub on_does : {S A : Type 0} (s : S) (n : ℕ) (op : Config ℕ → Option (Local ℕ A)) (a : A) → op (config_of i) ≡ Some (gives_in a (config_of j)) → on k op (world_of is s) n ≡ Next [] n (world_of (set is k j) s) a
  unfolding on
  on_does s n op a h = ap (λ c. on_end (world_of is s) k n (op c)) config_at ∙ ap (on_end (world_of is s) k n) h ∙ ap (λ w. Next [] n w a) (changed s)

  -- handles are added, and then the instance is closed
  begins : {S : Type 0} (s : S) (op : Config ℕ → Option (Local ℕ (List ℕ))) (added : Config ℕ) (ixs : List ℕ) (f : List ℕ → Act (World S) (List ℕ)) (n : ℕ) → op (config_of i) ≡ Some (gives_in ixs added) → close added ≡ Some (done (config_of j)) →
      (on k op >> λ xs. on k close >> λ _. f xs) (world_of is s) n ≡ f ixs (world_of (set is k j) s) n
  unfolding ◌>>◌ on
  begins {S} s op added ixs f n h c =
      let w : World S = world_of is s in
      let go = λ (xs : List ℕ) (v : World S) (l : ℕ). then_do (on_end v k l (close (v.configs k))) (λ (u : Unit {0}) (v' : World S) (l' : ℕ). f xs v' l') in
      ap (λ e. then_do (on_end w k n (op e)) go) config_at
      ∙ ap (λ o. then_do (on_end w k n o) go) h
      ∙ nothing_before (go ixs (with_config w k added) n)
      ∙ ap (λ e. then_do (on_end (with_config w k added) k n (close e)) (λ (u : Unit {0}) (v' : World S) (l' : ℕ). f ixs v' l')) (here w k added)
      ∙ ap (λ o. then_do (on_end (with_config w k added) k n o) (λ (u : Unit {0}) (v' : World S) (l' : ℕ). f ixs v' l')) c
      ∙ nothing_before (f ixs (with_config (with_config w k added) k (config_of j)) n)
      ∙ ap (λ v. f ixs v n) (world_twice w k added (config_of j) ∙ changed s)

  begins_by : {S : Type 0} (s : S) (op : Config ℕ → Option (Local ℕ (List ℕ))) (ty : Plain) (v : PlainValue) (due_plan : PlainValue → Plan) (plan : Plan) (o : Option (Local ℕ (List ℕ))) → op (config_of i) ≡ o → (added : Config ℕ) →
      IsLoweredAs ty v due_plan o added plan → close added ≡ Some (done (config_of j)) → Begins k op ty v due_plan plan (world_of is s) (world_of (set is k j) s)
  begins_by s op ty v due_plan plan None e added lowered c = absurd lowered
  begins_by s op ty v due_plan plan (Some l) e added lowered c = record {
    indexes = l.answer;
    planned = lowered.1;
    closed = λ f n. begins s op added l.answer f n (e ∙ ap (λ x. Some (gives_in l.answer x)) lowered.0) c;
  }

on_traps : {S A : Type 0} (is : List Instance) (k : ℕ) (i : Instance) (s : S) (n : ℕ) (op : Config ℕ → Option (Local ℕ A)) → slice_get is k ≡ Some i → op (config_of i) ≡ None → on k op (world_of is s) n ≡ Over [] Trapped
unfolding on
on_traps is k i s n op found h = ap (λ c. on_end (world_of is s) k n (op c)) (ap config_or_rest found) ∙ ap (on_end (world_of is s) k n) h

pub instances_act : {S : Type 0} (h : HostStep S) → InstancesAct h
instances_act h = record {
  does = λ is k i j s n op found e. on_does is k i j found s n op tt e;
  numbers = λ is k i j s n op a found e. on_does is k i j found s n op a e;
  traps = λ is k i s n op found e. on_traps is k i s n op found e;
}

pub stores_begin : {S : Type 0} (h : HostStep S) → StoresBegin h
stores_begin h is k i j s op ty v due_plan plan found b = begins_by is k i j found s op ty v due_plan plan (op (config_of i)) refl b.0 b.1 b.2
