-- What is made of a value that the host answers.
use Rattle.std.proofs.Common.{◌≡◌, ℕ, ◌+◌, ◌*◌, nat_lt, nat_le, Bool, true, false, List, length, Option, Some, refl, sym, ap, ◌∙◌, arith, if◌then◌else◌}
use Rattle.std.proofs.lemmas.Bool.Decides.{nat_tests}
use Rattle.wit_types.specs.Plain.{Plain}
use Rattle.wit_types.specs.PlainValue.{PlainValue}
use Rattle.wit_types.specs.Layout.{align_to}
use Rattle.tree_table.specs.Tables.{Forest}
use Rattle.host_port.specs.Calls.{PlainCall, PlainObservation, Gives, Trap}
use Rattle.host_port.specs.Hosts.{HostStep, Reaction}
use Rattle.reference_step.specs.Atoms.{handles, renumbered_result, result_atoms, weight}
use Rattle.reference_step.specs.Environment.{all_variables}
use Rattle.reference_step.specs.Handles.{Live}
use Rattle.reference_step.specs.Listed.{Listed}
use Rattle.reference_step.specs.State.{Reference}
use Rattle.reference_step.specs.Steps.{args_weight, elements_weight, entered, enters, environment_gave, from_host, host_gave, value_of}
use Rattle.reference_step.specs.Values.{list}
use Rattle.ref_rules.specs.declared.content.Handle.{Handle}
use Rattle.ref_answers.specs.Seen.{live_in}
use Rattle.ref_guards.specs.declared.standing.Standing.TheVariants.{Hosts}
use Rattle.ref_guards.specs.Entering.{with_handles, numbers_for}
use Rattle.ref_guards.proofs.SeenEntering.{hosts_entered}

if_true : {A : Type 0} (b : Bool) (x y : A) → b ≡ true → (if b then x else y) ≡ x
if_true true x y e = refl
if_true false x y e = cc

if_false : {A : Type 0} (b : Bool) (x y : A) → b ≡ false → (if b then x else y) ≡ y
if_false false x y e = refl
if_false true x y e = cc

-- beside what is left, no more fits
too_heavy : (limit args left w : ℕ) → args + left ≡ limit → nat_le w left ≡ false → nat_lt limit (args + w) ≡ true
too_heavy limit args left w e light = grind (arith, nat_tests)

not_heavy : (limit args left w : ℕ) → args + left ≡ limit → nat_le w left ≡ true → nat_lt limit (args + w) ≡ false
not_heavy limit args left w e light = grind (arith, nat_tests)

module _ {S : Type 0} (h : HostStep S) (r : Reference S) (seen : List PlainObservation) (f : Listed) (c : PlainCall) (v : Option PlainValue) (left : ℕ) (room : args_weight h f c + left ≡ r.setup.policy.transfer_limit) where
  abbrev ty : Option Plain
  ty = f.function.ty.answer

  abbrev traps_now : Reaction (Reference S)
  traps_now = record { seen = seen; answer = Trap; next = r }

  -- ---- a value with handles

  pub gave_heavy : nat_le (weight (result_atoms ty v)) left ≡ false → host_gave h r seen f c v ≡ traps_now
  gave_heavy light = if_true _ _ _ (too_heavy r.setup.policy.transfer_limit (args_weight h f c) left (weight (result_atoms ty v)) room light)

  pub gave_light : (forest : Forest) (live : List (Option Handle)) → r.live ≡ live_in forest live → nat_le (weight (result_atoms ty v)) left ≡ true
      → host_gave h r seen f c v ≡ record { seen = seen; answer = Gives (renumbered_result ty v (numbers_for Hosts live (handles (result_atoms ty v)))); next = record r { live = live_in forest (with_handles Hosts live (handles (result_atoms ty v))) } }
  gave_light forest live is light =
      if_false _ _ _ (not_heavy r.setup.policy.transfer_limit (args_weight h f c) left (weight (result_atoms ty v)) room light)
      ∙ ap (λ (l : Live). enters h r seen ty v (entered h l (from_host h (handles (result_atoms ty v))))) is
      ∙ ap (λ (x : Live × List ℕ). enters h r seen ty v x) (hosts_entered h forest live (handles (result_atoms ty v)))

  -- ---- variables

  module _ (n : ℕ) (vs : List PlainValue) (these : vs ≡ all_variables r.setup.policy (value_of h v)) (count : n ≡ length vs) where
    abbrev list_bytes : ℕ
    list_bytes = weight (result_atoms ty v) + align_to (n * 16) 8

    as_many : weight (result_atoms ty v) + elements_weight h (length (all_variables r.setup.policy (value_of h v))) 16 ≡ list_bytes
    as_many = ap (λ m. weight (result_atoms ty v) + align_to (m * 16) 8) (sym (count ∙ ap length these))

    pub variables_heavy : nat_le list_bytes left ≡ false → environment_gave h r seen f c v ≡ traps_now
    variables_heavy light = if_true _ _ _ (ap (λ w. nat_lt r.setup.policy.transfer_limit (args_weight h f c + w)) as_many ∙ too_heavy r.setup.policy.transfer_limit (args_weight h f c) left list_bytes room light)

    pub variables_light : nat_le list_bytes left ≡ true → environment_gave h r seen f c v ≡ record { seen = seen; answer = Gives (Some (list vs)); next = r }
    variables_light light =
        if_false _ _ _ (ap (λ w. nat_lt r.setup.policy.transfer_limit (args_weight h f c + w)) as_many ∙ not_heavy r.setup.policy.transfer_limit (args_weight h f c) left list_bytes room light)
        ∙ ap (λ ws. record { seen = seen; answer = Gives (Some (list ws)); next = r }) (sym these)
