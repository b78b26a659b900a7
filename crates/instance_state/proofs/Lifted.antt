-- Values that were lifted, or are lowered, with their handles exchanged.
use Rattle.std.proofs.Common.{◌≡◌, ℕ, ap, refl, sym, ◌∙◌, subst, Bool, true, false, List, [], Option, Some, None, Result, Ok, Err}
use Rattle.std.specs.Prelude.{IsTrue, IfOk, if◌then◌else◌}
use Rattle.std.specs.Option.{option_map, option_and_then}
use Rattle.wit_types.specs.Plain.{Plain}
use Rattle.wit_types.specs.PlainValue.{PlainValue, plain_value}
use Rattle.wit_types.specs.HasType.{is_of}
use Rattle.wit_types.specs.declared.value.Value.{Value}
use Rattle.abi_layout.specs.Handles.{handles, renumbered}
use Rattle.abi_layout.proofs.HandleLaws.{types_keep}
use Rattle.handle_space.specs.HandleMap.{HandleMap, Answered}
use Rattle.abi_store.specs.Plan.{Plan, at_plan, flat_plan, spill_plan}
use Rattle.comp_worlds.specs.Passing.{Handle, Lifted, named_in, lift_handles, lift_words, add_handles, handles_of, blank, Passed, most_params, most_results, spills_over}
use Rattle.comp_worlds.specs.Hosts.{passed_by}
use Rattle.comp_worlds.specs.Groups.{Options, Config}
use Rattle.comp_worlds.specs.Locals.{Local, args_of, lifts, adds_handles, with_map, bytes_in}
use Rattle.instance_state.specs.declared.fault.HandleFault.{HandleFault}
use Rattle.instance_state.specs.declared.fault.HandleFault.TheVariants.{Trap, NoMemory}
use Rattle.abi_load.specs.declared.fault.LoadFault.{LoadFault}
use Rattle.abi_load.specs.declared.fault.LoadFault.TheVariants as loads
use Rattle.instance_state.specs.Exchanges.{IsOut, GoesOut, IsIn}
use Rattle.instance_state.specs.Passed.{fault_of, LiftsAs, IsLoweredAs, LowersAs, params_plan, result_plan}

-- ---- lifting

pub lifted_as : (most : ℕ) (ty : Plain) (options : Options) (ws : List ℕ) (c new : Config ℕ) (v : PlainValue) (m : HandleMap ℕ) (loans loans' : List ℕ) (r : Result Value HandleFault) → lift_words most ty (bytes_in options c.store) ws ≡ Some v →
    GoesOut ty v (lift_handles (named_in (handles ty v)) c.map) m loans loans' r → with_map c m ≡ new → LiftsAs ty (lifts most ty options ws c) new loans loans' r
lifted_as most ty options ws c new v m loans loans' r is goes same =
    subst (λ o. LiftsAs ty o new loans loans' r) (sym (ap (option_and_then (λ x. option_map (args_of ty x c) (lift_handles (named_in (handles ty x)) c.map))) is)) (at r (lift_handles (named_in (handles ty v)) c.map) goes)
  where
    at : (r : Result Value HandleFault) (o : Option (Lifted ℕ)) → GoesOut ty v o m loans loans' r → LiftsAs ty (option_map (args_of ty v c) o) new loans loans' r
    at (Ok out) None g = absurd g
    at (Ok out) (Some l) g = (ap (with_map c) g.1 ∙ same, g.0, g.2)
    at (Err Trap) o g = ap (option_map (args_of ty v c)) g
    at (Err NoMemory) o g = tt

pub no_value : (most : ℕ) (ty : Plain) (options : Options) (ws : List ℕ) (c : Config ℕ) → lift_words most ty (bytes_in options c.store) ws ≡ None → lifts most ty options ws c ≡ None
no_value most ty options ws c is = ap (option_and_then (λ x. option_map (args_of ty x c) (lift_handles (named_in (handles ty x)) c.map))) is

pub stops_as : (most : ℕ) (ty : Plain) (options : Options) (ws : List ℕ) (c new : Config ℕ) (loans loans' : List ℕ) (fault : LoadFault) → (fault ≡ loads.Trap → lift_words most ty (bytes_in options c.store) ws ≡ None) →
    LiftsAs ty (lifts most ty options ws c) new loans loans' (Err (fault_of fault))
stops_as most ty options ws c new loans loans' loads.Trap h = no_value most ty options ws c (h refl)
stops_as most ty options ws c new loans loans' loads.NoMemory h = tt

-- the handles of a value do not tell its type
pub same_type : (ty : Plain) (v : PlainValue) (o : Option (Lifted ℕ)) (m : HandleMap ℕ) (loans loans' : List ℕ) (out : Value) → IsOut ty v o m loans loans' out → IsTrue (is_of ty v) → IsTrue (is_of ty (plain_value out))
same_type ty v None m loans loans' out h typed = absurd h
same_type ty v (Some l) m loans loans' out h typed =
    let same : blank ty (plain_value out) ≡ blank ty v = ap (λ (p : Passed ℕ). p.value) h.0 in
    subst IsTrue (sym (types_keep ty v []) ∙ ap (is_of ty) (sym same) ∙ types_keep ty (plain_value out) []) typed

pub typed_as : (ty : Plain) (v : PlainValue) (o : Option (Lifted ℕ)) (m : HandleMap ℕ) (loans loans' : List ℕ) (r : Result Value HandleFault) → GoesOut ty v o m loans loans' r → IsTrue (is_of ty v) → IfOk r (λ out. IsTrue (is_of ty (plain_value out)))
typed_as ty v o m loans loans' (Ok out) h typed = same_type ty v o m loans loans' out h typed
typed_as ty v o m loans loans' (Err e) h typed = tt

-- ---- lowering

pub lowered_as : (ty : Plain) (v : PlainValue) (due_plan : PlainValue → Plan) (plain : ℕ → ℕ → Option ℕ) (c new : Config ℕ) (m : HandleMap ℕ) (into : Value) (plan : Plan) →
    IsIn ty v (add_handles plain (handles_of ty (passed_by ty v)) c.map) m into → with_map c m ≡ new → plan ≡ due_plan (plain_value into) →
    IsLoweredAs ty (blank ty v) due_plan (adds_handles plain (handles_of ty (passed_by ty v)) c) new plan
lowered_as ty v due_plan plain c new m into plan is same planned = at (add_handles plain (handles_of ty (passed_by ty v)) c.map) is
  where
    at : (o : Option (Answered ℕ (List ℕ))) → IsIn ty v o m into → IsLoweredAs ty (blank ty v) due_plan (option_map (λ (a : Answered ℕ (List ℕ)). record { config = with_map c a.map; answer = a.answer }) o) new plan
    at None h = absurd h
    at (Some a) h = (ap (with_map c) h.1 ∙ same, planned ∙ ap due_plan h.0)

pub no_room : (plain : ℕ → ℕ → Option ℕ) (hs : List (Handle ℕ)) (c : Config ℕ) → add_handles plain hs c.map ≡ None → adds_handles plain hs c ≡ None
no_room plain hs c is = ap (option_map (λ (a : Answered ℕ (List ℕ)). record { config = with_map c a.map; answer = a.answer })) is

-- a plan of the same values
pub planned_as : (ty : Plain) (v : PlainValue) (p q : PlainValue → Plan) (due : Option (Local ℕ (List ℕ))) (new : Config ℕ) (r : Result Plan HandleFault) → ((x : PlainValue) → p x ≡ q x) → LowersAs ty v p due new r → LowersAs ty v q due new r
planned_as ty v p q None new (Ok plan) same h = h
planned_as ty v p q (Some l) new (Ok plan) same h = (h.0, h.1 ∙ same (renumbered ty v l.answer))
planned_as ty v p q due new (Err Trap) same h = h
planned_as ty v p q due new (Err NoMemory) same h = tt

pub params_spill : (ty : Plain) (x : PlainValue) → spills_over most_params ty ≡ true → spill_plan ty x ≡ params_plan ty x
params_spill ty x e = sym (ap (λ (b : Bool). if b then spill_plan ty x else flat_plan ty x) e)

pub params_flat : (ty : Plain) (x : PlainValue) → spills_over most_params ty ≡ false → flat_plan ty x ≡ params_plan ty x
params_flat ty x e = sym (ap (λ (b : Bool). if b then spill_plan ty x else flat_plan ty x) e)

pub result_placed : (ty : Plain) (at : ℕ) (x : PlainValue) → spills_over most_results ty ≡ true → at_plan at ty x ≡ result_plan ty at x
result_placed ty at x e = sym (ap (λ (b : Bool). if b then at_plan at ty x else flat_plan ty x) e)

pub result_flat : (ty : Plain) (at : ℕ) (x : PlainValue) → spills_over most_results ty ≡ false → flat_plan ty x ≡ result_plan ty at x
result_flat ty at x e = sym (ap (λ (b : Bool). if b then at_plan at ty x else flat_plan ty x) e)
