-- When a plan of storing first comes to memory.
use Rattle.std.proofs.Common.{◌≡◌, ℕ, Bool, true, false, Option, Some, None, List, refl, ap, ◌∙◌}
use Rattle.wit_types.specs.Plain.{Plain}
use Rattle.wit_types.specs.PlainValue.{PlainValue}
use Rattle.abi_layout.specs.Handles.{renumbered}
use Rattle.abi_store.specs.Plan.{Plan, is_due}
use Rattle.comp_worlds.specs.Passing.{most_params, most_results, spills_over}
use Rattle.comp_worlds.specs.Groups.{Config}
use Rattle.comp_worlds.specs.Locals.{Local}
use Rattle.instance_state.specs.Passed.{IsLoweredAs, params_plan, result_plan}

params_wait : (b : Bool) (ty : Plain) (v : PlainValue) → spills_over most_params ty ≡ b → is_due (params_plan ty v).due ≡ false
params_wait true ty v e = rw e refl
params_wait false ty v e = rw e refl

result_waits : (b : Bool) (ty : Plain) (at : ℕ) (v : PlainValue) → spills_over most_results ty ≡ b → is_due (result_plan ty at v).due ≡ b
result_waits true ty at v e = rw e refl
result_waits false ty at v e = rw e refl

-- parameters ask for room before they come to memory
pub params_ask : (ty : Plain) (v : PlainValue) (o : Option (Local ℕ (List ℕ))) (c : Config ℕ) (plan : Plan) → IsLoweredAs ty v (params_plan ty) o c plan → is_due plan.due ≡ false
params_ask ty v None c plan h = absurd h
params_ask ty v (Some l) c plan h = ap (λ (p : Plan). is_due p.due) h.1 ∙ params_wait (spills_over most_params ty) ty (renumbered ty v l.answer) refl

-- a result comes to memory at once exactly where it goes through it
pub result_comes : (ty : Plain) (v : PlainValue) (at : ℕ) (o : Option (Local ℕ (List ℕ))) (c : Config ℕ) (plan : Plan) → IsLoweredAs ty v (result_plan ty at) o c plan → is_due plan.due ≡ spills_over most_results ty
result_comes ty v at None c plan h = absurd h
result_comes ty v at (Some l) c plan h = ap (λ (p : Plan). is_due p.due) h.1 ∙ result_waits (spills_over most_results ty) ty at (renumbered ty v l.answer) refl

pub ruleset plans = (params_ask, result_comes)
