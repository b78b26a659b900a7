use Rattle.std.proofs.Common.{map, take, []}
use Rattle.core_store.specs.Config.{Outcome, Done}
use Rattle.adapter_compile.specs.Does.{store_with, core_value, ArrivesAt}
use Rattle.adapter_calls.proofs.Turns.{evaluation_in_turn}
use Rattle.adapter_calls.proofs.laws.routines_ask_in_turn.Goals as goal

pub returns : goal.returns
returns c numbers home f params s made run none does =
    evaluation_in_turn numbers (store_with home s.memory made) f (map core_value (take params s.locals)) does.steps s.table does.effects
    (λ n. ArrivesAt numbers Outcome (λ o. o) run.end run.state.table (λ replies. Done [] (store_with home run.state.memory does.made') n)) none does.goes
