use Rattle.core_store.specs.Config.{Outcome, Done}
use Rattle.adapter_compile.specs.Does.{store_with, ArrivesAt}
use Rattle.adapter_stubs.specs.Calls.{arguments_in, flat_in}
use Rattle.adapter_calls.proofs.Turns.{evaluation_in_turn}
use Rattle.adapter_calls.proofs.laws.stubs_ask_in_turn.Goals as goal

pub returns : goal.returns
returns c numbers home f stub s made run none ends =
    evaluation_in_turn numbers (store_with home s.memory made) f (arguments_in stub s) ends.steps s.table ends.effects
    (λ n. ArrivesAt numbers Outcome (λ o. o) run.end run.state.table (λ replies. Done (flat_in stub run.state) (store_with home run.state.memory ends.made') n)) none ends.goes
