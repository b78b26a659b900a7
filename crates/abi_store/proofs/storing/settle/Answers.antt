use Rattle.std.proofs.Common.{ap, ◌∙◌, ◌∷◌, [], arith}
use Rattle.abi_store.specs.Weights.{works_turns, begun_turns}
use Rattle.abi_store.proofs.TurnLemmas.{works-append}
use Rattle.abi_store.proofs.storing.settle.Goals as goal

pub returns-in_ok-push-in-Opened-clause-turns : goal.returns-in_ok-push-in-Opened-clause-turns
returns-in_ok-push-in-Opened-clause-turns c =
    let grown = ap works_turns c.in_ok-push-in-Opened.ensures.items ∙ works-append c.args.works.now.items (c.in-Opened.work ∷ []) in
    let begun = ap begun_turns c.in-Opened.is in
    omega arith
