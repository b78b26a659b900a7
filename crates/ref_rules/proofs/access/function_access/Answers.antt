use Rattle.std.proofs.Common.{◌<◌, ◌≤◌, ◌∙◌, arith}
use Rattle.ref_rules.proofs.SourceLemmas.{source_access, no_source}
use Rattle.ref_rules.proofs.access.function_access.Goals as goal

pub returns-then-interface-lt27 : goal.returns-then-interface-lt27
returns-then-interface-lt27 c =
    let below : c.args.interface < 27 = omega arith in
    c.by_source.ensures ∙ source_access c.args.policy.now c.args.interface _ c.args.function.now below

pub returns-else-interface-lt27 : goal.returns-else-interface-lt27
returns-else-interface-lt27 c =
    let past : 27 ≤ c.args.interface = omega arith in
    no_source c.args.policy.now c.args.interface c.args.function.now past
