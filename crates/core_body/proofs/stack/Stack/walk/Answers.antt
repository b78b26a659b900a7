use Rattle.std.proofs.Common.{◌∙◌, ap, length}
use Rattle.core_body.specs.Views.{context_of}
use Rattle.core_body.proofs.PlaceLemmas.{met-first, met-never, ready-first}
use Rattle.core_body.proofs.stack.Stack.walk.Goals as goal

pub descend-requires : goal.descend-requires
descend-requires c =
    let d = context_of c.args.scope.now in
    ready-first d c.args.self.now c.args.from (record { of = c.args.due; len = length c.listed.result.now }) c.in-Some.met c.requires c.in-Some.ensures

pub returns-in-Some-clause-met : goal.returns-in-Some-clause-met
returns-in-Some-clause-met c =
    let d = context_of c.args.scope.now in
    λ dead. met-first d c.args.self.now c.args.from c.args.due (length c.listed.result.now) c.in-Some.met (ap length c.listed.ensures) c.in-Some.ensures dead ∙ c.descend.ensures.met dead

pub returns-in-None-clause-met : goal.returns-in-None-clause-met
returns-in-None-clause-met c =
    met-never (context_of c.args.scope.now) c.args.self.now c.args.from c.args.due (length c.listed.result.now) (ap length c.listed.ensures) c.in-None.ensures
