use Rattle.std.proofs.Common.{◌≤◌, ◌∙◌, sym, ap, length, take, arith}
use Rattle.std.proofs.lemmas.List.{take_all}
use Rattle.core_body.specs.Sources.{listed}
use Rattle.core_body.specs.Views.{context_of}
use Rattle.core_body.proofs.spaces.Scope.front.Goals as goal

pub returns-then-run-list : goal.returns-then-run-list
returns-then-run-list c = c.split_at.ensures.front ∙ ap (take c.args.run.len) c.listed-list.ensures

pub returns-else-run-list : goal.returns-else-run-list
returns-else-run-list c =
    let l = listed (context_of c.args.self.now) c.args.run.of in
    let same = ap length c.listed-list.ensures in
    let short : length l ≤ c.args.run.len = omega (arith, c.if-run-list.false) in
    c.listed-list.ensures ∙ sym (take_all c.args.run.len l short)
