use Rattle.std.proofs.Common.{◌≡◌, ◌<◌, ◌≤◌, ◌-◌, ap, ◌∙◌, sym, length, arith, get_or}
use Rattle.core_body.specs.Levels.{label_of}
use Rattle.core_body.specs.Views.{context_of}
use Rattle.core_body.specs.Stack.{below_of}
use Rattle.core_body.proofs.LevelLemmas.{label-none, label-some}
use Rattle.core_body.proofs.step.label_at.Goals as goal

pub returns-then-n-len : goal.returns-then-n-len
returns-then-n-len c =
    let p = c.args.p.now in
    let past : length p.outer.items < c.args.n = omega (arith, p.outer.ok.0) in
    sym (label-none (context_of c.args.scope.now) p.outer.items _ (below_of p.stack) c.args.n past)

pub returns : goal.returns
returns c =
    let p = c.args.p.now in
    let f = c.index.result.now in
    let some : 0 < c.args.n = omega arith in
    let within : c.args.n ≤ length p.outer.items = omega (arith, p.outer.ok.0) in
    let place : c.len-2.result - c.args.n ≡ length p.outer.items - c.args.n = omega (arith, p.outer.ok.0) in
    c.label-2.ensures ∙ ap (λ g. label_of (context_of c.args.scope.now) g.kind) (c.index.ensures ∙ ap (λ k. get_or p.outer.items k f) place)
    ∙ sym (label-some (context_of c.args.scope.now) p.outer.items _ (below_of p.stack) c.args.n f some within)
