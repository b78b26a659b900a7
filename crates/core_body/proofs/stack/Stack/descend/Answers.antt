use Rattle.std.proofs.Common.{◌≡◌, ◌≤◌, ◌+◌, ◌-◌, ◌∙◌, sym, arith}
use Rattle.core_body.specs.Views.{context_of}
use Rattle.core_body.proofs.PlaceLemmas.{met-next, ready-next, never-next, met-short, met-all, lies-ready}
use Rattle.core_body.proofs.stack.Stack.descend.Goals as goal

pub returns-then-at-self-clause-met : goal.returns-then-at-self-clause-met
returns-then-at-self-clause-met c =
    λ dead. sym (c.loop-met.invariant.same dead)
    ∙ met-short (context_of c.args.scope.now) c.args.self.now c.loop-met.at c.loop-met.met c.loop-met.invariant.ready c.loop-met-test.true c.if-at-self.true dead

pub returns-in-None-clause-met : goal.returns-in-None-clause-met
returns-in-None-clause-met c =
    let s = c.args.self.now in
    let at = c.loop-met.at - 1 in
    let e : at + 1 ≡ c.loop-met.at = omega arith in
    let low : s.height ≤ at = omega arith in
    λ dead. sym (c.loop-met.invariant.same dead)
    ∙ never-next (context_of c.args.scope.now) s c.loop-met.at at c.index.result.now c.loop-met.met c.loop-met.invariant.ready c.loop-met-test.true e low c.index.ensures c.in-None.ensures dead

pub loop-met-preserved : goal.loop-met-preserved
loop-met-preserved c =
    let d = context_of c.args.scope.now in
    let s = c.args.self.now in
    let at = c.loop-met.at - 1 in
    let e : at + 1 ≡ c.loop-met.at = omega arith in
    let low : s.height ≤ at = omega arith in
    record {
      ready = ready-next d s c.loop-met.at at c.index.result.now c.loop-met.met c.in-Some.next c.loop-met.invariant.ready e low c.in-Some.ensures;
      same = λ dead. met-next d s c.loop-met.at at c.index.result.now c.loop-met.met c.in-Some.next c.loop-met.invariant.ready c.loop-met-test.true e low c.index.ensures c.in-Some.ensures dead
          ∙ c.loop-met.invariant.same dead;
    }

pub returns-clause-met : goal.returns-clause-met
returns-clause-met c =
    let none : c.loop-met.met.due.len ≡ 0 = omega arith in
    λ dead. sym (c.loop-met.invariant.same dead)
    ∙ met-all (context_of c.args.scope.now) c.args.self.now (record { at = c.loop-met.at; part = c.loop-met.met.part }) c.loop-met.met.due none dead

pub returns-clause-lies : goal.returns-clause-lies
returns-clause-lies c = lies-ready (context_of c.args.scope.now) c.args.self.now c.loop-met.at c.loop-met.met c.loop-met.invariant.ready
