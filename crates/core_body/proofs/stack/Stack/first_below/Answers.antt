use Rattle.std.proofs.Common.{◌≡◌, ◌≤◌, ◌<◌, ◌+◌, ◌-◌, ◌∙◌, sym, length, arith}
use Rattle.core_body.specs.Views.{context_of}
use Rattle.core_body.proofs.PlaceLemmas.{down-parted, down-skip, down-none, lies-inside}
use Rattle.core_body.proofs.stack.Stack.first_below.Goals as goal

pub returns-in-Some-clause-found : goal.returns-in-Some-clause-found
returns-in-Some-clause-found c =
    let s = c.args.self.now in
    let at = c.loop-at.at - 1 in
    let high = c.loop-at.invariant.high in
    let e : at + 1 ≡ c.loop-at.at = omega arith in
    let low : s.height ≤ at = omega arith in
    let inside : at < length s.pieces.items = omega arith in
    sym c.loop-at.invariant.rest ∙ down-parted (context_of c.args.scope.now) s c.loop-at.at at c.index.result.now c.in-Some.parted e low inside c.index.ensures c.in-Some.ensures

pub returns-in-Some-clause-lies : goal.returns-in-Some-clause-lies
returns-in-Some-clause-lies c =
    let s = c.args.self.now in
    let at = c.loop-at.at - 1 in
    let high = c.loop-at.invariant.high in
    let low : s.height ≤ at = omega arith in
    let inside : at < length s.pieces.items = omega arith in
    lies-inside (context_of c.args.scope.now) s at c.in-Some.parted.part low inside

pub loop-at-preserved : goal.loop-at-preserved
loop-at-preserved c =
    let s = c.args.self.now in
    let at = c.loop-at.at - 1 in
    let high = c.loop-at.invariant.high in
    let e : at + 1 ≡ c.loop-at.at = omega arith in
    let low : s.height ≤ at = omega arith in
    let inside : at < length s.pieces.items = omega arith in
    record {
      rest = down-skip (context_of c.args.scope.now) s c.loop-at.at at c.index.result.now e low inside c.index.ensures c.in-None.ensures ∙ c.loop-at.invariant.rest;
      low = low;
      high = omega arith;
    }

pub returns-clause-found : goal.returns-clause-found
returns-clause-found c = sym c.loop-at.invariant.rest ∙ down-none (context_of c.args.scope.now) c.args.self.now c.loop-at.at c.loop-at-test.false
