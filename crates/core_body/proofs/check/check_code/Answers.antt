use Rattle.std.proofs.Common.{◌≡◌, ◌+◌, ℕ, Option, ap, ◌∙◌, sym, arith, drop, List, []}
use Rattle.std.proofs.Math.ListN.{drop_of_length-le}
use Rattle.wasm_ast.specs.declared.instr.Instr.{Instr}
use Rattle.core_body.specs.Conditions.{lesser, least, code_conditions}
use Rattle.core_body.specs.Faults.{with_types, first_labels}
use Rattle.core_body.specs.Levels.{state_at}
use Rattle.core_body.specs.Machine.{State, run, start, is_finished}
use Rattle.core_body.specs.Views.{context_of}
use Rattle.core_body.proofs.CodeLemmas.{rule-goes, run-goes, behind-bound}
use Rattle.core_body.proofs.check.check_code.Goals as goal

pub loop-instr-preserved : goal.loop-instr-preserved
loop-instr-preserved c =
    let d = context_of c.args.scope.now in
    let b = c.args.scope.now.in_body in
    let is = c.args.code.now in
    let i = c.loop-instr.instr-index in
    let x = c.instr-item.result in
    let now = c.loop-instr.labels in
    let e = c.labels_behind-labels.ensures in
    let behind = behind-bound now x in
    let bound = c.loop-instr.invariant.bound in
    record {
      bound = omega arith;
      rule = ap (λ (r : Option ℕ). lesser r (least d (code_conditions b c.labels_behind-labels.result (drop (i + 1) is)))) c.lesser-rule.ensures
          ∙ ap (λ (n : ℕ). lesser (lesser c.loop-instr.rule c.breach.result) (least d (code_conditions b n (drop (i + 1) is)))) e
          ∙ rule-goes d b now is i x c.loop-instr.rule c.breach.result c.loop-instr-test.true c.instr-item.is c.breach.ensures
          ∙ c.loop-instr.invariant.rule;
      state = ap (λ (s : State). run d s (drop (i + 1) is)) c.in_ok-verdict.ensures
          ∙ run-goes d (state_at d c.loop-instr.verdict c.loop-instr.p) is i x c.loop-instr-test.true c.instr-item.is
          ∙ c.loop-instr.invariant.state;
    }

pub returns : goal.returns
returns c =
    let d = context_of c.args.scope.now in
    let b = c.args.scope.now.in_body in
    let is = c.args.code.now in
    let i = c.loop-instr.instr-index in
    let none : drop i is ≡ [] = drop_of_length-le is c.loop-instr-test.false in
    let rule : c.loop-instr.rule ≡ least d (code_conditions b (first_labels b) is) =
    ap (λ (l : List Instr). lesser c.loop-instr.rule (least d (code_conditions b c.loop-instr.labels l))) (sym none) ∙ c.loop-instr.invariant.rule in
    let state : state_at d c.loop-instr.verdict c.loop-instr.p ≡ run d (start d) is =
    ap (run d (state_at d c.loop-instr.verdict c.loop-instr.p)) (sym none) ∙ c.loop-instr.invariant.state in
    c.with_types.ensures
    ∙ ap (with_types c.loop-instr.rule) (c.is_over.ensures d c.loop-instr.p ∙ ap is_finished state)
    ∙ ap (λ (r : Option ℕ). with_types r (is_finished (run d (start d) is))) rule
