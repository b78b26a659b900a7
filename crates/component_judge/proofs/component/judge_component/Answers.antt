use Rattle.std.proofs.Common.{rules}
use Rattle.comp_grammar.specs.Trees.{plain}
use Rattle.comp_signature.specs.Signatures.{component_signature}
use Rattle.component_judge.specs.declared.limits.Purpose.TheVariants.{Run}
use Rattle.component_judge.specs.Components.{IsUnfit}
use Rattle.component_judge.proofs.Judging.{before_type, misfit, leaves}
use Rattle.component_judge.proofs.component.judge_component.Goals as goal

pub returns-in_err-judged : goal.returns-in_err-judged
returns-in_err-judged c =
    leaves c.args.bytes.now c.from_residual.result c.in_err-judged.field-0.0 (search (rules, c.from_residual.ensures)) (before_type Run IsUnfit c.args.bytes.now c.in_err-judged.field-0.0 c.in_err-judged.ensures)

pub returns-in_err-test_type : goal.returns-in_err-test_type
returns-in_err-test_type c =
    leaves c.args.bytes.now c.from_residual-in_err-test_type.result c.in_err-test_type.field-0.0 (search (rules, c.from_residual-in_err-test_type.ensures))
    (misfit c.args.bytes.now (plain c.in_ok-judged.judged.component) (component_signature c.in_ok-judged.judged.ty) c.in_err-test_type.field-0.0
    c.in_ok-judged.ensures.0 c.in_ok-judged.ensures.1 c.in_err-test_type.ensures)

pub returns : goal.returns
returns c = (record { sound = c.in_ok-judged.ensures.0; fits = search (rules, c.in_ok-test_type.ensures, c.in_ok-judged.ensures.1) }, c.in_ok-judged.ensures.1)
