use Rattle.std.proofs.Common.{rules}
use Rattle.comp_grammar.specs.Trees.{plain}
use Rattle.component_judge.proofs.Judging.{too_long, unread, much_code, invalid, leaves_sound}
use Rattle.component_judge.proofs.component.sound_component.Goals as goal

pub returns-in_err-test_length : goal.returns-in_err-test_length
returns-in_err-test_length c =
    leaves_sound c.args.purpose c.args.bytes.now c.from_residual.result c.in_err-test_length.field-0.0 (search (rules, c.from_residual.ensures))
    (too_long c.args.purpose c.args.bytes.now c.in_err-test_length.field-0.0 c.in_err-test_length.ensures)

pub returns-in_err-component : goal.returns-in_err-component
returns-in_err-component c =
    leaves_sound c.args.purpose c.args.bytes.now c.from_residual-in_err-component.result c.in_err-component.field-0.0 (search (rules, c.from_residual-in_err-component.ensures))
    (unread c.args.purpose c.args.bytes.now c.in_err-component.field-0.0 c.in_ok-test_length.ensures c.in_err-component.ensures)

pub returns-in_err-test_code : goal.returns-in_err-test_code
returns-in_err-test_code c =
    leaves_sound c.args.purpose c.args.bytes.now c.from_residual-in_err-test_code.result c.in_err-test_code.field-0.0 (search (rules, c.from_residual-in_err-test_code.ensures))
    (much_code c.args.purpose c.args.bytes.now (plain c.in_ok-component.component) c.in_err-test_code.field-0.0 c.in_ok-test_length.ensures c.in_ok-component.ensures c.in_err-test_code.ensures)

pub returns-in_err-ty : goal.returns-in_err-ty
returns-in_err-ty c =
    leaves_sound c.args.purpose c.args.bytes.now c.from_residual-in_err-ty.result c.in_err-ty.field-0.0 (search (rules, c.from_residual-in_err-ty.ensures))
    (invalid c.args.purpose c.args.bytes.now (plain c.in_ok-component.component) c.in_err-ty.field-0.0
    (record { short = c.in_ok-test_length.ensures; spelled = c.in_ok-component.ensures; code = c.in_ok-test_code.ensures }) c.in_err-ty.ensures)

pub returns : goal.returns
returns c = (
  record { small = record { short = c.in_ok-test_length.ensures; spelled = c.in_ok-component.ensures; code = c.in_ok-test_code.ensures }; valid = c.in_ok-ty.ensures.0 },
  c.in_ok-ty.ensures.1,
)
