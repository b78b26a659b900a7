use Rattle.std.proofs.Common.{◌∙◌, ap, refl, arith}
use Rattle.wit_types.specs.Plain.{plain, plain_func}
use Rattle.wit_types.specs.Limits.{parts}
use Rattle.instance_state.proofs.Forms.{record_params, tuple_result}
use Rattle.instance_state.proofs.passed_func.PassedFunc.new.Goals as goal

pub params-requires : goal.params-requires
params-requires c =
    let is = ap parts (record_params c.in_ok-new.field-0 c.in_ok-params.field-0.params c.in_ok-params.field-0 (plain_func c.args.func.now) c.in_ok-new.ensures.ok refl c.in_ok-params.ensures) in
    omega (arith, is, c.requires.params)

pub result-requires : goal.result-requires
result-requires c =
    let is =
    ap parts
    (tuple_result c.in_ok-new-2.field-0 c.in_ok-answer.answer c.in_ok-params.field-0.result c.in_ok-params.field-0 (plain_func c.args.func.now) c.in_ok-new-2.ensures.ok c.in_ok-answer.ensures refl c.in_ok-params.ensures) in
    omega (arith, is, c.requires.result)

pub returns : goal.returns
returns c = record {
  params =
      ap plain c.params.ensures.ty
      ∙ record_params c.in_ok-new.field-0 c.in_ok-params.field-0.params c.in_ok-params.field-0 (plain_func c.args.func.now) c.in_ok-new.ensures.ok refl c.in_ok-params.ensures;
  most = c.params.ensures.most;
  result =
      ap plain c.result.ensures.ty
      ∙ tuple_result c.in_ok-new-2.field-0 c.in_ok-answer.answer c.in_ok-params.field-0.result c.in_ok-params.field-0 (plain_func c.args.func.now) c.in_ok-new-2.ensures.ok c.in_ok-answer.ensures refl c.in_ok-params.ensures;
  most_flat = c.result.ensures.most;
}
