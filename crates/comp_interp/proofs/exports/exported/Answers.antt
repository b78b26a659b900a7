use Rattle.std.proofs.Common.{◌∙◌, ap, sym}
use Rattle.std.specs.Option.{option_map}
use Rattle.instance_state.specs.Targets.{target_of}
use Rattle.comp_interp.proofs.Exported.{inside_answer, nothing_answer, not_empty}
use Rattle.comp_interp.proofs.exports.exported.Goals as goal

pub returns-in_err-items : goal.returns-in_err-items
returns-in_err-items c = λ before givens are h.
    ap (option_map (λ t. target_of t.now)) c.from_residual.ensures
    ∙ nothing_answer before c.args.made.now.items c.args.exports.now givens c.args.names.now.interface c.args.names.now.function c.get-2.result are h
    (not_empty c.as_str.result.now c.args.names.now.interface c.is_empty.result c.if-is_empty.false c.is_empty.ensures c.as_str.ensures) c.get-2.ensures (sym (ap (option_map (λ i. i.now)) (c.in_err-items.was {u = tt})) ∙ c.instance_in.ensures)

pub returns : goal.returns
returns c = λ before givens are h.
    inside_answer before c.args.made.now.items c.args.exports.now c.in_ok-items.items.now givens c.args.names.now.interface c.args.names.now.function c.get-2.result c.get-3.result c.function_in-2.result are h
    (not_empty c.as_str.result.now c.args.names.now.interface c.is_empty.result c.if-is_empty.false c.is_empty.ensures c.as_str.ensures) c.get-2.ensures (sym (ap (option_map (λ i. i.now)) (c.in_ok-items.was {u = tt})) ∙ c.instance_in.ensures) c.get-3.ensures c.function_in-2.ensures
