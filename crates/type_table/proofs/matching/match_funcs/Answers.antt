use Rattle.std.proofs.Common.{◌≡◌, ◌∙◌, ap}
use Rattle.wit_types.specs.Plain.{PlainFunc, fields_of, plain_result}
use Rattle.type_table.proofs.WalkParts.{walks-func}
use Rattle.type_table.proofs.matching.match_funcs.Goals as goal

pub returns-clause-met : goal.returns-clause-met
returns-clause-met c =
    let a = c.args.a.now in
    let b = c.args.b.now in
    let ps = fields_of c.deref.result.now in
    let qs = fields_of c.deref-2.result.now in
    let p = plain_result c.ty-first.result.now.result in
    let q = plain_result c.ty-second.result.now.result in
    let g : ps ≡ a.params = ap fields_of c.deref.ensures.value ∙ ap (λ (f : PlainFunc). f.params) c.ty-first.ensures in
    let h : qs ≡ b.params = ap fields_of c.deref-2.ensures.value ∙ ap (λ (f : PlainFunc). f.params) c.ty-second.ensures in
    let e : p ≡ a.answer = ap (λ (f : PlainFunc). f.answer) c.ty-first.ensures in
    let f : q ≡ b.answer = ap (λ (f : PlainFunc). f.answer) c.ty-second.ensures in
    walks-func c.args.types.now c.args.walked.now c.match_parameters.new.walked c.match_answer.new.walked a b ps qs p q c.in_ok-match_parameters.field-0 c.in_ok-same.same g h e f
    c.in_ok-match_parameters.ensures.met c.if-not-branch.false c.in_ok-same.ensures.met
