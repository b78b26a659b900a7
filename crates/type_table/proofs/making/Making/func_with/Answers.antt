use Rattle.std.proofs.Common.{◌≡◌, ◌∙◌, ap, refl, sym, subst, true}
use Rattle.wit_types.specs.declared.types.Fields.{out-roll-Fields}
use Rattle.wit_types.specs.Plain.{PlainFunc, plain_func, plain_result, fields_of}
use Rattle.comp_facts.specs.Handles.{func_has_handle}
use Rattle.comp_facts.specs.Facts.{IsFuncFactsOf}
use Rattle.comp_types.specs.Substitution.{partner_in, answer_with}
use Rattle.type_table.specs.Tables.{IsSound, HasAnswer}
use Rattle.type_table.proofs.MakingLemmas.{func-stays, func-grew_first, func-grew_both, func-made}
use Rattle.type_table.proofs.making.Making.func_with.Goals as goal

pub returns-then-not-has_handle-clause-made : goal.returns-then-not-has_handle-clause-made
returns-then-not-has_handle-clause-made c =
    let old = c.args.known.now.value in
    let facts = subst (λ p. IsFuncFactsOf p c.facts-facts.result.now) c.deref.ensures c.facts-facts.ensures in
    func-stays c.args.self.now.types (partner_in c.args.self.now.by) old c.in_ok-same.same.value (sym (c.has_handle.ensures old facts) ∙ c.if-not-has_handle.true) c.in_ok-same.ensures

pub returns-in_err-items-clause-grew : goal.returns-in_err-items-clause-grew
returns-in_err-items-clause-grew c =
    let old = c.args.known.now.value in
    let facts = subst (λ p. IsFuncFactsOf p c.facts-facts.result.now) c.deref.ensures c.facts-facts.ensures in
    let some : func_has_handle old ≡ true = sym (c.has_handle.ensures old facts) ∙ c.if-not-has_handle.false in
    func-grew_first c.args.self.now.types c.params_with.new.self.types old some c.params_with.ensures.grew

pub returns-in_err-result-clause-grew : goal.returns-in_err-result-clause-grew
returns-in_err-result-clause-grew c =
    let old = c.args.known.now.value in
    let facts = subst (λ p. IsFuncFactsOf p c.facts-facts.result.now) c.deref.ensures c.facts-facts.ensures in
    let some : func_has_handle old ≡ true = sym (c.has_handle.ensures old facts) ∙ c.if-not-has_handle.false in
    func-grew_both c.args.self.now.types c.params_with.new.self.types old some c.params_with.ensures.grew c.answer_with.new.self.types c.answer_with.ensures.grew

pub returns-in_err-new-clause-grew : goal.returns-in_err-new-clause-grew
returns-in_err-new-clause-grew c =
    let old = c.args.known.now.value in
    let facts = subst (λ p. IsFuncFactsOf p c.facts-facts.result.now) c.deref.ensures c.facts-facts.ensures in
    let some : func_has_handle old ≡ true = sym (c.has_handle.ensures old facts) ∙ c.if-not-has_handle.false in
    func-grew_both c.args.self.now.types c.params_with.new.self.types old some c.params_with.ensures.grew c.answer_with.new.self.types c.answer_with.ensures.grew

pub returns-clause-grew : goal.returns-clause-grew
returns-clause-grew c =
    let old = c.args.known.now.value in
    let facts = subst (λ p. IsFuncFactsOf p c.facts-facts.result.now) c.deref.ensures c.facts-facts.ensures in
    let some : func_has_handle old ≡ true = sym (c.has_handle.ensures old facts) ∙ c.if-not-has_handle.false in
    func-grew_both c.args.self.now.types c.params_with.new.self.types old some c.params_with.ensures.grew c.answer_with.new.self.types c.answer_with.ensures.grew

pub returns-clause-made : goal.returns-clause-made
returns-clause-made c =
    let old = c.args.self.now in
    let mid = c.params_with.new.self in
    let new = c.answer_with.new.self in
    let f = partner_in old.by in
    let ty = c.args.known.now.value in
    let facts = subst (λ p. IsFuncFactsOf p c.facts-facts.result.now) c.deref.ensures c.facts-facts.ensures in
    let some : func_has_handle ty ≡ true = sym (c.has_handle.ensures ty facts) ∙ c.if-not-has_handle.false in
    let read : plain_func c.ty-ty.result.now ≡ ty = c.ty-ty.ensures ∙ c.deref-2.ensures in
    let xs = fields_of c.deref-3.result.now in
    let o = plain_result c.ty-ty.result.now.result in
    let ps = fields_of c.in_ok-items.items.items in
    let a = plain_result c.in_ok-result.result in
    let made : c.in_ok-new.field-0.value ≡ record { params = ps; answer = a } = c.in_ok-new.ensures.ok ∙ (c.new.ensures ∙ rw out-roll-Fields refl) in
    func-made old.types mid.types ty some c.params_with.ensures.grew new.types c.answer_with.ensures.grew f xs ps o a c.in_ok-new.field-0.value
    (ap fields_of c.deref-3.ensures.value ∙ ap (λ (x : PlainFunc). x.params) read) (ap (λ (x : PlainFunc). x.answer) read) made
    c.in_ok-items.ensures.made
    (subst (λ by. IsSound mid.types → HasAnswer mid.types o → (a ≡ answer_with (partner_in by) o) × HasAnswer new.types a) c.params_with.ensures.by c.in_ok-result.ensures.made)
