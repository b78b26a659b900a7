use Rattle.std.proofs.Common.{◌∙◌, refl, sym, true, false}
use Rattle.comp_instances.proofs.InstanceLemmas.{inline_answered}
use Rattle.comp_instances.proofs.instances.inline_fault.Goals as goal

pub returns-then-not-differ : goal.returns-then-not-differ
returns-then-not-differ c = λ around s h k. inline_answered around s c.args.exports.now false _ _ k (sym c.if-not-differ.true ∙ c.in_ok-differ.ensures) refl refl

pub returns-then-not-names_are_legal : goal.returns-then-not-names_are_legal
returns-then-not-names_are_legal c = λ around s h k.
    inline_answered around s c.args.exports.now true false _ k (sym c.if-not-differ.false ∙ c.in_ok-differ.ensures) c.if-not-names_are_legal.ensures refl

pub returns-then-not-fit : goal.returns-then-not-fit
returns-then-not-fit c = λ around s h k.
    inline_answered around s c.args.exports.now true true false k (sym c.if-not-differ.false ∙ c.in_ok-differ.ensures) c.if-not-names_are_legal.ensures (sym c.if-not-fit.true ∙ c.in_ok-fit.ensures s h)

pub returns : goal.returns
returns c = λ around s h k.
    inline_answered around s c.args.exports.now true true true k (sym c.if-not-differ.false ∙ c.in_ok-differ.ensures) c.if-not-names_are_legal.ensures (sym c.if-not-fit.false ∙ c.in_ok-fit.ensures s h)
