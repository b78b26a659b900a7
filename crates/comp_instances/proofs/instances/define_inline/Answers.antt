use Rattle.std.proofs.Common.{◌∙◌, sym}
use Rattle.comp_instances.proofs.InstanceLemmas.{broken_inline, valid_inline}
use Rattle.comp_instances.proofs.instances.define_inline.Goals as goal

pub returns-in-Some : goal.returns-in-Some
returns-in-Some c = λ around s h k. broken_inline around s c.args.exports.now c.args.scope.now c.in-Some.rule (sym c.in-Some.is ∙ c.in_ok-rule.ensures around s h k)

pub returns-in_ok-add_inline-in-None : goal.returns-in_ok-add_inline-in-None
returns-in_ok-add_inline-in-None c = λ around s h k.
    valid_inline around s c.args.exports.now c.add_inline.new.scope (sym c.in-None.is ∙ c.in_ok-rule.ensures around s h k) (c.in_ok-add_inline-in-None.ensures s h)
