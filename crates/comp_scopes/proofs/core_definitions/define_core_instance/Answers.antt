use Rattle.std.proofs.Common.{◌∙◌, sym}
use Rattle.comp_scopes.proofs.JudgedLemmas.{broken_core_instance, valid_core_instance}
use Rattle.comp_scopes.proofs.RestLemmas.{rest-core_instance, rest-other}
use Rattle.comp_scopes.proofs.core_definitions.define_core_instance.Goals as goal

pub returns-in-Some : goal.returns-in-Some
returns-in-Some c = λ around s h.
    broken_core_instance around s c.args.instance.now c.args.scope.now c.in-Some.rule (sym c.in-Some.is ∙ c.in_ok-rule.ensures around s h.core (c.lengths-lengths.ensures s h))

pub returns-in_ok-add_core_instance-in-None : goal.returns-in_ok-add_core_instance-in-None
returns-in_ok-add_core_instance-in-None c = λ around s h.
    valid_core_instance around s c.args.instance.now _ (sym c.in-None.is ∙ c.in_ok-rule.ensures around s h.core (c.lengths-lengths.ensures s h))
    (record { core = c.in_ok-add_core_instance-in-None.ensures around s h.core; rest = rest-core_instance s _ _ (rest-other s c.args.scope.now c.add_core_instance.new.scope h.rest) })
