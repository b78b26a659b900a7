use Rattle.std.proofs.Common.{◌∙◌, sym}
use Rattle.comp_instances.proofs.FaultLemmas.{broken_declared, valid_declared}
use Rattle.comp_instances.proofs.declares.define_described.Goals as goal

pub returns-in-Some : goal.returns-in-Some
returns-in-Some c = λ around s h stands k. broken_declared around s c.args.name.now c.args.desc c.args.scope.now c.in-Some.rule (sym c.in-Some.is ∙ c.in_ok-rule.ensures around s h stands k.item)

pub returns-in_ok-add_type_export-in-None : goal.returns-in_ok-add_type_export-in-None
returns-in_ok-add_type_export-in-None c = λ around s h stands k.
    valid_declared around s c.args.name.now c.args.desc c.add_type_export.new.scope (sym c.in-None.is ∙ c.in_ok-rule.ensures around s h stands k.item) (c.in_ok-add_type_export-in-None.ensures s h k)
