use Rattle.std.proofs.Common.{◌∙◌, sym}
use Rattle.comp_instances.proofs.FaultLemmas.{broken_import, valid_import}
use Rattle.comp_instances.proofs.imports.define_described.Goals as goal

pub returns-in-Some : goal.returns-in-Some
returns-in-Some c = λ around s h t stands k. broken_import around s c.args.import.now c.args.scope.now c.in-Some.rule (sym c.in-Some.is ∙ c.in_ok-rule.ensures around s h t stands k.item)

pub returns-in_ok-add_import-in-None : goal.returns-in_ok-add_import-in-None
returns-in_ok-add_import-in-None c = λ around s h t stands k.
    valid_import around s c.args.import.now c.add_import.new.scope (sym c.in-None.is ∙ c.in_ok-rule.ensures around s h t stands k.item) (c.in_ok-add_import-in-None.ensures s h k)
