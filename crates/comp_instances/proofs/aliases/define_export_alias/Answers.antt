use Rattle.wasm_ast.specs.declared.component.Alias.TheVariants.{Export}
use Rattle.comp_scopes.proofs.JudgedLemmas.{broken_alias, valid_alias}
use Rattle.comp_instances.proofs.aliases.define_export_alias.Goals as goal

pub returns-in-Some : goal.returns-in-Some
returns-in-Some c = λ around s h. broken_alias around s (Export c.args.sort c.args.instance c.args.name.now) c.args.scope.now c.in-Some.rule (c.in-Some.ensures around s h)

pub returns-in_ok-add_export-in-None : goal.returns-in_ok-add_export-in-None
returns-in_ok-add_export-in-None c = λ around s h. valid_alias around s (Export c.args.sort c.args.instance c.args.name.now) c.add_export.new.scope (c.in-None.ensures around s h) (c.in_ok-add_export-in-None.ensures s h)
