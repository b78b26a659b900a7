use Rattle.std.proofs.Common.{◌∙◌, sym}
use Rattle.wasm_ast.specs.declared.component.Alias.TheVariants.{CoreExport}
use Rattle.comp_scopes.proofs.JudgedLemmas.{broken_alias, valid_alias}
use Rattle.comp_scopes.proofs.RestLemmas.{rest-some_core_item, rest-other}
use Rattle.comp_scopes.proofs.core_definitions.define_core_alias.Goals as goal

pub returns-in-Some : goal.returns-in-Some
returns-in-Some c = λ around s h.
    broken_alias around s (CoreExport c.args.sort c.args.instance c.args.name.now) c.args.scope.now c.in-Some.rule (sym c.in-Some.is ∙ c.core_alias_fault.ensures around s h.core)

pub returns-in_ok-add_core_alias-in-None : goal.returns-in_ok-add_core_alias-in-None
returns-in_ok-add_core_alias-in-None c = λ around s h.
    valid_alias around s (CoreExport c.args.sort c.args.instance c.args.name.now) _ (sym c.in-None.is ∙ c.core_alias_fault.ensures around s h.core)
    (record {
      core = c.in_ok-add_core_alias-in-None.ensures around s c.args.sort h.core;
      rest = rest-some_core_item s _ _ (rest-other s c.args.scope.now c.add_core_alias.new.scope h.rest);
    })
