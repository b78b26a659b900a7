use Rattle.std.proofs.Common.{rules, ◌∙◌, ap, map}
use Rattle.comp_grammar.specs.Trees.{plain}
use Rattle.host_port.specs.Hosts.{Kept}
use Rattle.host_port.specs.Scripts.{Script, script}
use Rattle.host_script.specs.Script.{item_seen}
use Rattle.host_script.specs.Hosts.{kept_by}
use Rattle.component_judge.specs.Callable.{callable}
use Rattle.reference_step.specs.State.{Reference, opening}
use Rattle.reference_step.specs.Steps.{reference_step}
use Rattle.reference_host.specs.Hosts.{setup_for, kept_by as referenced_by}
use Rattle.mount_tree.proofs.BuiltTexts.{built_texts}
use Rattle.virt_engine.proofs.ComponentRuns.{shown_over}
use Rattle.virt_engine.proofs.Showing.{under_no_policy, under_no_inputs, under_no_trees, under_shown}
use Rattle.virt_engine.proofs.running.show_under.Goals as goal

pub returns-in_err-policy : goal.returns-in_err-policy
returns-in_err-policy g c = under_no_policy _ _ _ _ c.in_err-policy.field-0.0 c.from_residual.result (search (rules, c.from_residual.ensures)) c.in_err-policy.ensures

pub returns-in_err-inputs : goal.returns-in_err-inputs
returns-in_err-inputs g c =
    under_no_inputs _ _ _ _ c.in_ok-policy.policy c.in_ok-policy.ensures _ c.in_err-inputs.field-0.0 c.from_residual-in_err-inputs.result (search (rules, c.from_residual-in_err-inputs.ensures)) c.in_err-inputs.ensures

pub returns-in_err-trees : goal.returns-in_err-trees
returns-in_err-trees g c =
    under_no_trees _ _ _ _ c.in_ok-policy.policy c.in_ok-policy.ensures _ c.in_ok-inputs.inputs c.in_ok-inputs.ensures _ c.in_err-trees.field-0.0 c.from_residual-in_err-trees.result
    (search (rules, c.from_residual-in_err-trees.ensures)) c.in_err-trees.ensures

pub new-requires-2-clause-texts : goal.new-requires-2-clause-texts
new-requires-2-clause-texts g c = built_texts c.in_ok-trees.trees c.in_ok-trees.ensures.built

pub returns : goal.returns
returns g c =
    let inputs = c.in_ok-inputs.inputs in
    let setup = setup_for c.in_ok-policy.policy c.in_ok-trees.trees inputs.listed.uses in
    under_shown _ _ _ _ c.in_ok-policy.policy c.in_ok-policy.ensures _ inputs c.in_ok-inputs.ensures _ c.in_ok-trees.trees c.in_ok-trees.ensures c.in_ok-shown.shown c.in_ok-shown.ensures.ends
    (shown_over (plain inputs.inputs.judged.component) (reference_step script) (callable inputs.inputs.judged.ty.exports) (referenced_by kept_by c.in_ok-host.host) (opening setup (map item_seen inputs.inputs.scripted.script.answers))
    inputs.inputs.scripted.script.calls c.as_slice.result.now _ c.in_ok-shown.shown c.as_slice.ensures
    (ap (λ (k : Kept (Reference Script)). k.state) c.in_ok-host.ensures.kept ∙ ap (opening setup) c.new.ensures.state)
    (ap (λ (k : Kept (Reference Script)). k.seen) c.in_ok-host.ensures.kept ∙ c.new.ensures.seen) c.in_ok-inputs.ensures.ready.scripted.typed c.in_ok-shown.ensures.told)
