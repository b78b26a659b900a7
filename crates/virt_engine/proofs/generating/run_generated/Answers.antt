use Rattle.std.proofs.Common.{◌∙◌, ap, subst, map, ℕ, List, [], Ok}
use Rattle.comp_grammar.specs.Trees.{plain}
use Rattle.tree_table.specs.declared.entries.NamedTree.{NamedTree}
use Rattle.host_port.specs.Hosts.{Kept}
use Rattle.host_port.specs.Scripts.{Script, script}
use Rattle.host_script.specs.Script.{item_seen}
use Rattle.host_script.specs.Hosts.{kept_by}
use Rattle.component_judge.specs.Applications.{JudgesApplication}
use Rattle.component_judge.specs.Callable.{callable}
use Rattle.component_judge.specs.declared.limits.Purpose.TheVariants.{Run}
use Rattle.reference_step.specs.State.{Reference, opening}
use Rattle.reference_step.specs.Steps.{reference_step}
use Rattle.reference_host.specs.Hosts.{setup_for, kept_by as referenced_by}
use Rattle.virt_engine.specs.Generating.{gen_steps}
use Rattle.virt_engine.proofs.ComponentRuns.{shown_over}
use Rattle.virt_engine.proofs.GenLaws.{setting_of}
use Rattle.virt_engine.proofs.generating.run_generated.Goals as goal

pub returns-clause-runs : goal.returns-clause-runs
returns-clause-runs c =
    let app = c.in_ok-application.application in
    let read = c.in_ok-scripted.scripted in
    let policy = c.in_ok-policy.policy in
    let judges : JudgesApplication Run _ (Ok app) = subst (λ (z : List ℕ). JudgesApplication Run z (Ok app)) (c.as_slice.ensures.value ∙ c.in_ok-bytes.ensures) c.in_ok-application.ensures.listed in
    record {
      setting = setting_of c.args.functions policy app read c.in_ok-policy.ensures.well_formed judges c.in_ok-scripted.ensures.due;
      shows = shown_over (plain app.judged.component) (reference_step script) (callable app.judged.ty.exports) (referenced_by kept_by c.in_ok-host.host) (opening (setup_for policy [] app.listed.uses) (map item_seen read.script.answers))
          read.script.calls c.as_slice-2.result.now gen_steps c.in_ok-shown.shown c.as_slice-2.ensures
          (ap (λ (k : Kept (Reference Script)). k.state) c.in_ok-host.ensures.kept ∙ ap (opening (setup_for policy c.empty-trees.result app.listed.uses)) c.new.ensures.state
          ∙ ap (λ (trees : List NamedTree). opening (setup_for policy trees app.listed.uses) (map item_seen read.script.answers)) c.empty-trees.ensures)
          (ap (λ (k : Kept (Reference Script)). k.seen) c.in_ok-host.ensures.kept ∙ c.new.ensures.seen) c.in_ok-scripted.ensures.typed c.in_ok-shown.ensures.told;
    }
