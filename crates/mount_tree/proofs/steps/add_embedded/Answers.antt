use Rattle.std.proofs.Common.{List, Ok, Err, subst}
use Rattle.policy_data.specs.declared.data.Link.{Link}
use Rattle.mount_tree.specs.Runs.{Says, each}
use Rattle.mount_tree.specs.Building.{folder_step, link_step}
use Rattle.std.proofs.lemmas.Result.{err_from_is_err_and}
use Rattle.mount_tree.proofs.StepLemmas.{files_refused, folders_refused, links_added}
use Rattle.mount_tree.proofs.TargetLemmas.{links_targets}
use Rattle.mount_tree.proofs.steps.add_embedded.Goals as goal

pub returns-in_err-filed-clause-gives : goal.returns-in_err-filed-clause-gives
returns-in_err-filed-clause-gives g c =
    let p = err_from_is_err_and c.from_residual.result c.from_residual.ensures.1 in
    rw (p.1, p.2) (files_refused _ _ c.args.making c.args.embedded.now c.in_err-filed.field-0.0 (rw c.as_slice.ensures at c.in_err-filed.ensures.gives))

pub returns-in_err-housed-clause-gives : goal.returns-in_err-housed-clause-gives
returns-in_err-housed-clause-gives g c =
    let p = err_from_is_err_and c.from_residual-in_err-housed.result c.from_residual-in_err-housed.ensures.1 in
    let refused = subst (λ (fs : List _). Says (each folder_step c.in_ok-filed.filed fs).answer (Err c.in_err-housed.field-0.0)) c.as_slice-2.ensures c.in_err-housed.ensures in
    rw (p.1, p.2) (folders_refused _ _ c.args.making c.args.embedded.now c.in_ok-filed.filed c.in_err-housed.field-0.0 (rw c.as_slice.ensures at c.in_ok-filed.ensures.gives) refused)

pub returns-clause-gives : goal.returns-clause-gives
returns-clause-gives g c =
    let housed = subst (λ (fs : List _). Says (each folder_step c.in_ok-filed.filed fs).answer (Ok c.in_ok-housed.housed)) c.as_slice-2.ensures c.in_ok-housed.ensures in
    let linked = subst (λ (ls : List Link). Says (each (λ s (link : Link). link_step s link.path link.target) c.in_ok-housed.housed ls).answer c.add_links.result) c.as_slice-3.ensures c.add_links.ensures in
    links_added _ _ c.args.making c.args.embedded.now c.in_ok-filed.filed c.in_ok-housed.housed c.add_links.result (rw c.as_slice.ensures at c.in_ok-filed.ensures.gives) housed linked

pub returns-clause-targets : goal.returns-clause-targets
returns-clause-targets g c =
    let housed = subst (λ (fs : List _). Says (each folder_step c.in_ok-filed.filed fs).answer (Ok c.in_ok-housed.housed)) c.as_slice-2.ensures c.in_ok-housed.ensures in
    let linked = subst (λ (ls : List Link). Says (each (λ s (link : Link). link_step s link.path link.target) c.in_ok-housed.housed ls).answer c.add_links.result) c.as_slice-3.ensures c.add_links.ensures in
    links_targets c.args.embedded.now c.args.making c.in_ok-filed.filed c.in_ok-housed.housed c.add_links.result c.in_ok-filed.ensures.targets housed linked
