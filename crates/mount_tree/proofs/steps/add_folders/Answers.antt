use Rattle.std.proofs.Common.{◌≡◌, ◌∙◌, ℕ, List, true, Ok, Err, sym, subst}
use Rattle.path_names.specs.Paths.{is_path}
use Rattle.mount_tree.specs.Runs.{Says}
use Rattle.std.proofs.lemmas.Result.{err_from_is_err_and}
use Rattle.mount_tree.specs.Building.{folder_step}
use Rattle.mount_tree.proofs.Follows.{each_refused, each_says}
use Rattle.mount_tree.proofs.LegalLemmas.{first-holds, rest-holds}
use Rattle.mount_tree.proofs.steps.add_folders.Goals as goal

abbrev has_path : List ℕ → Type 0
has_path folder = is_path folder ≡ true

pub add_folder-requires : goal.add_folder-requires
add_folder-requires c =
    subst has_path (sym c.as_str.ensures)
    (first-holds has_path c.loop-folder.rest.now c.in-Some.more.now c.in-Some.folder.now c.in-Some.ensures.cases.0 c.loop-folder.invariant.paths)

pub returns-in_err-made : goal.returns-in_err-made
returns-in_err-made c =
    let p = err_from_is_err_and c.from_residual.result c.from_residual.ensures.1 in
    rw (p.1, p.2) (each_refused folder_step c.args.making c.loop-folder.made c.args.folders.now c.loop-folder.rest.now c.in-Some.more.now c.in-Some.folder.now
    c.in_err-made.field-0.0 c.loop-folder.invariant.due c.in-Some.ensures.cases.0 (subst (λ (q : List ℕ). Says (folder_step c.loop-folder.made q).answer (Err c.in_err-made.field-0.0)) c.as_str.ensures c.in_err-made.ensures))

pub loop-folder-preserved : goal.loop-folder-preserved
loop-folder-preserved c = record {
  due = c.loop-folder.invariant.due ∙ each_says folder_step c.loop-folder.made c.in_ok-made.made c.loop-folder.rest.now c.in-Some.more.now c.in-Some.folder.now c.in-Some.ensures.cases.0
      (subst (λ (q : List ℕ). (folder_step c.loop-folder.made q).answer ≡ Ok c.in_ok-made.made) c.as_str.ensures c.in_ok-made.ensures);
  paths = rest-holds has_path c.loop-folder.rest.now c.in-Some.more.now c.in-Some.folder.now c.in-Some.ensures.cases.0 c.loop-folder.invariant.paths;
}
