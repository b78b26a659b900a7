use Rattle.std.proofs.Common.{◌≡◌, ℕ, List, true, sym, subst, le_refl, arith}
use Rattle.std.proofs.lemmas.Result.{err_from_is_err_and}
use Rattle.path_names.specs.Paths.{is_path}
use Rattle.policy_data.specs.declared.data.EmbeddedFile.{EmbeddedFile}
use Rattle.mount_tree.specs.Building.{file_step}
use Rattle.mount_tree.proofs.Follows.{each_on, each_stop, follows_start}
use Rattle.mount_tree.proofs.LegalLemmas.{first-holds, rest-holds}
use Rattle.mount_tree.proofs.steps.add_files.Goals as goal

abbrev has_path : EmbeddedFile → Type 0
has_path file = is_path file.path ≡ true

pub loop-file-init : goal.loop-file-init
loop-file-init g c = record { due = follows_start _ _; paths = c.requires; targets = le_refl _ }

pub add_file-requires : goal.add_file-requires
add_file-requires g c =
    subst (λ (p : List ℕ). is_path p ≡ true) (sym c.as_str.ensures)
    (first-holds has_path c.loop-file.rest.now c.in-Some.more.now c.in-Some.file.now c.in-Some.ensures.cases.0 c.loop-file.invariant.paths)

pub returns-in_err-made-clause-gives : goal.returns-in_err-made-clause-gives
returns-in_err-made-clause-gives g c =
    let p = err_from_is_err_and c.from_residual.result c.from_residual.ensures.1 in
    rw (p.1, p.2) (each_stop _ (λ held s (file : EmbeddedFile). file_step held s file.path file.content) c.loop-file.made c.loop-file.rest.now c.in-Some.more.now c.in-Some.file.now
    c.in_err-made.field-0.0 _ _ _ c.loop-file.invariant.due c.in-Some.ensures.cases.0 (rw c.as_str.ensures at c.in_err-made.ensures.gives))

pub loop-file-preserved : goal.loop-file-preserved
loop-file-preserved g c = record {
  due = each_on _ (λ held s (file : EmbeddedFile). file_step held s file.path file.content) c.loop-file.made c.in_ok-made.made c.loop-file.rest.now c.in-Some.more.now c.in-Some.file.now
      _ _ _ c.loop-file.invariant.due c.in-Some.ensures.cases.0 (rw c.as_str.ensures at c.in_ok-made.ensures.gives);
  paths = rest-holds has_path c.loop-file.rest.now c.in-Some.more.now c.in-Some.file.now c.in-Some.ensures.cases.0 c.loop-file.invariant.paths;
  targets = omega (arith, c.in_ok-made.ensures.targets, c.loop-file.invariant.targets);
}
