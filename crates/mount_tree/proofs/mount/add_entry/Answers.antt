use Rattle.std.proofs.Common.{rules, ◌≡◌, ◌∙◌, ℕ, List, true, Ok, Err, sym, ap, subst}
use Rattle.std.proofs.lemmas.Result.{err_from_is_err_and}
use Rattle.outside.specs.declared.files.EntryKind.TheVariants as kinds
use Rattle.path_names.specs.Paths.{is_path}
use Rattle.mount_tree.specs.Legal.{is_entry_name}
use Rattle.mount_tree.specs.Runs.{Says}
use Rattle.mount_tree.specs.Building.{folder_step, inside, below}
use Rattle.mount_tree.proofs.LegalLemmas.{below-path}
use Rattle.mount_tree.proofs.MountLemmas.{enter_folder, enter_no_folder}
use Rattle.mount_tree.proofs.TargetLemmas.{folder_targets}
use Rattle.mount_tree.proofs.mount.add_entry.Goals as goal

pub returns-in_err-making-in-Folder-clause-enters : goal.returns-in_err-making-in-Folder-clause-enters
returns-in_err-making-in-Folder-clause-enters g c =
    let p = err_from_is_err_and c.from_residual-in_err-making-in-Folder.result c.from_residual-in_err-making-in-Folder.ensures.1 in
    let fault = c.in_err-making-in-Folder.field-0.0 in
    let good : is_entry_name c.args.entry.now.name ≡ true = search rules in
    let kind : c.args.entry.now.kind ≡ kinds.Folder = search rules in
    let named : c.in_ok-outside.outside ≡ inside c.args.folder.now c.args.entry.now.name = search rules in
    let placed : c.in_ok-path.path ≡ below c.args.path.now c.args.entry.now.name = search rules in
    let refused = subst (λ (q : List ℕ). Says (folder_step c.args.making q).answer (Err fault)) c.as_str-in-Folder.ensures c.in_err-making-in-Folder.ensures in
    rw (p.1, p.2) (enter_no_folder c.args.folder.now c.args.path.now c.args.making c.args.entry.now (g.F.Files.state c.args.files.now) fault c.in_ok-outside.outside c.in_ok-path.path good kind named placed refused)

pub returns-in_ok-making-in-Folder-clause-enters : goal.returns-in_ok-making-in-Folder-clause-enters
returns-in_ok-making-in-Folder-clause-enters g c =
    let good : is_entry_name c.args.entry.now.name ≡ true = search rules in
    let kind : c.args.entry.now.kind ≡ kinds.Folder = search rules in
    let named : c.in_ok-outside.outside ≡ inside c.args.folder.now c.args.entry.now.name = search rules in
    let placed : c.in_ok-path.path ≡ below c.args.path.now c.args.entry.now.name = search rules in
    let added = subst (λ (q : List ℕ). Says (folder_step c.args.making q).answer (Ok c.in_ok-making-in-Folder.making)) c.as_str-in-Folder.ensures c.in_ok-making-in-Folder.ensures in
    enter_folder c.args.folder.now c.args.path.now c.args.making c.args.entry.now (g.F.Files.state c.args.files.now) c.in_ok-making-in-Folder.making c.in_ok-outside.outside c.in_ok-path.path c.requires good kind named placed added

pub returns-in_ok-making-in-Folder-clause-targets : goal.returns-in_ok-making-in-Folder-clause-targets
returns-in_ok-making-in-Folder-clause-targets g c = folder_targets c.args.making c.in_ok-making-in-Folder.making c.as_str-in-Folder.result.now c.in_ok-making-in-Folder.ensures

-- the path in a folder is legal
pub add_file-requires : goal.add_file-requires
add_file-requires g c =
    let good : is_entry_name c.args.entry.now.name ≡ true = search rules in
    let placed : c.in_ok-path.path ≡ below c.args.path.now c.args.entry.now.name = search rules in
    subst (λ (q : List ℕ). is_path q ≡ true) (sym c.as_str-in-File.ensures) (ap is_path placed ∙ below-path c.args.path.now c.args.entry.now.name c.requires good)

pub add_folder-requires : goal.add_folder-requires
add_folder-requires g c =
    let good : is_entry_name c.args.entry.now.name ≡ true = search rules in
    let placed : c.in_ok-path.path ≡ below c.args.path.now c.args.entry.now.name = search rules in
    subst (λ (q : List ℕ). is_path q ≡ true) (sym c.as_str-in-Folder.ensures) (ap is_path placed ∙ below-path c.args.path.now c.args.entry.now.name c.requires good)
