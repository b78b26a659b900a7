use Rattle.std.proofs.lemmas.Result.{err_from_is_err_and}
use Rattle.toml.specs.View.{table_view}
use Rattle.policy_toml.proofs.Written.{folders_stop, links_stop, all_written}
use Rattle.policy_toml.proofs.tree.embedded_of.Goals as goal

pub returns-in_err-folders : goal.returns-in_err-folders
returns-in_err-folders c =
    let p = err_from_is_err_and c.from_residual-in_err-folders.result c.from_residual-in_err-folders.ensures.1 in
    rw (p.1, p.2) (folders_stop c.args.path.now (table_view c.args.table.now) c.in_ok-files.files c.files_at.new.paths c.in_err-folders.field-0.0
    c.in_ok-files.ensures.gives c.in_ok-files.ensures.added c.in_err-folders.ensures.gives)

pub returns-in_err-links : goal.returns-in_err-links
returns-in_err-links c =
    let p = err_from_is_err_and c.from_residual-in_err-links.result c.from_residual-in_err-links.ensures.1 in
    rw (p.1, p.2) (links_stop c.args.path.now (table_view c.args.table.now) c.in_ok-files.files c.in_ok-folders.folders c.files_at.new.paths c.folders_at.new.paths
    c.in_err-links.field-0.0 c.in_ok-files.ensures.gives c.in_ok-files.ensures.added c.in_ok-folders.ensures.gives c.in_ok-folders.ensures.added c.in_err-links.ensures)

pub returns : goal.returns
returns c =
    all_written c.args.path.now (table_view c.args.table.now) c.in_ok-files.files c.in_ok-folders.folders c.in_ok-links.links c.files_at.new.paths c.folders_at.new.paths
    c.in_ok-files.ensures.gives c.in_ok-files.ensures.added c.in_ok-folders.ensures.gives c.in_ok-folders.ensures.added c.in_ok-links.ensures
