use Rattle.std.proofs.Common.{◌∙◌, ap, List, ℕ}
use Rattle.std.specs.BTreeMap.{get_by_text}
use Rattle.outside.specs.Files.{Held}
use Rattle.outside.specs.MemFiles.{MemFilesState, with_room}
use Rattle.outside.specs.MemState.{mem_state}
use Rattle.outside.proofs.TableLaws.{on_ok, on_err}
use Rattle.outside.proofs.mem_files.MemFiles.reserve.Goals as goal

abbrev with_held : MemFilesState → Held → MemFilesState
with_held m h = record m { held = h }

pub returns-clause-ok : goal.returns-clause-ok
returns-clause-ok c =
    let m = mem_state c.args.self.now in
    on_ok c.reserve_file.result (λ new. ap (with_held m) (new (λ n. get_by_text c.args.self.now.folders.table n) ∙ ap (λ (n : List ℕ). with_room m.held n c.args.bytes) c.as_str.ensures)) c.reserve_file.ensures.ok

pub returns-clause-err : goal.returns-clause-err
returns-clause-err c =
    let m = mem_state c.args.self.now in
    on_err c.reserve_file.result (λ new. ap (with_held m) (new (λ n. get_by_text c.args.self.now.folders.table n))) c.reserve_file.ensures.err
