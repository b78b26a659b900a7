use Rattle.std.proofs.Common.{◌≡◌, ◌∙◌, ap, subst, List, ℕ, rules, true, false, is_err}
use Rattle.std.specs.BTreeMap.{get_by_text}
use Rattle.outside.specs.Failing.{after}
use Rattle.outside.specs.MemInside.{held_in}
use Rattle.outside.specs.MemFiles.{MemAppends}
use Rattle.outside.specs.MemState.{mem_state}
use Rattle.outside.proofs.MemFilesLaws.{appends}
use Rattle.outside.proofs.mem_files.MemFiles.append_counted.Goals as goal

pub returns-then-is_err : goal.returns-then-is_err
returns-then-is_err c =
    let m = mem_state c.args.self.now in
    let answer = c.extend_file-answer.result in
    let calls : c.count_fault.new.self ≡ after m.calls true = search rules in
    let err : true ≡ is_err answer = search rules in
    let held = held_in c.extend_file-answer.new.files c.args.self.now.folders.table in
    subst (λ (n : List ℕ). MemAppends n c.args.bytes.now m (record { calls = c.count_fault.new.self; held = held }) answer) c.as_str.ensures
    (appends m c.count_fault.new.self held c.as_str.result.now c.args.bytes.now answer c.is_due-listed.result c.is_due-listed.ensures.listed
    c.extend_file-answer.ensures.fails (calls ∙ ap (after m.calls) err) (c.extend_file-answer.ensures.held (λ n. get_by_text c.args.self.now.folders.table n)))

pub returns-else-is_err : goal.returns-else-is_err
returns-else-is_err c =
    let m = mem_state c.args.self.now in
    let answer = c.extend_file-answer.result in
    let calls = c.is_due-listed.new.self in
    let err : false ≡ is_err answer = search rules in
    let held = held_in c.extend_file-answer.new.files c.args.self.now.folders.table in
    subst (λ (n : List ℕ). MemAppends n c.args.bytes.now m (record { calls = calls; held = held }) answer) c.as_str.ensures
    (appends m calls held c.as_str.result.now c.args.bytes.now answer c.is_due-listed.result c.is_due-listed.ensures.listed
    c.extend_file-answer.ensures.fails (c.is_due-listed.ensures.counted ∙ ap (after m.calls) err) (c.extend_file-answer.ensures.held (λ n. get_by_text c.args.self.now.folders.table n)))
