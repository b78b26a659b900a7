use Rattle.std.proofs.Common.{◌≡◌, ◌∙◌, ap, true, rules}
use Rattle.std.specs.BTreeMap.{get_by_text}
use Rattle.std.specs.Prelude.{string_bytes}
use Rattle.outside.specs.MemInside.{full}
use Rattle.outside.specs.declared.mem_tables.MemFile.{MemFile}
use Rattle.outside.proofs.TableLaws.{first_or-step, first_or-start}
use Rattle.outside.proofs.mem_tables.file_table.Goals as goal

pub loop-file-init : goal.loop-file-init
loop-file-init c = λ name. first_or-start full c.into_vec-rest.result.items c.args.files name (get_by_text c.new-table.result name) c.into_vec-rest.ensures (search rules)

pub loop-file-preserved : goal.loop-file-preserved
loop-file-preserved c = λ name.
    let w : MemFile = record { held = c.full-held.result; there = true } in
    let is : w ≡ full c.in-Some.file.value = ap (λ held. record { held = held; there = true }) c.full-held.ensures ∙ ap full c.into_vec.ensures in
    first_or-step full c.loop-file.rest.items c.pop.new.self.items c.in-Some.file (string_bytes c.into_string.result) w (λ q. get_by_text c.loop-file.table q) (λ q. get_by_text c.put.new.table q) name _
    c.in-Some.ensures.items c.into_string.ensures is (c.in_ok-put.ensures.ok name) (c.loop-file.invariant name)
