use Rattle.std.proofs.Common.{◌∙◌, refl, List, rules}
use Rattle.std.specs.BTreeMap.{get_by_text}
use Rattle.std.specs.Prelude.{string_bytes}
use Rattle.outside.specs.declared.files.Entry.{Entry}
use Rattle.outside.proofs.TableLaws.{first_or-step, first_or-start, same_map}
use Rattle.outside.proofs.folders.table_of.Goals as goal

pub loop-folder-init : goal.loop-folder-init
loop-folder-init c = λ name. first_or-start (λ (x : List Entry). x) c.into_vec-rest.result.items c.args.folders name (get_by_text c.new-table.result name) c.into_vec-rest.ensures (search rules) ∙ same_map _

pub loop-folder-preserved : goal.loop-folder-preserved
loop-folder-preserved c = λ name.
    first_or-step (λ (x : List Entry). x) c.loop-folder.rest.items c.pop.new.self.items c.in-Some.folder (string_bytes c.into_string.result) c.in-Some.folder.value (λ q. get_by_text c.loop-folder.table q) (λ q. get_by_text c.put.new.table q) name _
    c.in-Some.ensures.items c.into_string.ensures refl (c.in_ok-put.ensures.ok name) (c.loop-folder.invariant name)
