use Rattle.std.proofs.Common.{sym, subst, ◌∙◌, ◌≡◌, rules}
use Rattle.std.specs.Prelude.{Some}
use Rattle.std.specs.BTreeMap.{get_by_text}
use Rattle.outside.specs.Files.{AreInOrder}
use Rattle.outside.proofs.folders.FolderTable.list.Goals as goal

pub returns-in-Ok-clause-in_order : goal.returns-in-Ok-clause-in_order
returns-in-Ok-clause-in_order c =
    let found : get_by_text c.args.self.now.table c.args.name.now ≡ Some c.in-Some.entries.now = search rules in
    subst AreInOrder (sym (c.in-Ok.ensures ∙ c.as_slice.ensures)) (c.args.self.now.each_in_order c.args.name.now c.in-Some.entries.now found)
