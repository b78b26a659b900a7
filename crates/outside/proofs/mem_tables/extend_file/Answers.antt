use Rattle.std.proofs.Common.{rules, ◌≡◌, sym, ◌∙◌, subst}
use Rattle.std.specs.Prelude.{Some}
use Rattle.std.specs.BTreeMap.{get_by_text}
use Rattle.outside.specs.declared.mem_tables.MemFile.{MemFile}
use Rattle.outside.specs.Files.{with_more}
use Rattle.outside.specs.MemFiles.{what_fits}
use Rattle.outside.specs.MemInside.{held_by}
use Rattle.outside.proofs.MemFilesLaws.{else_is}
use Rattle.outside.proofs.TableLaws.{held_extended, Puts}
use Rattle.outside.proofs.mem_tables.extend_file.Goals as goal

pub returns-in-Some-clause-held : goal.returns-in-Some-clause-held
returns-in-Some-clause-held c = λ folder.
    let old = c.in-Some.file.now in
    let w = c.extend.new.self in
    let was : get_by_text c.args.files.now c.args.name.now ≡ Some old = sym c.in-Some.ensures.value in
    let new = c.get_mut.follows.lender w in
    let stays = held_by (λ n. get_by_text c.args.files.now n) folder in
    held_extended c.args.files.now new folder c.args.name.now c.args.bytes.now old was
    (subst (λ (f : MemFile). Puts c.args.files.now new c.args.name.now f) c.extend.ensures.held ((c.get_mut.follows.holds w).3 (search rules)))
    ∙ else_is c.args.listed stays (with_more stays c.args.name.now (what_fits stays c.args.name.now c.args.bytes.now)) c.if-listed.false
