use Rattle.std.proofs.Common.{rules, ◌≡◌, refl, sym, ap, ◌∙◌, false, []}
use Rattle.std.specs.Prelude.{Some, ◌||◌}
use Rattle.std.specs.BTreeMap.{get_by_text}
use Rattle.outside.specs.Files.{with_file}
use Rattle.outside.specs.MemInside.{shown, held_by, is_no_place}
use Rattle.outside.specs.declared.mem_tables.MemFile.{MemFile}
use Rattle.outside.proofs.MemFilesLaws.{else_is}
use Rattle.outside.proofs.TableLaws.{held_updated}
use Rattle.outside.proofs.mem_tables.empty_file.Goals as goal

pub returns-in-Some-clause-held : goal.returns-in-Some-clause-held
returns-in-Some-clause-held c = λ folder.
    let old = c.in-Some.file.now in
    let w = c.empty.new.self in
    let was : get_by_text c.args.files.now c.args.name.now ≡ Some old = sym c.in-Some.ensures.value in
    let stays = held_by (λ n. get_by_text c.args.files.now n) folder in
    let due : (c.args.listed || is_no_place (get_by_text c.args.files.now c.args.name.now)) ≡ false = rw (was, c.if-listed.false) refl in
    held_updated c.args.files.now (c.get_mut.follows.lender w) folder c.args.name.now old w was (ap (λ (f : MemFile). f.held.room) c.empty.ensures) ((c.get_mut.follows.holds w).3 (search rules))
    ∙ ap (λ (f : MemFile). with_file (held_by (λ n. get_by_text c.args.files.now n) folder) c.args.name.now (shown (Some f))) c.empty.ensures
    ∙ else_is _ stays (with_file stays c.args.name.now (Some [])) due
