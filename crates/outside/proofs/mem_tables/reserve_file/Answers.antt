use Rattle.std.proofs.Common.{rules, ◌≡◌, arith, false, refl, sym, ap, ◌∙◌, List, ℕ}
use Rattle.std.specs.Prelude.{Some, None, string_bytes, if◌then◌else◌}
use Rattle.std.specs.Str.{bytes_eq}
use Rattle.std.specs.BTreeMap.{get_by_text}
use Rattle.outside.specs.Buffer.{Filled}
use Rattle.outside.specs.declared.mem_tables.MemFile.{MemFile}
use Rattle.outside.proofs.TableLaws.{held_with_room, held_noted, held_unchanged, on_ok, on_err}
use Rattle.outside.proofs.mem_tables.reserve_file.Goals as goal

pub returns-in-Some-clause-ok : goal.returns-in-Some-clause-ok
returns-in-Some-clause-ok c =
    let old = c.in-Some.file.now in
    let w : MemFile = record { held = c.reserve.new.self; there = old.there } in
    let was : get_by_text c.args.files.now c.args.name.now ≡ Some old = sym c.in-Some.ensures.value in
    on_ok c.reserve.result (λ new folder.
    held_with_room c.args.files.now (c.get_mut.follows.lender w) folder c.args.name.now old w c.args.bytes was refl new ((c.get_mut.follows.holds w).3 (search rules))) c.reserve.ensures.ok

pub returns-in-Some-clause-err : goal.returns-in-Some-clause-err
returns-in-Some-clause-err c =
    let old = c.in-Some.file.now in
    let w : MemFile = record { held = c.reserve.new.self; there = old.there } in
    let was : get_by_text c.args.files.now c.args.name.now ≡ Some old = sym c.in-Some.ensures.value in
    on_err c.reserve.result (λ new folder.
    held_unchanged c.args.files.now (c.get_mut.follows.lender w) folder c.args.name.now old w was refl new ((c.get_mut.follows.holds w).3 (search rules))) c.reserve.ensures.err

pub returns-clause-ok : goal.returns-clause-ok
returns-clause-ok c =
    let was : get_by_text c.args.files.now c.args.name.now ≡ None = search rules in
    let room : c.reserve-2.new.self.room ≡ c.args.bytes = omega (arith, ap (λ (h : Filled). h.room) c.in_ok-reserve.ensures.ok, ap (λ (h : Filled). h.room) c.new-held.ensures) in
    let gone : (q : List ℕ) → get_by_text c.get_mut.follows.lender-at-none q ≡ get_by_text c.args.files.now q = λ q. ap (λ m. get_by_text m q) c.get_mut.follows.holds-at-none in
    on_ok c.put.result (λ new folder. held_noted c.args.files.now c.put.new.table folder c.args.name.now (string_bytes c.in_ok-key.key) c.reserve-2.new.self c.args.bytes was c.in_ok-key.ensures.ok room (λ q. new q ∙ ap (λ o. if bytes_eq (string_bytes c.in_ok-key.key) q then Some (record { held = c.reserve-2.new.self; there = false }) else o) (gone q))) c.put.ensures.ok
