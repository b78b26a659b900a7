use Rattle.std.proofs.Common.{◌≡◌, ◌<◌, ◌∙◌, length, refl, arith, rules, vec_len}
use Rattle.std.proofs.lemmas.Bool.Decides.{nat_tests}
use Rattle.core_memory.proofs.Pieces.{on_ok, filled_up, unmade, shown, piece_made, piece_blank}
use Rattle.core_memory.proofs.reading.append_piece.Goals as goal

pub returns-then-is_empty : goal.returns-then-is_empty
returns-then-is_empty c =
    let none : length c.bytes-page.result.now ≡ 0 = grind (arith, nat_tests) in
    let len : c.len.result ≡ length c.args.bytes.now.items = search rules in
    let counted : vec_len c.args.bytes.now ≡ length c.args.bytes.now.items = search rules in
    let p = c.index-pages-at.result in
    let blank = c.bytes-page.ensures.blank (unmade p.made c.bytes-page.result.now p.bytes c.bytes-page.ensures.bytes c.bytes-page.ensures.len none) in
    on_ok c.resize.result _ _ _ _ c.resize.ensures.items
    (filled_up c.args.bytes.now.items c.len.result _ c.args.len len counted ∙ piece_blank c.args.pages.now c.args.at c.args.len p c.args.bytes.now.items _ c.requires.paged c.requires.place c.requires.within c.index-pages-at.is blank refl)

pub returns : goal.returns
returns c =
    let some : 0 < length c.bytes-page.result.now = grind (arith, nat_tests) in
    let p = c.index-pages-at.result in
    on_ok c.extend_from_slice.result _ _ _ _ c.extend_from_slice.ensures.items
    (piece_made c.args.pages.now c.args.at c.args.len _ p c.bytes-page.result.now c.args.bytes.now.items _ c.requires.paged c.requires.place c.requires.within c.index-pages-at.is
    (shown p.made c.bytes-page.result.now p.bytes c.bytes-page.ensures.bytes some) (omega arith) refl)
