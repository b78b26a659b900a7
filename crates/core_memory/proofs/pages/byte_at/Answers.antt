use Rattle.std.proofs.Common.{◌≡◌, ◌<◌, ◌%◌, arith, sym, ap, ◌∙◌, length, get_or}
use Rattle.std.proofs.lemmas.Bool.Decides.{nat_tests}
use Rattle.core_memory.proofs.Contents.{unmade, made_bytes}
use Rattle.core_memory.proofs.Memories.{byte_of_page, byte_of_blank}
use Rattle.core_memory.proofs.pages.byte_at.Goals as goal

pub returns-then-is_empty : goal.returns-then-is_empty
returns-then-is_empty c =
    let none : length c.bytes-bytes.result.now ≡ 0 = grind (arith, nat_tests) in
    sym (byte_of_blank c.args.pages.now c.args.at c.index-pages-at.result c.requires.paged (omega arith) c.index-pages-at.is (c.bytes-bytes.ensures.blank (unmade _ _ _ c.bytes-bytes.ensures.bytes c.bytes-bytes.ensures.len none)))

pub returns-else-is_empty : goal.returns-else-is_empty
returns-else-is_empty c =
    let some : 0 < length c.bytes-bytes.result.now = grind (arith, nat_tests) in
    let shown = made_bytes c.index-pages-at.result.made c.index-pages-at.result.bytes c.bytes-bytes.result.now 0 c.bytes-bytes.ensures.bytes some in
    sym (byte_of_page c.args.pages.now c.args.at c.index-pages-at.result c.requires.paged (omega arith) c.index-pages-at.is ∙ ap (λ v. get_or v (c.args.at % 65536) 0) (sym shown.1))
