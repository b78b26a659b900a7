use Rattle.std.proofs.Common.{◌≡◌, length, arith}
use Rattle.std.proofs.lemmas.Bool.Decides.{nat_tests}
use Rattle.core_memory.proofs.Contents.{unmade, copied_zeros}
use Rattle.core_memory.proofs.bulk.copy_over.Goals as goal

pub returns-then-is_empty : goal.returns-then-is_empty
returns-then-is_empty c =
    let none : length c.bytes-bytes.result.now ≡ 0 = grind (arith, nat_tests) in
    let blank = c.bytes-bytes.ensures.blank (unmade _ _ _ c.bytes-bytes.ensures.bytes c.bytes-bytes.ensures.len none) in
    let e = copied_zeros c.args.target.now.bytes c.args.source.now.bytes c.args.to c.args.from c.args.len blank c.requires.from in cc
