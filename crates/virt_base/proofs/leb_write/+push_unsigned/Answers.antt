use Rattle.std.proofs.Common.{◌-◌, ◌/◌, ◌%◌, ◌+◌}
use Rattle.std.proofs.lemmas.Result.{on_ok_weaker}
use Rattle.virt_base.specs.Leb.{shortest_unsigned}
use Rattle.virt_base.proofs.LebLaws.{unsigned_more, one_then}
use Rattle.virt_base.proofs.leb_write.+push_unsigned.Goals as goal

pub returns-clause-ok : goal.returns-clause-ok
returns-clause-ok t c =
    on_ok_weaker c.push_unsigned.result
    (one_then c.args.out.now.items c.push-2.new.self.items c.push_unsigned.new.out.items (shortest_unsigned (c.args.more - 1) (c.args.value / 128)) (c.args.value % 128 + 128) (shortest_unsigned c.args.more c.args.value)
    (unsigned_more c.args.more c.args.value c.if-value-lt128.false c.requires) c.in_ok-push-2.ensures.items)
    c.push_unsigned.ensures.ok
