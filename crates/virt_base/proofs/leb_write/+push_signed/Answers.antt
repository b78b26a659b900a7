use Rattle.std.proofs.Common.{◌-◌, ◌/◌, ◌%◌, ◌+◌, ◌∷◌, [], ◌++◌, ap, ◌∙◌, ℕ}
use Rattle.std.proofs.lemmas.Result.{on_ok_weaker}
use Rattle.virt_base.specs.Leb.{shortest_by, low_bits}
use Rattle.virt_base.proofs.LebLaws.{signed_more, one_then}
use Rattle.virt_base.proofs.leb_write.+push_signed.Goals as goal

pub returns-clause-ok : goal.returns-clause-ok
returns-clause-ok t c =
    on_ok_weaker c.push_signed.result
    (one_then c.args.out.now.items c.push-2.new.self.items c.push_signed.new.out.items (shortest_by c.args.negative (c.args.more - 1) (c.args.value / 128)) (low_bits c.args.negative (c.args.value % 128) + 128) (shortest_by c.args.negative c.args.more c.args.value)
    (signed_more c.args.negative c.args.more c.args.value c.if-value-lt64.false c.requires)
    (c.in_ok-push-2.ensures.items ∙ ap (λ (b : ℕ). c.args.out.now.items ++ (b + 128) ∷ []) c.bits_of-2.ensures.value))
    c.push_signed.ensures.ok
