use Rattle.std.proofs.Common.{◌∷◌, [], ◌++◌, ap, ◌∙◌}
use Rattle.adapter_stubs.proofs.Ranging.{further_more}
use Rattle.adapter_stubs.proofs.widths.put_further.Goals as goal

pub loop-i-preserved : goal.loop-i-preserved
loop-i-preserved c = record {
  so_far = further_more c.loop-i.i c.args.count c.loop-i.widths.items c.push.new.self.items _ c.loop-i-test.true (c.in_ok-push.ensures.items ∙ ap (λ w. c.loop-i.widths.items ++ w ∷ []) c.width_at.ensures) c.loop-i.invariant.so_far;
}
