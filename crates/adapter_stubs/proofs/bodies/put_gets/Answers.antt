use Rattle.std.proofs.Common.{◌∷◌, [], ◌++◌, ap, ◌∙◌}
use Rattle.adapter_stubs.proofs.Ranging.{gets_more}
use Rattle.adapter_stubs.proofs.bodies.put_gets.Goals as goal

pub loop-i-preserved : goal.loop-i-preserved
loop-i-preserved c = record {
  so_far = gets_more c.args.from c.loop-i.i c.args.count c.loop-i.out.items c.put.new.out.items _ c.loop-i-test.true (c.in_ok-put.ensures ∙ ap (λ i. c.loop-i.out.items ++ i ∷ []) c.get.ensures) c.loop-i.invariant.so_far;
}
