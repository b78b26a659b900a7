use Rattle.std.proofs.Common.{arith, ap, ◌∙◌}
use Rattle.core_memory.proofs.Memories.{memory_fresh, linear_fresh, blank}
use Rattle.core_memory.specs.Page.{Content}
use Rattle.std.specs.Prelude.{List, ◌++◌, replicate}
use Rattle.core_memory.proofs.memory.Memory.new.Goals as goal

pub invariant_of-result : goal.invariant_of-result
invariant_of-result c = memory_fresh c.add_pages.new.pages.items c.args.min (omega arith) (c.in_ok-add_pages.ensures.ok ∙ ap (λ (v : List Content). v ++ replicate c.args.min blank) c.new-pages.ensures.items)

pub returns : goal.returns
returns c = linear_fresh c.add_pages.new.pages.items c.args.min c.args.max (c.in_ok-add_pages.ensures.ok ∙ ap (λ (v : List Content). v ++ replicate c.args.min blank) c.new-pages.ensures.items)
