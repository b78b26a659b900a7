use Rattle.std.proofs.Common.{◌≡◌, arith, sym, ap, ◌∙◌, true, ◌/◌}
use Rattle.core_memory.specs.Page.{Content}
use Rattle.core_memory.proofs.Memories.{stored_page}
use Rattle.core_memory.proofs.Sequence.{same_page}
use Rattle.core_memory.proofs.memory.Memory.store_quickly.Goals as goal

pub returns-then-is_made-clause-quick : goal.returns-then-is_made-clause-quick
returns-then-is_made-clause-quick c =
    let made : c.index_mut.result.now.made ≡ true = ap (λ (p : Content). p.made) (same_page c.self.inside.pages.items (c.args.at / 65536) c.index_mut.result.now c.index.result.now (omega arith) c.index_mut.ensures.value c.index.ensures) ∙ sym c.is_made.ensures.made ∙ c.if-is_made.true in
    stored_page c.self.inside.pages.items c.self.inside.max c.args.self.now c.args.at c.args.width c.args.value c.index_mut.result.now c.store.new.self c.self.view_is c.self.invariant c.requires (omega arith) (omega arith) c.index_mut.ensures.value made c.store.ensures
