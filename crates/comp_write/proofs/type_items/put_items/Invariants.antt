use Rattle.std.proofs.Common.{◌≡◌, ◌++◌, ◌+◌, drop, []}
use Rattle.comp_grammar.specs.TypeSections.{own_types}
use Rattle.comp_write.specs.Forms.{ItemsFit, items_bytes}
use Rattle.comp_write.proofs.type_items.put_items.Given as goal

abbrev pub invariant-loop-item : goal.invariant-loop-item
invariant-loop-item l =
    record {
      written : l.out.items ++ items_bytes l.open (drop l.item-index l.items) ≡ l.fn.out.items ++ items_bytes [] l.items;
      counted : l.count + own_types l.open (drop l.item-index l.items) ≡ own_types [] l.items;
      fits : ItemsFit l.open (drop l.item-index l.items);
    }
