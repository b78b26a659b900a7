use Rattle.std.proofs.Common.{◌≡◌, ◌++◌, drop}
use Rattle.std.specs.List.{AllByRecursion}
use Rattle.wasm_format.specs.Format.{write_items}
use Rattle.core_write.proofs.lists.put_all.Given as goal

abbrev pub invariant-loop-item : goal.invariant-loop-item
invariant-loop-item g l =
    let F = g.W.Writer.format l.writer in
    record {
      written : l.out.items ++ write_items F (drop l.item-index l.items) ≡ l.fn.out.items ++ write_items F l.items;
      fits : AllByRecursion F.Fits (drop l.item-index l.items);
    }
