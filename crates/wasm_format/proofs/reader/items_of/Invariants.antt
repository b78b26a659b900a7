use Rattle.std.proofs.Common.{◌≡◌, ◌-◌}
use Rattle.virt_base.specs.Place.{place}
use Rattle.wasm_format.specs.Format.{read_items}
use Rattle.wasm_format.proofs.Loop.{with_front}
use Rattle.wasm_format.proofs.reader.items_of.Given as goal

abbrev pub invariant-loop : goal.invariant-loop
invariant-loop g l = record {
  input : l.c.bytes ≡ l.fn.c.bytes;
  read : with_front l.items.items (read_items (g.R.Reader.format l.reader) (l.count - l.counter) (place l.c)) ≡ read_items (g.R.Reader.format l.reader) l.count (place l.fn.c);
}
