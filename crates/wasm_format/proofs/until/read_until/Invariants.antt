use Rattle.std.proofs.Common.{◌≡◌, ◌-◌, length}
use Rattle.virt_base.specs.Place.{place}
use Rattle.wasm_format.specs.Until.{read_until}
use Rattle.wasm_format.proofs.Loop.{with_front}
use Rattle.wasm_format.proofs.until.read_until.Given as goal

abbrev pub invariant-loop : goal.invariant-loop
invariant-loop g l = record {
  input : l.c.bytes ≡ l.fn.c.bytes;
  read : with_front l.items.items (read_until g.W.Walk.sections (l.end - l.counter) l.state (place l.c)) ≡ read_until g.W.Walk.sections (length l.fn.c.bytes.now - l.fn.c.at) l.fn.state (place l.fn.c);
}
