use Rattle.std.proofs.Common.{◌≡◌, ◌-◌, length}
use Rattle.virt_base.specs.Place.{rest}
use Rattle.wasm_format.specs.Sections.{run}
use Rattle.wasm_format.proofs.sections.read_sections.Given as goal

abbrev pub invariant-loop : goal.invariant-loop
invariant-loop g l = record {
  input : l.c.bytes ≡ l.fn.c.bytes;
  read : run g.B.Building.sections (l.end - l.counter) l.state l.good l.c.at (rest l.c) ≡ run g.B.Building.sections (length l.fn.c.bytes.now - l.fn.c.at) l.fn.state l.fn.good l.fn.c.at (rest l.fn.c);
}
