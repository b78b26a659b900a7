use Rattle.std.proofs.Common.{◌≡◌, ◌+◌, ◌*◌, ◌-◌, length}
use Rattle.virt_base.specs.Place.{rest}
use Rattle.wasm_format.specs.Sections.{run}
use Rattle.comp_grammar.specs.Trees.{End, plain_sections}
use Rattle.comp_grammar.specs.Components.{component, sections}
use Rattle.comp_read.proofs.nesting.+reader.Given as goal

abbrev pub decreases-read_sections : goal.decreases-read_sections
decreases-read_sections l = 5 * l.depth + 3

abbrev pub decreases-read_section : goal.decreases-read_section
decreases-read_section l = 5 * l.depth + 2

abbrev pub decreases-read_nested : goal.decreases-read_nested
decreases-read_nested l = 5 * l.depth + 1

abbrev pub decreases-read_placed : goal.decreases-read_placed
decreases-read_placed l = 5 * l.depth

abbrev pub decreases-read_all : goal.decreases-read_all
decreases-read_all l = 5 * l.depth + 4

abbrev pub invariant-read_sections-loop : goal.invariant-read_sections-loop
invariant-read_sections-loop l = record {
  input : l.c.bytes ≡ l.fn.c.bytes;
  read : run (sections (component l.depth)) (l.end - l.counter) (plain_sections l.sections.items) l.good l.c.at (rest l.c) ≡ run (sections (component l.depth)) (length l.fn.c.bytes.now - l.fn.c.at) End l.fn.good l.fn.c.at (rest l.fn.c);
}
