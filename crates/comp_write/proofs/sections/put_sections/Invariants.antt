use Rattle.std.proofs.Common.{◌≡◌, ◌++◌, drop}
use Rattle.comp_write.specs.Forms.{AllWritable, bytes_of}
use Rattle.comp_write.proofs.sections.put_sections.Given as goal

abbrev pub invariant-loop-section : goal.invariant-loop-section
invariant-loop-section l =
    record {
      written : l.out.items ++ bytes_of l.source (drop l.section-index l.sections) ≡ l.fn.out.items ++ bytes_of l.source l.sections;
      fits : AllWritable l.source (drop l.section-index l.sections);
    }
