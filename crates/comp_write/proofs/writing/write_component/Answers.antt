use Rattle.std.proofs.Common.{◌∙◌, ◌++◌, List, ℕ, ap}
use Rattle.comp_grammar.specs.Trees.{plain}
use Rattle.comp_grammar.specs.Components.{preamble}
use Rattle.comp_write.specs.Forms.{bytes_of}
use Rattle.comp_write.proofs.SectionForms.{all_writable, is_spelled, is_read_back}
use Rattle.comp_write.proofs.writing.write_component.Goals as goal

pub put_sections-requires : goal.put_sections-requires
put_sections-requires c = rw c.as_slice-2.ensures.value (all_writable c.args.source.now c.args.component.now c.requires)

pub returns-clause-spelled : goal.returns-clause-spelled
returns-clause-spelled c =
    is_spelled c.args.source.now c.args.component.now c.put_sections.new.out.items
    (c.in_ok-put_sections.ensures ∙ ap (λ (z : List ℕ). z ++ bytes_of c.args.source.now c.as_slice-2.result.now) (c.in_ok-put_bytes.ensures ∙ ap (λ (z : List ℕ). z ++ c.as_slice.result.now) c.new-out.ensures.items ∙ c.as_slice.ensures)
    ∙ ap (λ z. preamble ++ bytes_of c.args.source.now z) c.as_slice-2.ensures.value) c.requires

pub returns-clause-read_back : goal.returns-clause-read_back
returns-clause-read_back c = is_read_back (plain c.args.component.now) c.put_sections.new.out.items (returns-clause-spelled c)
