use Rattle.std.proofs.Common.{◌∙◌, ◌++◌, [], List, ℕ, ap}
use Rattle.std.proofs.lemmas.Result.{on_ok_weaker}
use Rattle.comp_grammar.specs.TypeSections.{own_types}
use Rattle.comp_write.specs.Forms.{items_bytes}
use Rattle.comp_write.proofs.TypeForms.{section_written}
use Rattle.comp_write.proofs.type_items.TypeItemsWriterWriter.write.Goals as goal

pub returns : goal.returns
returns c =
    let items = c.args.value.now in
    on_ok_weaker c.put_bytes.result
    (λ e. section_written c.args.out.now.items c.write_u32.new.out.items c.put_bytes.new.out.items c.as_slice-2.result.now c.in_ok-count.count items
    (c.in_ok-count.ensures.count ∙ ap (own_types []) c.as_slice.ensures)
    (c.as_slice-2.ensures.value ∙ c.in_ok-count.ensures.bytes ∙ ap (λ (z : List ℕ). z ++ items_bytes [] c.as_slice.result.now) c.new-content.ensures.items ∙ ap (items_bytes []) c.as_slice.ensures)
    c.in_ok-write_u32.ensures.ok e)
    c.put_bytes.ensures
