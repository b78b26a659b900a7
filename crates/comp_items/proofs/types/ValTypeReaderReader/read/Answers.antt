use Rattle.std.proofs.Common.{sym, ◌∙◌}
use Rattle.virt_base.specs.Place.{place}
use Rattle.comp_items.proofs.TagOr.{is_none, is_tag, is_index}
use Rattle.comp_items.proofs.types.ValTypeReaderReader.read.Goals as goal

pub returns-in-None-clause-value : goal.returns-in-None-clause-value
returns-in-None-clause-value c = is_none (place c.args.c.now) c.in-None.ensures

pub returns-in-Some-true-clause-value : goal.returns-in-Some-true-clause-value
returns-in-Some-true-clause-value c =
    let w = c.in-Some-true.ensures in
    rw (is_tag (place c.args.c.now) w.0 w.1 w.2 (sym c.in-Some-true.field-0-test ∙ w.3)) c.primitive_type.ensures.value

pub returns-in-Some-false-clause-value : goal.returns-in-Some-false-clause-value
returns-in-Some-false-clause-value c =
    let w = c.in-Some-false.ensures in
    rw (is_index (place c.args.c.now) w.0 w.1 w.2 (sym c.in-Some-false.field-0-test ∙ w.3)) c.indexed_type.ensures.value
