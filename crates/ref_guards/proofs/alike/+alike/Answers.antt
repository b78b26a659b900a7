use Rattle.std.proofs.Common.{sym}
use Rattle.ref_guards.proofs.AlikeLemmas.{fields_differ, types_differ, cases_differ}
use Rattle.ref_guards.proofs.alike.+alike.Goals as goal

pub are_fields-returns-then-fields-others : goal.are_fields-returns-then-fields-others
are_fields-returns-then-fields-others t c = sym (fields_differ _ _ c.if-fields-others.true)

pub are_types-returns-then-types-others : goal.are_types-returns-then-types-others
are_types-returns-then-types-others t c = sym (types_differ _ _ c.if-types-others.true)

pub are_cases-returns-then-cases-others : goal.are_cases-returns-then-cases-others
are_cases-returns-then-cases-others t c = sym (cases_differ _ _ c.if-cases-others.true)
