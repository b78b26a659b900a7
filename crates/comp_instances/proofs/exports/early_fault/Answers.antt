use Rattle.std.proofs.Common.{◌∙◌, ap, refl, sym, true, false}
use Rattle.comp_names.specs.Names.{is_legal}
use Rattle.comp_instances.proofs.FaultLemmas.{early_answered}
use Rattle.comp_instances.proofs.exports.early_fault.Goals as goal

pub returns-then-not-stated_has_kind : goal.returns-then-not-stated_has_kind
returns-then-not-stated_has_kind c = λ around s h k. early_answered around s c.args.export.now false _ _ k (c.if-not-stated_has_kind.ensures s h) refl refl

pub returns-then-not-is_legal : goal.returns-then-not-is_legal
returns-then-not-is_legal c = λ around s h k. early_answered around s c.args.export.now true false _ k (c.if-not-stated_has_kind.ensures s h) (c.if-not-is_legal.ensures ∙ ap is_legal c.bytes.ensures.value) refl

pub returns-then-not-differs : goal.returns-then-not-differs
returns-then-not-differs c = λ around s h k. early_answered around s c.args.export.now true true false k (c.if-not-stated_has_kind.ensures s h) (c.if-not-is_legal.ensures ∙ ap is_legal c.bytes.ensures.value) (sym c.if-not-differs.true ∙ c.in_ok-differs.ensures s.exports h.rest.exports)

pub returns : goal.returns
returns c = λ around s h k. early_answered around s c.args.export.now true true true k (c.if-not-stated_has_kind.ensures s h) (c.if-not-is_legal.ensures ∙ ap is_legal c.bytes.ensures.value) (sym c.if-not-differs.false ∙ c.in_ok-differs.ensures s.exports h.rest.exports)
