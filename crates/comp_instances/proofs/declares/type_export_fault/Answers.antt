use Rattle.std.proofs.Common.{◌∙◌, ap, refl, sym, true, false}
use Rattle.comp_names.specs.Names.{is_legal}
use Rattle.comp_types.specs.Rules.{name_fits}
use Rattle.comp_instances.proofs.FaultLemmas.{declared_answered}
use Rattle.comp_instances.proofs.declares.type_export_fault.Goals as goal

pub returns-then-not-desc_has_kind : goal.returns-then-not-desc_has_kind
returns-then-not-desc_has_kind c = λ around s h k q. declared_answered around s c.args.name.now c.args.desc false _ _ _ k (c.if-not-desc_has_kind.ensures s h) refl refl refl

pub returns-then-not-differs : goal.returns-then-not-differs
returns-then-not-differs c = λ around s h k q. declared_answered around s c.args.name.now c.args.desc true false _ _ k (c.if-not-desc_has_kind.ensures s h) (sym c.if-not-differs.true ∙ c.in_ok-differs.ensures s.exports h.rest.exports) refl refl

pub returns-then-not-is_legal : goal.returns-then-not-is_legal
returns-then-not-is_legal c = λ around s h k q. declared_answered around s c.args.name.now c.args.desc true true false _ k (c.if-not-desc_has_kind.ensures s h) (sym c.if-not-differs.false ∙ c.in_ok-differs.ensures s.exports h.rest.exports) (c.if-not-is_legal.ensures ∙ ap is_legal c.bytes.ensures.value) refl

pub returns-then-not-fits : goal.returns-then-not-fits
returns-then-not-fits c = λ around s h k q. declared_answered around s c.args.name.now c.args.desc true true true false k (c.if-not-desc_has_kind.ensures s h) (sym c.if-not-differs.false ∙ c.in_ok-differs.ensures s.exports h.rest.exports) (c.if-not-is_legal.ensures ∙ ap is_legal c.bytes.ensures.value) (sym c.if-not-fits.true ∙ (c.in_ok-fits.ensures ∙ (λ i. name_fits (c.entries.ensures s.exports h.rest.exports i) c.args.name.now (q i))))

pub returns : goal.returns
returns c = λ around s h k q. declared_answered around s c.args.name.now c.args.desc true true true true k (c.if-not-desc_has_kind.ensures s h) (sym c.if-not-differs.false ∙ c.in_ok-differs.ensures s.exports h.rest.exports) (c.if-not-is_legal.ensures ∙ ap is_legal c.bytes.ensures.value) (sym c.if-not-fits.false ∙ (c.in_ok-fits.ensures ∙ (λ i. name_fits (c.entries.ensures s.exports h.rest.exports i) c.args.name.now (q i))))
