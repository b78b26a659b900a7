use Rattle.std.proofs.Common.{◌∙◌, ap, refl, sym, true, false}
use Rattle.comp_names.specs.Names.{is_legal}
use Rattle.comp_types.specs.Rules.{name_fits}
use Rattle.comp_instances.proofs.FaultLemmas.{import_answered}
use Rattle.comp_instances.proofs.imports.import_fault.Goals as goal

pub returns-then-not-imported : goal.returns-then-not-imported
returns-then-not-imported c = λ around s h t k q. import_answered around s c.args.import.now false _ _ _ _ k (sym c.if-not-imported.true ∙ c.in_ok-imported.ensures s h t) refl refl refl refl

pub returns-then-not-desc_has_kind : goal.returns-then-not-desc_has_kind
returns-then-not-desc_has_kind c = λ around s h t k q. import_answered around s c.args.import.now true false _ _ _ k (sym c.if-not-imported.false ∙ c.in_ok-imported.ensures s h t) (c.if-not-desc_has_kind.ensures s h) refl refl refl

pub returns-then-not-differs : goal.returns-then-not-differs
returns-then-not-differs c = λ around s h t k q. import_answered around s c.args.import.now true true false _ _ k (sym c.if-not-imported.false ∙ c.in_ok-imported.ensures s h t) (c.if-not-desc_has_kind.ensures s h) (sym c.if-not-differs.true ∙ c.in_ok-differs.ensures s.imports h.rest.imports) refl refl

pub returns-then-not-is_legal : goal.returns-then-not-is_legal
returns-then-not-is_legal c = λ around s h t k q. import_answered around s c.args.import.now true true true false _ k (sym c.if-not-imported.false ∙ c.in_ok-imported.ensures s h t) (c.if-not-desc_has_kind.ensures s h) (sym c.if-not-differs.false ∙ c.in_ok-differs.ensures s.imports h.rest.imports) (c.if-not-is_legal.ensures ∙ ap is_legal c.bytes.ensures.value) refl

pub returns-then-not-fits : goal.returns-then-not-fits
returns-then-not-fits c = λ around s h t k q. import_answered around s c.args.import.now true true true true false k (sym c.if-not-imported.false ∙ c.in_ok-imported.ensures s h t) (c.if-not-desc_has_kind.ensures s h) (sym c.if-not-differs.false ∙ c.in_ok-differs.ensures s.imports h.rest.imports) (c.if-not-is_legal.ensures ∙ ap is_legal c.bytes.ensures.value) (sym c.if-not-fits.true ∙ (c.in_ok-fits.ensures ∙ (λ i. name_fits (c.entries.ensures s.imports h.rest.imports i) c.args.import.now.name (q i))))

pub returns : goal.returns
returns c = λ around s h t k q. import_answered around s c.args.import.now true true true true true k (sym c.if-not-imported.false ∙ c.in_ok-imported.ensures s h t) (c.if-not-desc_has_kind.ensures s h) (sym c.if-not-differs.false ∙ c.in_ok-differs.ensures s.imports h.rest.imports) (c.if-not-is_legal.ensures ∙ ap is_legal c.bytes.ensures.value) (sym c.if-not-fits.false ∙ (c.in_ok-fits.ensures ∙ (λ i. name_fits (c.entries.ensures s.imports h.rest.imports i) c.args.import.now.name (q i))))
