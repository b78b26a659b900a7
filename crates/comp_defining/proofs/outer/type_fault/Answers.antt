use Rattle.std.proofs.Common.{◌∙◌, ap, sym, subst, slice_get, ◌∷◌, not, true}
use Rattle.wasm_ast.specs.declared.component.OuterSort.TheVariants as sorts
use Rattle.comp_types.specs.GivenResources.{named_in_kind}
use Rattle.comp_types.specs.Rules.{is_filled}
use Rattle.type_table.specs.Tables.{HasKind}
use Rattle.type_table.proofs.ScopeLaws.{covers_at, type_at}
use Rattle.comp_scopes.proofs.EachLemmas.{none_of, some_of}
use Rattle.comp_scopes.specs.Stands.{IsEntry, Stands}
use Rattle.comp_defining.proofs.OuterLemmas.{rule_of, within, no_scope, no_type, stays_in, goes_out}
use Rattle.comp_defining.proofs.outer.type_fault.Goals as goal

pub returns-in_default : goal.returns-in_default
returns-in_default c = λ around s h. sym (no_scope around s sorts.Type c.args.count c.args.index (none_of Stands (slice_get (s ∷ around) c.args.count) (c.in_default.ensures around s h)))

pub returns-in_default-entry_at : goal.returns-in_default-entry_at
returns-in_default-entry_at c = λ around s h.
    let t = some_of Stands (slice_get (s ∷ around) c.args.count) c.in-Some.scope.now (c.in-Some.ensures around s h) in
    sym (no_type around s t.0 c.args.count c.args.index t.1 (none_of IsEntry (slice_get t.0.types c.args.index) (c.in_default-entry_at.ensures t.0 t.2)))

pub returns-then-not-leaves : goal.returns-then-not-leaves
returns-then-not-leaves c = λ around s h.
    let t = some_of Stands (slice_get (s ∷ around) c.args.count) c.in-Some.scope.now (c.in-Some.ensures around s h) in
    let e = some_of IsEntry (slice_get t.0.types c.args.index) c.in-Some-entry_at.entry.now (c.in-Some-entry_at.ensures t.0 t.2) in
    sym (stays_in around s t.0 c.args.count c.args.index e.0 t.1 e.1 (c.if-not-leaves.ensures around s h (within (s ∷ around) c.args.count t.0 t.1)))

pub returns-then-none : goal.returns-then-none
returns-then-none c = λ around s h.
    let t = some_of Stands (slice_get (s ∷ around) c.args.count) c.in-Some.scope.now (c.in-Some.ensures around s h) in
    let e = some_of IsEntry (slice_get t.0.types c.args.index) c.in-Some-entry_at.entry.now (c.in-Some-entry_at.ensures t.0 t.2) in
    let types = c.args.scopes.now.types in
    let has = subst (HasKind types) (sym e.2.kind) (type_at types t.0 c.args.index e.0 (covers_at types (s ∷ around) c.args.count t.0 h.covered t.1) e.1) in
    sym (goes_out around s t.0 c.args.count c.args.index e.0 c.in_ok-none.none t.1 e.1 (c.if-not-leaves.ensures around s h (within (s ∷ around) c.args.count t.0 t.1)) (c.in_ok-none.ensures has ∙ ap (λ k. not (is_filled (named_in_kind k))) e.2.kind)
    ∙ ap (rule_of true) c.if-none.true)

pub returns-else-none : goal.returns-else-none
returns-else-none c = λ around s h.
    let t = some_of Stands (slice_get (s ∷ around) c.args.count) c.in-Some.scope.now (c.in-Some.ensures around s h) in
    let e = some_of IsEntry (slice_get t.0.types c.args.index) c.in-Some-entry_at.entry.now (c.in-Some-entry_at.ensures t.0 t.2) in
    let types = c.args.scopes.now.types in
    let has = subst (HasKind types) (sym e.2.kind) (type_at types t.0 c.args.index e.0 (covers_at types (s ∷ around) c.args.count t.0 h.covered t.1) e.1) in
    sym (goes_out around s t.0 c.args.count c.args.index e.0 c.in_ok-none.none t.1 e.1 (c.if-not-leaves.ensures around s h (within (s ∷ around) c.args.count t.0 t.1)) (c.in_ok-none.ensures has ∙ ap (λ k. not (is_filled (named_in_kind k))) e.2.kind)
    ∙ ap (rule_of true) c.if-none.false)
