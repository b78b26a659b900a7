use Rattle.std.proofs.Common.{◌∙◌, sym, subst, slice_get}
use Rattle.std.proofs.lemmas.Bool.{false≢true}
use Rattle.comp_types.specs.Items.{Entries}
use Rattle.comp_types.specs.Added.{and_instantiated}
use Rattle.comp_types.specs.Rules.{MeetsComponent}
use Rattle.comp_scopes.specs.Stands.{Stands}
use Rattle.type_table.specs.Tables.{HasEntries}
use Rattle.type_table.specs.Anew.{HasInstantiated}
use Rattle.type_table.proofs.HasLaws.{grew_same, some_none}
use Rattle.type_table.proofs.ScopeLaws.{named_items_has}
use Rattle.comp_instances.proofs.InstanceLemmas.{names_repeat, argument_fails, valid_instantiated}
use Rattle.comp_instances.proofs.instantiate.define_instantiated.Goals as goal

pub returns-then-not-differ : goal.returns-then-not-differ
returns-then-not-differ c = λ around s h covers k.
    (names_repeat around s c.args.component c.args.args.now c.args.scope.now k (sym c.in_ok-differ.ensures ∙ c.if-not-differ.true), (grew_same c.args.types.now, λ none. some_none none))

pub returns-then-not-fits : goal.returns-then-not-fits
returns-then-not-fits c = λ around s h covers k.
    let types = c.args.types.now in
    let e = c.in_ok-entries.ensures s h in
    let component = slice_get s.components c.args.component in
    let has = subst (HasEntries types) (sym e) (named_items_has types s c.args.args.now covers) in (
      argument_fails around s c.args.component c.args.args.now c.args.scope.now k
          (λ m. false≢true (sym c.if-not-fits.true ∙ (c.in_ok-fits.ensures s h covers has).1 (subst (λ (es : Entries). MeetsComponent es component) (sym e) m))),
      (grew_same types, λ none. some_none none),
    )

pub returns : goal.returns
returns c = λ around s h covers k.
    let types = c.args.types.now in
    let e = c.in_ok-entries.ensures s h in
    let component = slice_get s.components c.args.component in
    let has = subst (HasEntries types) (sym e) (named_items_has types s c.args.args.now covers) in
    let added = c.in_ok-add_instantiated.ensures s h covers in (
      valid_instantiated around s c.args.component c.args.args.now c.add_instantiated.new.scope k (sym c.in_ok-differ.ensures ∙ c.if-not-differ.false)
          (subst (λ (es : Entries). MeetsComponent es component) e ((c.in_ok-fits.ensures s h covers has).0 c.if-not-fits.false))
          (subst (λ (es : Entries). Stands (and_instantiated s component es) c.add_instantiated.new.scope) e added.0),
      (added.1, λ none. subst (λ (es : Entries). HasInstantiated c.add_instantiated.new.types s component es) e added.2),
    )
