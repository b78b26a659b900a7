use Rattle.std.proofs.Common.{◌≡◌, ◌∙◌, ◌∷◌, ◌++◌, ◌+◌, [], ap, sym, take, drop, true, false}
use Rattle.std.specs.Prelude.{◌&&◌, option_map}
use Rattle.std.proofs.lemmas.List.{drop_more, take_more}
use Rattle.comp_types.specs.Views.{item_of}
use Rattle.comp_types.specs.Added.{and_some_entry, named_items}
use Rattle.comp_types.specs.Rules.{if_there, name_fits, names_fit_in}
use Rattle.comp_types.specs.Spaces.{item_at}
use Rattle.comp_instances.proofs.NamedLemmas.{named-last}
use Rattle.comp_instances.proofs.inline.names_fit.Goals as goal

pub returns-then-not-fits : goal.returns-then-not-fits
returns-then-not-fits c = λ s h.
    let x = c.item-item.result in
    let i = c.loop-item.item-index in
    let items = c.args.items.now in
    let before = take i items in
    let next : drop i items ≡ x ∷ drop (i + 1) items = drop_more items i x c.loop-item-test.true ∙ ap (λ y. y ∷ drop (i + 1) items) (sym c.item-item.is) in
    let here : false ≡ if_there (name_fits (named_items s before) x.name) (item_at s x.sort x.index) =
    sym c.if-not-fits.true
    ∙ (c.in_ok-fits.ensures
    ∙ (ap (λ es. if_there (name_fits es x.name) (option_map item_of c.in_ok-found.found)) (c.loop-item.invariant.entries s h) ∙ ap (if_there (name_fits (named_items s before) x.name)) (c.in_ok-found.ensures s h))) in
    ap (λ b. b && names_fit_in s (before ++ x ∷ []) (drop (i + 1) items)) here ∙ (sym (ap (names_fit_in s before) next) ∙ sym (c.loop-item.invariant.fit s h))

pub loop-item-preserved : goal.loop-item-preserved
loop-item-preserved c =
    let x = c.item-item.result in
    let i = c.loop-item.item-index in
    let items = c.args.items.now in
    let more : take (i + 1) items ≡ take i items ++ x ∷ [] = take_more items i x c.loop-item-test.true ∙ ap (λ y. take i items ++ y ∷ []) (sym c.item-item.is) in
    let before = take i items in
    let next : drop i items ≡ x ∷ drop (i + 1) items = drop_more items i x c.loop-item-test.true ∙ ap (λ y. y ∷ drop (i + 1) items) (sym c.item-item.is) in
    record {
      entries = λ s h.
          c.in_ok-push_named.ensures
          ∙ (ap (and_some_entry c.loop-item.entries x.name) (c.in_ok-found.ensures s h)
          ∙ (ap (λ es. and_some_entry es x.name (item_at s x.sort x.index)) (c.loop-item.invariant.entries s h) ∙ (sym (named-last s before x) ∙ ap (named_items s) (sym more))));
      fit = λ s h.
          let here : true ≡ if_there (name_fits (named_items s before) x.name) (item_at s x.sort x.index) =
          sym c.if-not-fits.false
          ∙ (c.in_ok-fits.ensures
          ∙ (ap (λ es. if_there (name_fits es x.name) (option_map item_of c.in_ok-found.found)) (c.loop-item.invariant.entries s h) ∙ ap (if_there (name_fits (named_items s before) x.name)) (c.in_ok-found.ensures s h))) in
          c.loop-item.invariant.fit s h
          ∙ (ap (names_fit_in s before) next
          ∙ (sym (ap (λ b. b && names_fit_in s (before ++ x ∷ []) (drop (i + 1) items)) here) ∙ ap (λ xs. names_fit_in s xs (drop (i + 1) items)) (sym more)));
    }
