use Rattle.std.proofs.Common.{◌≡◌, ◌∙◌, ap, sym, drop, get_or, Some, ◌∷◌, ◌+◌}
use Rattle.std.proofs.lemmas.List.{drop_more}
use Rattle.wasm_ast.specs.declared.component.CanonOption.TheVariants.{Utf8, Realloc}
use Rattle.comp_link.specs.Linking.{place_at, realloc_in}
use Rattle.instance_making.proofs.CanonLemmas.{skip-Realloc}
use Rattle.instance_making.proofs.making.Making.realloc_in.Goals as goal

pub returns-in-Realloc : goal.returns-in-Realloc
returns-in-Realloc c = λ made g h.
    let i = c.loop-option.option-index in
    let xs = c.args.options.now in
    let next : drop i xs ≡ Realloc c.in-Realloc.index ∷ drop (i + 1) xs = drop_more xs i Utf8 c.loop-option-test.true ∙ ap (λ o. o ∷ drop (i + 1) xs) c.in-Realloc.is in
    ap (λ p. Some p) c.place_at.ensures ∙ (ap (λ ps. Some (place_at ps c.in-Realloc.index)) h.core_functions ∙ sym (c.loop-option.invariant g ∙ ap (realloc_in g) next))

pub loop-option-preserved : goal.loop-option-preserved
loop-option-preserved c = λ g.
    let i = c.loop-option.option-index in
    let xs = c.args.options.now in
    c.loop-option.invariant g ∙ (ap (realloc_in g) (drop_more xs i Utf8 c.loop-option-test.true) ∙ skip-Realloc g (get_or xs i Utf8) (drop (i + 1) xs) c.in_default.not-Realloc)
