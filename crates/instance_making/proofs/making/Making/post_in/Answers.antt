use Rattle.std.proofs.Common.{◌≡◌, ◌∙◌, ap, sym, drop, get_or, Some, ◌∷◌, ◌+◌}
use Rattle.std.proofs.lemmas.List.{drop_more}
use Rattle.wasm_ast.specs.declared.component.CanonOption.TheVariants.{Utf8, PostReturn}
use Rattle.comp_link.specs.Linking.{place_at, post_in}
use Rattle.instance_making.proofs.CanonLemmas.{skip-PostReturn}
use Rattle.instance_making.proofs.making.Making.post_in.Goals as goal

pub returns-in-PostReturn : goal.returns-in-PostReturn
returns-in-PostReturn c = λ made g h.
    let i = c.loop-option.option-index in
    let xs = c.args.options.now in
    let next : drop i xs ≡ PostReturn c.in-PostReturn.index ∷ drop (i + 1) xs = drop_more xs i Utf8 c.loop-option-test.true ∙ ap (λ o. o ∷ drop (i + 1) xs) c.in-PostReturn.is in
    ap (λ p. Some p) c.place_at.ensures ∙ (ap (λ ps. Some (place_at ps c.in-PostReturn.index)) h.core_functions ∙ sym (c.loop-option.invariant g ∙ ap (post_in g) next))

pub loop-option-preserved : goal.loop-option-preserved
loop-option-preserved c = λ g.
    let i = c.loop-option.option-index in
    let xs = c.args.options.now in
    c.loop-option.invariant g ∙ (ap (post_in g) (drop_more xs i Utf8 c.loop-option-test.true) ∙ skip-PostReturn g (get_or xs i Utf8) (drop (i + 1) xs) c.in_default.not-PostReturn)
