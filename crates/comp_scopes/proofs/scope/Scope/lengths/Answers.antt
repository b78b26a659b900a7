use Rattle.std.proofs.Common.{◌≡◌, ◌∙◌, ap, sym, ℕ, length, rules}
use Rattle.std.proofs.lemmas.List.{length-map}
use Rattle.comp_types.specs.declared.lengths.Lengths.{Lengths}
use Rattle.comp_types.specs.Rules.{lengths_of}
use Rattle.comp_scopes.proofs.EachLemmas.{each_length}
use Rattle.comp_scopes.specs.Stands.{IsEntry, IsNested}
use Rattle.comp_scopes.proofs.scope.Scope.lengths.Goals as goal

same : (o : Lengths) (a b c d p q r s : ℕ) → a ≡ p → b ≡ q → c ≡ r → d ≡ s → (record o { functions = a; types = b; instances = c; components = d }) ≡ record o { functions = p; types = q; instances = r; components = s }
same o a b c d p q r s h i j k = cc

pub returns : goal.returns
returns c = λ s h.
    let k = c.args.self.now in
    let e1 : c.len.result ≡ length k.functions.items = search rules in
    let e2 : c.len-2.result ≡ length k.types.items = search rules in
    let e3 : c.len-3.result ≡ length k.instances.items = search rules in
    let e4 : c.len-4.result ≡ length k.components.items = search rules in
    c.lengths.ensures s h.core ∙ same (lengths_of s) _ _ _ _ _ _ _ _ (e1 ∙ (sym (length-map k.functions.items (λ f. f.value)) ∙ ap length h.rest.functions)) (e2 ∙ sym (each_length IsEntry s.types k.types.items h.rest.types))
    (e3 ∙ (sym (length-map k.instances.items (λ i. i.value.entries)) ∙ ap length h.rest.instances)) (e4 ∙ sym (each_length IsNested s.components k.components.items h.rest.components))
