use Rattle.std.proofs.Common.{◌≡◌, ◌∙◌, ap, sym, ℕ, length, rules}
use Rattle.comp_types.specs.declared.lengths.Lengths.{Lengths}
use Rattle.comp_scopes.specs.Found.{HasExports, IsKnownModule}
use Rattle.comp_scopes.proofs.EachLemmas.{each_length}
use Rattle.comp_scopes.proofs.core_scope.CoreScope.lengths.Goals as goal

same : (o : Lengths) (a b c d e f p q r s t u : ℕ) → a ≡ p → b ≡ q → c ≡ r → d ≡ s → e ≡ t → f ≡ u
    → (let x : Lengths = record { core_functions = a; core_tables = b; core_memories = c; core_globals = d; core_modules = e; core_instances = f; functions = o.functions; types = o.types; instances = o.instances; components = o.components } in x)
    ≡ record { core_functions = p; core_tables = q; core_memories = r; core_globals = s; core_modules = t; core_instances = u; functions = o.functions; types = o.types; instances = o.instances; components = o.components }
same o a b c d e f p q r s t u h i j k l m = cc

pub returns : goal.returns
returns c = λ s h.
    let k = c.args.self.now in
    let e1 : c.len.result ≡ length k.functions.items = search rules in
    let e2 : c.len-2.result ≡ length k.tables.items = search rules in
    let e3 : c.len-3.result ≡ length k.memories.items = search rules in
    let e4 : c.len-4.result ≡ length k.globals.items = search rules in
    let e5 : c.len-5.result ≡ length k.modules.items = search rules in
    let e6 : c.len-6.result ≡ length k.instances.items = search rules in
    same c.args.others _ _ _ _ _ _ _ _ _ _ _ _ (e1 ∙ ap length h.functions) (e2 ∙ ap length h.tables) (e3 ∙ ap length h.memories) (e4 ∙ ap length h.globals)
    (e5 ∙ sym (each_length IsKnownModule s.core_modules k.modules.items h.modules)) (e6 ∙ sym (each_length HasExports s.core_instances k.instances.items h.instances))
