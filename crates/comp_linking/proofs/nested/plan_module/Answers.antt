use Rattle.std.proofs.Common.{◌≡◌, ◌∙◌, ◌+◌, ap, refl, drop, arith}
use Rattle.wasm_ast.specs.Boxed.{Held}
use Rattle.wasm_ast.specs.declared.module.Module.{Module}
use Rattle.comp_linking.specs.Walks.{spaces, made}
use Rattle.comp_linking.proofs.NameLemmas.{next_is}
use Rattle.comp_linking.proofs.PartLemmas.{module_stands, module_more}
use Rattle.comp_linking.proofs.nested.plan_module.Goals as goal

pub returns : goal.returns
returns c = λ span ms todo outer a valid h.
    let x = c.args.planner.now in
    let m : Held Module = record { value = c.args.core.now } in
    let next = next_is ms x.count m todo h.rest in
    let n : c.in-Some.count ≡ x.count + 1 = omega (arith, c.in-Some.ensures) in
    record {
      scopes = module_stands (spaces outer) a.space span c.args.core.now c.define_module.new.scopes c.in_ok-define_module.field-0 valid (c.in_ok-define_module.ensures (spaces outer) a.space span h.scopes);
      rest = ap (λ k. drop k ms) n ∙ next.1;
      inner = module_more ms (made ms x.components.items) a.scope a.space.components a.plan x.count m x.inner (record x.inner { modules = c.push.new.self }) h.inner c.in_ok-push.ensures.items next.0 refl refl;
      outer = h.outer;
    }
