use Rattle.std.proofs.Common.{◌≡◌, ◌∙◌, ap, sym, ◌++◌, [], ◌∷◌, map, take, append_assoc}
use Rattle.wasm_ast.specs.declared.module.Global.{Global}
use Rattle.core_validate.proofs.GatherLemmas.{map-step, map-all}
use Rattle.core_validate.proofs.collect.add_globals.Goals as goal

pub loop-global-preserved : goal.loop-global-preserved
loop-global-preserved c =
    let x = c.global-item.result in
    let i = c.loop-global.global-index in
    let old = c.args.list.now.items in
    c.in_ok-push.ensures.items ∙ ap (λ l. l ++ x.ty ∷ []) c.loop-global.invariant ∙ append_assoc old (map (λ (g : Global). g.ty) (take i c.args.globals.now)) (x.ty ∷ [])
    ∙ ap (λ l. old ++ l) (sym (map-step (λ (g : Global). g.ty) c.args.globals.now i x c.loop-global-test.true c.global-item.is))

pub returns : goal.returns
returns c = c.loop-global.invariant ∙ ap (λ l. c.args.list.now.items ++ l) (map-all (λ (g : Global). g.ty) c.args.globals.now c.loop-global.global-index c.loop-global-test.false)
