use Rattle.std.proofs.Common.{◌≡◌, ◌<◌, List, length, get_or, ap, subst, ◌∙◌}
use Rattle.wasm_ast.specs.declared.module.Body.{Body}
use Rattle.core_instance.proofs.FunctionLemmas.{functions_more, functions_length}
use Rattle.core_instance.proofs.RangeLemmas.{places_more}
use Rattle.core_instance.proofs.allocate.add_functions.Goals as goal

pub loop-index-preserved : goal.loop-index-preserved
loop-index-preserved c =
    let i = c.loop-index.index in
    let s = c.args.store.now in
    let m = c.args.core.now in
    let less = subst (λ (l : List Body). i < length l) c.as_slice-body-items.ensures c.loop-index-test.true in
    let item = subst (λ (l : List Body). c.body-item.result ≡ get_or l i c.body-item.result) c.as_slice-body-items.ensures c.body-item.is in
    let count = functions_length m c.args.instance i s.functions _ less (ap (λ s. s.functions) c.loop-index.invariant.0) in (
      functions_more m c.args.instance i s c.loop-index.store _ c.body-item.result c.in_ok-function.function less item c.in_ok-function.ensures c.loop-index.invariant.0 c.in_ok-at.ensures.2,
      places_more c.args.places.now c.loop-index.places _ (length s.functions) i c.in_ok-at.at c.loop-index.invariant.1 (c.in_ok-at.ensures.0 ∙ count) c.in_ok-push.ensures.ok,
    )
