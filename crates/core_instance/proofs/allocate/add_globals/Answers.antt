use Rattle.std.proofs.Common.{length, ap, sym, subst, ◌∙◌}
use Rattle.core_instance.specs.Constants.{constant}
use Rattle.core_store.specs.State.{IsStoreValue}
use Rattle.core_instance.proofs.PlaceLemmas.{constant_there}
use Rattle.core_instance.proofs.GrowLemmas.{globals_more, grown_length}
use Rattle.core_instance.proofs.RangeLemmas.{places_more}
use Rattle.core_instance.proofs.allocate.add_globals.Goals as goal

pub loop-global-preserved : goal.loop-global-preserved
loop-global-preserved c =
    let i = c.loop-global.global-index in
    let s = c.args.store.now in
    let count = grown_length (λ g. constant c.args.names.now g.init) s.globals c.args.globals.now i _ c.loop-global-test.true (ap (λ s. s.globals) c.loop-global.invariant.0) in (
      globals_more (λ g. constant c.args.names.now g.init) s c.loop-global.store _ c.args.globals.now i c.global-item.result _ c.loop-global-test.true (c.constant.ensures ∙ ap (λ g. constant c.args.names.now g.init) c.global-item.is) c.loop-global.invariant.0 c.in_ok-at.ensures.2,
      places_more c.args.places.now c.loop-global.places _ (length s.globals) i c.in_ok-at.at c.loop-global.invariant.1 (c.in_ok-at.ensures.0 ∙ count) c.in_ok-push.ensures.ok,
    )

pub add_global-requires : goal.add_global-requires
add_global-requires c =
    let count = ap (λ s. length s.functions) c.loop-global.invariant.0 in
    let there = constant_there (length c.args.store.now.functions) c.args.names.now c.global-item.result.init c.requires in
    subst (λ n. IsStoreValue n c.constant.result) (sym count) (subst (IsStoreValue (length c.args.store.now.functions)) (sym c.constant.ensures) there)
