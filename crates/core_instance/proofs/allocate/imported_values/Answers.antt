use Rattle.std.proofs.Common.{◌++◌, ◌∷◌, [], length, map, take, ap, sym, subst, ◌∙◌}
use Rattle.std.specs.Prelude.{slice_index_or}
use Rattle.std.specs.List.{All}
use Rattle.std.proofs.lemmas.List.{map_more}
use Rattle.std.proofs.lemmas.List.Elements.{All-push}
use Rattle.std.proofs.lemmas.Option.{get_or_from_slice_get}
use Rattle.core_store.specs.declared.value.CoreValue.TheVariants.{I32}
use Rattle.core_store.specs.State.{IsStoreValue}
use Rattle.core_instance.proofs.allocate.imported_values.Goals as goal

pub loop-at-preserved : goal.loop-at-preserved
loop-at-preserved c =
    let i = c.loop-at.at-index in
    let values = c.args.store.now.globals in
    let more = c.in_ok-push.ensures.items in (
      more
          ∙ (ap (λ xs. xs ++ c.global_get.result ∷ []) c.loop-at.invariant.0
          ∙ (ap (λ v. map (λ at. slice_index_or values at (I32 0)) (take i c.args.globals.now) ++ v ∷ []) (sym (get_or_from_slice_get values _ c.global_get.result (I32 0) c.global_get.ensures.value))
          ∙ sym (map_more (λ at. slice_index_or values at (I32 0)) c.args.globals.now i _ c.loop-at-test.true))),
      subst (All (IsStoreValue (length c.args.store.now.functions))) (sym more) (All-push (IsStoreValue (length c.args.store.now.functions)) c.loop-at.list.items c.global_get.result c.loop-at.invariant.1 c.global_get.ensures.names),
    )
