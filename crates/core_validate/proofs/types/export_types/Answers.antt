use Rattle.std.proofs.Common.{◌≡◌, ◌∙◌, ap, sym, ◌++◌, [], ◌∷◌, map, take}
use Rattle.core_body.specs.Views.{context_at}
use Rattle.core_validate.specs.Typed.{core_export}
use Rattle.core_validate.proofs.GatherLemmas.{map-step, map-all}
use Rattle.core_validate.proofs.types.export_types.Goals as goal

pub loop-export-preserved : goal.loop-export-preserved
loop-export-preserved c =
    let f = (core_export (context_at c.args.spaces.now) c.args.memories.now) in
    let x = c.export-item.result in
    let i = c.loop-export.export-index in
    record {
      list =
          c.in_ok-push.ensures.items ∙ ap (λ l. l ++ c.in_ok-export_of.field-0 ∷ []) c.loop-export.invariant.list
          ∙ ap (λ y. map f (take i c.args.exports.now) ++ y ∷ []) c.in_ok-export_of.ensures.value
          ∙ sym (map-step f c.args.exports.now i x c.loop-export-test.true c.export-item.is);
      types = c.in_ok-export_of.ensures.same ∙ c.loop-export.invariant.types;
    }

pub returns : goal.returns
returns c = c.loop-export.invariant.list ∙ map-all (core_export (context_at c.args.spaces.now) c.args.memories.now) c.args.exports.now c.loop-export.export-index c.loop-export-test.false
