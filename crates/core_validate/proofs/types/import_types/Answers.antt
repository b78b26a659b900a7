use Rattle.std.proofs.Common.{◌≡◌, ◌∙◌, ap, sym, ◌++◌, [], ◌∷◌, map, take}
use Rattle.core_body.specs.Views.{context_at}
use Rattle.core_validate.specs.Typed.{core_import}
use Rattle.core_validate.proofs.GatherLemmas.{map-step, map-all}
use Rattle.core_validate.proofs.types.import_types.Goals as goal

pub loop-import-preserved : goal.loop-import-preserved
loop-import-preserved c =
    let f = (core_import (context_at c.args.spaces.now)) in
    let x = c.import-item.result in
    let i = c.loop-import.import-index in
    record {
      list =
          c.in_ok-push.ensures.items ∙ ap (λ l. l ++ c.in_ok-import_of.field-0 ∷ []) c.loop-import.invariant.list
          ∙ ap (λ y. map f (take i c.args.imports.now) ++ y ∷ []) c.in_ok-import_of.ensures.value
          ∙ sym (map-step f c.args.imports.now i x c.loop-import-test.true c.import-item.is);
      types = c.in_ok-import_of.ensures.same ∙ c.loop-import.invariant.types;
    }

pub returns : goal.returns
returns c = c.loop-import.invariant.list ∙ map-all (core_import (context_at c.args.spaces.now)) c.args.imports.now c.loop-import.import-index c.loop-import-test.false
