use Rattle.std.proofs.Common.{◌≡◌, [], ◌∷◌, ◌++◌, length, sym, ap, ◌∙◌, append_assoc, arith, length-append}
use Rattle.std.proofs.lemmas.List.{map-append}
use Rattle.std.specs.Vec.Iter.{into_iter_items}
use Rattle.adapter_transfer.specs.declared.module.Defined.{Defined}
use Rattle.adapter_transfer.specs.Module.{exports_from}
use Rattle.adapter_transfer.proofs.Exporting.{one, exports_more}
use Rattle.adapter_transfer.proofs.module.assemble.Goals as goal

pub loop-name-preserved : goal.loop-name-preserved
loop-name-preserved c =
    let at = c.loop-name in
    let d = c.in-Some.field-0 in
    let steps : into_iter_items at.name-iterator ≡ d ∷ into_iter_items c.next.new.self = c.in-Some.ensures.steps.0 in
    record {
      functions = c.in_ok-push.ensures.ok ∙ ap (λ l. l ++ d.ty ∷ []) at.invariant.functions ∙ sym (map-append (λ (x : Defined). x.ty) at.yielded (d ∷ []));
      exports =
          c.in_ok-push-2.ensures.ok ∙ ap (λ l. l ++ one d.name at.at ∷ []) at.invariant.exports ∙ append_assoc c.args.parts.exports (exports_from c.args.parts.imported at.yielded) (one d.name at.at ∷ [])
          ∙ ap (λ l. c.args.parts.exports ++ l) (sym (exports_more c.args.parts.imported at.at at.yielded d at.invariant.index));
      code = c.in_ok-push-3.ensures.ok ∙ ap (λ l. l ++ d.body ∷ []) at.invariant.code ∙ sym (map-append (λ (x : Defined). x.body) at.yielded (d ∷ []));
      index = let long = length-append at.yielded (d ∷ []) in omega (arith, at.invariant.index, long);
      rest = append_assoc at.yielded (d ∷ []) _ ∙ rw (← steps) at.invariant.rest;
      count =
          let was = at.invariant.count in
          let gone = c.in-Some.ensures.steps.1 in
          let short = ap length steps in
          omega arith;
    }
