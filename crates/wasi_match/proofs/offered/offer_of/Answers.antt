use Rattle.std.proofs.Common.{◌≡◌, ◌∙◌, ◌<◌, ◌^◌, sym, ap, subst, length, map}
use Rattle.std.specs.Prelude.{All}
use Rattle.std.proofs.lemmas.List.{length-map}
use Rattle.wasi_table.specs.declared.interface.Use.{Use}
use Rattle.wasi_table.specs.Plain.{PlainInterface, plain_named_func}
use Rattle.wasi_listed.specs.Listed.{described}
use Rattle.wasi_match.proofs.TableLaws.{few_functions, uses_listed}
use Rattle.wasi_match.proofs.offered.offer_of.Goals as goal

pub used-requires : goal.used-requires
used-requires c =
    let same : c.as_slice.result.now ≡ (described c.args.number).uses = c.as_slice.ensures ∙ ap (λ (i : PlainInterface). i.uses) c.in_ok-interface.ensures in
    subst (All (λ (u : Use). u.interface < 27)) (sym same) (uses_listed c.args.number c.requires)

pub returns-clause-few : goal.returns-clause-few
returns-clause-few c =
    let fs = c.in_ok-interface.interface.functions in
    let same : map plain_named_func fs ≡ (described c.args.number).functions = ap (λ (i : PlainInterface). i.functions) c.in_ok-interface.ensures in
    subst (λ n. n < 2 ^ 32) (ap length (sym same) ∙ length-map fs plain_named_func) (few_functions c.args.number c.requires)
