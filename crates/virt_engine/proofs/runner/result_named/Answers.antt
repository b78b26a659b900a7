use Rattle.std.proofs.Common.{◌∙◌, ap, sym}
use Rattle.std.specs.Prelude.{option_map}
use Rattle.wit_types.specs.Plain.{plain_result}
use Rattle.host_script.specs.Exports.{export_named}
use Rattle.virt_engine.proofs.Results.{result_is, result_none, typed_is}
use Rattle.virt_engine.proofs.runner.result_named.Goals as goal

pub returns-in-Some : goal.returns-in-Some
returns-in-Some c =
    typed_is c.as_ref.result ∙ (ap plain_result c.as_ref.ensures.value
    ∙ result_is c.args.name.now c.args.exports.now c.in-Some.export.now (ap (option_map (λ e. e.now)) (sym c.in-Some.is) ∙ (c.find.ensures ∙ ap (λ n. export_named n c.args.exports.now) c.as_str.ensures)))

pub returns-in-None : goal.returns-in-None
returns-in-None c = result_none c.args.name.now c.args.exports.now (ap (option_map (λ e. e.now)) (sym c.in-None.is) ∙ (c.find.ensures ∙ ap (λ n. export_named n c.args.exports.now) c.as_str.ensures))
