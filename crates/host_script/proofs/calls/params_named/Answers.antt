use Rattle.std.proofs.Common.{◌∙◌, ap, sym}
use Rattle.std.specs.Prelude.{option_map}
use Rattle.host_script.proofs.ExportPlaces.{params-is, params-none}
use Rattle.host_script.proofs.calls.params_named.Goals as goal

pub returns-in-Some : goal.returns-in-Some
returns-in-Some c = params-is c.args.name.now c.args.exports.now c.in-Some.export.now (ap (option_map (λ e. e.now)) (sym c.in-Some.is) ∙ c.find.ensures)

pub returns-in-None : goal.returns-in-None
returns-in-None c = params-none c.args.name.now c.args.exports.now (ap (option_map (λ e. e.now)) (sym c.in-None.is) ∙ c.find.ensures)
