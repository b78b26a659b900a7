use Rattle.std.proofs.Common.{◌∙◌, ap, sym}
use Rattle.std.specs.Prelude.{option_map}
use Rattle.comp_types.specs.Views.{item_of}
use Rattle.comp_instances.proofs.FaultLemmas.{export_is_there}
use Rattle.comp_instances.proofs.exports.define_plain.Goals as goal

pub returns-in-None : goal.returns-in-None
returns-in-None c = λ around s h plain stands early. absurd (export_is_there s c.args.export.now stands (sym (c.in_ok-found.ensures s h) ∙ ap (option_map item_of) c.in-None.is))

pub returns-in_ok-rule-in-Some : goal.returns-in_ok-rule-in-Some
returns-in_ok-rule-in-Some c = λ around s h plain stands early. c.in_ok-rule-in-Some.ensures around s h plain (sym (c.in_ok-found.ensures s h) ∙ ap (option_map item_of) c.in-Some.is) early
