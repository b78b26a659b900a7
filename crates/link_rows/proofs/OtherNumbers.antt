-- The examples compute.
use Rattle.std.proofs.Common.{◌≡◌, [], ◌∷◌, map, None, refl, sym, ◌∙◌, ap}
use Rattle.std.specs.Prelude.{codes}
use Rattle.wit_types.specs.Plain.{OwnType}
use Rattle.host_port.specs.Calls.{Returned}
use Rattle.host_port.specs.Scripts.{script}
use Rattle.comp_worlds.specs.Acts.{◌>>◌, gives, traps, spent, takes_step, with_more, shows}
use Rattle.comp_worlds.specs.Calls.{on, below, core, store_of, finds_room, deep_enough}
use Rattle.comp_worlds.specs.Hosts.{reacts, loses, stays}
use Rattle.comp_worlds.specs.Observed.{runs_calls}
use Rattle.output_same.specs.Shown.{untyped, showing}
use Rattle.link_rows.specs.OtherNumbers.{app, output, made, makes, without_types, KindsExamples}

app_makes : makes app script ≡ made (codes "a") (OwnType 1) ∷ made (codes "b") (OwnType 3) ∷ Returned None ∷ []
unfolding ◌>>◌ gives traps spent takes_step with_more shows on below core store_of finds_room deep_enough reacts loses stays runs_calls script
app_makes = refl

output_makes : makes output script ≡ made (codes "a") (OwnType 3) ∷ made (codes "b") (OwnType 1) ∷ Returned None ∷ []
unfolding ◌>>◌ gives traps spent takes_step with_more shows on below core store_of finds_room deep_enough reacts loses stays runs_calls script
output_makes = refl

shown_by_app : makes app (showing untyped script) ≡ without_types
unfolding ◌>>◌ gives traps spent takes_step with_more shows on below core store_of finds_room deep_enough reacts loses stays runs_calls script
shown_by_app = refl

shown_by_output : makes output (showing untyped script) ≡ without_types
unfolding ◌>>◌ gives traps spent takes_step with_more shows on below core store_of finds_room deep_enough reacts loses stays runs_calls script
shown_by_output = refl

pub kinds_examples : KindsExamples
kinds_examples = record { by_app = app_makes; by_output = output_makes; alike = ap (map untyped) app_makes ∙ sym (ap (map untyped) output_makes); shown_by_app = shown_by_app; shown_by_output = shown_by_output }
