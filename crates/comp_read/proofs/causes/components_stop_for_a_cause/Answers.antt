use Rattle.comp_read.proofs.ComponentCauses as laws
use Rattle.comp_read.proofs.AnyDepth as depths
use Rattle.comp_read.proofs.causes.components_stop_for_a_cause.Goals as goal

pub returns-clause-caused : goal.returns-clause-caused
returns-clause-caused c = laws.caused_component

pub returns-clause-any_depth : goal.returns-clause-any_depth
returns-clause-any_depth c = depths.at_any_depth
