use Rattle.std.proofs.Common.{length}
use Rattle.adapter_rows.proofs.dispatch.+choose_family.Given as goal

abbrev pub decreases-choose_family : goal.decreases-choose_family
decreases-choose_family l = length l.families.now
