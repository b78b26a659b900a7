use Rattle.std.proofs.Common.{◌∙◌}
use Rattle.comp_instances.proofs.again.copy_entry.Goals as goal

pub returns : goal.returns
returns c = λ e h. record { kind = c.in_ok-copy.ensures ∙ h.kind; depth = h.depth }
