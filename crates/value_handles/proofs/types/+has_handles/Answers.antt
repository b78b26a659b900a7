use Rattle.std.proofs.Common.{sym}
use Rattle.value_handles.proofs.Only.{no_handles_in}
use Rattle.value_handles.proofs.types.+has_handles.Goals as goal

pub has_handles-returns-in_default : goal.has_handles-returns-in_default
has_handles-returns-in_default t c = sym (no_handles_in _ c.in_default.not-Record c.in_default.not-Tuple c.in_default.not-Variant c.in_default.not-List c.in_default.not-Option c.in_default.not-Result c.in_default.not-Own c.in_default.not-Borrow)
