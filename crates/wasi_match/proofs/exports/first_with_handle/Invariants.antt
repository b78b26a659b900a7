use Rattle.std.proofs.Common.{◌≡◌, false, take}
use Rattle.comp_types.specs.Resources.{entries_have_resource}
use Rattle.comp_types.specs.Views.{entries_of}
use Rattle.wasi_match.proofs.exports.first_with_handle.Given as goal

abbrev pub invariant-loop-i : goal.invariant-loop-i
invariant-loop-i l = entries_have_resource (entries_of (take l.i l.entries)) ≡ false
