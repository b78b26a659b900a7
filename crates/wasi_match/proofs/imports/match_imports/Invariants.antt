use Rattle.std.proofs.Common.{take}
use Rattle.comp_types.specs.Views.{entries_of}
use Rattle.wasi_match.specs.Begun.{IsBegun}
use Rattle.wasi_match.proofs.imports.match_imports.Given as goal

abbrev pub invariant-loop-i : goal.invariant-loop-i
invariant-loop-i l = IsBegun (entries_of (take l.i l.imports)) l.matched.uses l.matched.kinds
