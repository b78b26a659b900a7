use Rattle.std.proofs.Common.{◌≡◌, ◌++◌, drop}
use Rattle.plug_compose.specs.Sources.{host_uses}
use Rattle.plug_compose.proofs.merged.push_sources.Given as goal

abbrev pub invariant-loop-i : goal.invariant-loop-i
invariant-loop-i l = l.all ++ host_uses (drop l.i l.sources) ≡ l.fn.all ++ host_uses l.sources
