use Rattle.std.proofs.Common.{◌≡◌, ◌++◌, map, take}
use Rattle.core_validate.proofs.collect.add_globals.Given as goal

abbrev pub invariant-loop-global : goal.invariant-loop-global
invariant-loop-global l = l.list.items ≡ l.fn.list.items ++ map (λ g. g.ty) (take l.global-index l.globals)
