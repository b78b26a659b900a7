use Rattle.std.proofs.Common.{◌≡◌, map, drop}
use Rattle.core_body.specs.Conditions.{least, FunctionAt}
use Rattle.core_body.specs.Views.{context_at}
use Rattle.core_validate.proofs.contents.each_function.Given as goal

abbrev pub invariant-loop-n : goal.invariant-loop-n
invariant-loop-n l = least (context_at l.spaces) (map FunctionAt (drop l.n-index l.ns)) ≡ least (context_at l.spaces) (map FunctionAt l.ns)
