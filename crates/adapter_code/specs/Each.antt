-- Loops over a list in memory.
use Rattle.adapter_code.specs.declared.statement.Statement.{Const, Int}
use Rattle.adapter_code.specs.declared.statement.IntOp.TheVariants.{Add}
use Rattle.adapter_code.specs.declared.write.Walk.{Walk}
use Rattle.adapter_code.specs.Code.{Code, Stop, Then, Turns, followed_by}

-- the place moves to the next element
abbrev pub onward : Walk → Code
onward w = Then (Const w.scratch w.step) (Then (Int Add w.at w.at w.scratch) Stop)

-- a body for each element of a list, before the rest
abbrev pub each_code : Walk → Code → Code → Code
each_code w body rest = Turns w.name w.count (followed_by body (onward w)) rest
