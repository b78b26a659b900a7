use Rattle.std.proofs.Common.{◌≡◌, ◌++◌, string_bytes}
use Rattle.generated.specs.Scripts.{call_text, spaced}
use Rattle.generated.proofs.script.put_calls.Given as goal

abbrev pub invariant-loop-i : goal.invariant-loop-i
invariant-loop-i l = string_bytes l.out ≡ string_bytes l.fn.out ++ spaced call_text l.i-counter
