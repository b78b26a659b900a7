use Rattle.std.proofs.Common.{◌≡◌, ◌++◌, string_bytes}
use Rattle.generated.specs.Scripts.{answer_text, spaced}
use Rattle.generated.proofs.script.put_answers.Given as goal

abbrev pub invariant-loop-k : goal.invariant-loop-k
invariant-loop-k l = string_bytes l.out ≡ string_bytes l.fn.out ++ spaced answer_text l.k
