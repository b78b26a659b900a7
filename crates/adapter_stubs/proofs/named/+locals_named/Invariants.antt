use Rattle.std.proofs.Common.{◌≡◌, ◌+◌, ◌*◌, max, drop}
use Rattle.adapter_code.specs.Code.{Stop, before, code_of}
use Rattle.adapter_code.proofs.Codes.{size}
use Rattle.adapter_stubs.specs.Named.{span}
use Rattle.adapter_stubs.proofs.named.+locals_named.Given as goal

abbrev pub invariant-locals_named-loop-statement : goal.invariant-locals_named-loop-statement
invariant-locals_named-loop-statement l = record {
  left : max l.most (span (code_of (drop l.statement-index l.list))) ≡ span (code_of l.list);
}

abbrev pub decreases-locals_named : goal.decreases-locals_named
decreases-locals_named l = 4 * size (code_of l.list.now) + 1

abbrev pub decreases-named_in : goal.decreases-named_in
decreases-named_in l = 4 * size (before l.statement.now Stop)
