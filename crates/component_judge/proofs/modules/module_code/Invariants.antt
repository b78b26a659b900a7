use Rattle.std.proofs.Common.{◌≡◌, ◌+◌, ◌-◌, ◌≤◌}
use Rattle.virt_base.specs.Place.{place}
use Rattle.component_judge.specs.Sizes.{code_behind, module_code}
use Rattle.component_judge.proofs.modules.module_code.Given as goal

abbrev pub invariant-loop : goal.invariant-loop
invariant-loop l = record {
  input : l.c.bytes.now ≡ l.bytes;
  read : l.code + code_behind (l.end - l.counter) (place l.c) ≡ module_code l.bytes;
  small : l.code ≤ l.c.at;
}
