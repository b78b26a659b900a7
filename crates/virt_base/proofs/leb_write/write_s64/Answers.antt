use Rattle.std.proofs.Common.{arith, ◌++◌, List, ℕ, ap, sym, ◌≡◌, ◌∙◌}
use Rattle.std.proofs.lemmas.Int.{ints, to_z-of_z}
use Rattle.virt_base.specs.Leb.{number_by}
use Rattle.virt_base.proofs.LebLaws.{s64_shortest, shortest_by_is}
use Rattle.virt_base.proofs.leb_write.write_s64.Goals as goal

pub returns-in-Ok-clause-ok : goal.returns-in-Ok-clause-ok
returns-in-Ok-clause-ok c =
    let split = c.sign_and_bits-negative.result in
    let number : c.args.value ≡ number_by split.0 split.1 = sym (to_z-of_z _ c.args.value c.ranges.value) ∙ c.sign_and_bits-negative.ensures.number in
    c.in-Ok.ensures.ok ∙ ap (λ (z : List ℕ). c.args.out.now.items ++ z) (shortest_by_is c.args.value split.0 split.1 9 number)

pub returns-in-Ok-clause-shortest : goal.returns-in-Ok-clause-shortest
returns-in-Ok-clause-shortest c = s64_shortest c.args.value (omega (arith, ints)) (omega (arith, ints))

pub returns-in-Err-clause-shortest : goal.returns-in-Err-clause-shortest
returns-in-Err-clause-shortest c = s64_shortest c.args.value (omega (arith, ints)) (omega (arith, ints))
