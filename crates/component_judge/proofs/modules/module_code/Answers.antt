use Rattle.std.proofs.Common.{◌∙◌, ap, ◌-◌, length, rules, arith}
use Rattle.virt_base.specs.Place.{place}
use Rattle.component_judge.specs.Sizes.{module_code}
use Rattle.component_judge.proofs.Counting.{too_short, ends, ends_last, goes_on}
use Rattle.component_judge.proofs.modules.module_code.Goals as goal

pub returns-then-bytes-lt-PREAMBLE-clause-value : goal.returns-then-bytes-lt-PREAMBLE-clause-value
returns-then-bytes-lt-PREAMBLE-clause-value c = too_short c.args.bytes.now c.if-bytes-lt-PREAMBLE.true

pub returns-in_default-clause-value : goal.returns-in_default-clause-value
returns-in_default-clause-value c =
    ends (length c.args.bytes.now - c.loop.counter) (place c.loop.c) c.loop.code (module_code c.args.bytes.now)
    (search (rules, c.in_default.ensures.section, c.in_default.is, c.in_default.not-Some)) c.loop.invariant.read

pub loop-preserved : goal.loop-preserved
loop-preserved c = record {
  input = ap (λ b. b.now) c.in-Some.ensures.input ∙ c.loop.invariant.input;
  read = rw (c.code_size-code.ensures.value) (goes_on (length c.args.bytes.now) c.loop.counter (place c.loop.c) (place c.next_section.new.c) c.in-Some.id c.in-Some.size c.loop.code (module_code c.args.bytes.now)
      c.loop-test.true c.in-Some.ensures.section c.loop.invariant.read);
  small = omega (arith, c.loop.invariant.small, c.in-Some.ensures.far, c.code_size-code.ensures.small);
}

pub returns-clause-value : goal.returns-clause-value
returns-clause-value c = ends_last (length c.args.bytes.now) c.loop.counter (place c.loop.c) c.loop.code (module_code c.args.bytes.now) c.loop-test.false c.loop.invariant.read
