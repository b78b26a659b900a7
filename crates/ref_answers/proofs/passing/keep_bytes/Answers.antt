use Rattle.std.proofs.Common.{◌++◌, ◌+◌, ◌∙◌, ap, map, drop}
use Rattle.wit_types.specs.PlainValue.{plain_value, byte_values}
use Rattle.reference_step.specs.Values.{items}
use Rattle.ref_answers.specs.Passed.{kept}
use Rattle.ref_answers.proofs.PassLemmas.{passed_of, byte_step}
use Rattle.ref_answers.proofs.passing.keep_bytes.Goals as goal

pub loop-byte-preserved : goal.loop-byte-preserved
loop-byte-preserved c =
    let p = c.args.policy.now in
    let bytes = c.args.bytes.now in
    let i = c.loop-byte.byte-index in
    let done = map plain_value c.loop-byte.passed.items in
    let is = c.in_ok-keep.ensures ∙ ap (λ v. done ++ kept p v) c.byte_value.ensures in
    ap (λ vs. vs ++ passed_of p (items (byte_values (drop (i + 1) bytes)))) is
    ∙ byte_step p done _ bytes i 0 c.loop-byte-test.true c.loop-byte.invariant
