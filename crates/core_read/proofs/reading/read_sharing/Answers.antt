use Rattle.std.proofs.Common.{◌∙◌, sym}
use Rattle.virt_base.specs.Place.{rest}
use Rattle.core_read.proofs.ModuleAnswers.{ok_is_the_module, unsupported_meets, malformed_is_longest, none_without_preamble, front_taken, no_front, from_start, outcome_of, ran_err}
use Rattle.core_read.proofs.reading.read_sharing.Goals as goal

pub returns-then-is_err : goal.returns-then-is_err
returns-then-is_err c = none_without_preamble c.args.bytes.now (no_front c.args.bytes.now c.expect_bytes.result c.expect_bytes.new.c (sym c.is_err.ensures.value ∙ c.if-is_err.true) (rw c.as_slice.ensures at c.expect_bytes.ensures.given))

pub returns-in-Ok : goal.returns-in-Ok
returns-in-Ok c =
    let body = rest c.expect_bytes.new.c in
    let front = front_taken c.args.bytes.now c.expect_bytes.result c.expect_bytes.new.c (sym c.is_err.ensures.value ∙ c.if-is_err.false) (rw c.as_slice.ensures at c.expect_bytes.ensures.given) in
    rw c.module.ensures (ok_is_the_module c.args.bytes.now body c.in-Ok.progress front.0 (outcome_of _ _ _ (from_start c.args.bytes.now body _ c.start.result c.expect_bytes.new.c.at c.start.ensures front.1 c.in-Ok.ensures.ran)))

pub returns-in-Err-Malformed : goal.returns-in-Err-Malformed
returns-in-Err-Malformed c =
    let body = rest c.expect_bytes.new.c in
    let front = front_taken c.args.bytes.now c.expect_bytes.result c.expect_bytes.new.c (sym c.is_err.ensures.value ∙ c.if-is_err.false) (rw c.as_slice.ensures at c.expect_bytes.ensures.given) in
    malformed_is_longest c.args.bytes.now body c.read_sections.new.good _ (λ a byte e. cc) front.0 (from_start c.args.bytes.now body _ c.start.result c.expect_bytes.new.c.at c.start.ensures front.1 (ran_err c.in-Err-Malformed.field-0 _ c.read_sections.new.good _ c.in-Err-Malformed.field-0-is (λ e. cc) c.in-Err-Malformed.ensures.ran))

pub returns-in-Err-Unsupported : goal.returns-in-Err-Unsupported
returns-in-Err-Unsupported c =
    let body = rest c.expect_bytes.new.c in
    let front = front_taken c.args.bytes.now c.expect_bytes.result c.expect_bytes.new.c (sym c.is_err.ensures.value ∙ c.if-is_err.false) (rw c.as_slice.ensures at c.expect_bytes.ensures.given) in
    unsupported_meets c.args.bytes.now body c.in-Err-Unsupported.at c.in-Err-Unsupported.byte front.0 (outcome_of _ _ _ (from_start c.args.bytes.now body _ c.start.result c.expect_bytes.new.c.at c.start.ensures front.1 (ran_err c.in-Err-Unsupported.field-0 _ c.read_sections.new.good _ c.in-Err-Unsupported.field-0-is (λ e. cc) c.in-Err-Unsupported.ensures.ran)))

pub returns-in-Err-TooNested : goal.returns-in-Err-TooNested
returns-in-Err-TooNested c =
    let body = rest c.expect_bytes.new.c in
    let front = front_taken c.args.bytes.now c.expect_bytes.result c.expect_bytes.new.c (sym c.is_err.ensures.value ∙ c.if-is_err.false) (rw c.as_slice.ensures at c.expect_bytes.ensures.given) in
    malformed_is_longest c.args.bytes.now body c.read_sections.new.good _ (λ a byte e. cc) front.0 (from_start c.args.bytes.now body _ c.start.result c.expect_bytes.new.c.at c.start.ensures front.1 (ran_err c.in-Err-TooNested.field-0 _ c.read_sections.new.good _ c.in-Err-TooNested.field-0-is (λ e. cc) c.in-Err-TooNested.ensures.ran))
