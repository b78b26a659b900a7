use Rattle.std.proofs.Common.{◌≡◌, ◌+◌, ◌∙◌, ap, sym, [], length, Option, ℕ, true, false, is_some}
use Rattle.std.specs.Option.{option_to_list}
use Rattle.std.proofs.lemmas.Result.{IfOk-weaker}
use Rattle.core_body.specs.Views.{context_at}
use Rattle.core_validate.specs.Gather.{with_earlier}
use Rattle.core_validate.specs.Faults.{first_fault}
use Rattle.core_validate.specs.Items.{AFunction, ATable, AMemory, AGlobal, AStart, Segment, ABody, DataSegment, import_items, memory_items, export_items, body_items, plain_items, body_type, first_items, later_items}
use Rattle.core_validate.proofs.FirstLemmas.{stops, passes}
use Rattle.core_validate.proofs.Chains.{globals_on, memories_on, tables_on, functions_on, data_on, bodies_on, segments_on, start_on}
use Rattle.core_validate.proofs.whole.later_items_fault.Goals as goal

pub returns-then-is_some : goal.returns-then-is_some
returns-then-is_some c =
    let d = context_at c.args.spaces.now in
    let m = c.args.core.now in
    let a_is : c.in_ok-rule.rule ≡ first_fault d (export_items m.exports) = c.in_ok-rule.ensures ∙ ap (λ l. first_fault d (export_items l)) c.as_slice.ensures in
    let a_some : is_some c.in_ok-rule.rule ≡ true = sym c.if-is_some.ensures in
    stops d (export_items m.exports) (start_on m) c.in_ok-rule.rule a_is a_some

pub returns-then-is_some-2 : goal.returns-then-is_some-2
returns-then-is_some-2 c =
    let d = context_at c.args.spaces.now in
    let m = c.args.core.now in
    let a_is : c.in_ok-rule.rule ≡ first_fault d (export_items m.exports) = c.in_ok-rule.ensures ∙ ap (λ l. first_fault d (export_items l)) c.as_slice.ensures in
    let a_some : is_some c.in_ok-rule.rule ≡ false = sym c.if-is_some.ensures in
    let b_is : c.start_fault-rule.result ≡ first_fault d (plain_items AStart (option_to_list m.start)) = c.start_fault-rule.ensures in
    let b_some : is_some c.start_fault-rule.result ≡ true = sym c.if-is_some-2.ensures in
    passes d (export_items m.exports) (start_on m) c.in_ok-rule.rule c.start_fault-rule.result a_is a_some (stops d (plain_items AStart (option_to_list m.start)) (segments_on m) c.start_fault-rule.result b_is b_some)

pub returns-then-is_some-3 : goal.returns-then-is_some-3
returns-then-is_some-3 c =
    let d = context_at c.args.spaces.now in
    let m = c.args.core.now in
    let a_is : c.in_ok-rule.rule ≡ first_fault d (export_items m.exports) = c.in_ok-rule.ensures ∙ ap (λ l. first_fault d (export_items l)) c.as_slice.ensures in
    let a_some : is_some c.in_ok-rule.rule ≡ false = sym c.if-is_some.ensures in
    let b_is : c.start_fault-rule.result ≡ first_fault d (plain_items AStart (option_to_list m.start)) = c.start_fault-rule.ensures in
    let b_some : is_some c.start_fault-rule.result ≡ false = sym c.if-is_some-2.ensures in
    let c_is : c.in_ok-rule-2.rule ≡ first_fault d (plain_items Segment m.elements) = c.in_ok-rule-2.ensures ∙ ap (λ l. first_fault d (plain_items Segment l)) c.as_slice-2.ensures in
    let c_some : is_some c.in_ok-rule-2.rule ≡ true = sym c.if-is_some-3.ensures in
    passes d (export_items m.exports) (start_on m) c.in_ok-rule.rule c.in_ok-rule-2.rule a_is a_some (passes d (plain_items AStart (option_to_list m.start)) (segments_on m) c.start_fault-rule.result c.in_ok-rule-2.rule b_is b_some (stops d (plain_items Segment m.elements) (bodies_on m) c.in_ok-rule-2.rule c_is c_some))

pub returns-then-is_some-4 : goal.returns-then-is_some-4
returns-then-is_some-4 c =
    let d = context_at c.args.spaces.now in
    let m = c.args.core.now in
    let a_is : c.in_ok-rule.rule ≡ first_fault d (export_items m.exports) = c.in_ok-rule.ensures ∙ ap (λ l. first_fault d (export_items l)) c.as_slice.ensures in
    let a_some : is_some c.in_ok-rule.rule ≡ false = sym c.if-is_some.ensures in
    let b_is : c.start_fault-rule.result ≡ first_fault d (plain_items AStart (option_to_list m.start)) = c.start_fault-rule.ensures in
    let b_some : is_some c.start_fault-rule.result ≡ false = sym c.if-is_some-2.ensures in
    let c_is : c.in_ok-rule-2.rule ≡ first_fault d (plain_items Segment m.elements) = c.in_ok-rule-2.ensures ∙ ap (λ l. first_fault d (plain_items Segment l)) c.as_slice-2.ensures in
    let c_some : is_some c.in_ok-rule-2.rule ≡ false = sym c.if-is_some-3.ensures in
    let d_is : c.in_ok-rule-3.rule ≡ first_fault d (body_items m) = c.in_ok-rule-3.ensures ∙ ap (λ l. first_fault d (with_earlier (λ before b. ABody (body_type m (length before)) b) [] l)) c.as_slice-3.ensures in
    let d_some : is_some c.in_ok-rule-3.rule ≡ true = sym c.if-is_some-4.ensures in
    passes d (export_items m.exports) (start_on m) c.in_ok-rule.rule c.in_ok-rule-3.rule a_is a_some (passes d (plain_items AStart (option_to_list m.start)) (segments_on m) c.start_fault-rule.result c.in_ok-rule-3.rule b_is b_some (passes d (plain_items Segment m.elements) (bodies_on m) c.in_ok-rule-2.rule c.in_ok-rule-3.rule c_is c_some (stops d (body_items m) (data_on m) c.in_ok-rule-3.rule d_is d_some)))

pub returns : goal.returns
returns c =
    let d = context_at c.args.spaces.now in
    let m = c.args.core.now in
    let a_is : c.in_ok-rule.rule ≡ first_fault d (export_items m.exports) = c.in_ok-rule.ensures ∙ ap (λ l. first_fault d (export_items l)) c.as_slice.ensures in
    let a_some : is_some c.in_ok-rule.rule ≡ false = sym c.if-is_some.ensures in
    let b_is : c.start_fault-rule.result ≡ first_fault d (plain_items AStart (option_to_list m.start)) = c.start_fault-rule.ensures in
    let b_some : is_some c.start_fault-rule.result ≡ false = sym c.if-is_some-2.ensures in
    let c_is : c.in_ok-rule-2.rule ≡ first_fault d (plain_items Segment m.elements) = c.in_ok-rule-2.ensures ∙ ap (λ l. first_fault d (plain_items Segment l)) c.as_slice-2.ensures in
    let c_some : is_some c.in_ok-rule-2.rule ≡ false = sym c.if-is_some-3.ensures in
    let d_is : c.in_ok-rule-3.rule ≡ first_fault d (body_items m) = c.in_ok-rule-3.ensures ∙ ap (λ l. first_fault d (with_earlier (λ before b. ABody (body_type m (length before)) b) [] l)) c.as_slice-3.ensures in
    let d_some : is_some c.in_ok-rule-3.rule ≡ false = sym c.if-is_some-4.ensures in
    IfOk-weaker c.data_faults.result _ _ (λ v h. (passes d (export_items m.exports) (start_on m) c.in_ok-rule.rule v a_is a_some (passes d (plain_items AStart (option_to_list m.start)) (segments_on m) c.start_fault-rule.result v b_is b_some (passes d (plain_items Segment m.elements) (bodies_on m) c.in_ok-rule-2.rule v c_is c_some (passes d (body_items m) (data_on m) c.in_ok-rule-3.rule v d_is d_some (h ∙ ap (λ l. first_fault d (plain_items DataSegment l)) c.as_slice-4.ensures)))))) c.data_faults.ensures
