use Rattle.std.proofs.Common.{◌≡◌, ◌+◌, ◌∙◌, ap, sym, [], length, Option, ℕ, true, false, is_some}
use Rattle.std.specs.Option.{option_to_list}
use Rattle.std.proofs.lemmas.Result.{IfOk-weaker}
use Rattle.core_body.specs.Views.{context_at}
use Rattle.core_validate.specs.Gather.{with_earlier}
use Rattle.core_validate.specs.Faults.{first_fault}
use Rattle.core_validate.specs.Items.{AFunction, ATable, AMemory, AGlobal, AStart, Segment, ABody, DataSegment, import_items, memory_items, export_items, body_items, plain_items, body_type, first_items, later_items}
use Rattle.core_validate.proofs.FirstLemmas.{stops, passes}
use Rattle.core_validate.proofs.Chains.{globals_on, memories_on, tables_on, functions_on, data_on, bodies_on, segments_on, start_on}
use Rattle.core_validate.proofs.whole.first_items_fault.Goals as goal

pub returns-then-is_some : goal.returns-then-is_some
returns-then-is_some c =
    let d = context_at c.args.spaces.now in
    let m = c.args.core.now in
    let a_is : c.imports_fault-rule.result ≡ first_fault d (import_items m.imports) = c.imports_fault-rule.ensures ∙ ap (λ l. first_fault d (import_items l)) c.as_slice.ensures in
    let a_some : is_some c.imports_fault-rule.result ≡ true = sym c.if-is_some.ensures in
    stops d (import_items m.imports) (functions_on m) c.imports_fault-rule.result a_is a_some

pub returns-then-is_some-2 : goal.returns-then-is_some-2
returns-then-is_some-2 c =
    let d = context_at c.args.spaces.now in
    let m = c.args.core.now in
    let a_is : c.imports_fault-rule.result ≡ first_fault d (import_items m.imports) = c.imports_fault-rule.ensures ∙ ap (λ l. first_fault d (import_items l)) c.as_slice.ensures in
    let a_some : is_some c.imports_fault-rule.result ≡ false = sym c.if-is_some.ensures in
    let b_is : c.functions_fault-rule.result ≡ first_fault d (plain_items AFunction m.functions) = c.functions_fault-rule.ensures ∙ ap (λ l. first_fault d (plain_items AFunction l)) c.as_slice-2.ensures in
    let b_some : is_some c.functions_fault-rule.result ≡ true = sym c.if-is_some-2.ensures in
    passes d (import_items m.imports) (functions_on m) c.imports_fault-rule.result c.functions_fault-rule.result a_is a_some (stops d (plain_items AFunction m.functions) (tables_on m) c.functions_fault-rule.result b_is b_some)

pub returns-then-is_some-3 : goal.returns-then-is_some-3
returns-then-is_some-3 c =
    let d = context_at c.args.spaces.now in
    let m = c.args.core.now in
    let a_is : c.imports_fault-rule.result ≡ first_fault d (import_items m.imports) = c.imports_fault-rule.ensures ∙ ap (λ l. first_fault d (import_items l)) c.as_slice.ensures in
    let a_some : is_some c.imports_fault-rule.result ≡ false = sym c.if-is_some.ensures in
    let b_is : c.functions_fault-rule.result ≡ first_fault d (plain_items AFunction m.functions) = c.functions_fault-rule.ensures ∙ ap (λ l. first_fault d (plain_items AFunction l)) c.as_slice-2.ensures in
    let b_some : is_some c.functions_fault-rule.result ≡ false = sym c.if-is_some-2.ensures in
    let c_is : c.tables_fault-rule.result ≡ first_fault d (plain_items ATable m.tables) = c.tables_fault-rule.ensures ∙ ap (λ l. first_fault d (plain_items ATable l)) c.as_slice-3.ensures in
    let c_some : is_some c.tables_fault-rule.result ≡ true = sym c.if-is_some-3.ensures in
    passes d (import_items m.imports) (functions_on m) c.imports_fault-rule.result c.tables_fault-rule.result a_is a_some (passes d (plain_items AFunction m.functions) (tables_on m) c.functions_fault-rule.result c.tables_fault-rule.result b_is b_some (stops d (plain_items ATable m.tables) (memories_on m) c.tables_fault-rule.result c_is c_some))

pub returns-then-is_some-4 : goal.returns-then-is_some-4
returns-then-is_some-4 c =
    let d = context_at c.args.spaces.now in
    let m = c.args.core.now in
    let a_is : c.imports_fault-rule.result ≡ first_fault d (import_items m.imports) = c.imports_fault-rule.ensures ∙ ap (λ l. first_fault d (import_items l)) c.as_slice.ensures in
    let a_some : is_some c.imports_fault-rule.result ≡ false = sym c.if-is_some.ensures in
    let b_is : c.functions_fault-rule.result ≡ first_fault d (plain_items AFunction m.functions) = c.functions_fault-rule.ensures ∙ ap (λ l. first_fault d (plain_items AFunction l)) c.as_slice-2.ensures in
    let b_some : is_some c.functions_fault-rule.result ≡ false = sym c.if-is_some-2.ensures in
    let c_is : c.tables_fault-rule.result ≡ first_fault d (plain_items ATable m.tables) = c.tables_fault-rule.ensures ∙ ap (λ l. first_fault d (plain_items ATable l)) c.as_slice-3.ensures in
    let c_some : is_some c.tables_fault-rule.result ≡ false = sym c.if-is_some-3.ensures in
    let d_is : c.memories_fault-rule.result ≡ first_fault d (memory_items m) = c.memories_fault-rule.ensures ∙ ap (λ l. first_fault d (with_earlier (λ before x. AMemory (c.args.imported + length before) x) [] l)) c.as_slice-4.ensures ∙ ap (λ n. first_fault d (with_earlier (λ before x. AMemory (n + length before) x) [] m.memories)) c.requires in
    let d_some : is_some c.memories_fault-rule.result ≡ true = sym c.if-is_some-4.ensures in
    passes d (import_items m.imports) (functions_on m) c.imports_fault-rule.result c.memories_fault-rule.result a_is a_some (passes d (plain_items AFunction m.functions) (tables_on m) c.functions_fault-rule.result c.memories_fault-rule.result b_is b_some (passes d (plain_items ATable m.tables) (memories_on m) c.tables_fault-rule.result c.memories_fault-rule.result c_is c_some (stops d (memory_items m) (globals_on m) c.memories_fault-rule.result d_is d_some)))

pub returns : goal.returns
returns c =
    let d = context_at c.args.spaces.now in
    let m = c.args.core.now in
    let a_is : c.imports_fault-rule.result ≡ first_fault d (import_items m.imports) = c.imports_fault-rule.ensures ∙ ap (λ l. first_fault d (import_items l)) c.as_slice.ensures in
    let a_some : is_some c.imports_fault-rule.result ≡ false = sym c.if-is_some.ensures in
    let b_is : c.functions_fault-rule.result ≡ first_fault d (plain_items AFunction m.functions) = c.functions_fault-rule.ensures ∙ ap (λ l. first_fault d (plain_items AFunction l)) c.as_slice-2.ensures in
    let b_some : is_some c.functions_fault-rule.result ≡ false = sym c.if-is_some-2.ensures in
    let c_is : c.tables_fault-rule.result ≡ first_fault d (plain_items ATable m.tables) = c.tables_fault-rule.ensures ∙ ap (λ l. first_fault d (plain_items ATable l)) c.as_slice-3.ensures in
    let c_some : is_some c.tables_fault-rule.result ≡ false = sym c.if-is_some-3.ensures in
    let d_is : c.memories_fault-rule.result ≡ first_fault d (memory_items m) = c.memories_fault-rule.ensures ∙ ap (λ l. first_fault d (with_earlier (λ before x. AMemory (c.args.imported + length before) x) [] l)) c.as_slice-4.ensures ∙ ap (λ n. first_fault d (with_earlier (λ before x. AMemory (n + length before) x) [] m.memories)) c.requires in
    let d_some : is_some c.memories_fault-rule.result ≡ false = sym c.if-is_some-4.ensures in
    IfOk-weaker c.globals_fault.result _ _ (λ v h. (passes d (import_items m.imports) (functions_on m) c.imports_fault-rule.result v a_is a_some (passes d (plain_items AFunction m.functions) (tables_on m) c.functions_fault-rule.result v b_is b_some (passes d (plain_items ATable m.tables) (memories_on m) c.tables_fault-rule.result v c_is c_some (passes d (memory_items m) (globals_on m) c.memories_fault-rule.result v d_is d_some (h ∙ ap (λ l. first_fault d (plain_items AGlobal l)) c.as_slice-5.ensures)))))) c.globals_fault.ensures
