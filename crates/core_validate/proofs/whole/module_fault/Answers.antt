use Rattle.std.proofs.Common.{◌≡◌, sym, true, false, is_some}
use Rattle.std.proofs.lemmas.Result.{IfOk-weaker}
use Rattle.core_body.specs.Views.{context_at}
use Rattle.core_validate.specs.Items.{first_items, later_items}
use Rattle.core_validate.proofs.FirstLemmas.{stops, passes}
use Rattle.core_validate.proofs.whole.module_fault.Goals as goal

pub returns-then-is_some : goal.returns-then-is_some
returns-then-is_some c =
    let m = c.args.core.now in
    let some : is_some c.in_ok-rule.rule ≡ true = sym c.if-is_some.ensures in
    stops (context_at c.args.spaces.now) (first_items m) (later_items m) c.in_ok-rule.rule c.in_ok-rule.ensures some

pub returns : goal.returns
returns c =
    let m = c.args.core.now in
    let none : is_some c.in_ok-rule.rule ≡ false = sym c.if-is_some.ensures in
    IfOk-weaker c.later_items_fault.result _ _ (λ v h. passes (context_at c.args.spaces.now) (first_items m) (later_items m) c.in_ok-rule.rule v c.in_ok-rule.ensures none h) c.later_items_fault.ensures
