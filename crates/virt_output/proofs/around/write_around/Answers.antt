use Rattle.std.proofs.Common.{◌∙◌, ◌≤◌, sym, ap, subst, List, ℕ, length, ◌++◌, arith}
use Rattle.comp_types.specs.Items.{Entries}
use Rattle.comp_write.specs.Copying.{SpellsBare}
use Rattle.virt_output.specs.Output.{output_tree}
use Rattle.virt_output.specs.Bytes.{front_bytes, back_bytes, CanBeNamed, CanBeSized, AreWritable}
use Rattle.virt_output.proofs.AroundLaws.{output_spelled, few_before}
use Rattle.virt_output.proofs.around.write_around.Goals as goal

pub returns-then-size-gt-MOST-clause-written : goal.returns-then-size-gt-MOST-clause-written
returns-then-size-gt-MOST-clause-written c = λ low named sized. absurd (omega (arith, c.if-size-gt-MOST.true, low))

pub back-requires : goal.back-requires
back-requires c = c.can_be_named.ensures.0 c.if-not-can_be_named.false

pub returns-clause-written : goal.returns-clause-written
returns-clause-written c =
    let ends = c.in_ok-back.ensures in (
      omega (arith, c.if-size-gt-MOST.false),
      subst CanBeNamed c.as_slice-entries.ensures (c.can_be_named.ensures.0 c.if-not-can_be_named.false),
      subst CanBeSized c.as_slice-entries.ensures ends.0,
      c.in_ok-front.ensures,
      ends.2 ∙ ap back_bytes c.as_slice-entries.ensures,
    )

pub returns-clause-few : goal.returns-clause-few
returns-clause-few c = subst (λ (z : List ℕ). length z ≤ 14) (sym c.in_ok-front.ensures) (few_before c.args.size)

pub returns-clause-spelled : goal.returns-clause-spelled
returns-clause-spelled c = λ t app size spelled.
    let ends = c.in_ok-back.ensures in
    let es : Entries = c.args.exports.now in
    let writable : AreWritable es = subst AreWritable c.as_slice-entries.ensures ends.1 in
    let sized : CanBeSized es = subst CanBeSized c.as_slice-entries.ensures ends.0 in
    let all = output_spelled t es c.args.size app (omega (arith, c.if-size-gt-MOST.false)) writable.aliases writable.exported sized size spelled in
    subst (λ (z : List ℕ). SpellsBare 0 (output_tree t es) (z ++ (app ++ c.in_ok-back.back.items))) (sym c.in_ok-front.ensures)
    (subst (λ (z : List ℕ). SpellsBare 0 (output_tree t es) (front_bytes c.args.size ++ (app ++ z))) (sym (ends.2 ∙ ap back_bytes c.as_slice-entries.ensures)) all)
