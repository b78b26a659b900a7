use Rattle.std.proofs.Common.{◌≡◌, ◌∙◌, ◌+◌, ◌-◌, ◌<◌, ap, sym, length, arith}
use Rattle.comp_linking.specs.Firsts.{declared_by, taken}
use Rattle.comp_linking.proofs.FirstLemmas.{taken_one}
use Rattle.comp_linking.proofs.types.first_length.Goals as goal

pub loop-item-preserved : goal.loop-item-preserved
loop-item-preserved c =
    let due = c.loop-item.due in
    let item = c.in-Some.item.now in
    let more = c.in-Some.more.now in
    let some : 0 < due = omega arith in
    let cut = c.in-Some.ensures.cases.0 in
    let next : c.in-Some-checked_add.next ≡ due - 1 + declared_by item = omega (arith, c.in-Some-checked_add.ensures, c.declared_by.ensures) in
    let one : taken due c.loop-item.rest.now ≡ taken c.in-Some-checked_add.next more + 1 = ap (taken due) cut ∙ (taken_one due item more some ∙ ap (λ k. taken k more + 1) (sym next)) in
    let long : length c.loop-item.rest.now ≡ length more + 1 = omega (arith, ap length cut) in
    (omega (arith, one, c.loop-item.invariant.0), omega (arith, long, c.loop-item.invariant.1))
