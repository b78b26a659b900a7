use Rattle.std.proofs.Common.{◌∙◌, ap, sym, subst, arith}
use Rattle.comp_types.specs.Matching.{Pairs}
use Rattle.comp_types.specs.Sizes.{item_size, kind_size, entries_size}
use Rattle.comp_types.specs.Substitution.{partner_in, item_with}
use Rattle.comp_types.specs.Views.{item_of, kind_of}
use Rattle.comp_types.specs.declared.types.DeclaredInstance.{DeclaredInstance}
use Rattle.comp_types.specs.declared.types.InstanceEntry.{InstanceEntry}
use Rattle.comp_types.proofs.ItemsWith.{item-stays}
use Rattle.comp_types.proofs.UnpackLemmas.{item_in}
use Rattle.type_table.specs.Tables.{HasItem}
use Rattle.type_relations.specs.Walked.{MakesItem}
use Rattle.type_relations.proofs.MakingSteps.{entry_grew, entry_made}
use Rattle.type_relations.proofs.renaming.+item_with.Goals as goal

pub slice_with-item_with-requires : goal.slice_with-item_with-requires
slice_with-item_with-requires t c =
    let same = ap (λ (x : InstanceEntry). item_size (item_of x.ty)) c.entry-item.is in
    (omega (arith, c.decreases, same, item_in c.args.entries.now c.loop-entry.entry-index c.entry-item.result c.loop-entry-test.true), tt)

pub item_with-returns-then-not-has_resource-clause-made : goal.item_with-returns-then-not-has_resource-clause-made
item_with-returns-then-not-has_resource-clause-made t c = λ h.
    let same = c.in_ok-same.ensures in
    let stays = item-stays (partner_in c.args.making.now.by) (item_of c.args.ty.now) (sym c.has_resource.ensures ∙ c.if-not-has_resource.true) in
    (same ∙ sym stays, subst (HasItem c.args.making.now.types) (sym same) h)

pub kind_with-declared_with-requires : goal.kind_with-declared_with-requires
kind_with-declared_with-requires t c =
    let is = ap kind_of c.in-Instance.is in
    let size = ap kind_size is in
    let same = ap (λ (d : DeclaredInstance). entries_size d.instance.value.entries) c.deref.ensures in
    (omega (arith, c.decreases, size, same), tt)

pub slice_with-returns-in_err-ty-clause-grew : goal.slice_with-returns-in_err-ty-clause-grew
slice_with-returns-in_err-ty-clause-grew t c =
    entry_grew c.args.making.now.types c.loop-entry.making.types c.item_with.new.making.types c.args.entries.now c.loop-entry.entry-index c.entry-item.result c.loop-entry-test.true c.entry-item.is c.loop-entry.invariant.grew
    c.item_with.ensures.grew

pub slice_with-returns-in_err-push-clause-grew : goal.slice_with-returns-in_err-push-clause-grew
slice_with-returns-in_err-push-clause-grew t c =
    entry_grew c.args.making.now.types c.loop-entry.making.types c.item_with.new.making.types c.args.entries.now c.loop-entry.entry-index c.entry-item.result c.loop-entry-test.true c.entry-item.is c.loop-entry.invariant.grew
    c.item_with.ensures.grew

pub slice_with-loop-entry-preserved : goal.slice_with-loop-entry-preserved
slice_with-loop-entry-preserved t c =
    let old = c.args.making.now in
    let mid = c.loop-entry.making in
    let new = c.item_with.new.making in
    let x = c.entry-item.result in
    let es = c.args.entries.now in
    let f = partner_in old.by in
    let one : MakesItem mid new (item_of x.ty) (item_of c.in_ok-ty.ty) = c.in_ok-ty.ensures.made in
    record {
      made = entry_made old.types mid.types new.types es c.loop-entry.entry-index x c.loop-entry-test.true c.entry-item.is c.loop-entry.invariant.grew c.item_with.ensures.grew f c.loop-entry.new c.push.new.self
          c.in_ok-name.name (item_of c.in_ok-ty.ty) c.loop-entry.invariant.made
          (λ h. ((one h).0 ∙ ap (λ (by : Pairs). item_with (partner_in by) (item_of x.ty)) c.loop-entry.invariant.by, (one h).1)) c.in_ok-name.ensures c.in_ok-push.ensures.ok;
      grew = entry_grew old.types mid.types new.types es c.loop-entry.entry-index x c.loop-entry-test.true c.entry-item.is c.loop-entry.invariant.grew c.item_with.ensures.grew;
      by = c.item_with.ensures.by ∙ c.loop-entry.invariant.by;
    }
