use Rattle.std.proofs.Common.{◌≡◌, ◌∙◌, ap, sym, subst, arith, take, ◌++◌, ◌+◌, ◌∷◌, [], Some, append_assoc}
use Rattle.std.proofs.lemmas.List.{take_more}
use Rattle.comp_types.specs.Sizes.{item_size}
use Rattle.comp_types.specs.Views.{item_of, entries_of}
use Rattle.comp_types.specs.declared.types.InstanceEntry.{InstanceEntry}
use Rattle.comp_types.specs.declared.types.InstanceType.{InstanceType}
use Rattle.comp_types.proofs.UnpackLemmas.{item_in}
use Rattle.comp_link.specs.Linking.{GivenInstance, find, all_outside, outside, all_known, known}
use Rattle.instance_making.specs.declared.given.Given.TheVariants.{Instance}
use Rattle.instance_making.specs.Made.{IsInstance, IsGiven, Holds}
use Rattle.instance_making.specs.Outside.{AreKnown}
use Rattle.instance_making.proofs.MoreLemmas.{more_then, holds_more}
use Rattle.instance_making.proofs.FoundLemmas.{holds_with}
use Rattle.instance_making.proofs.KnownLemmas.{known_last, outside_last}
use Rattle.instance_making.proofs.imports.+outside.Goals as goal

pub outside_all-outside_item-requires : goal.outside_all-outside_item-requires
outside_all-outside_item-requires t c =
    let same = ap (λ (x : InstanceEntry). item_size (item_of x.ty)) c.entry-item.is in
    (omega (arith, c.decreases, same, item_in c.args.entries.now c.loop-entry.entry-index c.entry-item.result c.loop-entry-test.true), tt)

pub outside_all-loop-entry-preserved : goal.outside_all-loop-entry-preserved
outside_all-loop-entry-preserved t c =
    let x = c.entry-item.result in
    let i = c.loop-entry.entry-index in
    let xs = c.args.entries.now in
    let own = c.args.interface.now in
    let now = entries_of (take i xs) in
    let next = entries_of (take (i + 1) xs) in
    let item = outside own x.name (item_of x.ty) in
    let more : take (i + 1) xs ≡ take i xs ++ x ∷ [] = take_more xs i x c.loop-entry-test.true ∙ ap (λ y. take i xs ++ y ∷ []) (sym c.entry-item.is) in
    record {
      given = λ before k.
          let a = c.loop-entry.invariant.given before k in
          more_then before c.loop-entry.made.items c.outside_item.new.made.items (λ all. Holds all c.loop-entry.givens (all_outside own now)) (λ all. IsGiven all c.in_ok-item.item item) (λ all. Holds all c.add.new.self (all_outside own next))
          a (c.in_ok-item.ensures.given (before ++ a.more) a.made)
          (λ ys zs p q. holds_with (ys ++ zs) c.loop-entry.givens c.add.new.self (all_outside own now) (all_outside own next) x.name (Some c.in_ok-item.item) (Some item)
          (holds_more ys zs c.loop-entry.givens (all_outside own now) p) q c.in_ok-add.ensures
          (λ r. ap (λ es. find r (all_outside own (entries_of es))) more ∙ outside_last r own (take i xs) x));
      known = λ ks h.
          subst (λ l. AreKnown c.outside_item.new.resources l)
          (append_assoc ks (all_known own now) (known own x.name (item_of x.ty)) ∙ ap (λ l. ks ++ l) (sym (ap (λ es. all_known own (entries_of es)) more ∙ known_last own (take i xs) x)))
          (c.in_ok-item.ensures.known (ks ++ all_known own now) (c.loop-entry.invariant.known ks h));
    }

pub outside_item-returns-in_ok-number-in-Instance-clause-given : goal.outside_item-returns-in_ok-number-in-Instance-clause-given
outside_item-returns-in_ok-number-in-Instance-clause-given t c = λ before k.
    let a = c.in_ok-items-in-Instance.ensures.given before k in
    let items = all_outside c.args.name.now (entries_of c.as_slice.result.now) in
    let r = c.in_ok-number-in-Instance.ensures (before ++ a.more) items a.made a.holds in
    let e : GivenInstance items ≡ outside c.args.interface.now c.args.name.now (item_of c.args.ty.now) =
    ap (λ es. GivenInstance (all_outside c.args.name.now es)) (c.as_slice.ensures ∙ ap (λ (v : InstanceType). v.entries) c.deref.ensures)
    ∙ sym (ap (λ y. outside c.args.interface.now c.args.name.now (item_of y)) c.in-Instance.is) in
    more_then before c.outside_all.new.made.items c.and_instance.new.made.items (λ all. Holds all c.in_ok-items-in-Instance.items items) (λ all. IsInstance all c.in_ok-number-in-Instance.number items)
    (λ all. IsGiven all (Instance c.in_ok-number-in-Instance.number) (outside c.args.interface.now c.args.name.now (item_of c.args.ty.now)))
    a (record { more = items ∷ []; made = r.0; holds = r.1 }) (λ ys zs p q. (items, q, e))
