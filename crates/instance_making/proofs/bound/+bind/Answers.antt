use Rattle.std.proofs.Common.{◌≡◌, ◌∙◌, ap, sym, subst, arith, drop, ◌++◌, ◌+◌, ◌∷◌}
use Rattle.std.specs.Option.{option_copied}
use Rattle.std.proofs.lemmas.List.{drop_more, drop_all}
use Rattle.comp_types.specs.Sizes.{item_size}
use Rattle.comp_types.specs.Views.{item_of, entries_of}
use Rattle.comp_types.specs.declared.types.InstanceEntry.{InstanceEntry}
use Rattle.comp_types.specs.declared.types.InstanceType.{InstanceType}
use Rattle.comp_types.proofs.UnpackLemmas.{item_in}
use Rattle.comp_link.specs.Linking.{find, bound, all_bound}
use Rattle.instance_making.specs.Shown.{SamePartners}
use Rattle.instance_making.proofs.PartnerLemmas.{partners_none, partners_step, partners_done}
use Rattle.instance_making.proofs.FoundLemmas.{given_in, made_there, got_at}
use Rattle.instance_making.proofs.BoundLemmas.{func_bound, no_number, some_number, number_bound}
use Rattle.instance_making.proofs.bound.+bind.Goals as goal

pub bind-returns-in-Func : goal.bind-returns-in-Func
bind-returns-in-Func t c = λ before o k same. partners_none c.args.resources.now (bound o (item_of c.args.ty.now)) (ap (λ y. bound o (item_of y)) c.in-Func.is ∙ func_bound o c.in-Func.field-0.value)

pub bind-returns-in-None : goal.bind-returns-in-None
bind-returns-in-None t c = λ before o k same.
    partners_none c.args.resources.now (bound o (item_of c.args.ty.now)) (ap (λ y. bound o (item_of y)) c.in-Instance.is ∙ no_number before (option_copied c.args.given) o c.in-Instance.ty.value.entries same (sym c.number_in.ensures ∙ c.in-None.is))

pub bind-returns-in_ok-bind_all-in-Some : goal.bind-returns-in_ok-bind_all-in-Some
bind-returns-in_ok-bind_all-in-Some t c = λ before o k same.
    let x = some_number before (option_copied c.args.given) o c.in-Some.number same (sym c.number_in.ensures ∙ c.in-Some.is) in
    let es = c.as_slice.ensures ∙ ap (λ (v : InstanceType). v.entries) c.deref.ensures in
    subst (λ by. SamePartners c.bind_all.new.resources (c.args.resources.now ++ by))
    (ap (λ e. all_bound x.0 e) es ∙ sym (ap (λ y. bound o (item_of y)) c.in-Instance.is ∙ number_bound o x.0 c.in-Instance.ty.value.entries x.2))
    (c.in_ok-bind_all-in-Some.ensures before x.0 k x.1)

pub bind-returns-in_ok-bind_kind-in-Kind : goal.bind-returns-in_ok-bind_kind-in-Kind
bind-returns-in_ok-bind_kind-in-Kind t c = λ before o k same.
    subst (λ y. SamePartners c.bind_kind.new.resources (c.args.resources.now ++ bound o (item_of y))) (sym c.in-Kind.is) (c.in_ok-bind_kind-in-Kind.ensures before o same)

pub bind_all-bind-requires : goal.bind_all-bind-requires
bind_all-bind-requires t c =
    let same = ap (λ (x : InstanceEntry). item_size (item_of x.ty)) c.entry-item.is in
    (omega (arith, c.decreases, same, item_in c.args.entries.now c.loop-entry.entry-index c.entry-item.result c.loop-entry-test.true), tt)

pub bind_all-loop-entry-preserved : goal.bind_all-loop-entry-preserved
bind_all-loop-entry-preserved t c = λ before items k e.
    let x = c.entry-item.result in
    let i = c.loop-entry.entry-index in
    let xs = c.args.entries.now in
    let now = c.loop-entry.resources in
    let o = find x.name items in
    let all = c.args.resources.now ++ all_bound items (entries_of xs) in
    let next : drop i xs ≡ x ∷ drop (i + 1) xs = drop_more xs i x c.loop-entry-test.true ∙ ap (λ y. y ∷ drop (i + 1) xs) (sym c.entry-item.is) in
    let at = got_at c.get.result _ c.deref.result.now c.args.made.now.items c.args.number c.get.ensures.lookup.0 c.get.ensures.lookup.1 c.deref.ensures.value c.in-Some.is in
    let here = given_in before c.args.made.now.items c.args.number items x.name c.in-Some.items.now (option_copied c.get-in-loop-entry.result) k e at c.get-in-loop-entry.ensures in
    partners_step c.bind.new.resources now (bound o (item_of x.ty)) (all_bound items (entries_of (drop (i + 1) xs))) all (c.in_ok-bind.ensures before o k here)
    (subst (λ ys. SamePartners (now ++ all_bound items (entries_of ys)) all) next (c.loop-entry.invariant before items k e))

pub bind_all-returns-in_default : goal.bind_all-returns-in_default
bind_all-returns-in_default t c = λ before items k e.
    absurd (made_there before c.args.made.now.items c.args.number items k e (got_at c.get.result _ c.deref.result.now c.args.made.now.items c.args.number c.get.ensures.lookup.0 c.get.ensures.lookup.1 c.deref.ensures.value c.in_default.is))

pub bind_all-returns : goal.bind_all-returns
bind_all-returns t c = λ before items k e.
    partners_done c.loop-entry.resources (all_bound items (entries_of (drop c.loop-entry.entry-index c.args.entries.now))) (c.args.resources.now ++ all_bound items (entries_of c.args.entries.now))
    (ap (λ es. all_bound items (entries_of es)) (drop_all c.loop-entry.entry-index c.args.entries.now c.loop-entry-test.false)) (c.loop-entry.invariant before items k e)
