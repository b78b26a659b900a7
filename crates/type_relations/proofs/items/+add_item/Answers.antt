use Rattle.std.proofs.Common.{◌≡◌, ◌∙◌, ◌+◌, ◌<◌, [], ap, refl, sym, subst, drop, length, arith, rules}
use Rattle.std.proofs.lemmas.Grind.{common_steps}
use Rattle.comp_types.specs.Items.{Item, Kind, Entries}
use Rattle.comp_types.specs.Sizes.{item_size}
use Rattle.comp_types.specs.Views.{item_of, kind_of, entries_of}
use Rattle.comp_types.specs.declared.types.InstanceEntry.{InstanceEntry}
use Rattle.comp_types.proofs.UnpackLemmas.{item_in}
use Rattle.comp_types.specs.GivenResources.{without, named_in, named_in_item, named_in_kind}
use Rattle.type_table.specs.Tables.{trees, HasItem, HasKind, HasEntries}
use Rattle.type_relations.specs.Once.{and_each}
use Rattle.type_relations.specs.Searches.{Finds}
use Rattle.type_relations.proofs.OnceLemmas.{next_is, each-without}
use Rattle.type_relations.proofs.SearchLemmas.{finds-nothing, finds-written, finds-fresh, going-on, going-all}
use Rattle.type_relations.proofs.SlotLemmas.{drop-all}
use Rattle.type_relations.proofs.HasLemmas.{has-entry}
use Rattle.type_relations.proofs.ItemLemmas.{item-nothing}
use Rattle.type_relations.proofs.items.+add_item.Goals as goal

-- ---- entries

pub add_slice-loop-entry-init : goal.add_slice-loop-entry-init
add_slice-loop-entry-init t c = λ has h. (refl, h)

pub add_slice-add_item-requires : goal.add_slice-add_item-requires
add_slice-add_item-requires t c =
    let same = ap (λ (x : InstanceEntry). item_size (item_of x.ty)) c.entry-item.is in
    (omega (arith, c.decreases, same, item_in c.args.entries.now c.loop-entry.entry-index c.entry-item.result c.loop-entry-test.true), tt)

pub add_slice-loop-entry-preserved : goal.add_slice-loop-entry-preserved
add_slice-loop-entry-preserved t c = λ has.
    let types = c.args.types.now in
    let es = c.args.entries.now in
    let i = c.loop-entry.entry-index in
    let x = c.entry-item.result in
    let within : i < length es = c.loop-entry-test.true in
    going-on (trees types) c.args.search.now c.loop-entry.search c.add_item.new.search (named_in (entries_of es)) (named_in (entries_of (drop i es)))
    (named_in_item (item_of x.ty)) (named_in (entries_of (drop (i + 1) es))) (c.loop-entry.invariant has)
    (ap (λ xs. named_in (entries_of xs)) (next_is es i x within c.entry-item.is)) (c.in_ok-add_item.ensures (has-entry types es i x within c.entry-item.is has))

pub add_slice-returns : goal.add_slice-returns
add_slice-returns t c = λ has.
    let es = c.args.entries.now in
    let end : c.loop-entry.entry-index ≡ length es = omega arith in
    going-all (trees c.args.types.now) c.args.search.now c.loop-entry.search (named_in (entries_of es)) (named_in (entries_of (drop c.loop-entry.entry-index es))) (c.loop-entry.invariant has)
    (ap (λ n. named_in (entries_of (drop n es))) end ∙ ap (λ xs. named_in (entries_of xs)) (drop-all es))

-- ---- an instance type, by a search of its own

pub add_declared-returns : goal.add_declared-returns
add_declared-returns t c = λ has.
    let types = c.args.types.now in
    let ty = c.args.ty.now in
    let old = c.args.search.now in
    let entries = ty.instance.value.entries in
    let es : entries_of c.as_slice.result.now ≡ entries = first_of (search rules, grind (arith, common_steps)) in
    let own : c.in_ok-own.own ≡ and_each [] ty.own = first_of (search rules, grind (arith, common_steps)) in
    let found : c.add_slice.new.search.found ≡ and_each [] (named_in entries) =
    finds-fresh (trees types) c.new-inside.result c.add_slice.new.search (named_in entries) c.new-inside.ensures.found c.new-inside.ensures.searched
    (subst (λ (es : Entries). Finds (trees types) c.new-inside.result c.add_slice.new.search (named_in es)) es (c.in_ok-add_slice.ensures (subst (HasEntries types) (sym es) has))) in
    finds-written (trees types) old (record old { found = c.push_without.new.self }) (without ty.own (named_in entries))
    (c.in_ok-push_without.ensures
    ∙ (ap (λ rs. and_each old.found (without rs c.add_slice.new.search.found)) own
    ∙ (ap (λ rs. and_each old.found (without (and_each [] ty.own) rs)) found ∙ each-without old.found ty.own (named_in entries)))) refl

-- ---- the type of an item

pub add_kind-returns-in_ok-push-in-Resource : goal.add_kind-returns-in_ok-push-in-Resource
add_kind-returns-in_ok-push-in-Resource t c = λ has.
    let old = c.args.search.now in
    let is : kind_of c.args.kind.now ≡ _ = ap kind_of c.in-Resource.is in
    finds-written (trees c.args.types.now) old (record old { found = c.push.new.self }) (named_in_kind (kind_of c.args.kind.now)) (c.in_ok-push-in-Resource.ensures ∙ ap (λ (k : Kind). and_each old.found (named_in_kind k)) (sym is)) refl

pub add_item-returns-then-not-has_resource : goal.add_item-returns-then-not-has_resource
add_item-returns-then-not-has_resource t c = λ has.
    finds-nothing (trees c.args.types.now) c.args.search.now (named_in_item (item_of c.args.ty.now)) (item-nothing (item_of c.args.ty.now) (sym c.has_resource.ensures ∙ c.if-not-has_resource.true))
