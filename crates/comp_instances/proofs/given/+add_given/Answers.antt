use Rattle.std.proofs.Common.{◌≡◌, ◌∙◌, ◌∷◌, ◌+◌, ap, sym, drop, arith}
use Rattle.std.proofs.lemmas.List.{drop_more}
use Rattle.comp_types.specs.Items.{look_up}
use Rattle.comp_types.specs.Sizes.{item_size}
use Rattle.comp_types.specs.Views.{item_of, entries_of}
use Rattle.comp_types.specs.declared.types.InstanceEntry.{InstanceEntry}
use Rattle.comp_types.proofs.UnpackLemmas.{item_in}
use Rattle.comp_types.specs.GivenResources.{given_by, given_for}
use Rattle.comp_instances.specs.Given.{and_pairs}
use Rattle.comp_instances.proofs.GivenLemmas.{onward}
use Rattle.comp_instances.proofs.given.+add_given.Goals as goal

pub add_given-loop-import-preserved : goal.add_given-loop-import-preserved
add_given-loop-import-preserved t c =
    let x = c.import-item.result in
    let l = c.loop-import in
    let args = c.args.args.now in
    let imports = c.args.imports.now in
    let next : drop l.import-index imports ≡ x ∷ drop (l.import-index + 1) imports =
    drop_more imports l.import-index x c.loop-import-test.true ∙ ap (λ y. y ∷ drop (l.import-index + 1) imports) (sym c.import-item.is) in
    onward _ l.by _ (given_for (look_up x.name args) (item_of x.ty)) (given_by args (entries_of (drop (l.import-index + 1) imports)))
    (l.invariant ∙ ap (λ xs. and_pairs l.by (given_by args (entries_of xs))) next) c.in_ok-add_given_one.ensures

pub add_given-add_given_one-requires : goal.add_given-add_given_one-requires
add_given-add_given_one-requires t c =
    let same = ap (λ (x : InstanceEntry). item_size (item_of x.ty)) c.import-item.is in
    (omega (arith, c.decreases, same, item_in c.args.imports.now c.loop-import.import-index c.import-item.result c.loop-import-test.true), tt)
