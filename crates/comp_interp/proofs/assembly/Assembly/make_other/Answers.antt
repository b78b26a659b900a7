use Rattle.std.proofs.Common.{sym, subst, refl, append-nil, [], ◌∷◌, ◌++◌}
use Rattle.instance_making.specs.Made.{AreMade}
use Rattle.instance_making.specs.Shown.{Stands}
use Rattle.std.specs.Option.{option_map}
use Rattle.comp_types.specs.Views.{item_of}
use Rattle.comp_link.specs.Plans.{OfCoreItems, OfItems, Lifts}
use Rattle.comp_link.specs.Linking.{givens_of, link_item}
use Rattle.comp_link.specs.Planned.{item_named, args_named}
use Rattle.comp_calls.specs.Moments.{at}
use Rattle.comp_interp.specs.Others.{other_item}
use Rattle.comp_interp.proofs.Gathering.{Unchanged, unchanged_made}
use Rattle.comp_interp.proofs.Unchanging.{core_alias_unchanged, alias_unchanged, import_unchanged, export_unchanged}
use Rattle.comp_interp.proofs.assembly.Assembly.make_other.Goals as goal

pub returns-in_ok-name_core_items-in-OfCoreItems : goal.returns-in_ok-name_core_items-in-OfCoreItems
returns-in_ok-name_core_items-in-OfCoreItems g c = λ before gm stages ga idle e.
    let made = c.args.self.now.made.items in
    unchanged_made g.H.Host.step before [] made made (at g.H.Host.kept c.args.self.now.world) c.args.making.now c.name_core_items.new.self gm (other_item c.args.item.now gm) stages ga idle (subst (λ i. Unchanged gm (other_item i gm)) (sym c.in-OfCoreItems.is) (record { whole = refl; instance = refl; shadow = refl; canons = refl }))
    (subst (AreMade made) (sym (append-nil before)) ga.made) (subst (λ all. Stands all c.name_core_items.new.self (other_item c.args.item.now gm)) (sym (append-nil before)) (subst (λ i. Stands before c.name_core_items.new.self (other_item i gm)) (sym c.in-OfCoreItems.is) (subst (λ xs. Stands before c.name_core_items.new.self (link_item (OfCoreItems xs) gm)) c.as_slice-in-OfCoreItems.ensures (c.in_ok-name_core_items-in-OfCoreItems.ensures before gm ga.stands)))) e

pub returns-in_ok-alias_core_item-in-CoreItemOf : goal.returns-in_ok-alias_core_item-in-CoreItemOf
returns-in_ok-alias_core_item-in-CoreItemOf g c = λ before gm stages ga idle e.
    let made = c.args.self.now.made.items in
    unchanged_made g.H.Host.step before [] made made (at g.H.Host.kept c.args.self.now.world) c.args.making.now c.alias_core_item.new.self gm (other_item c.args.item.now gm) stages ga idle (subst (λ i. Unchanged gm (other_item i gm)) (sym c.in-CoreItemOf.is) (core_alias_unchanged gm c.in-CoreItemOf.sort c.in-CoreItemOf.instance c.in-CoreItemOf.name))
    (subst (AreMade made) (sym (append-nil before)) ga.made) (subst (λ all. Stands all c.alias_core_item.new.self (other_item c.args.item.now gm)) (sym (append-nil before)) (subst (λ i. Stands before c.alias_core_item.new.self (other_item i gm)) (sym c.in-CoreItemOf.is) (c.in_ok-alias_core_item-in-CoreItemOf.ensures before gm ga.stands))) e

pub returns-in_ok-alias_item-in-ItemOf : goal.returns-in_ok-alias_item-in-ItemOf
returns-in_ok-alias_item-in-ItemOf g c = λ before gm stages ga idle e.
    let made = c.args.self.now.made.items in
    unchanged_made g.H.Host.step before [] made made (at g.H.Host.kept c.args.self.now.world) c.args.making.now c.alias_item.new.self gm (other_item c.args.item.now gm) stages ga idle (subst (λ i. Unchanged gm (other_item i gm)) (sym c.in-ItemOf.is) (alias_unchanged gm c.in-ItemOf.sort c.in-ItemOf.instance c.in-ItemOf.name))
    (subst (AreMade made) (sym (append-nil before)) ga.made) (subst (λ all. Stands all c.alias_item.new.self (other_item c.args.item.now gm)) (sym (append-nil before)) (subst (λ i. Stands before c.alias_item.new.self (other_item i gm)) (sym c.in-ItemOf.is) (c.in_ok-alias_item-in-ItemOf.ensures before gm ga.made ga.stands))) e

pub returns-in_ok-lift-in-Lifts : goal.returns-in_ok-lift-in-Lifts
returns-in_ok-lift-in-Lifts g c = λ before gm stages ga idle e.
    let made = c.args.self.now.made.items in
    unchanged_made g.H.Host.step before [] made made (at g.H.Host.kept c.args.self.now.world) c.args.making.now c.lift.new.self gm (other_item c.args.item.now gm) stages ga idle (subst (λ i. Unchanged gm (other_item i gm)) (sym c.in-Lifts.is) (record { whole = refl; instance = refl; shadow = refl; canons = refl }))
    (subst (AreMade made) (sym (append-nil before)) ga.made) (subst (λ all. Stands all c.lift.new.self (other_item c.args.item.now gm)) (sym (append-nil before)) (subst (λ i. Stands before c.lift.new.self (other_item i gm)) (sym c.in-Lifts.is) (subst (λ xs. Stands before c.lift.new.self (link_item (Lifts c.in-Lifts.func xs c.in-Lifts.ty.value) gm)) c.as_slice-in-Lifts.ensures (c.in_ok-lift-in-Lifts.ensures before gm ga.stands)))) e

pub returns-in_ok-import-in-Imports : goal.returns-in_ok-import-in-Imports
returns-in_ok-import-in-Imports g c = λ before gm stages ga idle e.
    let made = c.args.self.now.made.items in
    unchanged_made g.H.Host.step before [] made made (at g.H.Host.kept c.args.self.now.world) c.args.making.now c.import.new.self gm (other_item c.args.item.now gm) stages ga idle (subst (λ i. Unchanged gm (other_item i gm)) (sym c.in-Imports.is) (import_unchanged gm c.in-Imports.name (item_of c.in-Imports.item)))
    (subst (AreMade made) (sym (append-nil before)) ga.made) (subst (λ all. Stands all c.import.new.self (other_item c.args.item.now gm)) (sym (append-nil before)) (subst (λ i. Stands before c.import.new.self (other_item i gm)) (sym c.in-Imports.is) (c.in_ok-import-in-Imports.ensures before gm ga.made ga.stands))) e

pub returns-in_ok-export-in-Exports : goal.returns-in_ok-export-in-Exports
returns-in_ok-export-in-Exports g c = λ before gm stages ga idle e.
    let made = c.args.self.now.made.items in
    unchanged_made g.H.Host.step before [] made made (at g.H.Host.kept c.args.self.now.world) c.args.making.now c.export.new.self gm (other_item c.args.item.now gm) stages ga idle (subst (λ i. Unchanged gm (other_item i gm)) (sym c.in-Exports.is) (export_unchanged gm c.in-Exports.name (item_named c.in-Exports.item) (option_map item_of c.in-Exports.stated)))
    (subst (AreMade made) (sym (append-nil before)) ga.made) (subst (λ all. Stands all c.export.new.self (other_item c.args.item.now gm)) (sym (append-nil before)) (subst (λ i. Stands before c.export.new.self (other_item i gm)) (sym c.in-Exports.is) (c.in_ok-export-in-Exports.ensures before gm ga.made ga.stands))) e

pub returns-in_ok-name_items-in-OfItems : goal.returns-in_ok-name_items-in-OfItems
returns-in_ok-name_items-in-OfItems g c = λ before gm stages ga idle e.
    let made = c.args.self.now.made.items in
    let items = givens_of gm (args_named c.in-OfItems.exports) in
    let both = subst (λ xs. AreMade c.name_items.new.made.items (before ++ givens_of gm (args_named xs) ∷ []) × Stands (before ++ givens_of gm (args_named xs) ∷ []) c.name_items.new.self (link_item (OfItems (args_named xs)) gm)) c.as_slice-in-OfItems.ensures (c.in_ok-name_items-in-OfItems.ensures before gm ga.made ga.stands) in
    unchanged_made g.H.Host.step before (items ∷ []) made c.name_items.new.made.items (at g.H.Host.kept c.args.self.now.world) c.args.making.now c.name_items.new.self gm (other_item c.args.item.now gm) stages ga idle
    (subst (λ i. Unchanged gm (other_item i gm)) (sym c.in-OfItems.is) (record { whole = refl; instance = refl; shadow = refl; canons = refl }))
    both.0 (subst (λ i. Stands (before ++ items ∷ []) c.name_items.new.self (other_item i gm)) (sym c.in-OfItems.is) both.1) e

pub returns-in-OfModule : goal.returns-in-OfModule
returns-in-OfModule g c = λ before gm stages ga idle e.
    let made = c.args.self.now.made.items in
    unchanged_made g.H.Host.step before [] made made (at g.H.Host.kept c.args.self.now.world) c.args.making.now c.args.making.now gm (other_item c.args.item.now gm) stages ga idle
    (subst (λ i. Unchanged gm (other_item i gm)) (sym c.in-OfModule.is) (record { whole = refl; instance = refl; shadow = refl; canons = refl }))
    (subst (AreMade made) (sym (append-nil before)) ga.made) (subst (λ all. Stands all c.args.making.now (other_item c.args.item.now gm)) (sym (append-nil before)) (subst (λ i. Stands before c.args.making.now (other_item i gm)) (sym c.in-OfModule.is) ga.stands)) e

pub returns-in-OfComponent : goal.returns-in-OfComponent
returns-in-OfComponent g c = λ before gm stages ga idle e.
    let made = c.args.self.now.made.items in
    unchanged_made g.H.Host.step before [] made made (at g.H.Host.kept c.args.self.now.world) c.args.making.now c.args.making.now gm (other_item c.args.item.now gm) stages ga idle
    (subst (λ i. Unchanged gm (other_item i gm)) (sym c.in-OfComponent.is) (record { whole = refl; instance = refl; shadow = refl; canons = refl }))
    (subst (AreMade made) (sym (append-nil before)) ga.made) (subst (λ all. Stands all c.args.making.now (other_item c.args.item.now gm)) (sym (append-nil before)) (subst (λ i. Stands before c.args.making.now (other_item i gm)) (sym c.in-OfComponent.is) ga.stands)) e
