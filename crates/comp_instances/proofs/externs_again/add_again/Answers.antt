use Rattle.std.proofs.Common.{◌≡◌, ◌∙◌, ap, sym, subst}
use Rattle.std.specs.Prelude.{Option, Some}
use Rattle.wasm_ast.specs.declared.component.Sort.{Sort}
use Rattle.comp_types.specs.Items.{Item}
use Rattle.comp_types.specs.Views.{item_of}
use Rattle.comp_types.specs.Added.{and_again, and_some_item}
use Rattle.comp_types.specs.Spaces.{item_at}
use Rattle.comp_scopes.specs.Stands.{Stands}
use Rattle.comp_instances.proofs.externs_again.add_again.Goals as goal

pub returns-in_ok-add_item-in-Func : goal.returns-in_ok-add_item-in-Func
returns-in_ok-add_item-in-Func c = λ s h e.
    let x = c.add_item.new.self in
    subst (λ (k : Sort). item_at s k c.args.index ≡ Some (item_of c.args.item.now) → Stands (and_again s k c.args.index) x) (sym c.in-Func.is)
    (λ d. subst (λ (o : Option Item). Stands (and_some_item s o) x) (ap (λ y. Some y) c.in_ok-copy-in-Func.ensures ∙ sym d) (c.in_ok-add_item-in-Func.ensures s h)) e

pub returns-in_ok-add_item-in-Instance : goal.returns-in_ok-add_item-in-Instance
returns-in_ok-add_item-in-Instance c = λ s h e.
    let x = c.add_item-in-Instance.new.self in
    subst (λ (k : Sort). item_at s k c.args.index ≡ Some (item_of c.args.item.now) → Stands (and_again s k c.args.index) x) (sym c.in-Instance.is)
    (λ d. subst (λ (o : Option Item). Stands (and_some_item s o) x) (ap (λ y. Some y) c.in_ok-copy-in-Instance.ensures ∙ sym d) (c.in_ok-add_item-in-Instance.ensures s h)) e
