use Rattle.std.proofs.Common.{◌∙◌, ap, sym, subst, List, ◌∷◌, length, arith}
use Rattle.comp_grammar.specs.TypeSections.{type_items}
use Rattle.wasm_ast.specs.declared.component.TypeItem.{TypeItem}
use Rattle.comp_pieces.proofs.TypeFits.{instance_law}
use Rattle.comp_pieces.proofs.type_items.instance_fits.Goals as goal

pub returns : goal.returns
returns c = λ fit.
    let whole = instance_law c.args.count c.args.rest.now (omega (arith, c.if-count-rest.false)) (c.number_fits.ensures c.if-not-number_fits.false) (c.in_ok-fit.ensures fit) in
    subst (λ (list : List TypeItem). type_items.Fits list) (sym (c.requires.items ∙ ap (λ (one : TypeItem). one ∷ c.args.rest.now) c.requires.first)) whole
