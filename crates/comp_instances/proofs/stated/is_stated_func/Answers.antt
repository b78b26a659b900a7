use Rattle.std.proofs.Common.{sym, subst, Option, false}
use Rattle.std.specs.Prelude.{option_map}
use Rattle.std.specs.Bool.{Decides}
use Rattle.wasm_ast.specs.declared.component.ExternDesc.TheVariants.{Func}
use Rattle.wit_types.specs.Plain.{PlainFunc}
use Rattle.comp_types.specs.declared.types.ItemType.{ItemType}
use Rattle.comp_types.specs.Items.{FuncItem}
use Rattle.comp_types.specs.Equality.{IsEqualType}
use Rattle.comp_types.specs.Views.{item_of}
use Rattle.comp_types.specs.Rules.{IsStated}
use Rattle.comp_types.specs.Spaces.{kind_at}
use Rattle.comp_types.specs.Types.{func_in}
use Rattle.type_table.specs.Tables.{HasItem}
use Rattle.type_table.specs.Covers.{HasSome}
use Rattle.type_table.proofs.ScopeLaws.{described_func}
use Rattle.comp_instances.proofs.StatedLemmas.{decides_some, decides_none}
use Rattle.comp_instances.proofs.stated.is_stated_func.Goals as goal

pub returns-in-None : goal.returns-in-None
returns-in-None c = λ s h t has.
    subst (λ (o : Option ItemType). Decides false (IsStated s (option_map item_of o) (Func c.args.index))) (sym c.in-None.is) (decides_none (FuncItem (func_in (kind_at s c.args.index))))

pub returns-in_ok-same-in-Some : goal.returns-in_ok-same-in-Some
returns-in_ok-same-in-Some c = λ s h t has.
    let types = c.args.types.now in
    let same = c.in_ok-same-in-Some.same in
    let item = item_of c.in-Some.item in
    let found = c.in_ok-func_at-in-Some.ensures s h in
    let a : HasItem types item = subst (λ (o : Option ItemType). HasSome types (option_map item_of o)) c.in-Some.is has in
    let b = subst (λ (f : PlainFunc). HasItem types (FuncItem f)) (sym found) (described_func types s c.args.index t) in
    subst (λ (o : Option ItemType). Decides same (IsStated s (option_map item_of o) (Func c.args.index))) (sym c.in-Some.is)
    (decides_some same item (FuncItem (func_in (kind_at s c.args.index)))
    (subst (λ (f : PlainFunc). Decides same (IsEqualType item (FuncItem f))) found (c.in_ok-same-in-Some.ensures a b)))
