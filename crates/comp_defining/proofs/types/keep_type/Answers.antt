use Rattle.std.proofs.Common.{sym, subst}
use Rattle.std.proofs.lemmas.Result.{on_ok_weaker}
use Rattle.comp_types.specs.Views.{kind_of}
use Rattle.comp_types.specs.declared.types.TypeItem.{TypeItem}
use Rattle.type_table.specs.Tables.{Grew, HasKind}
use Rattle.type_table.specs.Anew.{HasPartsOf}
use Rattle.type_table.proofs.HasLaws.{grew_same}
use Rattle.comp_defining.proofs.types.keep_type.Goals as goal

pub returns-in-Value : goal.returns-in-Value
returns-in-Value c =
    let old = c.args.types.now in
    let new = c.add_value.new.types in
    on_ok_weaker c.add_value.result (λ k. subst (λ (x : TypeItem). HasPartsOf old (kind_of x) → Grew old new × HasKind new (kind_of x)) (sym c.in-Value.is) k) c.add_value.ensures

pub returns-in-Resource : goal.returns-in-Resource
returns-in-Resource c =
    let old = c.args.types.now in
    subst (λ (x : TypeItem). HasPartsOf old (kind_of x) → Grew old old × HasKind old (kind_of x)) (sym c.in-Resource.is) (λ has. (grew_same old, tt))

pub returns-in-Func : goal.returns-in-Func
returns-in-Func c =
    let old = c.args.types.now in
    subst (λ (x : TypeItem). HasPartsOf old (kind_of x) → Grew old old × HasKind old (kind_of x)) (sym c.in-Func.is) (λ has. (grew_same old, has.1))

pub returns-in-Instance : goal.returns-in-Instance
returns-in-Instance c =
    let old = c.args.types.now in
    subst (λ (x : TypeItem). HasPartsOf old (kind_of x) → Grew old old × HasKind old (kind_of x)) (sym c.in-Instance.is) (λ has. (grew_same old, has.1))
