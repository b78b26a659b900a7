use Rattle.std.proofs.Common.{◌≡◌, ◌∙◌, refl, subst, sym, Some}
use Rattle.comp_types.specs.declared.types.TypeItem.{TypeItem}
use Rattle.comp_types.specs.GivenResources.{distinct, named_in_func, named_in_kind}
use Rattle.comp_types.specs.Types.{func_in}
use Rattle.comp_types.specs.Views.{kind_of}
use Rattle.comp_instances.proofs.kinds.resources_of_func.Goals as goal

pub returns-in_ok-found-in-Func : goal.returns-in_ok-found-in-Func
returns-in_ok-found-in-Func c = λ has.
    c.in_ok-found-in-Func.ensures has
    ∙ subst (λ (k : TypeItem). distinct (named_in_kind (kind_of k)) ≡ distinct (named_in_func (func_in (Some (kind_of k))))) (sym c.in-Func.is) refl
