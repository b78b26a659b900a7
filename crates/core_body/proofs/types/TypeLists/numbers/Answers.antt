use Rattle.std.proofs.Common.{subst, sym, List}
use Rattle.wasm_ast.specs.declared.module.CoreFunc.{CoreFunc}
use Rattle.core_body.specs.declared.numbers.ListNumbers.{ListNumbers}
use Rattle.core_body.specs.Numbers.{Distinguish}
use Rattle.core_body.proofs.types.TypeLists.numbers.Goals as goal

pub returns : goal.returns
returns c =
    subst (λ (ts : List CoreFunc). Distinguish ts c.as_slice.result.now) c.self.view_is
    (subst (λ (ns : List ListNumbers). Distinguish c.self.inside.types.now ns) (sym c.as_slice.ensures.value) c.self.invariant.0)
