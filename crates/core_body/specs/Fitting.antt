-- What stands in the place of the types that a table's default takes, and the lists that take it.
use Rattle.std.specs.Prelude.{◌≡◌, ℕ, Bool, true, ◌&&◌, List}
use Rattle.std.specs.BTreeSet.{BTreeSet, contains}
use Rattle.std.specs.Ordering.{nat_cmp}
use Rattle.wasm_ast.specs.declared.module.CoreFunc.{CoreFunc}
use Rattle.core_body.specs.declared.operand.Operand.{Operand}
use Rattle.core_body.specs.declared.source.Source.{Source}
use Rattle.core_body.specs.declared.numbers.ListNumbers.{ListNumbers}
use Rattle.core_body.specs.declared.stack.Stack.{Stack}
use Rattle.core_body.specs.Context.{Context}
use Rattle.core_body.specs.Typing.{operands}
use Rattle.core_body.specs.Machine.{like, under, all_below}
use Rattle.core_body.specs.Sources.{listed_in, spelled}
use Rattle.core_body.specs.Numbers.{number_in}
use Rattle.core_body.specs.Stack.{level_of}

-- the operands below the top one, as many as the types
abbrev pub row : Context → Stack → Source → List Operand
row c s first = like (spelled c first) (under (level_of c s))

-- whether they fit those types
abbrev pub fits_first : Context → Stack → Source → Bool
fits_first c s first = all_below (row c s first) (spelled c first)

-- each number is of lists that take the operands, if those fit the first types
abbrev pub AllFit : List CoreFunc → List ListNumbers → Bool → List Operand → BTreeSet ℕ → Type 0
AllFit types numbers first os known = (n : ℕ) → contains nat_cmp known n ≡ true → (s : Source) → number_in numbers s ≡ n → (first && true) ≡ (first && all_below os (operands (listed_in types s)))
