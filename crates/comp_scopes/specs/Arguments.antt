-- The instances that are given for the imports of a module.
use Rattle.std.specs.Prelude.{◌≡◌, ℕ, List, [], ◌∷◌, Bool, true, false, Option, Some, None, if◌then◌else◌}
use Rattle.std.specs.BTreeMap.{get_by}
use Rattle.std.specs.Cmp.Lexicographic.{slice_cmp}
use Rattle.std.specs.Ordering.{nat_cmp}
use Rattle.wasm_ast.specs.declared.component.CoreArg.{CoreArg}
use Rattle.comp_types.specs.CoreMatching.{same_text}
use Rattle.comp_scopes.specs.declared.arguments.Arguments.{Arguments}

-- the instance of a name
unfoldable pub given : Arguments → List ℕ → Option ℕ
given a q = get_by (λ k. slice_cmp nat_cmp q k.now) a.instances

-- that of the first argument of a name
abbrev pub instance_named : List CoreArg → List ℕ → Option ℕ
instance_named [] q = None
instance_named (a ∷ rest) q = if same_text a.name q then Some a.instance else instance_named rest q

abbrev pub HasArguments : List CoreArg → Arguments → Type 0
HasArguments args a = (q : List ℕ) → given a q ≡ instance_named args q

-- the least of rules 4 and 5 that fails, by what they say
abbrev pub arguments_fault : (given met : Bool) → Option ℕ
arguments_fault false met = Some 4
arguments_fault true false = Some 5
arguments_fault true true = None
