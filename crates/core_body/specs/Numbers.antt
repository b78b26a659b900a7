-- The numbers of lists of operand types: equal lists have one, and unlike ones two.
use Rattle.std.specs.Prelude.{◌≡◌, ◌≤◌, ◌<◌, ◌+◌, ◌↔◌, ℕ, Option, Some, None, List, [], ◌∷◌, map, slice_get, Vec}
use Rattle.std.specs.declared.alloc.Global.{Global}
use Rattle.std.specs.BTreeMap.{BTreeMap, get_by, btree_map_len}
use Rattle.std.specs.Cmp.Lexicographic.{slice_cmp}
use Rattle.std.specs.Ordering.{nat_cmp}
use Rattle.virt_base.specs.declared.core_type.CoreType.{CoreType}
use Rattle.virt_base.specs.declared.core_type.CoreType.TheVariants.{I32, I64, Funcref, Externref}
use Rattle.wasm_ast.specs.declared.module.CoreFunc.{CoreFunc}
use Rattle.core_body.specs.declared.source.Source.{Source}
use Rattle.core_body.specs.declared.source.Source.TheVariants.{Nothing, Only, Params, Results}
use Rattle.core_body.specs.declared.numbers.ListNumbers.{ListNumbers}
use Rattle.core_body.specs.Sources.{listed_in}

abbrev pub letter : CoreType → ℕ
letter I32 = 0
letter I64 = 1
letter Funcref = 2
letter Externref = 3

abbrev pub params_number : Option ListNumbers → ℕ
params_number None = 0
params_number (Some n) = n.params

abbrev pub results_number : Option ListNumbers → ℕ
results_number None = 0
results_number (Some n) = n.results

-- the number of the list that a name stands for; a list of at most one type has a fixed one
abbrev pub number_in : List ListNumbers → Source → ℕ
number_in numbers Nothing = 0
number_in numbers (Only t) = letter t + 1
number_in numbers (Params n) = params_number (slice_get numbers n)
number_in numbers (Results n) = results_number (slice_get numbers n)

-- two names have one number where they stand for equal lists, and only there
abbrev pub Distinguish : List CoreFunc → List ListNumbers → Type 0
Distinguish types numbers = (a b : Source) → (number_in numbers a ≡ number_in numbers b) ↔ (listed_in types a ≡ listed_in types b)

-- the number of a word, if the map has it
abbrev pub number_of : BTreeMap (Vec ℕ Global) ℕ → List ℕ → Option ℕ
number_of known word = get_by (λ k. slice_cmp nat_cmp word k.items) known

-- the number of a list, if the map has its letters
abbrev pub numbered : BTreeMap (Vec ℕ Global) ℕ → List CoreType → Option ℕ
numbered known [] = Some 0
numbered known (t ∷ []) = Some (letter t + 1)
numbered known (t ∷ u ∷ ts) = number_of known (map letter (t ∷ u ∷ ts))

-- no two words have one number, and none has that of a list of at most one type
pub record AreApart (known : BTreeMap (Vec ℕ Global) ℕ) : Type 0 where
  pub one : (v w : List ℕ) (n : ℕ) → number_of known v ≡ Some n → number_of known w ≡ Some n → v ≡ w
  pub low : (w : List ℕ) (n : ℕ) → number_of known w ≡ Some n → 5 ≤ n
  pub high : (w : List ℕ) (n : ℕ) → number_of known w ≡ Some n → n < btree_map_len known + 5

-- what had a number keeps it
abbrev pub Keeps : BTreeMap (Vec ℕ Global) ℕ → BTreeMap (Vec ℕ Global) ℕ → Type 0
Keeps old new = (w : List ℕ) (n : ℕ) → number_of old w ≡ Some n → number_of new w ≡ Some n

-- what one more list makes of a map
pub record Adds (old new : BTreeMap (Vec ℕ Global) ℕ) (n : Option ℕ) (number : ℕ) : Type 0 where
  pub apart : AreApart new
  pub keeps : Keeps old new
  pub found : n ≡ Some number

-- the types' lists have these numbers
abbrev pub HaveNumbers : BTreeMap (Vec ℕ Global) ℕ → List CoreFunc → List ListNumbers → Type 0
HaveNumbers known [] [] = Unit {0}
HaveNumbers known [] (n ∷ ns) = ⊥
HaveNumbers known (f ∷ fs) [] = ⊥
HaveNumbers known (f ∷ fs) (n ∷ ns) = (numbered known f.params ≡ Some n.params) × (numbered known f.results ≡ Some n.results) × HaveNumbers known fs ns
