-- A list of statements as a tree: what contracts see of a routine.
use Rattle.std.specs.Prelude.{ℕ, List, [], ◌∷◌}
use Rattle.adapter_code.specs.declared.statement.Statement.{Statement, If', Repeat', Row_of-Statement, end_of-Statement, more_of-Statement}

-- statements in order; those that hold lists stand with the trees of their lists
pub data Code : Type 0 where
  Stop : Code
  Then : (statement : Statement) (rest : Code) → Code
  Choose : (test : ℕ) (first other rest : Code) → Code
  Turns : (name count : ℕ) (body rest : Code) → Code

-- a statement before the rest
abbrev mutual
  pub before : Statement → Code → Code
  before (If' test _ first _ other) rest = Choose test (row_code first) (row_code other) rest
  before (Repeat' name count _ body) rest = Turns name count (row_code body) rest
  before statement rest = Then statement rest

  pub row_code : {n : _} → Row_of-Statement n → Code
  row_code end_of-Statement = Stop
  row_code (more_of-Statement statement rest) = before statement (row_code rest)

-- the tree of a list of statements
abbrev pub code_of : List Statement → Code
code_of [] = Stop
code_of (statement ∷ rest) = before statement (code_of rest)

-- one routine after another
abbrev pub followed_by : Code → Code → Code
followed_by Stop next = next
followed_by (Then statement rest) next = Then statement (followed_by rest next)
followed_by (Choose test first other rest) next = Choose test first other (followed_by rest next)
followed_by (Turns name count body rest) next = Turns name count body (followed_by rest next)
