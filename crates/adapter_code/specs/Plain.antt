-- Statements that hold no others, and statements that are well formed in some `Repeat`s.
use Rattle.std.specs.Prelude.{ℕ, List}
use Rattle.adapter_code.specs.declared.statement.Width.{Width}
use Rattle.adapter_code.specs.declared.statement.Statement.{Statement, If', Repeat'}
use Rattle.adapter_code.specs.Code.{Stop, before, code_of}
use Rattle.adapter_code.specs.WellFormed.{IsWellFormed}

abbrev pub IsPlain : Statement → Type 0
IsPlain (If' test m first n other) = ⊥
IsPlain (Repeat' name count m body) = ⊥
IsPlain statement = Unit {0}

abbrev pub IsUsable : List Width → Statement → Type 0
IsUsable ws statement = (names : List ℕ) × IsWellFormed ws names (before statement Stop)

abbrev pub AreUsable : List Width → List Statement → Type 0
AreUsable ws list = (names : List ℕ) × IsWellFormed ws names (code_of list)
