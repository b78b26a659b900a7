-- How many locals there must be, so that each that a routine names is there.
use Rattle.std.specs.Prelude.{ℕ, suc, max}
use Rattle.adapter_code.specs.declared.statement.Statement.{Statement, Const, Move, Int, Load, Store, NewHandle, DropHandle}
use Rattle.adapter_code.specs.Code.{Code, Stop, Then, Choose, Turns}

-- after the greatest local that a statement names, which holds no others
abbrev pub span_of : Statement → ℕ
span_of (Const to v) = suc to
span_of (Move to from) = max (suc to) (suc from)
span_of (Int op to a b) = max (suc to) (max (suc a) (suc b))
span_of (Load to at offset size) = max (suc to) (suc at)
span_of (Store from at offset size) = max (suc from) (suc at)
span_of (NewHandle kind rep to) = max (suc rep) (suc to)
span_of (DropHandle kind index) = suc index
span_of other = 0

abbrev pub span : Code → ℕ
span Stop = 0
span (Then statement rest) = max (span_of statement) (span rest)
span (Choose test first other rest) = max (max (suc test) (max (span first) (span other))) (span rest)
span (Turns name count body rest) = max (max (suc count) (span body)) (span rest)
