-- How deep a routine's statements stand in one another.
use Rattle.std.specs.Prelude.{ℕ, suc, max}
use Rattle.adapter_code.specs.Code.{Code, Stop, Then, Choose, Turns}

-- how deep its `Repeat`s stand in one another, and so how many counters it needs
abbrev pub nesting : Code → ℕ
nesting Stop = 0
nesting (Then statement rest) = nesting rest
nesting (Choose test first other rest) = max (max (nesting first) (nesting other)) (nesting rest)
nesting (Turns name count body rest) = max (suc (nesting body)) (nesting rest)

-- how deep its brackets stand in one another: a `Repeat` has two
abbrev pub brackets : Code → ℕ
brackets Stop = 0
brackets (Then statement rest) = brackets rest
brackets (Choose test first other rest) = max (suc (max (brackets first) (brackets other))) (brackets rest)
brackets (Turns name count body rest) = max (suc (suc (brackets body))) (brackets rest)
