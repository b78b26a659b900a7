-- How large the type of a function is when it is written out, and how deep: it has one part more than its parts together, and is
-- one deeper than the deepest of them.
use Rattle.std.specs.Prelude.{ℕ, ◌+◌, max, Option as Opt, Some, None}
use Rattle.wit_types.specs.Plain.{Plain, PlainFunc}
use Rattle.wit_types.specs.Limits.{parts, all_parts, depth, greatest_depth}

abbrev pub answer_parts : Opt Plain → ℕ
answer_parts None = 0
answer_parts (Some ty) = parts ty

abbrev pub func_parts : PlainFunc → ℕ
func_parts ty = all_parts ty.params + answer_parts ty.answer + 1

abbrev pub answer_depth : Opt Plain → ℕ
answer_depth None = 0
answer_depth (Some ty) = depth ty

abbrev pub func_depth : PlainFunc → ℕ
func_depth ty = max (greatest_depth ty.params) (answer_depth ty.answer) + 1
