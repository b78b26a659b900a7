use Rattle.std.proofs.Common.{◌≡◌, ◌++◌, drop, string_bytes}
use Rattle.inspect_engine.specs.Texts.{rows_text}
use Rattle.inspect_engine.proofs.texts.push_rows.Given as goal

abbrev pub invariant-loop-row : goal.invariant-loop-row
invariant-loop-row l = string_bytes l.text ++ rows_text (drop l.row-index l.rows) ≡ string_bytes l.fn.text ++ rows_text l.rows
