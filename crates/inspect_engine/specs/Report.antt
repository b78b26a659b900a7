-- What an inspection puts.
use Rattle.std.specs.Prelude.{ℕ, List, ◌++◌, Option, Some, None}
use Rattle.policy_data.specs.declared.policy.Policy.{Policy}
use Rattle.wasi_match.specs.declared.listed.ListedUse.{ListedUse}
use Rattle.adapter_world.specs.Names.{needed_names}
use Rattle.inspect_engine.specs.declared.rows.Row.{Row}
use Rattle.inspect_engine.specs.Rows.{rows}
use Rattle.inspect_engine.specs.Texts.{rows_text, imports_text, count_line, counts_line}

-- without a policy: what is imported, and how much
abbrev pub text_alone : List Row → List ℕ
text_alone found = rows_text found ++ count_line found

-- under a policy: the same with the fate of each function, and between them what an output imports
abbrev pub text_under : Policy → List ListedUse → List Row → List ℕ
text_under p uses found = rows_text found ++ (imports_text (needed_names p uses) ++ counts_line found)

abbrev pub text_of : Option Policy → List ListedUse → List Row → List ℕ
text_of None uses found = text_alone found
text_of (Some p) uses found = text_under p uses found

abbrev pub report : Option Policy → List ListedUse → List ℕ
report policy uses = text_of policy uses (rows policy uses)
