-- What must be known of the handles and the arguments of a call.
use Rattle.std.specs.Prelude.{ℕ, ◌<◌, All, List, Option, IfSome, IsSome}
use Rattle.wit_types.specs.PlainValue.{PlainValues}
use Rattle.tree_table.specs.Scratches.{ScratchMap, file_at}
use Rattle.reference_step.specs.Values.{nth, numbers_in}
use Rattle.ref_rules.specs.Contents.{open_file}
use Rattle.ref_rules.specs.declared.content.Content.{Content}
use Rattle.ref_rules.specs.declared.content.Handle.{Handle}
use Rattle.ref_virtual.specs.Held.{content_held}

-- the scratch file that a content holds open, if it holds one, is there
abbrev pub file_open : ScratchMap → Content → Type 0
file_open m content = IfSome (open_file content) (λ number. IsSome (file_at m number))

-- each scratch file that a live handle holds open is there
abbrev pub AreOpen : ScratchMap → List (Option Handle) → Type 0
AreOpen m handles = (id : ℕ) → file_open m (content_held handles id)

-- A list that is the second argument is one of bytes.
abbrev pub AreBytes : PlainValues → Type 0
AreBytes args = All (λ n. n < 256) (numbers_in (nth 1 args))
