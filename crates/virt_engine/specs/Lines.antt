-- Lines of what is seen of a run, and how it ended.
use Rattle.std.specs.Prelude.{ℕ, ◌≡◌, List, [], ◌∷◌, ◌++◌, All, length, Option, Some, None}
use Rattle.wit_types.specs.Plain.{Plain}
use Rattle.host_port.specs.Calls as port
use Rattle.host_port.specs.Calls.{PlainObservation, plain_option}
use Rattle.call_moments.specs.declared.end.RunEnd.{RunEnd}
use Rattle.call_moments.specs.declared.end.RunEnd.TheVariants.{Returned, Trapped, ScriptEnded, BadAnswer, Spent, TooDeep}
use Rattle.script_lines.specs.Lines.{line_text}
use Rattle.virt_words.specs.Lines.{cut, total}

-- the line of something seen
abbrev pub IsLine : List ℕ → Type 0
IsLine line = (ty : Option Plain) × (seen : PlainObservation) × (line ≡ line_text ty seen)

-- sizes by which a text is cut into such lines, with nothing after them
abbrev pub AreLines : List ℕ → List ℕ → Type 0
AreLines sizes text = (total sizes ≡ length text) × All IsLine (cut sizes text)

-- what a run shows that did not end well
abbrev pub named : RunEnd → Option PlainObservation
named (Returned value) = None
named Trapped = Some port.Trapped
named ScriptEnded = Some port.ScriptEnded
named Spent = Some port.Spent
named BadAnswer = Some port.BadAnswer
named TooDeep = Some port.TooDeep

abbrev pub LastIs : List (List ℕ) → Option PlainObservation → Type 0
LastIs lines None = Unit {0}
LastIs lines (Some seen) = (before : List (List ℕ)) × (lines ≡ before ++ line_text None seen ∷ [])

-- the last line names the end, unless each call returned
abbrev pub EndsBy : List (List ℕ) → RunEnd → Type 0
EndsBy lines end = LastIs lines (named end)

-- ---- for private clauses

abbrev pub Adds : List (List ℕ) → List (List ℕ) → List ℕ → Type 0
Adds old new text = new ≡ old ++ text ∷ []

abbrev pub end_by : RunEnd → RunEnd
end_by (Returned value) = Returned None
end_by Trapped = Trapped
end_by ScriptEnded = ScriptEnded
end_by BadAnswer = BadAnswer
end_by Spent = Spent
end_by TooDeep = TooDeep

abbrev pub seen_by : RunEnd → PlainObservation
seen_by (Returned value) = port.Returned (plain_option value)
seen_by Trapped = port.Trapped
seen_by ScriptEnded = port.ScriptEnded
seen_by BadAnswer = port.BadAnswer
seen_by Spent = port.Spent
seen_by TooDeep = port.TooDeep
