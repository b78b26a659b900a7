-- Tables as texts: a point between interfaces, a semicolon between items, a comma between lines, and a blank between words.
use Rattle.std.specs.Prelude.{ℕ, suc, List, [], ◌∷◌, Option, Some, None, length, map, ◌==◌, if◌then◌else◌}
use Rattle.std.specs.Borrow.{Bor}
use Rattle.wit_types.specs.Plain.{Name}

-- a line is a list of words
abbrev pub Line : Type 0
Line = List Name

abbrev pub in_first : ℕ → List Name → List Name
in_first byte [] = (byte ∷ []) ∷ []
in_first byte (part ∷ parts) = (byte ∷ part) ∷ parts

-- the parts that a byte joins, one at least
abbrev pub parts_of : ℕ → Name → List Name
parts_of joiner [] = [] ∷ []
parts_of joiner (byte ∷ text) = if byte == joiner then [] ∷ parts_of joiner text else in_first byte (parts_of joiner text)

abbrev pub words_of : Name → Line
words_of text = parts_of 32 text

abbrev pub lines_of : Name → List Line
lines_of text = map words_of (parts_of 44 text)

abbrev pub items_of : Name → List (List Line)
items_of text = map lines_of (parts_of 59 text)

abbrev pub table_of : Name → List (List (List Line))
table_of text = map items_of (parts_of 46 text)

-- the parts that are left
abbrev pub parts_in : ℕ → Option (Bor Name) → List Name
parts_in joiner None = []
parts_in joiner (Some text) = parts_of joiner text.now

-- the words, lines, items and interfaces that are left
abbrev pub words_in : Option (Bor Name) → Line
words_in rest = parts_in 32 rest

abbrev pub lines_in : Option (Bor Name) → List Line
lines_in rest = map words_of (parts_in 44 rest)

abbrev pub items_in : Option (Bor Name) → List (List Line)
items_in rest = map lines_of (parts_in 59 rest)

abbrev pub interfaces_in : Option (Bor Name) → List (List (List Line))
interfaces_in rest = map items_of (parts_in 46 rest)

-- how much is left
abbrev pub left : Option (Bor Name) → ℕ
left None = 0
left (Some text) = suc (length text.now)
