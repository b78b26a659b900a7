-- Where a reader stands, and what a call of one gives.
use Rattle.std.specs.Prelude.{◌≡◌, ℕ, ◌+◌, List, ◌++◌, length, drop, Result, Ok, Err}
use Rattle.virt_base.specs.declared.cursor.Cursor.{Cursor}

-- an offset, and the bytes from there on
pub record Place : Type 0 where
  pub at : ℕ
  pub rest : List ℕ

-- the bytes that are left
abbrev pub rest : Cursor → List ℕ
rest c = drop c.at c.bytes.now

abbrev pub place : Cursor → Place
place c = record { at = c.at; rest = rest c }

-- What a call returned, which left the cursor as c, is what reading gives.
abbrev pub Gives : {X E : Type 0} → Result X E → Cursor → Result (X × Place) E → Type 0
Gives (Ok x) c read = read ≡ Ok (x, place c)
Gives (Err e) c read = read ≡ Err e

-- Between two places stands this text.
pub record Takes (text : List ℕ) (p q : Place) : Type 0 where
  pub parts : p.rest ≡ text ++ q.rest
  pub moved : q.at ≡ p.at + length text
