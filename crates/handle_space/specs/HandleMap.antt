-- Handle tables (Component Model, CanonicalABI.md, "Table State" and "Resource State"), over whatever a handle stands for.
use Rattle.std.specs.Prelude.{ℕ, ◌+◌, ◌-◌, ◌<◌, ◌==◌, ◌&&◌, Bool, true, false, List, [], ◌∷◌, ◌++◌, length, map, count_by, Option, Some, None, is_some, nat_lt, if◌then◌else◌, slice_index_or, slice_set, IsSomeAnd}
use Rattle.std.specs.Option.{option_map, option_and_then}

-- A handle: its resource, what it stands for, whether it owns or borrows, and how often it is lent now.
pub record Entry (R : Type 0) : Type 0 where
  pub resource : ℕ
  pub rep : R
  pub owned : Bool
  pub lent : ℕ

-- The entry, or nothing, at each index from 0 to the greatest that was ever used; nothing ever is at 0. And the indexes
-- that were freed and not used again, the one freed last first.
pub record HandleMap (R : Type 0) : Type 0 where
  pub entries : List (Option (Entry R))
  pub freed : List ℕ

-- That many entries are live at most.
abbrev pub most_live : ℕ
most_live = 268435455

-- That many loans of one entry last at once at most.
abbrev pub most_loans : ℕ
most_loans = 18446744073709551615

-- What an operation answers, and the map after it.
pub record Answered (R A : Type 0) : Type 0 where
  pub answer : A
  pub map : HandleMap R

-- What a caller learns of an entry.
pub record Held (R : Type 0) : Type 0 where
  pub owned : Bool
  pub rep : R

module _ {R : Type 0} where
  abbrev pub empty : HandleMap R
  empty = record { entries = None ∷ []; freed = [] }

  abbrev pub own_entry : ℕ → R → Entry R
  own_entry resource rep = record { resource = resource; rep = rep; owned = true; lent = 0 }

  abbrev pub borrow_entry : ℕ → R → Entry R
  borrow_entry resource rep = record { resource = resource; rep = rep; owned = false; lent = 0 }

  abbrev pub held : Entry R → Held R
  held e = record { owned = e.owned; rep = e.rep }

  abbrev pub answered : {A : Type 0} → A → HandleMap R → Answered R A
  answered answer map = record { answer = answer; map = map }

  -- the entry at an index
  abbrev pub entry_at : HandleMap R → ℕ → Option (Entry R)
  entry_at m index = slice_index_or m.entries index None

  -- the entry at an index, if it is a handle of this resource
  abbrev pub entry_of : HandleMap R → ℕ → ℕ → Option (Entry R)
  entry_of m index resource = option_and_then (λ e. if e.resource == resource then Some e else None) (entry_at m index)

  abbrev pub live_count : HandleMap R → ℕ
  live_count m = count_by is_some m.entries

  -- the map with another entry at an index, or with none
  abbrev pub with_entry : HandleMap R → ℕ → Entry R → HandleMap R
  with_entry m index e = record { entries = slice_set m.entries index (Some e); freed = m.freed }

  abbrev pub without : HandleMap R → ℕ → HandleMap R
  without m index = record { entries = slice_set m.entries index None; freed = index ∷ m.freed }

  -- A new entry takes the index freed last, or else the least from 1 that was never used.
  abbrev pub added : Entry R → List (Option (Entry R)) → List ℕ → Answered R ℕ
  added e entries [] = answered (length entries) (record { entries = entries ++ Some e ∷ []; freed = [] })
  added e entries (index ∷ freed) = answered index (record { entries = slice_set entries index (Some e); freed = freed })

  abbrev pub add : HandleMap R → Entry R → Option (Answered R ℕ)
  add m e = if live_count m == most_live then None else Some (added e m.entries m.freed)

  -- An own entry is lent once more. A borrow entry that is passed on is not lent.
  abbrev pub lent_more : Entry R → Option (Entry R)
  lent_more e =
      if e.owned then (if nat_lt e.lent most_loans then Some (record e { lent = e.lent + 1 }) else None)
      else Some e

  abbrev pub lend : HandleMap R → ℕ → ℕ → Option (Answered R (Held R))
  lend m index resource =
      option_and_then (λ e. option_map (λ more. answered (held e) (with_entry m index more)) (lent_more e)) (entry_of m index resource)

  -- The entry at an index is lent.
  abbrev pub IsLent : HandleMap R → ℕ → Type 0
  IsLent m index = IsSomeAnd (entry_at m index) (λ e. 0 < e.lent)

  abbrev pub lent_less : Entry R → Entry R
  lent_less e = record e { lent = e.lent - 1 }

  -- A loan of the entry at an index ends.
  abbrev pub unlend : HandleMap R → ℕ → HandleMap R
  unlend m index = record { entries = slice_set m.entries index (option_map lent_less (entry_at m index)); freed = m.freed }

  -- An entry that is not lent leaves the table.
  abbrev pub take : HandleMap R → ℕ → ℕ → Option (Answered R (Held R))
  take m index resource =
      option_and_then (λ e. if e.lent == 0 then Some (answered (held e) (without m index)) else None) (entry_of m index resource)

  -- The same of an own entry alone.
  abbrev pub take_own : HandleMap R → ℕ → ℕ → Option (Answered R R)
  take_own m index resource =
      option_and_then (λ e. if e.owned && e.lent == 0 then Some (answered e.rep (without m index)) else None) (entry_of m index resource)

  abbrev pub rep_of : HandleMap R → ℕ → ℕ → Option R
  rep_of m index resource = option_map (λ e. e.rep) (entry_of m index resource)

-- ---- the same map with each handle standing for what f gives

module _ {R Q : Type 0} where
  abbrev pub entry_over : (R → Q) → Entry R → Entry Q
  entry_over f e = record { resource = e.resource; rep = f e.rep; owned = e.owned; lent = e.lent }

  abbrev pub held_over : (R → Q) → Held R → Held Q
  held_over f h = record { owned = h.owned; rep = f h.rep }

  abbrev pub map_over : (R → Q) → HandleMap R → HandleMap Q
  map_over f m = record { entries = map (option_map (entry_over f)) m.entries; freed = m.freed }

  abbrev pub answered_over : {A B : Type 0} → (R → Q) → (A → B) → Answered R A → Answered Q B
  answered_over f g a = record { answer = g a.answer; map = map_over f a.map }
