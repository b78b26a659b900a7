-- The routines that take and free a place, over locals of their own.
use Rattle.std.specs.Prelude.{◌≡◌, ◌⊎◌, ℕ, ◌+◌, ◌-◌, ◌≤◌, List, [], ◌∷◌, map, Some, None, slice_get}
use Rattle.slot_tables.specs.declared.cells.Place.TheVariants.{Free, Used}
use Rattle.slot_tables.specs.Places.{entry_of as entry_in}
use Rattle.handle_space.specs.HandleMap.{HandleMap}
use Rattle.adapter_code.specs.declared.statement.Statement.{Const, Int, Load, Store}
use Rattle.adapter_code.specs.declared.statement.IntOp.TheVariants.{Add, Sub, Mul, LtU}
use Rattle.adapter_code.specs.declared.state.Local.{Local}
use Rattle.adapter_code.specs.declared.state.Local.TheVariants.{Small, Wide}
use Rattle.adapter_code.specs.declared.state.Effect.{Effect}
use Rattle.adapter_code.specs.Code.{Code, Stop, Then, Choose}
use Rattle.adapter_code.specs.Run.{State, Run, Next, Left, Over, number_at}
use Rattle.table_bytes.specs.declared.entry.Entry.{Entry}
use Rattle.table_bytes.specs.declared.routines.TableLocals.{TableLocals}
use Rattle.table_bytes.specs.Table.{first_of, places_of, Changed}

-- local 3 becomes eight bytes before the place in local 1, and local 2 is lost
abbrev pub to_spot : Code → Code
to_spot rest = Then (Const 2 16) (Then (Int Mul 3 1 2) (Then (Int Add 3 3 0) rest))

-- a head that is not 0 names the place of one less
abbrev pub lowered_code : Code
lowered_code = Then (Const 2 1) (Then (Int Sub 1 1 2) Stop)

-- a link of 0 names the place after
abbrev pub stepped_code : Code
stepped_code = Then (Const 2 2) (Then (Int Add 2 1 2) Stop)

-- the place leaves the chain, and the entry is written
abbrev pub enter_code : Code
enter_code =
    to_spot (Then (Load 2 3 12 4)
    (Choose 2 Stop stepped_code
    (Then (Store 2 0 0 4) (Then (Store 5 3 8 1) (Then (Store 6 3 12 4) (Then (Store 7 3 16 8) Stop))))))

-- the place in local 1 is taken, if it is one
abbrev pub found_code : ℕ → ℕ → Code
found_code base capacity = Then (Const 2 capacity) (Then (Int LtU 4 1 2) (Choose 4 enter_code Stop Stop))

-- Takes the first free place of the table at `base` for the entry in locals 5, 6 and 7. Local 1 becomes the place and
-- local 4 becomes 1; or local 4 becomes 0 where every place is used.
abbrev pub take_code : ℕ → ℕ → Code
take_code base capacity = Then (Const 0 base) (Then (Load 1 0 0 4) (Choose 1 lowered_code Stop (found_code base capacity)))

-- Frees the place in local 1 of the table at `base`.
abbrev pub free_code : ℕ → Code
free_code base =
    Then (Const 0 base) (to_spot (Then (Load 2 0 0 4)
    (Choose 2 Stop (Then (Const 2 1) Stop)
    (Then (Store 2 3 12 4) (Then (Const 2 0) (Then (Store 2 3 8 1) (Then (Const 2 1) (Then (Int Add 2 1 2) (Then (Store 2 0 0 4) Stop)))))))))

-- the locals of both: five scratch ones, and the tag, the word and the long word of an entry
abbrev pub locals_of : ℕ → ℕ → ℕ → ℕ → ℕ → ℕ → ℕ → ℕ → List Local
locals_of a b c d e tag w long = Small a ∷ Small b ∷ Small c ∷ Small d ∷ Small e ∷ Small tag ∷ Small w ∷ Wide long ∷ []

-- what else a run leaves: the handle table, the effects, and that many statements at most
pub record Quiet (old new : State) (before after most : ℕ) : Type 0 where
  pub table : new.table ≡ old.table
  pub effects : new.effects ≡ old.effects
  pub count : after ≤ before + most

-- a place was taken
pub record Took (base capacity free : ℕ) (e : Entry) (old new : State) (at : ℕ) : Type 0 where
  pub found : number_at new 4 ≡ 1
  pub place : number_at new 1 ≡ at
  pub first : first_of old.memory base capacity ≡ Some at
  pub was_free : slice_get (map entry_in (places_of old.memory base capacity)) at ≡ Some None
  pub changed : Changed old.memory new.memory base capacity (free - 1) at (Used e)

-- every place is used
pub record NoPlace (base capacity free : ℕ) (old new : State) : Type 0 where
  pub found : number_at new 4 ≡ 0
  pub full : free ≡ 0
  pub kept : new.memory ≡ old.memory

-- a state before either
abbrev pub state_of : List Local → List ℕ → HandleMap ℕ → List Effect → State
state_of ls m h es = record { locals = ls; memory = m; table = h; effects = es }

-- how a run of `take_code` ends
abbrev pub TakeEnds : ℕ → ℕ → ℕ → Entry → ℕ → State → Run → Type 0
TakeEnds base capacity free e k old (Next after new) = Quiet old new k after 19 × (((at : ℕ) × Took base capacity free e old new at) ⊎ NoPlace base capacity free old new)
TakeEnds base capacity free e k old (Left name after new) = ⊥
TakeEnds base capacity free e k old (Over end after new) = ⊥

-- how a run of `free_code` ends
abbrev pub FreeEnds : ℕ → ℕ → ℕ → ℕ → ℕ → State → Run → Type 0
FreeEnds base capacity free at k old (Next after new) =
    Quiet old new k after 13 × Changed old.memory new.memory base capacity (free + 1) at (Free (first_of old.memory base capacity))
FreeEnds base capacity free at k old (Left name after new) = ⊥
FreeEnds base capacity free at k old (Over end after new) = ⊥

-- the locals of these routines, by the places that are given to them
abbrev pub own_places : TableLocals → List ℕ
own_places l = l.base ∷ l.place ∷ l.scratch ∷ l.spot ∷ l.found ∷ l.tag ∷ l.word ∷ l.long ∷ []
