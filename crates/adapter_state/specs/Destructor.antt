-- What a destructor does: it frees a place of its kind's slot table, and drops the host's handle in it.
use Rattle.std.specs.Prelude.{◌≡◌, ℕ, ◌+◌, ◌<◌, ◌≤◌, ◌^◌, List, [], ◌∷◌, ◌++◌, Bool, map, Option, Some, None, IsSome, slice_get}
use Rattle.std.specs.List.{All}
use Rattle.wasm_ast.specs.declared.module.Body.{Body}
use Rattle.slot_tables.specs.declared.cells.Place.TheVariants.{Free}
use Rattle.slot_tables.specs.Places.{entry_of as entry_in}
use Rattle.handle_space.specs.HandleMap.{HandleMap, Answered, take_own}
use Rattle.adapter_code.specs.declared.statement.Width.{Width}
use Rattle.adapter_code.specs.declared.statement.Width.TheVariants.{Narrow, Broad}
use Rattle.adapter_code.specs.declared.statement.IntOp.TheVariants.{Eq}
use Rattle.adapter_code.specs.declared.statement.Statement.{Const, Int, Load, DropHandle}
use Rattle.adapter_code.specs.declared.state.Local.{Local}
use Rattle.adapter_code.specs.declared.state.Local.TheVariants.{Small, Wide}
use Rattle.adapter_code.specs.declared.state.Effect.{Effect}
use Rattle.adapter_code.specs.declared.state.Effect.TheVariants.{Dropped}
use Rattle.adapter_code.specs.declared.state.CodeEnd.TheVariants.{Answer, Trap}
use Rattle.adapter_code.specs.Code.{Code, Stop, Then, Choose, followed_by}
use Rattle.adapter_code.specs.Run.{State, RoutineRun}
use Rattle.adapter_code.specs.Placed.{placed}
use Rattle.table_bytes.specs.declared.entry.Entry.{Entry}
use Rattle.table_bytes.specs.declared.entry.Entry.TheVariants.{Host}
use Rattle.table_bytes.specs.Table.{first_of, places_of, IsTable, Changed}
use Rattle.table_bytes.specs.Routines.{to_spot, free_code, locals_of}
use Rattle.adapter_compile.specs.declared.calls.HandleCalls.{HandleCalls}
use Rattle.adapter_compile.specs.Instructions.{call_at}
use Rattle.adapter_compile.specs.Handles.{Numbers, IsTable as IsHandleTable}
use Rattle.adapter_compile.specs.Does.{Home, IsHome, IsPlaced, DoesCalled}

-- drops the handle in the place in local 1 of the table at `base`, if the place holds one
abbrev pub release_code : ℕ → ℕ → Code
release_code kind base =
    Then (Const 0 base) (to_spot (Then (Load 5 3 8 1) (Then (Const 4 1) (Then (Int Eq 4 5 4)
    (Choose 4 (Then (Load 6 3 12 4) (Then (DropHandle kind 6) Stop)) Stop Stop)))))

-- over the locals of the routines on slot tables; a kind that the host has is given
abbrev pub destroy_code : Option ℕ → ℕ → Code
destroy_code None base = free_code base
destroy_code (Some kind) base = followed_by (release_code kind base) (free_code base)

-- the destructor's locals: the place, which is its parameter, and the others of these routines
abbrev pub destroy_places : List ℕ
destroy_places = 1 ∷ 0 ∷ 2 ∷ 3 ∷ 4 ∷ 5 ∷ 6 ∷ 7 ∷ []

abbrev pub destroy_widths : List Width
destroy_widths = Narrow ∷ Narrow ∷ Narrow ∷ Narrow ∷ Narrow ∷ Narrow ∷ Narrow ∷ Broad ∷ []

abbrev pub routine_of : Option ℕ → ℕ → Code
routine_of host base = placed destroy_places (destroy_code host base)

-- the host's handle that an entry holds
abbrev pub host_of : Entry → Option ℕ
host_of (Host index) = Some index
host_of other = None

-- the place is the first free one, no byte outside the table changed, and of the handle map and the effects this is left
pub record IsFreed (base capacity free at : ℕ) (old : State) (left : HandleMap ℕ) (asked : List Effect) (run : RoutineRun) : Type 0 where
  pub end : run.end ≡ Answer
  pub changed : Changed old.memory run.state.memory base capacity (free + 1) at (Free (first_of old.memory base capacity))
  pub table : run.state.table ≡ left
  pub effects : run.state.effects ≡ old.effects ++ asked

-- the handle map gives the handle up, or the run traps
abbrev pub Drops : ℕ → ℕ → ℕ → ℕ → ℕ → ℕ → State → Option (Answered ℕ ℕ) → RoutineRun → Type 0
Drops kind index base capacity free at old None run = run.end ≡ Trap
Drops kind index base capacity free at old (Some a) run = IsFreed base capacity free at old a.map (Dropped kind a.answer index ∷ []) run

abbrev pub Releases : ℕ → Option ℕ → ℕ → ℕ → ℕ → ℕ → State → RoutineRun → Type 0
Releases kind None base capacity free at old run = IsFreed base capacity free at old old.table [] run
Releases kind (Some index) base capacity free at old run = Drops kind index base capacity free at old (take_own old.table index kind) run

-- the destructor of a place that holds an entry
abbrev pub Destroys : Option ℕ → ℕ → ℕ → ℕ → ℕ → Entry → State → RoutineRun → Type 0
Destroys None base capacity free at e old run = (run.count ≤ 24) × IsFreed base capacity free at old old.table [] run
Destroys (Some kind) base capacity free at e old run = (run.count ≤ 24) × Releases kind (host_of e) base capacity free at old run

-- a state before a destructor of a place
abbrev pub destructor_state : ℕ → List ℕ → HandleMap ℕ → List Effect → State
destructor_state at m h es = record { locals = Small at ∷ Small 0 ∷ Small 0 ∷ Small 0 ∷ Small 0 ∷ Small 0 ∷ Small 0 ∷ Wide 0 ∷ []; memory = m; table = h; effects = es }

-- the function for dropping handles of the host's kind is there
abbrev pub CanDrop : HandleCalls → Option ℕ → Type 0
CanDrop calls None = Unit {0}
CanDrop calls (Some kind) = IsSome (call_at calls.drops kind)

-- a function with this body is the destructor of the places of the table at `base`
abbrev pub IsDestructor : Option ℕ → ℕ → HandleCalls → Body → Type 0
IsDestructor host base calls body =
    (numbers : Numbers) (home : Home) (f capacity free at : ℕ) (e : Entry) (m : List ℕ) (h : HandleMap ℕ) (es : List Effect) (made : List Bool) →
    CanDrop calls host → IsHome calls numbers home → IsPlaced 1 destroy_widths body home f → at < 2 ^ 32 → All (λ b. b < 256) m → IsHandleTable h →
    IsTable m base capacity free → slice_get (map entry_in (places_of m base capacity)) at ≡ Some (Some e) →
    (run : RoutineRun) × Destroys host base capacity free at e (destructor_state at m h es) run × DoesCalled numbers home f 1 (destructor_state at m h es) made run
