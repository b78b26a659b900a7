-- Steps one after the other, and where they lead.
use Rattle.std.specs.Prelude.{ℕ, ◌≡◌, ◌+◌, List, [], ◌∷◌, ◌++◌}
use Rattle.core_memory.specs.Linear.{Linear}
use Rattle.abi_layout.specs.Storing.{Step, Ask, Refuse, FlatItem, Lowered, nothing, both, requests}
use Rattle.abi_store.specs.declared.request.Request.{Request}
use Rattle.abi_store.specs.declared.request.Flow.{Flow}
use Rattle.abi_store.specs.declared.request.Flow.TheVariants.{Goes, Asks, Trapped}
use Rattle.abi_store.specs.Plan.{Halt, goes}
use Rattle.abi_store.specs.Rooms.{behind, cell_flats}

-- Steps, and others after them whose requests are counted on.
abbrev pub chain : (ℕ → Lowered) → (ℕ → Lowered) → ℕ → Lowered
chain l m k = both (l k) (m (k + requests (l k).steps))

abbrev pub stored : (ℕ → List Step) → ℕ → Lowered
stored steps k = record { steps = steps k; flats = [] }

-- Steps over one memory lead where others lead over another, whatever is after them and whatever flat values stand before.
pub record Leads (old : Linear) (l : ℕ → Lowered) (new : Linear) (m : ℕ → Lowered) : Type 0 where
  pub on : (before : List FlatItem) (rest : ℕ → Lowered) →
      goes (before ++ (chain l rest 0).flats) (chain l rest 0).steps old ≡ goes (before ++ (chain m rest 0).flats) (chain m rest 0).steps new

abbrev pub refused : ℕ → Lowered
refused k = record { steps = Refuse ∷ []; flats = [] }

abbrev pub none_left : ℕ → Lowered
none_left k = nothing

-- a request that is asked
abbrev pub request_lowered : Request → ℕ → Lowered
request_lowered request k = record { steps = Ask request.align request.len ∷ behind request.content request.cell k; flats = cell_flats request.cell k }

abbrev pub flow_lowered : Flow → ℕ → Lowered
flow_lowered Goes = none_left
flow_lowered (Asks request) = request_lowered request
flow_lowered Trapped = refused

-- where what is left leads, with flat values that stand before
abbrev pub led : List FlatItem → Lowered → Linear → Halt
led before l memory = goes (before ++ l.flats) l.steps memory
