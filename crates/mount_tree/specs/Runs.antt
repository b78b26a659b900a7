-- What is asked of files one after another, and what comes of it.
use Rattle.std.specs.Prelude.{ℕ, ◌≡◌, ◌<◌, ◌++◌, ◌⊎◌, List, [], ◌∷◌, true, Contains, Result, Ok, Err, codes}
use Rattle.outside.specs.Fault.{Rose}
use Rattle.outside.specs.Files.{FilesState, Goes}
use Rattle.mount_tree.specs.declared.fault.TreeFault.{TreeFault}
use Rattle.mount_tree.specs.declared.fault.TreeFault.TheVariants.{FileFault, BadName, OverLimit, NoMemory}

-- the names of the files and folders that are asked for, in order, and what comes of it
pub record Run (A : Type 0) : Type 0 where
  pub asks : List (List ℕ)
  pub answer : Result A TreeFault

abbrev pub done : {A : Type 0} → A → Run A
done a = record { asks = []; answer = Ok a }

abbrev pub stops : {A : Type 0} → TreeFault → Run A
stops fault = record { asks = []; answer = Err fault }

abbrev pub next_by : {A B : Type 0} → List (List ℕ) → Result A TreeFault → (A → Run B) → Run B
next_by asks (Ok a) next = record { asks = asks ++ (next a).asks; answer = (next a).answer }
next_by asks (Err fault) next = record { asks = asks; answer = Err fault }

-- one after the other, up to the first fault
abbrev pub and_next : {A B : Type 0} → Run A → (A → Run B) → Run B
and_next run next = next_by run.asks run.answer next

-- for each item in order
abbrev pub each : {S A : Type 0} → (S → A → Run S) → S → List A → Run S
each step state [] = done state
each step state (x ∷ xs) = and_next (step state x) (λ next. each step next xs)

-- ---- how a call relates to what is due

-- this fault, or no memory for its name
abbrev pub IsFault : TreeFault → TreeFault → Type 0
IsFault due NoMemory = Unit {0}
IsFault due (FileFault name) = due ≡ FileFault name
IsFault due (BadName name) = due ≡ BadName name
IsFault due (OverLimit what value) = due ≡ OverLimit what value

-- the quantity is above its limit
abbrev pub IsAbove : List ℕ → ℕ → Type 0
IsAbove what value =
    ((what ≡ codes "tree-depth") × (64 < value)) ⊎ ((what ≡ codes "tree-nodes") × (65536 < value)) ⊎ ((what ≡ codes "embedded-bytes") × (67108864 < value))

abbrev pub IsFileFault : {A : Type 0} → Result A TreeFault → Type 0
IsFileFault (Err (FileFault name)) = Unit {0}
IsFileFault _ = ⊥

-- Where contents are told, the answer is the one that is due; a file or folder may fail besides, whose name was asked for.
abbrev pub Answers : {A : Type 0} → Run A → FilesState → FilesState → Result A TreeFault → Type 0
Answers due s t (Ok a) = s.told ≡ true → due.answer ≡ Ok a
Answers due s t (Err NoMemory) = Unit {0}
Answers due s t (Err (FileFault name)) = Rose s.faults t.faults × (s.told ≡ true → Contains due.asks name) × (s.told ≡ true → s.steady ≡ true → due.answer ≡ Err (FileFault name))
Answers due s t (Err (BadName name)) = s.told ≡ true → due.answer ≡ Err (BadName name)
Answers due s t (Err (OverLimit what value)) = IsAbove what value × (s.told ≡ true → due.answer ≡ Err (OverLimit what value))

pub record Gives {A : Type 0} (due : Run A) (s t : FilesState) (r : Result A TreeFault) : Type 0 where
  pub goes : Goes s t
  pub stays : t.held ≡ s.held
  pub answer : Answers due s t r
  -- over steady files no fault is provoked
  pub quiet : s.told ≡ true → s.steady ≡ true → ¬ (IsFileFault due.answer) → t.faults ≡ s.faults

-- the same of a call that asks nothing
abbrev pub Says : {A : Type 0} → Result A TreeFault → Result A TreeFault → Type 0
Says due (Ok a) = due ≡ Ok a
Says due (Err NoMemory) = Unit {0}
Says due (Err (FileFault name)) = ⊥
Says due (Err (BadName name)) = due ≡ Err (BadName name)
Says due (Err (OverLimit what value)) = IsAbove what value × (due ≡ Err (OverLimit what value))

-- a run that asks nothing
abbrev pub asks_none : {A : Type 0} → Result A TreeFault → Run A
asks_none answer = record { asks = []; answer = answer }
