-- Files in memory.
use Rattle.std.specs.Prelude.{ℕ, ◌≡◌, ◌-◌, ◌||◌, false, Bool, true, List, [], ◌∷◌, Option, Some, None, is_some, unwrap_or, Result, Ok, Err, IsOk, is_err, length, take, max, nat_lt, if◌then◌else◌, Vec}
use Rattle.std.specs.Str.{bytes_eq}
use Rattle.std.specs.List.{list_all}
use Rattle.std.specs.declared.alloc.Global.{Global}
use Rattle.outside.specs.Failing.{Calls, is_listed, is_steady, after}
use Rattle.outside.specs.Files.{Held, FilesState, in_order, with_file, with_more, no_file, no_folder, no_place, no_room}
use Rattle.outside.specs.declared.files.Entry.{Entry}
use Rattle.outside.specs.declared.files.FileFail.{FileFail}
use Rattle.outside.specs.declared.files.FileFail.TheVariants.{Missing, Failed, TooLong, NoMemory}
use Rattle.outside.specs.declared.files.WriteFailed.{WriteFailed}
use Rattle.outside.specs.declared.contents.Named.{Named}
use Rattle.outside.specs.declared.contents.Contents.{Contents}

pub record MemFilesState : Type 0 where
  pub calls : Calls
  pub held : Held

abbrev pub files_state : MemFilesState → FilesState
files_state m = record { faults = m.calls.faults; told = true; steady = is_steady m.calls; held = m.held }

-- ---- the start

-- the first that stands under this name
abbrev pub first_named : {A : Type 0} → List (Named A) → List ℕ → Option A
first_named [] name = None
first_named (x ∷ xs) name = if bytes_eq x.name name then Some x.value else first_named xs name

-- what is listed, with no room for more
abbrev pub held_at_start : Contents → Held
held_at_start c = record {
  file = λ name. first_named c.files name;
  folder = λ name. first_named c.folders name;
  noted = λ name. is_some (first_named c.files name);
  room = λ name. length (unwrap_or (first_named c.files name) []);
}

-- in each folder the entries stand in order
abbrev pub all_in_order : List (Named (List Entry)) → Bool
all_in_order folders = list_all (λ folder. in_order folder.value) folders

-- room for that many bytes under a name, which is noted
abbrev pub with_room : Held → List ℕ → ℕ → Held
with_room h name bytes = record h {
  noted = λ other. if bytes_eq name other then true else h.noted other;
  room = λ other. if bytes_eq name other then max (h.room other) bytes else h.room other;
}

-- ---- what each call does

abbrev pub is_fault : {X : Type 0} → Result X FileFail → Bool
is_fault (Ok x) = false
is_fault (Err Missing) = true
is_fault (Err Failed) = true
is_fault (Err (TooLong len)) = false
is_fault (Err NoMemory) = false

-- an answer is the one that is due, or no memory in place of a value
abbrev pub Answers : {A B : Type 0} → (A → B) → Result B FileFail → Result A FileFail → Type 0
Answers view due (Ok x) = due ≡ Ok (view x)
Answers view due (Err NoMemory) = IsOk due
Answers view due (Err Missing) = due ≡ Err Missing
Answers view due (Err Failed) = due ≡ Err Failed
Answers view due (Err (TooLong len)) = due ≡ Err (TooLong len)

abbrev pub read_due : Bool → ℕ → Option (List ℕ) → Result (List ℕ) FileFail
read_due listed limit None = Err Missing
read_due listed limit (Some bytes) = if listed then Err Failed else (if nat_lt limit (length bytes) then Err (TooLong (length bytes)) else Ok bytes)

pub record MemReads (name : List ℕ) (limit : ℕ) (m n : MemFilesState) (r : Result (Vec ℕ Global) FileFail) : Type 0 where
  pub answer : Answers (λ bytes. bytes.items) (read_due (is_listed m.calls) limit (m.held.file name)) r
  pub calls : n.calls ≡ after m.calls (is_listed m.calls || no_file m.held name)
  pub held : n.held ≡ m.held

abbrev pub list_due : Bool → Option (List Entry) → Result (List Entry) FileFail
list_due listed None = Err Missing
list_due listed (Some entries) = if listed then Err Failed else Ok entries

pub record MemLists (name : List ℕ) (m n : MemFilesState) (r : Result (List Entry) FileFail) : Type 0 where
  pub answer : Answers (λ entries. entries) (list_due (is_listed m.calls) (m.held.folder name)) r
  pub calls : n.calls ≡ after m.calls (is_listed m.calls || no_folder m.held name)
  pub held : n.held ≡ m.held

-- the call is listed, or the name is neither there nor noted
abbrev pub create_fails : MemFilesState → List ℕ → Bool
create_fails m name = is_listed m.calls || no_place m.held name

pub record MemCreates (name : List ℕ) (m n : MemFilesState) (r : Result (Unit {0}) WriteFailed) : Type 0 where
  pub fails : is_err r ≡ create_fails m name
  pub calls : n.calls ≡ after m.calls (create_fails m name)
  pub held : n.held ≡ (if create_fails m name then m.held else with_file m.held name (Some []))

-- the call is listed, or there is no such file, or it would become longer than its room
abbrev pub append_fails : MemFilesState → List ℕ → List ℕ → Bool
append_fails m name bytes = is_listed m.calls || no_room m.held name bytes

-- as many of the bytes as fit
abbrev pub what_fits : Held → List ℕ → List ℕ → List ℕ
what_fits h name bytes = take (h.room name - length (unwrap_or (h.file name) [])) bytes

-- A listed call writes nothing, and any other what fits.
pub record MemAppends (name bytes : List ℕ) (m n : MemFilesState) (r : Result (Unit {0}) WriteFailed) : Type 0 where
  pub fails : is_err r ≡ append_fails m name bytes
  pub calls : n.calls ≡ after m.calls (append_fails m name bytes)
  pub held : n.held ≡ (if is_listed m.calls then m.held else with_more m.held name (what_fits m.held name bytes))
