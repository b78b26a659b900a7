-- What a `Files` means: its count of faults, and what it holds where it tells that.
use Rattle.std.specs.Prelude.{ℕ, ◌+◌, ◌≤◌, ◌<◌, ◌≡◌, ◌++◌, ◌⊎◌, ◌&&◌, not, List, [], ◌∷◌, Bool, true, false, Option, Some, None, IsSome, is_none, length, take, option_map, nat_lt}
use Rattle.std.specs.Prelude.{if◌then◌else◌, Result, Ok, Err, is_err, IfErr, OnOk, OnErr, Vec}
use Rattle.std.specs.Str.{bytes_eq}
use Rattle.std.specs.Ordering.{nat_cmp, is_lt}
use Rattle.std.specs.Cmp.Lexicographic.{slice_cmp}
use Rattle.std.specs.declared.alloc.Global.{Global}
use Rattle.outside.specs.Fault.{Rose}
use Rattle.outside.specs.declared.files.Entry.{Entry}
use Rattle.outside.specs.declared.files.FileFail.{FileFail}
use Rattle.outside.specs.declared.files.FileFail.TheVariants.{Missing, Failed, TooLong, NoMemory}
use Rattle.outside.specs.declared.files.WriteFailed.{WriteFailed}

-- files by name, folders by name, the names that are noted, and the room under each name
pub record Held : Type 0 where
  pub file : List ℕ → Option (List ℕ)
  pub folder : List ℕ → Option (List Entry)
  pub noted : List ℕ → Bool
  pub room : List ℕ → ℕ

-- what is held counts only where it is told
pub record FilesState : Type 0 where
  pub faults : ℕ
  pub told : Bool
  pub steady : Bool
  pub held : Held

-- each name stands before the next in the order of bytes
abbrev pub in_order : List Entry → Bool
in_order [] = true
in_order (e ∷ []) = true
in_order (e ∷ f ∷ es) = is_lt (slice_cmp nat_cmp e.name f.name) && in_order (f ∷ es)

abbrev pub AreInOrder : List Entry → Type 0
AreInOrder entries = in_order entries ≡ true

-- ---- one name changes, and all else stays

abbrev pub set_file : (List ℕ → Option (List ℕ)) → List ℕ → Option (List ℕ) → List ℕ → Option (List ℕ)
set_file file name bytes other = if bytes_eq name other then bytes else file other

-- the name holds these bytes, or is absent
abbrev pub with_file : Held → List ℕ → Option (List ℕ) → Held
with_file h name bytes = record h { file = set_file h.file name bytes }

-- these bytes stand at the end of the name's file
abbrev pub with_more : Held → List ℕ → List ℕ → Held
with_more h name bytes = with_file h name (option_map (λ old. old ++ bytes) (h.file name))

-- ---- the cases in which a call over steady files fails

abbrev pub no_file : Held → List ℕ → Bool
no_file h name = is_none (h.file name)

abbrev pub no_folder : Held → List ℕ → Bool
no_folder h name = is_none (h.folder name)

abbrev pub no_place : Held → List ℕ → Bool
no_place h name = not (h.noted name) && no_file h name

-- a file with that many bytes more is longer than the room
abbrev pub is_over : ℕ → ℕ → Option (List ℕ) → Bool
is_over room more None = true
is_over room more (Some old) = nat_lt room (length old + more)

-- there is no file of this name, or it would become longer than its room
abbrev pub no_room : Held → List ℕ → List ℕ → Bool
no_room h name bytes = is_over (h.room name) (length bytes) (h.file name)

-- Where a call over steady files would fail or not, it does, and the count rises only where it fails.
pub record FailsOnly (due : Bool) (s t : FilesState) (Fails : Bool → Type 0) : Type 0 where
  pub fails : s.told ≡ true → s.steady ≡ true → Fails due
  pub quiet : s.told ≡ true → s.steady ≡ true → due ≡ false → t.faults ≡ s.faults

-- ---- what every call keeps

pub record Goes (s t : FilesState) : Type 0 where
  pub later : s.faults ≤ t.faults
  pub told : t.told ≡ s.told
  pub steady : s.steady ≡ true → t.steady ≡ true

-- ---- `read` and `list`

abbrev pub IsFault : FileFail → Type 0
IsFault Missing = Unit {0}
IsFault Failed = Unit {0}
IsFault _ = ⊥

-- the call failed or not; memory may run out in either case
abbrev pub FailsAs : {X : Type 0} → Result X FileFail → Bool → Type 0
FailsAs (Ok x) due = due ≡ false
FailsAs (Err Missing) due = due ≡ true
FailsAs (Err Failed) due = due ≡ true
FailsAs (Err (TooLong len)) due = due ≡ false
FailsAs (Err NoMemory) due = Unit {0}

-- for every `Files`
abbrev pub IsWithin : ℕ → Result (Vec ℕ Global) FileFail → Type 0
IsWithin limit (Ok bytes) = length bytes.items ≤ limit
IsWithin limit (Err (TooLong len)) = limit < len
IsWithin limit (Err _) = Unit {0}

-- the answer of `read`, where the file of this name is told
abbrev pub ReadAnswer : Option (List ℕ) → Result (Vec ℕ Global) FileFail → Type 0
ReadAnswer file (Ok bytes) = file ≡ Some bytes.items
ReadAnswer file (Err Missing) = file ≡ None
ReadAnswer file (Err Failed) = IsSome file
ReadAnswer file (Err (TooLong len)) = (bytes : List ℕ) × (file ≡ Some bytes) × (length bytes ≡ len)
ReadAnswer file (Err NoMemory) = Unit {0}

pub record Reads (name : List ℕ) (limit : ℕ) (s t : FilesState) (r : Result (Vec ℕ Global) FileFail) : Type 0 where
  pub goes : Goes s t
  pub stays : t.held ≡ s.held
  pub within : IsWithin limit r
  pub cause : IfErr r (λ e. IsFault e → Rose s.faults t.faults)
  pub answer : s.told ≡ true → ReadAnswer (s.held.file name) r
  pub steadily : FailsOnly (no_file s.held name) s t (FailsAs r)

-- the answer of `list`, where the folder of this name is told
abbrev pub ListAnswer : Option (List Entry) → Result (List Entry) FileFail → Type 0
ListAnswer folder (Ok entries) = folder ≡ Some entries
ListAnswer folder (Err Missing) = folder ≡ None
ListAnswer folder (Err Failed) = IsSome folder
ListAnswer folder (Err (TooLong len)) = ⊥
ListAnswer folder (Err NoMemory) = Unit {0}

-- for every `Files`: the entries are in order, and the answer is never `TooLong`
abbrev pub IsListing : Result (List Entry) FileFail → Type 0
IsListing (Ok entries) = AreInOrder entries
IsListing (Err (TooLong len)) = ⊥
IsListing (Err _) = Unit {0}

pub record Lists (name : List ℕ) (s t : FilesState) (r : Result (List Entry) FileFail) : Type 0 where
  pub goes : Goes s t
  pub stays : t.held ≡ s.held
  pub listing : IsListing r
  pub cause : IfErr r (λ e. IsFault e → Rose s.faults t.faults)
  pub answer : s.told ≡ true → ListAnswer (s.held.folder name) r
  pub steadily : FailsOnly (no_folder s.held name) s t (FailsAs r)

-- ---- `create` and `append`

pub record Creates (name : List ℕ) (s t : FilesState) (r : Result (Unit {0}) WriteFailed) : Type 0 where
  pub goes : Goes s t
  pub cause : OnErr r (Rose s.faults t.faults)
  pub ok : OnOk r (s.told ≡ true → t.held ≡ with_file s.held name (Some []))
  -- the name is as before, or absent, or empty
  pub failed : OnErr r (s.told ≡ true → (t.held ≡ s.held) ⊎ (t.held ≡ with_file s.held name None) ⊎ (t.held ≡ with_file s.held name (Some [])))
  pub steadily : FailsOnly (no_place s.held name) s t (λ due. is_err r ≡ due)

pub record Appends (name bytes : List ℕ) (s t : FilesState) (r : Result (Unit {0}) WriteFailed) : Type 0 where
  pub goes : Goes s t
  pub cause : OnErr r (Rose s.faults t.faults)
  pub ok : OnOk r (s.told ≡ true → t.held ≡ with_more s.held name bytes)
  -- a prefix of the bytes was added
  pub failed : OnErr r (s.told ≡ true → (k : ℕ) × (t.held ≡ with_more s.held name (take k bytes)))
  pub steadily : FailsOnly (no_room s.held name bytes) s t (λ due. is_err r ≡ due)
