-- What reading a file and listing a folder give.
use Rattle.std.proofs.Common.{◌≡◌, ◌∙◌, refl, ap, subst, ℕ, ◌+◌, ◌-◌, ◌<◌, ◌≤◌, List, Bool, true, false, length, min, Option, Some, None, Result, Ok, Err, inr, arith}
use Rattle.std.specs.Prelude.{Vec, codes, nat_lt, is_none}
use Rattle.std.specs.declared.alloc.Global.{Global}
use Rattle.std.proofs.lemmas.Bool.Decides.{nat_tests}
use Rattle.std.proofs.lemmas.Bool.{true≢false, false≢true}
use Rattle.outside.specs.Fault.{Rose}
use Rattle.outside.specs.Files.{FilesState, Reads, Lists, no_file}
use Rattle.outside.specs.declared.files.Entry.{Entry}
use Rattle.outside.specs.declared.files.FileFail.{FileFail}
use Rattle.outside.specs.declared.files.FileFail.TheVariants as fail
use Rattle.mount_tree.specs.declared.fault.TreeFault.{TreeFault}
use Rattle.mount_tree.specs.declared.fault.TreeFault.TheVariants.{FileFault, BadName, OverLimit, NoMemory}
use Rattle.mount_tree.specs.Runs.{Run, Answers, IsAbove, IsFault, IsFileFault, Gives}
use Rattle.mount_tree.specs.Making.{fitting}
use Rattle.mount_tree.specs.Building.{content_by, file_due, listing_by, listing_due}

fitting_by : (b : Bool) (used : ℕ) (bytes : List ℕ) → nat_lt 67108864 (used + length bytes) ≡ b → b ≡ false → fitting used bytes ≡ Ok bytes
fitting_by true used bytes is small = absurd (true≢false small)
fitting_by false used bytes is small = rw (is) refl

-- bytes within the limit
pub fits : (used : ℕ) (bytes : List ℕ) → used + length bytes ≤ 67108864 → fitting used bytes ≡ Ok bytes
fits used bytes few =
    let small : nat_lt 67108864 (used + length bytes) ≡ false = grind (arith, nat_tests, few) in
    fitting_by (nat_lt 67108864 (used + length bytes)) used bytes refl small

pub too_long : (used : ℕ) (bytes : List ℕ) → 67108864 < used + length bytes
    → fitting used bytes ≡ Err (OverLimit (codes "embedded-bytes") (min (used + length bytes) 18446744073709551615))
too_long used bytes many = let yes : nat_lt 67108864 (used + length bytes) ≡ true = grind (arith, nat_tests, many) in rw (yes) refl

pub above_bytes : (n : ℕ) → 67108864 < n → IsAbove (codes "embedded-bytes") (min n 18446744073709551615)
above_bytes n many = inr (inr (refl, omega (arith, many)))

there_file : (name : List ℕ) (used : ℕ) (file : Option (List ℕ)) → ¬ (IsFileFault (content_by name used file)) → is_none file ≡ false
there_file name used None fine = absurd (fine tt)
there_file name used (Some bytes) fine = refl

absent_file : (name : List ℕ) (used : ℕ) (file : Option (List ℕ)) → is_none file ≡ true → content_by name used file ≡ Err (FileFault name)
absent_file name used None h = refl
absent_file name used (Some bytes) h = absurd (false≢true h)

module _ (name : List ℕ) (used : ℕ) (s t : FilesState) where
  quiet_file : (r : Result (Vec ℕ Global) FileFail) → Reads name (67108864 - used) s t r
      → s.told ≡ true → s.steady ≡ true → ¬ (IsFileFault (content_by name used (s.held.file name))) → t.faults ≡ s.faults
  quiet_file r h told steady fine = h.steadily.quiet told steady (there_file name used (s.held.file name) fine)

  gives_file : (r : Result (Vec ℕ Global) FileFail) (a : Result (List ℕ) TreeFault) → Reads name (67108864 - used) s t r → Answers (file_due s.held name used) s t a
      → Gives (file_due s.held name used) s t a
  gives_file r a h answer = record { goes = h.goes; stays = h.stays; answer = answer; quiet = quiet_file r h }

  pub read_ok : (bytes : Vec ℕ Global) → used ≤ 67108864 → Reads name (67108864 - used) s t (Ok bytes) → Gives (file_due s.held name used) s t (Ok bytes.items)
  read_ok bytes few h =
      gives_file (Ok bytes) (Ok bytes.items) h (λ told. ap (content_by name used) (h.answer told) ∙ fits used bytes.items (omega (arith, few, h.within)))

-- the fault of a name, or no memory for it
fault_answers : {A : Type 0} (due : Run A) (name : List ℕ) (s t : FilesState) (fault : TreeFault) → IsFault (FileFault name) fault
    → Answers due s t (Err (FileFault name)) → Answers due s t (Err fault)
fault_answers due name s t (FileFault n) is h = subst (λ f. Answers due s t (Err f)) is h
fault_answers due name s t NoMemory is h = tt
fault_answers due name s t (BadName n) is h = subst (λ f. Answers due s t (Err f)) is h
fault_answers due name s t (OverLimit what value) is h = subst (λ f. Answers due s t (Err f)) is h

over_answers : {A : Type 0} (due : Run A) (what : List ℕ) (value : ℕ) (s t : FilesState) (fault : TreeFault) → IsFault (OverLimit what value) fault
    → Answers due s t (Err (OverLimit what value)) → Answers due s t (Err fault)
over_answers due what value s t (OverLimit w v) is h = subst (λ f. Answers due s t (Err f)) is h
over_answers due what value s t NoMemory is h = tt
over_answers due what value s t (FileFault n) is h = subst (λ f. Answers due s t (Err f)) is h
over_answers due what value s t (BadName n) is h = subst (λ f. Answers due s t (Err f)) is h

module _ (name : List ℕ) (used : ℕ) (s t : FilesState) where
  missing_answer : (r : Result (Vec ℕ Global) FileFail) → Reads name (67108864 - used) s t r → Rose s.faults t.faults
      → (s.told ≡ true → s.steady ≡ true → no_file s.held name ≡ true) → Answers (file_due s.held name used) s t (Err (FileFault name))
  missing_answer r h rose fails = (rose, λ told. (0, omega arith, refl), λ told steady. absent_file name used (s.held.file name) (fails told steady))

  pub read_missing : (fault : TreeFault) → IsFault (FileFault name) fault → Reads name (67108864 - used) s t (Err fail.Missing) → Gives (file_due s.held name used) s t (Err fault)
  read_missing fault is h =
      gives_file name used s t (Err fail.Missing) (Err fault) h (fault_answers (file_due s.held name used) name s t fault is (missing_answer (Err fail.Missing) h (h.cause tt) h.steadily.fails))

  pub read_failed : (fault : TreeFault) → IsFault (FileFault name) fault → Reads name (67108864 - used) s t (Err fail.Failed) → Gives (file_due s.held name used) s t (Err fault)
  read_failed fault is h =
      gives_file name used s t (Err fail.Failed) (Err fault) h (fault_answers (file_due s.held name used) name s t fault is (missing_answer (Err fail.Failed) h (h.cause tt) h.steadily.fails))

  long_answer : (len : ℕ) → used ≤ 67108864 → Reads name (67108864 - used) s t (Err (fail.TooLong len)) → s.told ≡ true
      → content_by name used (s.held.file name) ≡ Err (OverLimit (codes "embedded-bytes") (min (used + len) 18446744073709551615))
  long_answer len few h told =
      let there = h.answer told in
      let many : 67108864 < used + length there.0 = omega (arith, few, h.within, there.2) in
      ap (content_by name used) there.1 ∙ too_long used there.0 many ∙ ap (λ n. Err (OverLimit (codes "embedded-bytes") (min (used + n) 18446744073709551615))) there.2

  pub read_long : (len : ℕ) (fault : TreeFault) → used ≤ 67108864 → IsFault (OverLimit (codes "embedded-bytes") (min (used + len) 18446744073709551615)) fault
      → Reads name (67108864 - used) s t (Err (fail.TooLong len)) → Gives (file_due s.held name used) s t (Err fault)
  read_long len fault few is h =
      gives_file name used s t (Err (fail.TooLong len)) (Err fault) h
      (over_answers (file_due s.held name used) (codes "embedded-bytes") (min (used + len) 18446744073709551615) s t fault is
      (above_bytes (used + len) (omega (arith, few, h.within)), λ told. long_answer len few h told))

  pub read_memory : Reads name (67108864 - used) s t (Err fail.NoMemory) → Gives (file_due s.held name used) s t (Err NoMemory)
  read_memory h = gives_file name used s t (Err fail.NoMemory) (Err NoMemory) h tt

-- ---- folders

there_folder : (name : List ℕ) (folder : Option (List Entry)) → ¬ (IsFileFault (listing_by name folder)) → is_none folder ≡ false
there_folder name None fine = absurd (fine tt)
there_folder name (Some entries) fine = refl

absent_folder : (name : List ℕ) (folder : Option (List Entry)) → is_none folder ≡ true → listing_by name folder ≡ Err (FileFault name)
absent_folder name None h = refl
absent_folder name (Some entries) h = absurd (false≢true h)

module _ (name : List ℕ) (s t : FilesState) where
  gives_listing : (r : Result (List Entry) FileFail) (a : Result (List Entry) TreeFault) → Lists name s t r → Answers (listing_due s.held name) s t a → Gives (listing_due s.held name) s t a
  gives_listing r a h answer = record {
    goes = h.goes;
    stays = h.stays;
    answer = answer;
    quiet = λ told steady fine. h.steadily.quiet told steady (there_folder name (s.held.folder name) fine);
  }

  pub list_ok : (entries : List Entry) → Lists name s t (Ok entries) → Gives (listing_due s.held name) s t (Ok entries)
  list_ok entries h = gives_listing (Ok entries) (Ok entries) h (λ told. ap (listing_by name) (h.answer told))

  pub list_missing : (fault : TreeFault) → IsFault (FileFault name) fault → Lists name s t (Err fail.Missing) → Gives (listing_due s.held name) s t (Err fault)
  list_missing fault is h =
      gives_listing (Err fail.Missing) (Err fault) h
      (fault_answers (listing_due s.held name) name s t fault is (h.cause tt, λ told. (0, omega arith, refl), λ told steady. absent_folder name (s.held.folder name) (h.steadily.fails told steady)))

  pub list_failed : (fault : TreeFault) → IsFault (FileFault name) fault → Lists name s t (Err fail.Failed) → Gives (listing_due s.held name) s t (Err fault)
  list_failed fault is h =
      gives_listing (Err fail.Failed) (Err fault) h
      (fault_answers (listing_due s.held name) name s t fault is (h.cause tt, λ told. (0, omega arith, refl), λ told steady. absent_folder name (s.held.folder name) (h.steadily.fails told steady)))

  pub list_memory : Lists name s t (Err fail.NoMemory) → Gives (listing_due s.held name) s t (Err NoMemory)
  list_memory h = gives_listing (Err fail.NoMemory) (Err NoMemory) h tt
