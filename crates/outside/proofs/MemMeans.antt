-- A call of files in memory is one of files.
use Rattle.std.proofs.Common.{◌≡◌, ℕ, ◌+◌, ◌-◌, ◌≤◌, ◌<◌, List, [], length, take, Bool, true, false, Result, Ok, Err, refl, sym, ap, subst, ◌∙◌, arith, take_all, inl, inr}
use Rattle.std.proofs.lemmas.Bool.{ltb-false, le-ltb, cases_lt, lt-ltb}
use Rattle.std.specs.Prelude.{◌||◌, Option, Some, None, IsSome, is_none, if◌then◌else◌, unwrap_or, IfOk, Vec}
use Rattle.std.specs.declared.alloc.Global.{Global}
use Rattle.outside.specs.Fault.{Rose}
use Rattle.outside.specs.Failing.{Calls, is_listed, is_steady, after}
use Rattle.outside.specs.Files.{Held, Goes, AreInOrder, Reads, Lists, Creates, Appends, with_file, with_more, no_file, no_folder, no_place, no_room, is_over}
use Rattle.outside.specs.MemFiles.{MemFilesState, files_state, read_due, list_due, what_fits, MemReads, MemLists, MemCreates, MemAppends, create_fails}
use Rattle.outside.specs.declared.files.Entry.{Entry}
use Rattle.outside.specs.declared.files.FileFail.{FileFail}
use Rattle.outside.specs.declared.files.FileFail.TheVariants.{Missing, Failed, TooLong, NoMemory}
use Rattle.outside.specs.declared.files.WriteFailed.{WriteFailed}
use Rattle.outside.proofs.FailingLaws.{not_listed, still_steady, never_falls, rose}
use Rattle.outside.proofs.HeldLaws.{with_more_nothing}

-- ---- counts

goes : (m n : MemFilesState) (failed : Bool) → n.calls ≡ after m.calls failed → Goes (files_state m) (files_state n)
goes m n failed e = record {
  later = subst (λ (c : Calls). m.calls.faults ≤ c.faults) (sym e) (never_falls m.calls failed);
  told = refl;
  steady = λ h. subst (λ (c : Calls). is_steady c ≡ true) (sym e) (still_steady m.calls failed h);
}

counts_up : (m n : MemFilesState) (failed : Bool) → n.calls ≡ after m.calls failed → failed ≡ true → Rose m.calls.faults n.calls.faults
counts_up m n failed e is = subst (λ (c : Calls). Rose m.calls.faults c.faults) (sym (e ∙ ap (after m.calls) is)) (rose m.calls)

-- over steady files a call fails where it is due
due_alone : (m : MemFilesState) (due : Bool) → is_steady m.calls ≡ true → (is_listed m.calls || due) ≡ due
due_alone m due h = ap (λ b. b || due) (not_listed m.calls h)

quiet : (m n : MemFilesState) (due : Bool) → n.calls ≡ after m.calls (is_listed m.calls || due) → is_steady m.calls ≡ true → due ≡ false → n.calls.faults ≡ m.calls.faults
quiet m n due e h none = ap (λ (c : Calls). c.faults) (e ∙ ap (after m.calls) (due_alone m due h ∙ none))

or_true : (b : Bool) → (b || true) ≡ true
or_true true = refl
or_true false = refl

-- ---- what an answer says of the file

ok_from : (listed : Bool) (limit : ℕ) (file : Option (List ℕ)) (bytes : List ℕ) → read_due listed limit file ≡ Ok bytes → (file ≡ Some bytes) × (length bytes ≤ limit)
ok_from listed limit None bytes e = absurd cc
ok_from true limit (Some x) bytes e = absurd cc
ok_from false limit (Some x) bytes e = elim (cases_lt limit (length x)) [
  | inl over ↦ let f = rw (lt-ltb _ _ over) at e in absurd cc
  | inr within ↦ let f = rw (le-ltb _ _ within) at e in let same : x ≡ bytes = cc in (ap (λ (z : List ℕ). Some z) same, subst (λ (z : List ℕ). length z ≤ limit) same within)
]

missing_from : (listed : Bool) (limit : ℕ) (file : Option (List ℕ)) → read_due listed limit file ≡ Err Missing → file ≡ None
missing_from listed limit None e = refl
missing_from true limit (Some x) e = absurd cc
missing_from false limit (Some x) e = elim (cases_lt limit (length x)) [
  | inl over ↦ let f = rw (lt-ltb _ _ over) at e in absurd cc
  | inr within ↦ let f = rw (le-ltb _ _ within) at e in absurd cc
]

failed_from : (listed : Bool) (limit : ℕ) (file : Option (List ℕ)) → read_due listed limit file ≡ Err Failed → IsSome file × (listed ≡ true)
failed_from listed limit None e = absurd cc
failed_from true limit (Some x) e = (refl, refl)
failed_from false limit (Some x) e = elim (cases_lt limit (length x)) [
  | inl over ↦ let f = rw (lt-ltb _ _ over) at e in absurd cc
  | inr within ↦ let f = rw (le-ltb _ _ within) at e in absurd cc
]

too_long_from : (listed : Bool) (limit len : ℕ) (file : Option (List ℕ)) → read_due listed limit file ≡ Err (TooLong len) → ((bytes : List ℕ) × (file ≡ Some bytes) × (length bytes ≡ len)) × (limit < len)
too_long_from listed limit len None e = absurd cc
too_long_from true limit len (Some x) e = absurd cc
too_long_from false limit len (Some x) e = elim (cases_lt limit (length x)) [
  | inl over ↦ let f = rw (lt-ltb _ _ over) at e in let same : length x ≡ len = cc in ((x, refl {a = Some x}, same), subst (λ k. limit < k) same over)
  | inr within ↦ let f = rw (le-ltb _ _ within) at e in absurd cc
]

false_not_true : {A : Type 0} (b : Bool) → b ≡ true → b ≡ false → A
false_not_true b p q = absurd cc

pub reads_means : (name : List ℕ) (limit : ℕ) (m n : MemFilesState) (r : Result (Vec ℕ Global) FileFail) → MemReads name limit m n r → Reads name limit (files_state m) (files_state n) r
reads_means name limit m n (Ok x) p =
    let f = ok_from (is_listed m.calls) limit (m.held.file name) x.items p.answer in
    record {
      goes = goes m n _ p.calls;
      stays = p.held;
      within = f.1;
      cause = tt;
      answer = λ told. f.0;
      steadily = record { fails = λ told h. ap is_none f.0; quiet = λ told. quiet m n (no_file m.held name) p.calls };
    }
reads_means name limit m n (Err Missing) p =
    let f = missing_from (is_listed m.calls) limit (m.held.file name) p.answer in
    record {
      goes = goes m n _ p.calls;
      stays = p.held;
      within = tt;
      cause = λ fault. counts_up m n _ p.calls (ap (λ b. is_listed m.calls || b) (ap is_none f) ∙ or_true (is_listed m.calls));
      answer = λ told. f;
      steadily = record { fails = λ told h. ap is_none f; quiet = λ told. quiet m n (no_file m.held name) p.calls };
    }
reads_means name limit m n (Err Failed) p =
    let f = failed_from (is_listed m.calls) limit (m.held.file name) p.answer in
    record {
      goes = goes m n _ p.calls;
      stays = p.held;
      within = tt;
      cause = λ fault. counts_up m n _ p.calls (ap (λ b. b || no_file m.held name) f.1);
      answer = λ told. f.0;
      steadily = record { fails = λ told h. false_not_true (is_listed m.calls) f.1 (not_listed m.calls h); quiet = λ told. quiet m n (no_file m.held name) p.calls };
    }
reads_means name limit m n (Err (TooLong len)) p =
    let f = too_long_from (is_listed m.calls) limit len (m.held.file name) p.answer in
    record {
      goes = goes m n _ p.calls;
      stays = p.held;
      within = f.1;
      cause = λ fault. absurd fault;
      answer = λ told. f.0;
      steadily = record { fails = λ told h. ap is_none f.0.1; quiet = λ told. quiet m n (no_file m.held name) p.calls };
    }
reads_means name limit m n (Err NoMemory) p = record {
  goes = goes m n _ p.calls;
  stays = p.held;
  within = tt;
  cause = λ fault. absurd fault;
  answer = λ told. tt;
  steadily = record { fails = λ told h. tt; quiet = λ told. quiet m n (no_file m.held name) p.calls };
}

-- ---- what an answer says of the folder

listed_from : (listed : Bool) (folder : Option (List Entry)) (entries : List Entry) → list_due listed folder ≡ Ok entries → folder ≡ Some entries
listed_from listed None entries e = absurd cc
listed_from true (Some x) entries e = absurd cc
listed_from false (Some x) entries e = let same : x ≡ entries = cc in ap (λ (z : List Entry). Some z) same

none_from : (listed : Bool) (folder : Option (List Entry)) → list_due listed folder ≡ Err Missing → folder ≡ None
none_from listed None e = refl
none_from true (Some x) e = absurd cc
none_from false (Some x) e = absurd cc

unlisted_from : (listed : Bool) (folder : Option (List Entry)) → list_due listed folder ≡ Err Failed → IsSome folder × (listed ≡ true)
unlisted_from listed None e = absurd cc
unlisted_from true (Some x) e = (refl, refl)
unlisted_from false (Some x) e = absurd cc

never_long : {A : Type 0} (listed : Bool) (folder : Option (List Entry)) (len : ℕ) → list_due listed folder ≡ Err (TooLong len) → A
never_long listed None len e = absurd cc
never_long true (Some x) len e = absurd cc
never_long false (Some x) len e = absurd cc

pub lists_means : (name : List ℕ) (m n : MemFilesState) (r : Result (List Entry) FileFail) → IfOk r AreInOrder → MemLists name m n r → Lists name (files_state m) (files_state n) r
lists_means name m n (Ok x) order p =
    let f = listed_from (is_listed m.calls) (m.held.folder name) x p.answer in
    record {
      goes = goes m n _ p.calls;
      stays = p.held;
      listing = order;
      cause = tt;
      answer = λ told. f;
      steadily = record { fails = λ told h. ap is_none f; quiet = λ told. quiet m n (no_folder m.held name) p.calls };
    }
lists_means name m n (Err Missing) order p =
    let f = none_from (is_listed m.calls) (m.held.folder name) p.answer in
    record {
      goes = goes m n _ p.calls;
      stays = p.held;
      listing = tt;
      cause = λ fault. counts_up m n _ p.calls (ap (λ b. is_listed m.calls || b) (ap is_none f) ∙ or_true (is_listed m.calls));
      answer = λ told. f;
      steadily = record { fails = λ told h. ap is_none f; quiet = λ told. quiet m n (no_folder m.held name) p.calls };
    }
lists_means name m n (Err Failed) order p =
    let f = unlisted_from (is_listed m.calls) (m.held.folder name) p.answer in
    record {
      goes = goes m n _ p.calls;
      stays = p.held;
      listing = tt;
      cause = λ fault. counts_up m n _ p.calls (ap (λ b. b || no_folder m.held name) f.1);
      answer = λ told. f.0;
      steadily = record { fails = λ told h. false_not_true (is_listed m.calls) f.1 (not_listed m.calls h); quiet = λ told. quiet m n (no_folder m.held name) p.calls };
    }
lists_means name m n (Err (TooLong len)) order p = never_long (is_listed m.calls) (m.held.folder name) len p.answer
lists_means name m n (Err NoMemory) order p = record {
  goes = goes m n _ p.calls;
  stays = p.held;
  listing = tt;
  cause = λ fault. absurd fault;
  answer = λ told. tt;
  steadily = record { fails = λ told h. tt; quiet = λ told. quiet m n (no_folder m.held name) p.calls };
}

-- ---- writes

on_false : {A : Type 0} (b : Bool) (x y : A) → b ≡ false → (if b then x else y) ≡ y
on_false true x y e = absurd cc
on_false false x y e = refl

on_true : {A : Type 0} (b : Bool) (x y : A) → b ≡ true → (if b then x else y) ≡ x
on_true true x y e = refl
on_true false x y e = absurd cc

pub creates_means : (name : List ℕ) (m n : MemFilesState) (r : Result (Unit {0}) WriteFailed) → MemCreates name m n r → Creates name (files_state m) (files_state n) r
creates_means name m n (Ok x) p = record {
  goes = goes m n _ p.calls;
  cause = tt;
  ok = λ told. p.held ∙ on_false (create_fails m name) m.held (with_file m.held name (Some [])) (sym p.fails);
  failed = tt;
  steadily = record { fails = λ told h. p.fails ∙ due_alone m (no_place m.held name) h; quiet = λ told. quiet m n (no_place m.held name) p.calls };
}
creates_means name m n (Err e) p = record {
  goes = goes m n _ p.calls;
  cause = counts_up m n _ p.calls (sym p.fails);
  ok = tt;
  failed = λ told. inl (p.held ∙ on_true (create_fails m name) m.held (with_file m.held name (Some [])) (sym p.fails));
  steadily = record { fails = λ told h. p.fails ∙ due_alone m (no_place m.held name) h; quiet = λ told. quiet m n (no_place m.held name) p.calls };
}

-- all of the bytes fit
fits_all : (room : ℕ) (bytes : List ℕ) (file : Option (List ℕ)) → is_over room (length bytes) file ≡ false → take (room - length (unwrap_or file [])) bytes ≡ bytes
fits_all room bytes None e = absurd cc
fits_all room bytes (Some old) e =
    let fits : length old + length bytes ≤ room = ltb-false _ _ e in
    take_all (room - length old) bytes (omega arith)

or_false : (a b : Bool) → false ≡ (a || b) → (a ≡ false) × (b ≡ false)
or_false true b e = absurd cc
or_false false b e = (refl, sym e)

prefix : (listed : Bool) (h g : Held) (name bytes : List ℕ) (k : ℕ) → g ≡ (if listed then h else with_more h name (take k bytes)) → (j : ℕ) × (g ≡ with_more h name (take j bytes))
prefix true h g name bytes k e = (0, e ∙ with_more_nothing h name bytes)
prefix false h g name bytes k e = (k, e)

pub appends_means : (name bytes : List ℕ) (m n : MemFilesState) (r : Result (Unit {0}) WriteFailed) → MemAppends name bytes m n r → Appends name bytes (files_state m) (files_state n) r
appends_means name bytes m n (Ok x) p =
    let none = or_false (is_listed m.calls) (no_room m.held name bytes) p.fails in
    record {
      goes = goes m n _ p.calls;
      cause = tt;
      ok = λ told. p.held ∙ on_false (is_listed m.calls) m.held (with_more m.held name (what_fits m.held name bytes)) none.0
          ∙ ap (with_more m.held name) (fits_all (m.held.room name) bytes (m.held.file name) none.1);
      failed = tt;
      steadily = record { fails = λ told h. p.fails ∙ due_alone m (no_room m.held name bytes) h; quiet = λ told. quiet m n (no_room m.held name bytes) p.calls };
    }
appends_means name bytes m n (Err e) p = record {
  goes = goes m n _ p.calls;
  cause = counts_up m n _ p.calls (sym p.fails);
  ok = tt;
  failed = λ told. prefix (is_listed m.calls) m.held n.held name bytes _ p.held;
  steadily = record { fails = λ told h. p.fails ∙ due_alone m (no_room m.held name bytes) h; quiet = λ told. quiet m n (no_room m.held name bytes) p.calls };
}
