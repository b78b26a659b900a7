-- A file that was changed in a map, seen as what is held.
use Rattle.std.proofs.Common.{◌≡◌, ◌-◌, ◌++◌, take, length, ℕ, List, [], ◌∷◌, Bool, true, false, arith, refl, ap, sym, ◌∙◌}
use Rattle.std.specs.Prelude.{Option, Some, None, is_some, if◌then◌else◌, String, option_map, max, unwrap_or, Result, Ok, Err, OnOk, OnErr}
use Rattle.std.specs.BTreeMap.{BTreeMap, UpdatesBy, get_by_text}
use Rattle.std.specs.Str.{bytes_eq}
use Rattle.std.specs.String.{string_cmp, string_bytes}
use Rattle.std.specs.Ordering.{nat_cmp}
use Rattle.std.specs.Cmp.Lexicographic.{slice_cmp}
use Rattle.std.specs.declared.alloc.Global.{Global}
use Rattle.std.proofs.lemmas.Slice.Eq.{bytes_eq-Decides}
use Rattle.std.proofs.lemmas.Map.Text.{btree_map_updates_text}
use mathlib.Core.Path.{fun_ext}
use Rattle.outside.specs.Buffer.{Filled, fill}
use Rattle.outside.specs.Files.{Held, with_file, with_more}
use Rattle.outside.specs.MemFiles.{first_named, with_room, what_fits}
use Rattle.outside.specs.MemInside.{shown, room_of, held_by}
use Rattle.outside.proofs.HeldLaws.{with_file_same}
use Rattle.outside.specs.declared.contents.Named.{Named}
use Rattle.outside.specs.declared.files.Entry.{Entry}
use Rattle.outside.specs.declared.mem_tables.MemFile.{MemFile}

abbrev Folders : Type 0
Folders = List ℕ → Option (List Entry)

abbrev Find : Type 0
Find = List ℕ → Option MemFile

over : {A : Type 0} (read : Option MemFile → A) (b : Bool) (f g : Option MemFile)
    → read (if b then f else g) ≡ (if b then read f else read g)
over read true f g = refl
over read false f g = refl

-- what is read of the new value is read of the old one, so nothing has changed anywhere
same_over : {A : Type 0} (b : Bool) (x y : A) → (b ≡ true → x ≡ y) → (if b then x else y) ≡ y
same_over true x y h = h refl
same_over false x y h = refl

same_at : {A : Type 0} (read : Option MemFile → A) (find next : Find) (n : List ℕ) (f : Option MemFile)
    → ((q : List ℕ) → next q ≡ (if bytes_eq n q then f else find q)) → read f ≡ read (find n)
    → (q : List ℕ) → read (next q) ≡ read (find q)
same_at {A} read find next n f h same q =
    ap read (h q) ∙ (over read (bytes_eq n q) f (find q)
    ∙ same_over (bytes_eq n q) (read f) (read (find q)) (λ e. same ∙ ap (λ x. read (find x)) ((bytes_eq-Decides n q).0 e)))

held_same : (f g : List ℕ → Option (List ℕ)) (d : Folders) (a b : List ℕ → Bool) (r s : List ℕ → ℕ) → f ≡ g → a ≡ b → r ≡ s
    → (let c : Held = record { file = f; folder = d; noted = a; room = r } in c) ≡ record { file = g; folder = d; noted = b; room = s }
held_same f g d a b r s p q w = cc

-- a file under a name that was there or noted
held_put : (find next : Find) (d : Folders) (n : List ℕ) (old new : MemFile)
    → find n ≡ Some old → new.held.room ≡ old.held.room
    → ((q : List ℕ) → next q ≡ (if bytes_eq n q then Some new else find q))
    → held_by next d ≡ with_file (held_by find d) n (shown (Some new))
held_put find next d n old new was room h =
    held_same _ _ d _ _ _ _
    (fun_ext (λ q. ap shown (h q) ∙ over shown (bytes_eq n q) (Some new) (find q)))
    (fun_ext (same_at is_some find next n (Some new) h (sym (ap is_some was))))
    (fun_ext (same_at room_of find next n (Some new) h (room ∙ sym (ap room_of was))))

abbrev Table : Type 0
Table = BTreeMap (String Global) MemFile

abbrev find_in : Table → Find
find_in m q = get_by_text m q

-- the same of a write through a map's `get_mut`
pub held_updated : (m n : Table) (d : Folders) (bs : List ℕ) (old new : MemFile)
    → get_by_text m bs ≡ Some old → new.held.room ≡ old.held.room
    → UpdatesBy string_cmp (λ k. slice_cmp nat_cmp bs (string_bytes k)) m n (Some new)
    → held_by (find_in n) d ≡ with_file (held_by (find_in m) d) bs (shown (Some new))
held_updated m n d bs old new was room u =
    held_put (find_in m) (find_in n) d bs old new was room (btree_map_updates_text bs m n (Some new) u)

-- bytes at the end of what is shown
shown_more : (there : Bool) (held : Filled) (more : List ℕ)
    → (if there then Some (if there then fill held more else held).bytes else None) ≡ option_map (λ b. b ++ take (held.room - length (unwrap_or (if there then Some held.bytes else None) [])) more) (if there then Some held.bytes else None)
shown_more true held more = refl
shown_more false held more = refl

fill_room : (there : Bool) (held : Filled) (more : List ℕ) → (if there then fill held more else held).room ≡ held.room
fill_room true held more = refl
fill_room false held more = refl

abbrev extended : MemFile → List ℕ → MemFile
extended f more = record f { held = if f.there then fill f.held more else f.held }

abbrev more_at : Held → List ℕ → Option MemFile → List ℕ → Held
more_at h name found more = with_file h name (option_map (λ b. b ++ take (room_of found - length (unwrap_or (shown found) [])) more) (shown found))

pub held_extended : (m n : Table) (d : Folders) (bs more : List ℕ) (old : MemFile)
    → get_by_text m bs ≡ Some old
    → UpdatesBy string_cmp (λ k. slice_cmp nat_cmp bs (string_bytes k)) m n (Some (extended old more))
    → held_by (find_in n) d ≡ (let held = held_by (find_in m) d in with_more held bs (what_fits held bs more))
held_extended m n d bs more old was u =
    held_updated m n d bs old (extended old more) was (fill_room old.there old.held more) u
    ∙ ap (with_file (held_by (find_in m) d) bs) (shown_more old.there old.held more)
    ∙ ap (λ (found : Option MemFile). more_at (held_by (find_in m) d) bs found more) (sym was)

-- ---- room

-- a new room under a name
held_reserved : (find next : Find) (d : Folders) (n : List ℕ) (f : MemFile) (bytes : ℕ)
    → shown (Some f) ≡ shown (find n) → f.held.room ≡ max (room_of (find n)) bytes
    → ((q : List ℕ) → next q ≡ (if bytes_eq n q then Some f else find q))
    → held_by next d ≡ with_room (held_by find d) n bytes
held_reserved find next d n f bytes same room h =
    held_same _ _ d _ _ _ _
    (fun_ext (same_at shown find next n (Some f) h same))
    (fun_ext (λ q. ap is_some (h q) ∙ over is_some (bytes_eq n q) (Some f) (find q)))
    (fun_ext (λ q. ap room_of (h q) ∙ over room_of (bytes_eq n q) (Some f) (find q) ∙ room_at (bytes_eq n q) q (λ e. (bytes_eq-Decides n q).0 e)))
  where
    room_at : (b : Bool) (q : List ℕ) → (b ≡ true → n ≡ q) → (if b then f.held.room else room_of (find q)) ≡ (if b then max (room_of (find q)) bytes else room_of (find q))
    room_at true q e = room ∙ ap (λ (k : List ℕ). max (room_of (find k)) bytes) (e refl)
    room_at false q e = refl

abbrev pub Puts : Table → Table → List ℕ → MemFile → Type 0
Puts m n bs f = UpdatesBy string_cmp (λ k. slice_cmp nat_cmp bs (string_bytes k)) m n (Some f)

-- more room for a file that was there or noted
pub held_with_room : (m n : Table) (d : Folders) (bs : List ℕ) (old f : MemFile) (bytes : ℕ)
    → get_by_text m bs ≡ Some old → f.there ≡ old.there → f.held ≡ record old.held { room = max old.held.room bytes }
    → Puts m n bs f → held_by (find_in n) d ≡ with_room (held_by (find_in m) d) bs bytes
held_with_room m n d bs old f bytes was there held u =
    held_reserved (find_in m) (find_in n) d bs f bytes
    (shown_by _ _ _ _ there (ap (λ (h : Filled). h.bytes) held) ∙ sym (ap shown was))
    (ap (λ (h : Filled). h.room) held ∙ ap (λ k. max k bytes) (sym (ap room_of was)))
    (btree_map_updates_text bs m n (Some f) u)
  where
    shown_by : (a b : Bool) (x y : List ℕ) → a ≡ b → x ≡ y → (if a then Some x else None) ≡ (if b then Some y else None)
    shown_by a b x y p q = cc

-- room under a name that was absent
pub held_noted : (m n : Table) (d : Folders) (bs key : List ℕ) (held : Filled) (bytes : ℕ)
    → get_by_text m bs ≡ None → key ≡ bs → held.room ≡ bytes
    → ((q : List ℕ) → get_by_text n q ≡ (if bytes_eq key q then Some (record { held = held; there = false }) else get_by_text m q))
    → held_by (find_in n) d ≡ with_room (held_by (find_in m) d) bs bytes
held_noted m n d bs key held bytes was named room h =
    held_reserved (find_in m) (find_in n) d bs (record { held = held; there = false }) bytes (sym (ap shown was)) (room ∙ from_none (get_by_text m bs) was)
    (λ q. h q ∙ ap (λ k. if bytes_eq k q then Some (record { held = held; there = false }) else get_by_text m q) named)
  where
    from_none : (o : Option MemFile) → o ≡ None → bytes ≡ max (room_of o) bytes
    from_none o e = rw e (omega arith)

-- the file that was there was put there again
pub held_unchanged : (m n : Table) (d : Folders) (bs : List ℕ) (old f : MemFile)
    → get_by_text m bs ≡ Some old → f.there ≡ old.there → f.held ≡ old.held
    → Puts m n bs f → held_by (find_in n) d ≡ held_by (find_in m) d
held_unchanged m n d bs old f was there held u =
    held_updated m n d bs old f was (ap (λ (h : Filled). h.room) held) u
    ∙ with_file_same (held_by (find_in m) d) bs (shown (Some f)) (ap shown was ∙ shown_by _ _ _ _ (sym there) (ap (λ (h : Filled). h.bytes) (sym held)))
  where
    shown_by : (a b : Bool) (x y : List ℕ) → a ≡ b → x ≡ y → (if a then Some x else None) ≡ (if b then Some y else None)
    shown_by a b x y p q = cc

pub on_ok : {A E P Q : Type 0} (r : Result A E) → (P → Q) → OnOk r P → OnOk r Q
on_ok (Ok x) f h = f h
on_ok (Err e) f h = tt

pub on_err : {A E P Q : Type 0} (r : Result A E) → (P → Q) → OnErr r P → OnErr r Q
on_err (Ok x) f h = tt
on_err (Err e) f h = f h

-- ---- the start

-- the first of this name, as the map has it, or else what is there
abbrev pub first_or : {A B : Type 0} → (A → B) → List (Named A) → List ℕ → Option B → Option B
first_or view [] name found = found
first_or view (x ∷ xs) name found = if bytes_eq x.name name then Some (view x.value) else first_or view xs name found

pub first_or-last : {A B : Type 0} (view : A → B) (xs : List (Named A)) (x : Named A) (name : List ℕ) (found : Option B)
    → first_or view (xs ++ x ∷ []) name found ≡ first_or view xs name (if bytes_eq x.name name then Some (view x.value) else found)
first_or-last view [] x name found = refl
first_or-last view (y ∷ ys) x name found = ap (λ z. if bytes_eq y.name name then Some (view y.value) else z) (first_or-last view ys x name found)

pub first_or-none : {A B : Type 0} (view : A → B) (xs : List (Named A)) (name : List ℕ) → first_or view xs name None ≡ option_map view (first_named xs name)
first_or-none view [] name = refl
first_or-none {A} {B} view (x ∷ xs) name = ap (λ z. if bytes_eq x.name name then Some (view x.value) else z) (first_or-none view xs name) ∙ chosen (bytes_eq x.name name) x.value (first_named xs name)
  where
    chosen : (b : Bool) (v : A) (rest : Option A) → (if b then Some (view v) else option_map view rest) ≡ option_map view (if b then Some v else rest)
    chosen true v rest = refl
    chosen false v rest = refl

-- the last of the list was put into the map
pub first_or-step : {A B : Type 0} (view : A → B) (rest less : List (Named A)) (x : Named A) (key : List ℕ) (value : B) (find next : List ℕ → Option B) (name : List ℕ) (due : Option B)
    → rest ≡ less ++ x ∷ [] → key ≡ x.name → value ≡ view x.value
    → next name ≡ (if bytes_eq key name then Some value else find name)
    → first_or view rest name (find name) ≡ due → first_or view less name (next name) ≡ due
first_or-step view rest less x key value find next name due split named is changed before =
    ap (first_or view less name) (changed ∙ ap (λ k. if bytes_eq k name then Some value else find name) named ∙ ap (λ v. if bytes_eq x.name name then Some v else find name) is)
    ∙ sym (first_or-last view less x name (find name)) ∙ ap (λ z. first_or view z name (find name)) (sym split) ∙ before

-- nothing is in the map yet
pub first_or-start : {A B : Type 0} (view : A → B) (xs ys : List (Named A)) (name : List ℕ) (found : Option B)
    → xs ≡ ys → found ≡ None → first_or view xs name found ≡ option_map view (first_named ys name)
first_or-start view xs ys name found e none = ap (λ z. first_or view z name found) e ∙ ap (first_or view ys name) none ∙ first_or-none view ys name

pub same_map : {A : Type 0} (o : Option A) → option_map (λ x. x) o ≡ o
same_map None = refl
same_map (Some x) = refl
