-- What the steps of a mount give, from what their calls gave.
use Rattle.std.proofs.Common.{◌≡◌, refl, sym, ap, subst, ℕ, suc, List, true, false, Some, None, Result, Ok, Err, inr, ◌∙◌}
use Rattle.outside.specs.Files.{FilesState, Held}
use Rattle.outside.specs.declared.files.Entry.{Entry}
use Rattle.outside.specs.declared.files.EntryKind.TheVariants as kinds
use Rattle.path_names.specs.Paths.{is_path}
use Rattle.mount_tree.specs.Legal.{IsFolderPath, is_entry_name}
use Rattle.policy_data.specs.declared.data.Content.TheVariants.{File}
use Rattle.mount_tree.specs.declared.fault.TreeFault.{TreeFault}
use Rattle.mount_tree.specs.declared.fault.TreeFault.TheVariants.{FileFault, BadName, OverLimit, NoMemory}
use Rattle.mount_tree.specs.Runs.{Run, stops, and_next, each, IsFault, Gives, Says}
use Rattle.mount_tree.specs.Making.{Sofar}
use Rattle.mount_tree.specs.Entering.{Enters, EntersBy}
use Rattle.mount_tree.specs.declared.mount.Inner.{Inner}
use Rattle.mount_tree.specs.declared.mount.Entered.{Entered}
use Rattle.mount_tree.specs.Building.{file_step, folder_step, entry_due, inside, below, listing_due, mount_due}
use Rattle.mount_tree.proofs.LegalLemmas.{below-path}
use Rattle.mount_tree.proofs.Follows.{Follows, follows_start, follows_step, follows_stop, follows_memory, follows_call, says_gives}

pub any_memory : {A : Type 0} (due : Run A) (s : FilesState) → Gives due s s (Err NoMemory)
any_memory due s = follows_memory due due s s (follows_start due s)

-- the fault of an entry's name, or no memory for it
bad_says : (A : Type 0) (name : List ℕ) (fault : TreeFault) → IsFault (BadName name) fault → Says {A = A} (Err (BadName name)) (Err fault)
bad_says A name NoMemory is = tt
bad_says A name (BadName n) is = ap Err is
bad_says A name (FileFault n) is = other is
  where
    other : BadName name ≡ FileFault n → ⊥
    other e = cc
bad_says A name (OverLimit what value) is = absurd (other is)
  where
    other : BadName name ≡ OverLimit what value → ⊥
    other e = cc

module _ (deeper : List ℕ → List ℕ → Sofar → Run Sofar) (s : FilesState) (folder path : List ℕ) (sofar : Sofar) (entry : Entry) where
  abbrev due : Run Sofar
  due = entry_due deeper s.held folder path sofar entry

  pub entry_bad : (fault : TreeFault) → is_entry_name entry.name ≡ false → IsFault (BadName entry.name) fault → Gives (entry_due deeper s.held folder path sofar entry) s s (Err fault)
  entry_bad fault bad is =
      let stopped : due ≡ stops (BadName entry.name) = rw (bad) refl in
      subst (λ (r : Run Sofar). Gives r s s (Err fault)) (sym stopped) (says_gives (stops (BadName entry.name)) (Err fault) s (bad_says Sofar entry.name fault is))

  pub entry_file : (t : FilesState) (r : Result Sofar TreeFault) (outside inner : List ℕ) → is_entry_name entry.name ≡ true → entry.kind ≡ kinds.File
      → outside ≡ inside folder entry.name → inner ≡ below path entry.name → Gives (file_step s.held sofar inner (File outside)) s t r
      → Gives (entry_due deeper s.held folder path sofar entry) s t r
  entry_file t r outside inner good kind named placed g =
      let is : due ≡ file_step s.held sofar inner (File outside) = rw (good, kind, named, placed) refl in
      subst (λ (q : Run Sofar). Gives q s t r) (sym is) g

  folder_due : (outside inner : List ℕ) → is_entry_name entry.name ≡ true → entry.kind ≡ kinds.Folder → outside ≡ inside folder entry.name → inner ≡ below path entry.name
      → due ≡ and_next (folder_step sofar inner) (λ made. deeper outside inner made)
  folder_due outside inner good kind named placed = rw (good, kind, named, placed) refl

  pub entry_refused : (fault : TreeFault) (outside inner : List ℕ) → is_entry_name entry.name ≡ true → entry.kind ≡ kinds.Folder → outside ≡ inside folder entry.name → inner ≡ below path entry.name
      → Says (folder_step sofar inner).answer (Err fault) → Gives (entry_due deeper s.held folder path sofar entry) s s (Err fault)
  entry_refused fault outside inner good kind named placed h =
      let due' = and_next (folder_step sofar inner) (λ made. deeper outside inner made) in
      subst (λ (q : Run Sofar). Gives q s s (Err fault)) (sym (folder_due outside inner good kind named placed))
      (follows_stop due' (folder_step sofar inner) (λ made. deeper outside inner made) fault s s s (follows_start due' s) (says_gives (folder_step sofar inner) (Err fault) s h))

  pub entry_folder : (t : FilesState) (r : Result Sofar TreeFault) (made : Sofar) (outside inner : List ℕ) → is_entry_name entry.name ≡ true → entry.kind ≡ kinds.Folder
      → outside ≡ inside folder entry.name → inner ≡ below path entry.name → Says (folder_step sofar inner).answer (Ok made) → Gives (deeper outside inner made) s t r
      → Gives (entry_due deeper s.held folder path sofar entry) s t r
  entry_folder t r made outside inner good kind named placed h g =
      let due' = and_next (folder_step sofar inner) (λ m. deeper outside inner m) in
      subst (λ (q : Run Sofar). Gives q s t r) (sym (folder_due outside inner good kind named placed))
      (follows_call due' (deeper outside inner made) r s s t
      (follows_step due' (folder_step sofar inner) (λ m. deeper outside inner m) made s s s (follows_start due' s) (says_gives (folder_step sofar inner) (Ok made) s h)) g)

-- ---- what is in a folder

module _ (s t : FilesState) (folder path : List ℕ) (sofar : Sofar) (levels : ℕ) where
  abbrev of_entries : List Entry → Run Sofar
  of_entries entries = each (entry_due (mount_due levels s.held) s.held folder path) sofar entries

  pub mount_unlisted : (fault : TreeFault) → Gives (listing_due s.held folder) s t (Err fault) → Gives (mount_due (suc levels) s.held folder path sofar) s t (Err fault)
  mount_unlisted fault g =
      follows_stop (mount_due (suc levels) s.held folder path sofar) (listing_due s.held folder) of_entries fault s s t
      (follows_start (mount_due (suc levels) s.held folder path sofar) s) g

  pub mount_listed : (u : FilesState) (entries : List Entry) (r : Result Sofar TreeFault) → Gives (listing_due s.held folder) s t (Ok entries)
      → Gives (each (entry_due (mount_due levels t.held) t.held folder path) sofar entries) t u r → Gives (mount_due (suc levels) s.held folder path sofar) s u r
  mount_listed u entries r g h =
      let here : Gives (of_entries entries) t u r =
      subst (λ (held : Held). Gives (each (entry_due (mount_due levels held) held folder path) sofar entries) t u r) g.stays h in
      follows_call (mount_due (suc levels) s.held folder path sofar) (of_entries entries) r s t u
      (follows_step (mount_due (suc levels) s.held folder path sofar) (listing_due s.held folder) of_entries entries s s t
      (follows_start (mount_due (suc levels) s.held folder path sofar) s) g) here

-- ---- an entry, and then what is in it

module _ (folder path : List ℕ) (sofar : Sofar) (entry : Entry) (s : FilesState) where
  pub enter_bad : (fault : TreeFault) → is_entry_name entry.name ≡ false → IsFault (BadName entry.name) fault → Enters folder path sofar entry s s (Err fault)
  enter_bad fault bad is = λ deeper. entry_bad deeper s folder path sofar entry fault bad is

  pub enter_memory : Enters folder path sofar entry s s (Err NoMemory)
  enter_memory = λ deeper. any_memory (entry_due deeper s.held folder path sofar entry) s

  pub enter_file : (t : FilesState) (made : Sofar) (outside inner : List ℕ) → is_entry_name entry.name ≡ true → entry.kind ≡ kinds.File
      → outside ≡ inside folder entry.name → inner ≡ below path entry.name → Gives (file_step s.held sofar inner (File outside)) s t (Ok made)
      → Enters folder path sofar entry s t (Ok (record { making = made; inner = None }))
  enter_file t made outside inner good kind named placed g = (g.stays, λ deeper. entry_file deeper s folder path sofar entry t (Ok made) outside inner good kind named placed g)

  pub enter_no_file : (t : FilesState) (fault : TreeFault) (outside inner : List ℕ) → is_entry_name entry.name ≡ true → entry.kind ≡ kinds.File
      → outside ≡ inside folder entry.name → inner ≡ below path entry.name → Gives (file_step s.held sofar inner (File outside)) s t (Err fault)
      → Enters folder path sofar entry s t (Err fault)
  enter_no_file t fault outside inner good kind named placed g = λ deeper. entry_file deeper s folder path sofar entry t (Err fault) outside inner good kind named placed g

  pub enter_folder : (made : Sofar) (outside inner : List ℕ) → IsFolderPath path → is_entry_name entry.name ≡ true → entry.kind ≡ kinds.Folder
      → outside ≡ inside folder entry.name → inner ≡ below path entry.name → Says (folder_step sofar inner).answer (Ok made)
      → Enters folder path sofar entry s s (Ok (record { making = made; inner = Some (record { outside = outside; path = inner }) }))
  enter_folder made outside inner at good kind named placed h =
      let legal : is_path inner ≡ true = ap is_path placed ∙ below-path path entry.name at good in
      (refl, (legal, λ deeper u r g. entry_folder deeper s folder path sofar entry u r made outside inner good kind named placed h g))

  pub enter_no_folder : (fault : TreeFault) (outside inner : List ℕ) → is_entry_name entry.name ≡ true → entry.kind ≡ kinds.Folder
      → outside ≡ inside folder entry.name → inner ≡ below path entry.name → Says (folder_step sofar inner).answer (Err fault) → Enters folder path sofar entry s s (Err fault)
  enter_no_folder fault outside inner good kind named placed h = λ deeper. entry_refused deeper s folder path sofar entry fault outside inner good kind named placed h

-- one entry of a mount, with what is in it that many levels deep
abbrev pub entry_step : ℕ → List ℕ → List ℕ → Held → Sofar → Entry → Run Sofar
entry_step levels folder path held sofar entry = entry_due (mount_due levels held) held folder path sofar entry

module _ (levels : ℕ) (folder path : List ℕ) (sofar : Sofar) (entry : Entry) (s t : FilesState) where
  pub entered_file : (e : Entered) → e.inner ≡ None → Enters folder path sofar entry s t (Ok e) → Gives (entry_step levels folder path s.held sofar entry) s t (Ok e.making)
  entered_file e is h =
      let here : EntersBy folder path sofar entry s t e.making None = subst (EntersBy folder path sofar entry s t e.making) is h.1 in here (mount_due levels s.held)

  pub entered_not : (fault : TreeFault) → Enters folder path sofar entry s t (Err fault) → Gives (entry_step levels folder path s.held sofar entry) s t (Err fault)
  entered_not fault h = h (mount_due levels s.held)

  entered_inner : (e : Entered) (inner : Inner) → e.inner ≡ Some inner → Enters folder path sofar entry s t (Ok e) → EntersBy folder path sofar entry s t e.making (Some inner)
  entered_inner e inner is h = subst (EntersBy folder path sofar entry s t e.making) is h.1

  -- what is in the folder has paths
  pub entered_path : (e : Entered) (inner : Inner) → e.inner ≡ Some inner → Enters folder path sofar entry s t (Ok e) → IsFolderPath inner.path
  entered_path e inner is h = inr ((entered_inner e inner is h).0)

  pub entered_folder : (u : FilesState) (e : Entered) (inner : Inner) (r : Result Sofar TreeFault) → e.inner ≡ Some inner
      → Enters folder path sofar entry s t (Ok e) → Gives (mount_due levels t.held inner.outside inner.path e.making) t u r
      → Gives (entry_step levels folder path s.held sofar entry) s u r
  entered_folder u e inner r is h g =
      let here : EntersBy folder path sofar entry s t e.making (Some inner) = entered_inner e inner is h in
      let deep : Gives (mount_due levels s.held inner.outside inner.path e.making) t u r =
      subst (λ (held : Held). Gives (mount_due levels held inner.outside inner.path e.making) t u r) h.0 g in
      here.1 (mount_due levels s.held) u r deep

-- the entries of a folder are what is left of it
pub mount_begins : (s t : FilesState) (folder path : List ℕ) (sofar : Sofar) (levels inner : ℕ) (entries : List Entry) → suc inner ≡ levels
    → Gives (listing_due s.held folder) s t (Ok entries) → Follows (mount_due levels s.held folder path sofar) (each (entry_step inner folder path s.held) sofar entries) s t
mount_begins s t folder path sofar levels inner entries is g =
    subst (λ n. Follows (mount_due n s.held folder path sofar) (each (entry_step inner folder path s.held) sofar entries) s t) is
    (follows_step (mount_due (suc inner) s.held folder path sofar) (listing_due s.held folder) (λ found. each (entry_step inner folder path s.held) sofar found) entries s s t
    (follows_start (mount_due (suc inner) s.held folder path sofar) s) g)

pub mount_missed : (s t : FilesState) (folder path : List ℕ) (sofar : Sofar) (levels inner : ℕ) (fault : TreeFault) → suc inner ≡ levels
    → Gives (listing_due s.held folder) s t (Err fault) → Gives (mount_due levels s.held folder path sofar) s t (Err fault)
mount_missed s t folder path sofar levels inner fault is g =
    subst (λ n. Gives (mount_due n s.held folder path sofar) s t (Err fault)) is (mount_unlisted s t folder path sofar inner fault g)
