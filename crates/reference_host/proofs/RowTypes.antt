-- Each row returns what its function's type says.
use Rattle.std.proofs.Common.{◌≡◌, ℕ, zero, suc, ◌<◌, ◌^◌, Bool, true, false, List, [], ◌∷◌, length, get_or, cond, Option, Some, None, refl, arith}
use Rattle.std.specs.Prelude.{find, slice_index_or}
use Rattle.std.specs.Str.{bytes_eq}
use Rattle.wit_types.specs.Plain.{Name, Plain, BoolType, StringType, ListType}
use Rattle.wit_types.specs.PlainValue.{PlainValues}
use Rattle.reference_step.specs.Rules.{alike_results}
use Rattle.reference_step.specs.Values.{nth, list_in, id_in}
use Rattle.reference_step.specs.State.{View, Row, Traps, Does}
use Rattle.reference_step.specs.Rows.{Named, by_row, row_of, all_rows, poll_rows, stream_rows, environment_rows, wall_rows, monotonic_rows, filesystem_rows, handle as handle_at, number, text, flags, bytes}
use Rattle.reference_host.specs.Sound.{IsSoundContent, IsSound}
use Rattle.reference_host.proofs.TypeLaws.{nameless_result, from_nameless, to_alike}
use Rattle.reference_host.proofs.ValueForms.{u8, u32, u64, handle, labels, optional, streamed, filed, datetime, descriptor_stat, metadata_hash, directory_entry, variable, closed_has}
use Rattle.reference_host.proofs.RowForms.{RowHas, AreShort, count_numbers}
use Rattle.reference_host.proofs.NodeTypes.{read_part, descriptor_flags}
use Rattle.reference_host.proofs.StreamTypes as stream
use Rattle.reference_host.proofs.NodeTypes as node
use Rattle.reference_host.proofs.ScratchTypes as scratch

-- ---- the result types of rows, each at its row's place

abbrev poll_types : List (Option Plain)
poll_types = Some BoolType ∷ None ∷ Some (ListType u32) ∷ []

abbrev stream_types : List (Option Plain)
stream_types =
    streamed (Some (ListType u8))  -- read
    ∷ streamed (Some (ListType u8))
    ∷ streamed (Some u64)  -- skip
    ∷ streamed (Some u64)
    ∷ Some handle  -- subscribe
    ∷ streamed (Some u64)  -- check-write
    ∷ streamed None  -- write
    ∷ streamed None
    ∷ streamed None  -- flush
    ∷ streamed None
    ∷ Some handle  -- subscribe
    ∷ streamed None  -- write-zeroes
    ∷ streamed None
    ∷ streamed (Some u64)  -- splice
    ∷ streamed (Some u64)
    ∷ []

abbrev environment_types : List (Option Plain)
environment_types = Some (ListType variable) ∷ Some (ListType StringType) ∷ Some (optional StringType) ∷ []

abbrev handle_types : List (Option Plain)
handle_types = Some handle ∷ []

abbrev terminal_types : List (Option Plain)
terminal_types = Some (optional handle) ∷ []

abbrev wall_types : List (Option Plain)
wall_types = Some datetime ∷ Some datetime ∷ []

abbrev monotonic_types : List (Option Plain)
monotonic_types = Some u64 ∷ Some u64 ∷ Some handle ∷ Some handle ∷ []

abbrev filesystem_types : List (Option Plain)
filesystem_types =
    filed (Some handle)  -- read-via-stream
    ∷ filed (Some handle)
    ∷ filed (Some handle)
    ∷ filed None  -- advise
    ∷ filed None
    ∷ filed None
    ∷ filed None  -- set-size
    ∷ filed None
    ∷ filed (Some descriptor_flags)  -- get-flags
    ∷ filed (Some (labels 8))
    ∷ filed (Some read_part)  -- read
    ∷ filed (Some u64)
    ∷ filed (Some handle)  -- read-directory
    ∷ filed None
    ∷ filed None
    ∷ filed None
    ∷ filed None  -- symlink-at
    ∷ filed (Some descriptor_stat)
    ∷ filed (Some descriptor_stat)
    ∷ filed None  -- set-times-at
    ∷ filed None
    ∷ filed None
    ∷ filed (Some handle)  -- open-at
    ∷ filed (Some StringType)
    ∷ Some BoolType  -- is-same-object
    ∷ filed (Some metadata_hash)
    ∷ filed (Some metadata_hash)
    ∷ filed (Some (optional directory_entry))
    ∷ []

abbrev pub all_types : List (List (Option Plain))
all_types =
    []
    ∷ poll_types
    ∷ stream_types
    ∷ environment_types
    ∷ []
    ∷ handle_types
    ∷ handle_types
    ∷ handle_types
    ∷ []
    ∷ []
    ∷ terminal_types
    ∷ terminal_types
    ∷ terminal_types
    ∷ wall_types
    ∷ monotonic_types
    ∷ []
    ∷ []
    ∷ []
    ∷ filesystem_types
    ∷ []

-- the type at the place of the first row that passes
abbrev type_at : (Named → Bool) → List Named → List (Option Plain) → Option (Option Plain)
type_at p [] types = None
type_at p (row ∷ rows) [] = None
type_at p (row ∷ rows) (ty ∷ types) = cond (p row) (Some ty) (type_at p rows types)

abbrev pub row_type : ℕ → Name → Option (Option Plain)
row_type interface name = type_at (λ row. bytes_eq row.0 name) (slice_index_or all_rows interface []) (slice_index_or all_types interface [])

-- but for names it is the type of a function's result, if there is a row
abbrev pub is_type_of : Option Plain → Option (Option Plain) → Bool
is_type_of answer None = true
is_type_of answer (Some ty) = alike_results ty (nameless_result answer)

-- ---- rows and types together

-- what holds of the items at each place of two lists
data Pairs {A B : Type 0} (P : A → B → Type 0) : List A → List B → Type 0 where
  none : Pairs P [] []
  ◌and◌ : {x : A} {y : B} {xs : List A} {ys : List B} → P x y → Pairs P xs ys → Pairs P (x ∷ xs) (y ∷ ys)

infixr 5 ◌and◌
one : {A B : Type 0} {P : A → B → Type 0} {x : A} {y : B} → P x y → Pairs P (x ∷ []) (y ∷ [])
one this = this and none

pairs_at : {A B : Type 0} (P : List A → List B → Type 0) → P [] [] → {xs : List (List A)} {ys : List (List B)} (n : ℕ) → Pairs P xs ys → P (get_or xs n []) (get_or ys n [])
pairs_at P ends n none = ends
pairs_at P ends zero (this and later) = this
pairs_at P ends (suc n) (this and later) = pairs_at P ends n later

abbrev Fits : Option (Option Plain) → Row → Type 0
Fits None row = (ty : Option Plain) → RowHas ty row
Fits (Some ty) row = RowHas ty row

of_type : (answer : Option Plain) (o : Option (Option Plain)) (row : Row) → is_type_of answer o ≡ true → Fits o row → RowHas answer row
unfolding RowHas
of_type answer None row is fits = fits answer
of_type answer (Some ty) Traps is fits = tt
of_type answer (Some ty) (Does e) is fits = from_nameless answer e.value (to_alike ty (nameless_result answer) e.value is fits)

module _ (v : View) (sound : IsSound v) where
  abbrev Returns : Named → Option Plain → Type 0
  Returns row ty = (args : PlainValues) → AreShort args → RowHas ty (row.1 v args)

  -- what a method's handle stands for
  stands : (place : ℕ) (args : PlainValues) → IsSoundContent (handle_at v place args)
  stands place args = sound.contents (id_in (nth place args))

  polls : Pairs Returns poll_rows poll_types
  unfolding RowHas
  polls = (λ a s. refl) and (λ a s. tt) and (λ a s. stream.poll v.content (list_in (nth 0 a)) s.first) and none

  streams : Pairs Returns stream_rows stream_types
  unfolding RowHas
  streams =
      (λ a s. stream.read v sound (handle_at v 0 a) (number 1 a))
      and (λ a s. stream.read v sound (handle_at v 0 a) (number 1 a))
      and (λ a s. stream.skip v sound (handle_at v 0 a) (number 1 a))
      and (λ a s. stream.skip v sound (handle_at v 0 a) (number 1 a))
      and (λ a s. refl)
      and (λ a s. refl)
      and (λ a s. stream.write v sound (handle_at v 0 a) (bytes 1 a))
      and (λ a s. stream.write v sound (handle_at v 0 a) (bytes 1 a))
      and (λ a s. refl)
      and (λ a s. refl)
      and (λ a s. refl)
      and (λ a s. stream.write-zeroes v sound (handle_at v 0 a) (number 1 a))
      and (λ a s. stream.write-zeroes v sound (handle_at v 0 a) (number 1 a))
      and (λ a s. closed_has (Some u64))
      and (λ a s. closed_has (Some u64))
      and none

  environment : Pairs Returns environment_rows environment_types
  unfolding RowHas
  environment = (λ a s. stream.get-environment v sound) and (λ a s. stream.get-arguments v sound) and (λ a s. stream.initial-cwd v sound) and none

  wall : Pairs Returns wall_rows wall_types
  unfolding RowHas
  wall = (λ a s. stream.wall_now v sound) and (λ a s. refl) and none

  monotonic : Pairs Returns monotonic_rows monotonic_types
  unfolding RowHas
  monotonic = (λ a s. stream.monotonic_now v sound) and (λ a s. refl) and (λ a s. refl) and (λ a s. refl) and none

  few_bytes : (args : PlainValues) → AreShort args → length (bytes 1 args) < 2 ^ 64
  few_bytes args short = omega (arith, short.second, count_numbers (list_in (nth 1 args)))

  files : Pairs Returns filesystem_rows filesystem_types
  unfolding RowHas
  files =
      (λ a s. node.read-via-stream v sound (handle_at v 0 a) (number 1 a))
      and (λ a s. scratch.write-via-stream v (handle_at v 0 a) (number 1 a))
      and (λ a s. scratch.append-via-stream v (handle_at v 0 a))
      and (λ a s. refl)
      and (λ a s. refl)
      and (λ a s. refl)
      and (λ a s. scratch.set-size v (handle_at v 0 a) (number 1 a))
      and (λ a s. scratch.set-times (handle_at v 0 a))
      and (λ a s. node.get-flags (handle_at v 0 a))
      and (λ a s. node.get-type v sound (handle_at v 0 a))
      and (λ a s. node.read v sound (handle_at v 0 a) (number 1 a) (number 2 a))
      and (λ a s. scratch.write v (handle_at v 0 a) (bytes 1 a) (number 2 a) (few_bytes a s))
      and (λ a s. node.read-directory v sound (handle_at v 0 a))
      and (λ a s. scratch.create-directory-at (handle_at v 0 a))
      and (λ a s. scratch.remove-directory-at v (handle_at v 0 a) (text 1 a))
      and (λ a s. scratch.unlink-file-at v (handle_at v 0 a) (text 1 a))
      and (λ a s. scratch.create-directory-at (handle_at v 0 a))
      and (λ a s. node.stat v sound (handle_at v 0 a))
      and (λ a s. node.stat-at v sound (handle_at v 0 a) (flags 1 a) (text 2 a))
      and (λ a s. scratch.set-times-at v (handle_at v 0 a) (text 2 a))
      and (λ a s. scratch.link-at (handle_at v 0 a) (handle_at v 3 a))
      and (λ a s. scratch.rename-at v (handle_at v 0 a) (handle_at v 2 a) (text 1 a) (text 3 a))
      and (λ a s. scratch.open-at v (handle_at v 0 a) (flags 1 a) (text 2 a) (flags 3 a) (flags 4 a))
      and (λ a s. node.readlink-at v sound (handle_at v 0 a) (text 1 a))
      and (λ a s. refl)
      and (λ a s. node.metadata-hash v sound (handle_at v 0 a) (stands 0 a))
      and (λ a s. node.metadata-hash-at v sound (handle_at v 0 a) (flags 1 a) (text 2 a) (stands 0 a))
      and (λ a s. node.read-directory-entry v sound (handle_at v 0 a) (stands 0 a))
      and none

  tables : Pairs (Pairs Returns) all_rows all_types
  unfolding RowHas
  tables =
      none
      and polls
      and streams
      and environment
      and none
      and (one (λ a s. refl))
      and (one (λ a s. refl))
      and (one (λ a s. refl))
      and none
      and none
      and (one (λ a s. refl))
      and (one (λ a s. refl))
      and (one (λ a s. refl))
      and wall
      and monotonic
      and none
      and none
      and none
      and files
      and none

  found : (p : Named → Bool) {rows : List Named} {types : List (Option Plain)} → Pairs Returns rows types → (args : PlainValues) → AreShort args → Fits (type_at p rows types) (by_row (find p rows) v args)
  unfolding RowHas
  found p none args short = λ ty. tt
  found p {rows = row ∷ rows} {types = ty ∷ types} (this and later) args short = by (p row) (this args short) (found p later args short)
    where
      by : (b : Bool) → RowHas ty (row.1 v args) → Fits (type_at p rows types) (by_row (find p rows) v args) → Fits (cond b (Some ty) (type_at p rows types)) (by_row (cond b (Some row) (find p rows)) v args)
      by true this later = this
      by false this later = later

  pub row_has : (interface : ℕ) (name : Name) (answer : Option Plain) (args : PlainValues) → is_type_of answer (row_type interface name) ≡ true → AreShort args → RowHas answer (row_of interface name v args)
  row_has interface name answer args is short =
      of_type answer (row_type interface name) (row_of interface name v args) is (found (λ row. bytes_eq row.0 name) (pairs_at (Pairs Returns) none interface tables) args short)
