-- Each row keeps the files that are held.
use Rattle.std.proofs.Common.{ℕ, zero, suc, Bool, true, false, List, [], ◌∷◌, get_or, cond, Some}
use Rattle.std.specs.Prelude.{find}
use Rattle.std.specs.Str.{bytes_eq}
use Rattle.wit_types.specs.PlainValue.{PlainValues}
use Rattle.reference_step.specs.Handles.{Always, EmptyIn, Discard}
use Rattle.reference_step.specs.Values.{nth, list_in, id_in}
use Rattle.reference_step.specs.State.{View}
use Rattle.reference_step.specs.Rows.{Named, by_row, all_rows, poll_rows, stream_rows, environment_rows, monotonic_rows, filesystem_rows, handle, number, text, flags, bytes}
use Rattle.reference_host.specs.Keeping.{IsThere, Keeps, RowsKeep}
use Rattle.reference_host.proofs.MethodLaws as law

-- what holds of each of a list
data Each {A : Type 0} (P : A → Type 0) : List A → Type 0 where
  none : Each P []
  ◌and◌ : {x : A} {xs : List A} → P x → Each P xs → Each P (x ∷ xs)

infixr 5 ◌and◌
one : {A : Type 0} {P : A → Type 0} {x : A} → P x → Each P (x ∷ [])
one this = this and none

-- where the list ends, it holds of one more
each_at : {A : Type 0} (P : List A → Type 0) → P [] → {tables : List (List A)} (n : ℕ) → Each P tables → P (get_or tables n [])
each_at P ends n none = ends
each_at P ends zero (this and later) = this
each_at P ends (suc n) (this and later) = each_at P ends n later

module _ (v : View) (there : (id : ℕ) → IsThere v.scratch (v.content id)) where
  abbrev KeepsAll : Named → Type 0
  KeepsAll row = (args : PlainValues) → Keeps v.held v.scratch (row.1 v args)

  polls : Each KeepsAll poll_rows
  polls =
      (λ a. law.of_value v _)
      and (λ a. law.nothing v)
      and (λ a. law.poll v (list_in (nth 0 a)))
      and none

  streams : Each KeepsAll stream_rows
  streams =
      (λ a. law.read_input v (handle v 0 a) (number 1 a) (there (id_in (nth 0 a))))
      and (λ a. law.read_input v (handle v 0 a) (number 1 a) (there (id_in (nth 0 a))))
      and (λ a. law.skip_input v (handle v 0 a) (number 1 a) (there (id_in (nth 0 a))))
      and (λ a. law.skip_input v (handle v 0 a) (number 1 a) (there (id_in (nth 0 a))))
      and (λ a. law.of_new v Always tt)
      and (λ a. law.of_value v _)
      and (λ a. law.write_output v (handle v 0 a) (bytes 1 a) (there (id_in (nth 0 a))))
      and (λ a. law.write_output v (handle v 0 a) (bytes 1 a) (there (id_in (nth 0 a))))
      and (λ a. law.of_value v _)
      and (λ a. law.of_value v _)
      and (λ a. law.of_new v Always tt)
      and (λ a. law.write_zeroes v (handle v 0 a) (number 1 a) (there (id_in (nth 0 a))))
      and (λ a. law.write_zeroes v (handle v 0 a) (number 1 a) (there (id_in (nth 0 a))))
      and (λ a. law.of_value v _)
      and (λ a. law.of_value v _)
      and none

  environment : Each KeepsAll environment_rows
  environment = (λ a. law.of_value v _) and (λ a. law.of_value v _) and (λ a. law.of_value v _) and none

  clocks : Each KeepsAll monotonic_rows
  clocks = (λ a. law.of_value v _) and (λ a. law.of_value v _) and (λ a. law.of_new v Always tt) and (λ a. law.of_new v Always tt) and none

  files : Each KeepsAll filesystem_rows
  files =
      (λ a. law.read-via-stream v (handle v 0 a) (number 1 a) (there (id_in (nth 0 a))))
      and (λ a. law.write-via-stream v (handle v 0 a) (number 1 a) (there (id_in (nth 0 a))))
      and (λ a. law.append-via-stream v (handle v 0 a) (there (id_in (nth 0 a))))
      and (λ a. law.of_value v _)
      and (λ a. law.of_value v _)
      and (λ a. law.of_value v _)
      and (λ a. law.set-size v (handle v 0 a) (number 1 a))
      and (λ a. law.set-times v (handle v 0 a))
      and (λ a. law.get-flags v (handle v 0 a))
      and (λ a. law.get-type v (handle v 0 a))
      and (λ a. law.read v (handle v 0 a) (number 1 a) (number 2 a))
      and (λ a. law.write v (handle v 0 a) (bytes 1 a) (number 2 a))
      and (λ a. law.read-directory v (handle v 0 a))
      and (λ a. law.create-directory-at v (handle v 0 a))
      and (λ a. law.remove-directory-at v (handle v 0 a) (text 1 a))
      and (λ a. law.unlink-file-at v (handle v 0 a) (text 1 a))
      and (λ a. law.create-directory-at v (handle v 0 a))
      and (λ a. law.stat v (handle v 0 a))
      and (λ a. law.stat-at v (handle v 0 a) (flags 1 a) (text 2 a))
      and (λ a. law.set-times-at v (handle v 0 a) (text 2 a))
      and (λ a. law.link-at v (handle v 0 a) (handle v 3 a))
      and (λ a. law.rename-at v (handle v 0 a) (handle v 2 a) (text 1 a) (text 3 a))
      and (λ a. law.open-at v (handle v 0 a) (flags 1 a) (text 2 a) (flags 3 a) (flags 4 a))
      and (λ a. law.readlink-at v (handle v 0 a) (text 1 a))
      and (λ a. law.of_value v _)
      and (λ a. law.metadata-hash v (handle v 0 a))
      and (λ a. law.metadata-hash-at v (handle v 0 a) (flags 1 a) (text 2 a))
      and (λ a. law.read-directory-entry v (handle v 0 a))
      and none

  tables : Each (Each KeepsAll) all_rows
  tables =
      none
      and polls
      and streams
      and environment
      and none
      and (one (λ a. law.of_new v EmptyIn tt))
      and (one (λ a. law.of_new v Discard tt))
      and (one (λ a. law.of_new v Discard tt))
      and none
      and none
      and (one (λ a. law.of_value v _))
      and (one (λ a. law.of_value v _))
      and (one (λ a. law.of_value v _))
      and ((λ a. law.of_value v _) and (λ a. law.of_value v _) and none)
      and clocks
      and none
      and none
      and none
      and files
      and none

  found : (p : Named → Bool) {rows : List Named} → Each KeepsAll rows → (args : PlainValues) → Keeps v.held v.scratch (by_row (find p rows) v args)
  found p none args = tt
  found p {rows = row ∷ rows} (this and later) args = by (p row) (this args) (found p later args)
    where
      by : (b : Bool) → Keeps v.held v.scratch (row.1 v args) → Keeps v.held v.scratch (by_row (find p rows) v args) → Keeps v.held v.scratch (by_row (cond b (Some row) (find p rows)) v args)
      by true this later = this
      by false this later = later

pub rows_keep : RowsKeep
rows_keep v there interface function args = found v there (λ row. bytes_eq row.0 function) (each_at (Each (KeepsAll v there)) none interface (tables v there)) args
