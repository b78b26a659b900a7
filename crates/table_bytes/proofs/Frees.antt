-- What a run of `free_code` does.
use Rattle.std.proofs.Common.{◌≡◌, ℕ, ◌+◌, ◌≤◌, List, map, Some, slice_get, refl, arith}
use Rattle.slot_tables.specs.Places.{entry_of as entry_in}
use Rattle.handle_space.specs.HandleMap.{HandleMap}
use Rattle.adapter_code.specs.declared.state.Effect.{Effect}
use Rattle.adapter_code.specs.declared.statement.IntOp.TheVariants.{Add}
use Rattle.adapter_code.specs.declared.statement.Statement.{Const, Int, Store}
use Rattle.adapter_code.specs.Number.{word, put}
use Rattle.adapter_code.specs.Code.{Stop, Then}
use Rattle.adapter_code.specs.Run.{runs}
use Rattle.adapter_code.specs.Enough.{Enough}
use Rattle.adapter_code.proofs.Words.{length-put}
use Rattle.adapter_code.proofs.Enough.{enough_runs}
use Rattle.table_bytes.specs.declared.entry.Entry.{Entry}
use Rattle.table_bytes.specs.Table.{spot, places_of, IsTable}
use Rattle.table_bytes.specs.Routines.{free_code, locals_of, state_of, FreeEnds}
use Rattle.table_bytes.proofs.PlaceLaws.{used_place}
use Rattle.table_bytes.proofs.Bytes.{IsOldHead, free-bytes}

-- the three stores
stores : (base capacity free k k' at link a b c d tag w long f : ℕ) (e : Entry) (m : List ℕ) (h : HandleMap ℕ) (es : List Effect) → IsTable m base capacity free → slice_get (map entry_in (places_of m base capacity)) at ≡ Some (Some e) → IsOldHead m base link → k' ≤ k + 7
    → Enough (Then (Store 2 3 12 4) (Then (Const 2 0) (Then (Store 2 3 8 1) (Then (Const 2 1) (Then (Int Add 2 1 2) (Then (Store 2 0 0 4) Stop))))))
    (FreeEnds base capacity free at k (state_of (locals_of a at b c d tag w long) m h es))
    k' (state_of (locals_of base at link (spot base at) f tag w long) m h es)
stores base capacity free k k' at link a b c d tag w long f e m h es table used n few =
    let room = table.within in
    let small = table.small in
    let inside = (used_place m base capacity at e used).0 in
    let m1 = put m (spot base at + 12) 4 link in
    let size1 = length-put 4 m (spot base at + 12) link (omega arith) in
    let size2 = length-put 1 m1 (spot base at + 8) 0 (omega arith) in
    (omega arith, (omega arith, (omega arith, (omega arith, (omega arith, (omega arith, (record { table = refl; effects = refl; count = omega arith }, free-bytes m base capacity free at link e table used n)))))))

pub free-run : (base capacity free k at a b c d tag w long : ℕ) (e : Entry) (m : List ℕ) (h : HandleMap ℕ) (es : List Effect) → IsTable m base capacity free → slice_get (map entry_in (places_of m base capacity)) at ≡ Some (Some e)
    → FreeEnds base capacity free at k (state_of (locals_of a at b c d tag w long) m h es) (runs (free_code base) k (state_of (locals_of a at b c d tag w long) m h es))
free-run base capacity free k at a b c d tag w long e m h es table used =
    let room = table.within in
    let small = table.small in
    let inside = (used_place m base capacity at e used).0 in
    let head = word m (base + 0) 4 in
    enough_runs (free_code base) (FreeEnds base capacity free at k (state_of (locals_of a at b c d tag w long) m h es)) k (state_of (locals_of a at b c d tag w long) m h es) (
      omega arith,
      (
        omega arith,
        (
          omega arith,
          (
            omega arith,
            (
              omega arith,
              (
                λ some. stores base capacity free k _ at head a b c d tag w long d e m h es table used (record { unused = λ z. absurd (some z); linked = λ z. refl }) (omega arith),
                λ none. (omega arith, stores base capacity free k _ at 1 a b c d tag w long d e m h es table used (record { unused = λ z. refl; linked = λ z. absurd (z none) }) (omega arith)),
              ),
            ),
          ),
        ),
      ),
    )
