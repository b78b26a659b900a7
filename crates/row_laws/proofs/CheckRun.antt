-- The run of `check_before`.
use Rattle.std.proofs.Common.{◌≡◌, ℕ, ◌+◌, ◌<◌, ◌≤◌, List, map, length, Some, refl, arith, inl, inr, lit<}
use Rattle.std.specs.Prelude.{slice_get}
use Rattle.slot_tables.specs.Places.{entry_of as entry_in}
use Rattle.handle_space.specs.HandleMap.{HandleMap}
use Rattle.adapter_code.specs.declared.layout.Layout.{Layout}
use Rattle.adapter_code.specs.declared.state.Effect.{Effect}
use Rattle.adapter_code.specs.Layout.{table_at}
use Rattle.adapter_code.specs.Number.{word}
use Rattle.adapter_code.specs.Run.{runs}
use Rattle.adapter_code.proofs.Words.{length-put}
use Rattle.adapter_code.proofs.Enough.{enough_runs}
use Rattle.table_bytes.specs.declared.entry.Entry.{Entry}
use Rattle.table_bytes.specs.Table.{spot, places_of, IsTable}
use Rattle.table_bytes.specs.Routines.{state_of}
use Rattle.table_bytes.proofs.PlaceLaws.{used_place}
use Rattle.row_runs.proofs.Reading.{flag_yes, flag_no, host_yes, host_no, head_full, head_room}
use Rattle.row_laws.specs.Check.{check_before, check_locals, CheckEnds}

pub check-run : (l : Layout) (free0 free3 self : ℕ) (e : Entry) (m : List ℕ) (h : HandleMap ℕ) (es : List Effect) → 0 < l.slots → 16 ≤ length m
    → IsTable m (table_at l 0) l.slots free0 → IsTable m (table_at l 3) l.slots free3 → slice_get (map entry_in (places_of m (table_at l 3) l.slots)) self ≡ Some (Some e)
    → CheckEnds free0 e m h es (runs (check_before l) 0 (state_of (check_locals self 0 0 0 0 0 0 0 0 0 0 0 0 0) m h es))
check-run l free0 free3 self e m h es some long errors table used =
    let base = table_at l 0 in
    let base3 = table_at l 3 in
    let inside = (used_place m base3 l.slots self e used).0 in
    let near = errors.within in
    let small = errors.small in
    let near3 = table.within in
    let small3 = table.small in
    let head = word m (base + 0) 4 in
    let tag = word m (spot base3 self + 8) 1 in
    let size = length-put 1 m 0 0 (omega arith) in
    enough_runs (check_before l) (CheckEnds free0 e m h es) 0 (state_of (check_locals self 0 0 0 0 0 0 0 0 0 0 0 0 0) m h es) (
      omega arith,
      (
        omega arith,
        (
          omega arith,
          (
            tt,
            (
              λ full. head_full base l.slots free0 m errors (flag_yes head (l.slots + 1) full),
              λ room.
                  let free = head_room base l.slots free0 m errors some (flag_no head (l.slots + 1) room) in (
                    omega arith,
                    (
                      lit< tt,
                      (
                        omega arith,
                        (
                          omega arith,
                          (
                            omega arith,
                            (
                              omega arith,
                              (
                                lit< tt,
                                (
                                  tt,
                                  (
                                    λ yes.
                                        let one = flag_yes tag 1 yes in
                                        (tt, (lit< tt, (lit< tt, (free, inl (word m (spot base3 self + 12) 4, host_yes base3 l.slots self e m used one, record { self = _; base = _; scratch = _; spot = _; tag = _; held = _; long = _; test = _; at = _; made = _; is = refl }))))),
                                    λ no'.
                                        let other = flag_no tag 1 no' in
                                        (lit< tt, (lit< tt, (omega arith, (lit< tt, (omega (arith, size), (free, inr (host_no base3 l.slots self e m used other, record { self = _; base = _; scratch = _; spot = _; tag = _; held = _; long = _; test = _; at = _; made = _; is = refl }))))))),
                                  ),
                                ),
                              ),
                            ),
                          ),
                        ),
                      ),
                    ),
                  ),
            ),
          ),
        ),
      ),
    )
