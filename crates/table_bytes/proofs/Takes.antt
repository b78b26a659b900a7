-- What a run of `take_code` does.
use Rattle.std.proofs.Common.{◌≡◌, ◌≢◌, ℕ, ◌+◌, ◌-◌, ◌<◌, ◌≤◌, nat_lt, List, Some, None, refl, sym, ap, subst, ◌∙◌, inl, inr, arith}
use Rattle.std.specs.Int.{from_bool}
use Rattle.std.proofs.lemmas.Bool.{cases_lt, lt-ltb, le-ltb}
use Rattle.slot_tables.specs.Places.{IsSound}
use Rattle.slot_tables.proofs.Chain.{none_is_free}
use Rattle.handle_space.specs.HandleMap.{HandleMap}
use Rattle.adapter_code.specs.declared.state.Effect.{Effect}
use Rattle.adapter_code.specs.declared.statement.Statement.{Store}
use Rattle.adapter_code.specs.Number.{word, put}
use Rattle.adapter_code.specs.Code.{Stop, Then}
use Rattle.adapter_code.specs.Run.{runs}
use Rattle.adapter_code.specs.Enough.{Enough}
use Rattle.adapter_code.proofs.Words.{length-put}
use Rattle.adapter_code.proofs.Enough.{enough_runs}
use Rattle.table_bytes.specs.declared.entry.Entry.{Entry}
use Rattle.table_bytes.specs.Entries.{tag_of, word_of, long_of, IsShort}
use Rattle.table_bytes.specs.Table.{upto, spot, places_of, first_of, IsTable}
use Rattle.table_bytes.specs.Routines.{take_code, found_code, locals_of, state_of, TakeEnds}
use Rattle.table_bytes.proofs.PlaceLaws.{length-places, upto_some, upto_none, link-zero, link-suc, chain_small}
use Rattle.table_bytes.proofs.Bytes.{IsNext, first-place, head_small, take-bytes}

pub lt_flag : (a b : ℕ) → from_bool (nat_lt a b) ≢ 0 → a < b
lt_flag a b h = elim (cases_lt a b) [ inl less ↦ less | inr more ↦ absurd (h (ap from_bool (le-ltb a b more))) ]

pub ge_flag : (a b : ℕ) → from_bool (nat_lt a b) ≡ 0 → b ≤ a
ge_flag a b h = elim (cases_lt a b) [ inl less ↦ absurd (let one : from_bool (nat_lt a b) ≡ 1 = ap from_bool (lt-ltb a b less) in omega (arith, one, h)) | inr more ↦ more ]

-- the four stores
stores : (base capacity free k k' at x next f : ℕ) (e : Entry) (a b c d f' : ℕ) (m : List ℕ) (h : HandleMap ℕ) (es : List Effect) → IsShort e → IsTable m base capacity free → first_of m base capacity ≡ Some at → at < capacity → IsNext m base at next → f ≡ 1 → k' ≤ k + 15
    → Enough (Then (Store 2 0 0 4) (Then (Store 5 3 8 1) (Then (Store 6 3 12 4) (Then (Store 7 3 16 8) Stop))))
    (TakeEnds base capacity free e k (state_of (locals_of a b c d f' (tag_of e) (word_of e) (long_of e)) m h es))
    k' (state_of (locals_of base at next (spot base at) f (tag_of e) (word_of e) (long_of e)) m h es)
stores base capacity free k k' at x next f e a b c d f' m h es short table first inside n flag few =
    let room = table.within in
    let r = first-place m base capacity free at table first in
    let m1 = put m (base + 0) 4 next in
    let m2 = put m1 (spot base at + 8) 1 (tag_of e) in
    let size1 = length-put 4 m (base + 0) next (omega arith) in
    let size2 = length-put 1 m1 (spot base at + 8) (tag_of e) (omega arith) in
    let size3 = length-put 4 m2 (spot base at + 12) (word_of e) (omega arith) in (
      omega arith,
      (
        omega arith,
        (
          omega arith,
          (
            omega arith,
            (
              record { table = refl; effects = refl; count = omega arith },
              inl (at, record { found = flag; place = refl; first = first; was_free = r.isfree; changed = take-bytes m base capacity free at next e short table first n }),
            ),
          ),
        ),
      ),
    )

found : (base capacity free k k' at x y z : ℕ) (e : Entry) (a b c d f : ℕ) (m : List ℕ) (h : HandleMap ℕ) (es : List Effect) → IsShort e → IsTable m base capacity free → first_of m base capacity ≡ upto capacity at → k' ≤ k + 5
    → Enough (found_code base capacity) (TakeEnds base capacity free e k (state_of (locals_of a b c d f (tag_of e) (word_of e) (long_of e)) m h es))
    k' (state_of (locals_of base at x y z (tag_of e) (word_of e) (long_of e)) m h es)
found base capacity free k k' at x y z e a b c d f m h es short table first few =
    let room = table.within in
    let small = table.small in
    let below : at ≤ capacity = chain_small (places_of m base capacity) capacity at free (length-places m base capacity) (subst (λ o. (IsSound (places_of m base capacity) o free)) first table.sound).linked in (
      omega arith,
      (
        tt,
        (
          λ flag.
              let inside : at < capacity = lt_flag at capacity flag in
              let here : first_of m base capacity ≡ Some at = first ∙ upto_some capacity at inside in
              let one : from_bool (nat_lt at capacity) ≡ 1 = ap from_bool (lt-ltb at capacity inside) in (
                omega arith,
                (
                  omega arith,
                  (
                    omega arith,
                    (
                      omega arith,
                      (
                        λ some. stores base capacity free k _ at 0 (word m (spot base at + 12) 4) (from_bool (nat_lt at capacity)) e a b c d f m h es short table here inside (record { unused = λ e. absurd (some e); linked = λ e. refl }) one (omega arith),
                        λ none. (omega arith, (omega arith, stores base capacity free k _ at 0 (at + 2) (from_bool (nat_lt at capacity)) e a b c d f m h es short table here inside (record { unused = λ e. refl; linked = λ e. absurd (e none) }) one (omega arith))),
                      ),
                    ),
                  ),
                ),
              ),
          λ flag.
              let above : capacity ≤ at = ge_flag at capacity flag in
              let none : first_of m base capacity ≡ None = first ∙ upto_none capacity at (omega arith) in (
                record { table = refl; effects = refl; count = omega arith },
                inr (record { found = flag; full = none_is_free (places_of m base capacity) free (subst (λ o. IsSound (places_of m base capacity) o free) none table.sound); kept = refl }),
              ),
        ),
      ),
    )

pub take-run : (base capacity free k a b c d f : ℕ) (e : Entry) (m : List ℕ) (h : HandleMap ℕ) (es : List Effect) → IsShort e → IsTable m base capacity free
    → TakeEnds base capacity free e k (state_of (locals_of a b c d f (tag_of e) (word_of e) (long_of e)) m h es) (runs (take_code base capacity) k (state_of (locals_of a b c d f (tag_of e) (word_of e) (long_of e)) m h es))
take-run base capacity free k a b c d f e m h es short table =
    let room = table.within in
    let small = table.small in
    let head = word m (base + 0) 4 in
    let few = head_small m base capacity free table in
    enough_runs (take_code base capacity) (TakeEnds base capacity free e k (state_of (locals_of a b c d f (tag_of e) (word_of e) (long_of e)) m h es)) k (state_of (locals_of a b c d f (tag_of e) (word_of e) (long_of e)) m h es) (
      omega arith,
      (
        omega arith,
        (
          λ some. (omega arith, ((omega (arith, some), omega arith), found base capacity free k _ (head - 1) 1 d f e a b c d f m h es short table (link-suc capacity 0 head some) (omega arith))),
          λ none. found base capacity free k _ head c d f e a b c d f m h es short table (link-zero capacity 0 head none ∙ ap (upto capacity) (sym none)) (omega arith),
        ),
      ),
    )
