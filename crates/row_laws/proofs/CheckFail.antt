-- The run of `check_after`, after an error of the host.
use Rattle.std.proofs.Common.{◌≡◌, ℕ, ◌+◌, ◌-◌, ◌<◌, ◌≤◌, ◌^◌, List, [], map, length, Some, None, refl, sym, ap, ap₂, subst, ◌∙◌, arith, lit<}
use Rattle.std.specs.Prelude.{slice_get}
use Rattle.slot_tables.specs.declared.cells.Place.TheVariants.{Used}
use Rattle.slot_tables.specs.Places.{entry_of as entry_in}
use Rattle.handle_space.specs.HandleMap.{HandleMap, Answered, own_entry, add}
use Rattle.adapter_code.specs.declared.layout.Layout.{Layout}
use Rattle.adapter_code.specs.declared.statement.Statement.{Load, Const, Store}
use Rattle.adapter_code.specs.declared.state.CodeEnd.TheVariants.{Answer as Answered', Trap as Trapped'}
use Rattle.adapter_code.specs.Layout.{table_at}
use Rattle.adapter_code.specs.Number.{word, put}
use Rattle.adapter_code.specs.Code.{Code, Stop, Then, Choose, followed_by}
use Rattle.adapter_code.specs.Run.{State, Run, Next, Left, Over, value, number_at, own_resource, then_run, runs}
use Rattle.adapter_code.specs.Enough.{Behind}
use Rattle.adapter_code.specs.Placed.{placed, inside, run_inside}
use Rattle.adapter_code.proofs.Enough.{enough_runs}
use Rattle.adapter_code.proofs.Placed.{Keeps, placed_inside, length-with_own, followed_runs}
use Rattle.row_runs.proofs.Reaching.{reach, in_branch}
use Rattle.table_bytes.specs.declared.entry.Entry.TheVariants as entry
use Rattle.table_bytes.specs.Table.{places_of, IsTable, Changed}
use Rattle.table_bytes.specs.Own.{own_of}
use Rattle.table_bytes.specs.Routines.{state_of}
use Rattle.table_bytes.proofs.Own.{routine_called}
use Rattle.row_runs.specs.Parts.{make_code, MadeAt, MakeEnds}
use Rattle.row_runs.proofs.Locals.{own_read, other_read}
use Rattle.row_runs.proofs.Making.{make-run}
use Rattle.row_laws.specs.Check.{check_after, check_locals, make_places}

-- a place was taken for the host's error, and its handle stands in the answer
pub record FailedAs (l : Layout) (free i : ℕ) (m : List ℕ) (h : HandleMap ℕ) (new : State) (at : ℕ) (y : Answered ℕ ℕ) : Type 0 where
  pub middle : List ℕ
  pub made : add h (own_entry (own_resource 0) at) ≡ Some y
  pub table : new.table ≡ y.map
  pub was_free : slice_get (map entry_in (places_of m (table_at l 0) l.slots)) at ≡ Some None
  pub changed : Changed m middle (table_at l 0) l.slots (free - 1) at (Used (entry.Host i))
  pub memory : new.memory ≡ put middle 12 4 y.answer
  pub result : number_at new 4 ≡ 0
  pub locals : length new.locals ≡ 14

abbrev pub FailEnds : Layout → ℕ → ℕ → List ℕ → HandleMap ℕ → Run → Type 0
FailEnds l free i m h (Next k new) = (at : ℕ) × (y : Answered ℕ ℕ) × FailedAs l free i m h new at y
FailEnds l free i m h (Left name k new) = ⊥
FailEnds l free i m h (Over end k new) = ⊥

then_stop : (r : Run) → then_run r (runs Stop) ≡ r
then_stop (Next k s) = refl
then_stop (Left n k s) = refl
then_stop (Over e k s) = refl

-- `check_after` with any part in the place of the one that makes the handle
abbrev with_part : Code → Code
with_part part = Then (Load 8 3 0 1) (Choose 8 (Then (Load 8 3 8 1) (Choose 8 Stop (Then (Load 9 3 12 4) (Then (Const 8 1) (Then (Const 10 0) part))) Stop)) Stop Stop)

-- its run up to the part, whatever is wanted of what follows
module _ (self flag index base scratch spot tag held long test at made i : ℕ) (m : List ℕ) (h : HandleMap ℕ) (far : 16 ≤ length m) (part : Code) (wanted : Run → Type 0) where
  -- after a load into the tag, and in front of the part
  abbrev loaded : ℕ → State
  loaded n = state_of (check_locals self flag index 0 0 base scratch spot n held long test at made) m h []

  abbrev ready : ℕ → State
  ready n = state_of (check_locals self flag index 0 0 base scratch spot 1 n 0 test at made) m h []

  abbrev error : Code
  error = Then (Load 9 3 12 4) (Then (Const 8 1) (Then (Const 10 0) part))

  abbrev failing : Code
  failing = Choose 8 Stop error Stop

  reached : word m 0 1 ≡ 1 → word m 8 1 ≡ 0 → wanted (runs (followed_by part Stop) 7 (ready (word m 12 4))) → wanted (runs (with_part part) 0 (loaded tag))
  reached a b there =
      let third = reach (Then (Load 9 3 12 4) (Then (Const 8 1) (Then (Const 10 0) Stop))) (followed_by part Stop) wanted 4 (loaded (word m 8 1)) (omega (arith, far), (lit< tt, (lit< tt, there))) in
      let second = reach (Then (Load 8 3 8 1) Stop) failing wanted 2 (loaded (word m 0 1)) (omega (arith, far), in_branch 8 Stop error Stop wanted 3 (loaded (word m 8 1)) (λ some. absurd (some b)) (λ none. third)) in
      reach (Then (Load 8 3 0 1) Stop) (Choose 8 (Then (Load 8 3 8 1) failing) Stop Stop) wanted 0 (loaded tag) (omega (arith, far), in_branch 8 (Then (Load 8 3 8 1) failing) Stop Stop wanted 1 (loaded (word m 0 1)) (λ some. second) (λ none. absurd (omega (arith, a, none))))

module _ (l : Layout) (free i self flag index base scratch spot tag held long test at made : ℕ) (m : List ℕ) (h : HandleMap ℕ) (far : 16 ≤ length m) (some : 0 < free) (small : i < 2 ^ 32) (table : IsTable m (table_at l 0) l.slots free) (room : (rep : ℕ) → (x : Answered ℕ ℕ) × (add h (own_entry (own_resource 0) rep) ≡ Some x)) where
  abbrev start : State
  start = state_of (check_locals self flag index 0 0 base scratch spot tag held long test at made) m h []

  -- before the part that makes the handle
  abbrev before : State
  before = state_of (check_locals self flag index 0 0 base scratch spot 1 i 0 test at made) m h []

  abbrev make : Code
  make = make_code (table_at l 0) l.slots 0

  abbrev rest : Code
  rest = Then (Store 13 3 12 4) Stop

  abbrev tail : Code
  tail = followed_by (placed make_places make) rest

  abbrev wanted : Run → Type 0
  wanted x = FailEnds l free i m h x

  abbrev own : State
  own = own_of make_places before

  abbrev holds : Run → Type 0
  holds x = MakeEnds (table_at l 0) l.slots 0 free (entry.Host i) m h x × Keeps 9 x

  stores : (k place : ℕ) (y : Answered ℕ ℕ) (new : State) → MadeAt (table_at l 0) l.slots 0 free (entry.Host i) m h new place y → wanted (runs rest k (inside make_places before.locals new))
  stores k place y new p =
      let t = inside make_places before.locals new in
      let zero_at : number_at t 3 ≡ 0 = ap value (other_read make_places new.locals before.locals 3 refl) in
      let made_is : number_at t 13 ≡ y.answer = ap value (own_read make_places new.locals before.locals 8 refl p.locals (omega arith)) ∙ p.result in
      let size = p.changed.keeps.size in
      enough_runs rest wanted k t (
        omega (arith, zero_at, size, far),
        (
          place,
          y,
          record {
            middle = new.memory;
            made = p.made;
            table = p.table;
            was_free = p.was_free;
            changed = p.changed;
            memory = ap₂ (λ a b. put new.memory (a + 12) 4 b) zero_at made_is;
            result = ap value (other_read make_places new.locals before.locals 4 refl);
            locals = length-with_own make_places new.locals before.locals;
          },
        ),
      )

  next : (x : Run) → holds x → Behind (λ j t. wanted (runs rest j t)) wanted (run_inside make_places before.locals x)
  next (Next k new) ((place, y, p), len) = stores k place y new p
  next (Left name k new) (ends, len) = absurd ends
  next (Over Trapped' k new) (none, len) = absurd (omega (arith, none, some))
  next (Over Answered' k new) (ends, len) = absurd ends

  tail-run : (k : ℕ) → wanted (runs tail k before)
  tail-run k =
      routine_called make_places make rest holds wanted k before refl refl (
        make-run (table_at l 0) l.slots 0 free k base at scratch spot test made (entry.Host i) m h [] (record { word = small; long = lit< tt }) table room,
        (placed_inside make_places before.locals 9 make k own (record { places = refl; count = refl }) refl refl).keeps,
      )
      next

  pub after-failed : word m 0 1 ≡ 1 → word m 8 1 ≡ 0 → word m 12 4 ≡ i → FailEnds l free i m h (runs (check_after l) 0 start)
  after-failed a b d =
      let there = subst wanted (sym (followed_runs tail Stop 7 before ∙ then_stop (runs tail 7 before))) (tail-run 7) in
      reached self flag index base scratch spot tag held long test at made i m h far tail wanted a b (subst (λ n. wanted (runs (followed_by tail Stop) 7 (state_of (check_locals self flag index 0 0 base scratch spot 1 n 0 test at made) m h []))) (sym d) there)
