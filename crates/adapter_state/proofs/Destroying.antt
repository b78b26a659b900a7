-- The run of a destructor.
use Rattle.std.proofs.Common.{◌≡◌, ◌≢◌, ℕ, zero, suc, ◌+◌, ◌-◌, ◌*◌, ◌<◌, ◌≤◌, ◌^◌, ◌==◌, List, [], ◌∷◌, ◌++◌, Bool, true, false, Option, Some, None, IsSome, All, map, length, refl, sym, ap, ◌∙◌, subst, arith, inl, inr, lit<, lit≤, append-nil}
use Rattle.std.specs.Prelude.{slice_get, if◌then◌else◌, IfSome}
use Rattle.std.specs.Int.{from_bool}
use Rattle.std.proofs.lemmas.Bool.{lt-ltb}
use Rattle.wasm_ast.specs.declared.module.Body.{Body}
use Rattle.slot_tables.specs.Places.{entry_of as entry_in}
use Rattle.handle_space.specs.HandleMap.{HandleMap, Answered, take_own}
use Rattle.adapter_code.specs.declared.state.Local.{Local}
use Rattle.adapter_code.specs.declared.state.Local.TheVariants.{Small, Wide}
use Rattle.adapter_code.specs.declared.state.Effect.{Effect}
use Rattle.adapter_code.specs.declared.state.Effect.TheVariants.{Dropped}
use Rattle.adapter_code.specs.declared.state.CodeEnd.TheVariants.{Trap}
use Rattle.adapter_code.specs.declared.statement.Width.TheVariants.{Narrow, Broad}
use Rattle.adapter_code.specs.Number.{word}
use Rattle.adapter_code.specs.Code.{Code, Stop}
use Rattle.adapter_code.specs.Run.{State, Run, Next, Left, Over, RoutineRun, local_at, after_drop, ended, runs, routine_run}
use Rattle.adapter_code.specs.Placed.{placed, inside, run_inside, within, are_places}
use Rattle.adapter_code.specs.WellFormed.{IsWellFormed}
use Rattle.adapter_code.proofs.Enough.{enough_runs}
use Rattle.adapter_code.proofs.InOrder.{in_order, at_home}
use Rattle.adapter_code.specs.Enough.{Behind, Enough}
use Rattle.table_bytes.specs.declared.entry.Entry.{Entry}
use Rattle.table_bytes.specs.declared.entry.Entry.TheVariants.{Host, Node, FileAt, EmptyIn, Discard, Always, Entries, ScratchRoot, ScratchEntries, ScratchFile, ScratchIn, ScratchOut}
use Rattle.table_bytes.specs.Entries.{entry_of}
use Rattle.table_bytes.specs.Table.{spot, place_of, place_at, first_of, places_of, IsTable, Changed}
use Rattle.table_bytes.specs.Routines.{free_code, locals_of, state_of, FreeEnds}
use Rattle.table_bytes.proofs.PlaceLaws.{place_words, used_place}
use Rattle.table_bytes.proofs.Frees.{free-run}
use Rattle.slot_tables.specs.declared.cells.Place.{Place}
use Rattle.slot_tables.specs.declared.cells.Place.TheVariants.{Free, Used}
use Rattle.table_bytes.proofs.Fine.{well_formed_is}
use Rattle.table_bytes.proofs.Own.{alike_inside}
use Rattle.adapter_compile.specs.declared.calls.HandleCalls.{HandleCalls}
use Rattle.adapter_compile.specs.Bounds.{brackets}
use Rattle.adapter_compile.specs.Handles.{HasCalls}
use Rattle.adapter_compile.specs.Does.{Fits, IsInRange, Compiles}
use Rattle.adapter_state.specs.Destructor.{release_code, destroy_code, destroy_places, destroy_widths, routine_of, host_of, IsFreed, Drops, Releases, Destroys, destructor_state, CanDrop, IsDestructor}

-- by whether the handle map gives the handle up
drop_ends : (P : Run → Type 0) (kind index k : ℕ) (s : State) (o : Option (Answered ℕ ℕ)) → (o ≡ None → P (Over Trap k s)) → ((a : Answered ℕ ℕ) → o ≡ Some a → P (Next k (record s { table = a.map; effects = s.effects ++ Dropped kind a.answer index ∷ [] }))) → P (after_drop kind index k s o)
drop_ends P kind index k s None none some = none refl
drop_ends P kind index k s (Some a) none some = some a refl

-- ---- what a used place holds

not_host : (b : Bool) (x y : Entry) → host_of x ≡ None → host_of y ≡ None → host_of (if b then x else y) ≡ None
not_host true x y p q = p
not_host false x y p q = q

host_first : (b : Bool) (w : ℕ) (y : Entry) → host_of y ≡ None → host_of (if b then Host w else y) ≡ (if b then Some w else None)
host_first true w y p = refl
host_first false w y p = p

host_tag : (tag w long : ℕ) → host_of (entry_of tag w long) ≡ (if tag == 1 then Some w else None)
host_tag tag w long =
    host_first (tag == 1) w _
    (not_host (tag == 2) (Node w) _ refl (not_host (tag == 3) (FileAt w long) _ refl (not_host (tag == 4) EmptyIn _ refl (not_host (tag == 5) Discard _ refl
    (not_host (tag == 6) Always _ refl (not_host (tag == 7) (Entries w long) _ refl (not_host (tag == 8) ScratchRoot _ refl (not_host (tag == 9) (ScratchEntries w) _ refl
    (not_host (tag == 10) (ScratchFile w false) _ refl (not_host (tag == 11) (ScratchFile w true) _ refl (not_host (tag == 12) (ScratchIn w long) _ refl
    (not_host (tag == 13) (ScratchOut w (Some long)) (ScratchOut w None) refl refl))))))))))))

used_is : (b : Bool) (p : Option ℕ) (x e : Entry) → (if b then Free p else Used x) ≡ Used e → x ≡ e
used_is true p x e h = absurd (cc)
used_is false p x e h = cc

module _ (base capacity free at : ℕ) (e : Entry) (m : List ℕ) (h : HandleMap ℕ) (es : List Effect) (table : IsTable m base capacity free) (used : slice_get (map entry_in (places_of m base capacity)) at ≡ Some (Some e)) where
  abbrev tag : ℕ
  tag = word m (spot base at + 8) 1

  abbrev held : ℕ
  held = word m (spot base at + 12) 4

  abbrev start : State
  start = destructor_state at m h es

  host_is : host_of e ≡ (if tag == 1 then Some held else None)
  host_is =
      let long = word m (spot base at + 16) 8 in
      let there = used_place m base capacity at e used in
      let same = used_is (tag == 0) _ (entry_of tag held long) e (sym (place_words m base capacity at tag held long refl refl refl) ∙ there.1) in
      ap host_of (sym same) ∙ host_tag tag held long

  -- ---- where freeing ends
  ends_freed : (k : ℕ) (ls : List Local) (h' : HandleMap ℕ) (es' extra : List Effect) (r : Run) → es' ≡ es ++ extra → k ≤ 11 → FreeEnds base capacity free at k (state_of ls m h' es') r → ((ended r).count ≤ 24) × IsFreed base capacity free at start h' extra (ended r)
  ends_freed k ls h' es' extra (Next after new) same few p =
      (omega (arith, few, p.0.count), record { end = refl; changed = p.1; table = p.0.table; effects = p.0.effects ∙ same })
  ends_freed k ls h' es' extra (Left name after new) same few p = absurd p
  ends_freed k ls h' es' extra (Over end after new) same few p = absurd p

  frees : (k a b c d t w long : ℕ) (h' : HandleMap ℕ) (es' extra : List Effect) → es' ≡ es ++ extra → k ≤ 11 → ((ended (runs (free_code base) k (state_of (locals_of a at b c d t w long) m h' es'))).count ≤ 24) × IsFreed base capacity free at start h' extra (ended (runs (free_code base) k (state_of (locals_of a at b c d t w long) m h' es')))
  frees k a b c d t w long h' es' extra same few =
      ends_freed k (locals_of a at b c d t w long) h' es' extra _ same few (free-run base capacity free k at a b c d t w long e m h' es' table used)

  module _ (kind : ℕ) where
    abbrev Wanted : Run → Type 0
    Wanted r = Destroys (Some kind) base capacity free at e start (ended r)

    -- no handle of the host is held
    none_held : (r : Run) → (tag == 1) ≡ false → ((ended r).count ≤ 24) × IsFreed base capacity free at start h [] (ended r) → Wanted r
    none_held r no' p =
        (p.0, subst (λ (o : Option ℕ). Releases kind o base capacity free at start (ended r)) (sym (host_is ∙ ap (λ b. if b then Some held else None) no')) p.1)

    one_held : (r : Run) (o : Option (Answered ℕ ℕ)) → (tag == 1) ≡ true → take_own h held kind ≡ o → ((ended r).count ≤ 24) → Drops kind held base capacity free at start o (ended r) → Wanted r
    one_held r o yes' e few p =
        (few, subst (λ (i : Option ℕ). Releases kind i base capacity free at start (ended r)) (sym (host_is ∙ ap (λ b. if b then Some held else None) yes')) (subst (λ (x : Option (Answered ℕ ℕ)). Drops kind held base capacity free at start x (ended r)) (sym e) p))

    tag_yes : (b : Bool) → from_bool b ≢ 0 → b ≡ true
    tag_yes true p = refl
    tag_yes false p = absurd (p refl)

    tag_no : (b : Bool) → from_bool b ≡ 0 → b ≡ false
    tag_no true p = absurd (omega (arith, p))
    tag_no false p = refl

    releases : Wanted (runs (destroy_code (Some kind) base) 0 (state_of (locals_of 0 at 0 0 0 0 0 0) m h es))
    releases =
        let room = table.within in
        let small = table.small in
        let inside' = (used_place m base capacity at e used).0 in
        in_order (release_code kind base) (free_code base) Wanted 0 (state_of (locals_of 0 at 0 0 0 0 0 0) m h es)
        (enough_runs (release_code kind base) (λ r. Behind (λ i t. Wanted (runs (free_code base) i t)) Wanted r) 0 (state_of (locals_of 0 at 0 0 0 0 0 0) m h es) (
          omega arith,
          (
            omega arith,
            (
              omega arith,
              (
                omega arith,
                (
                  omega arith,
                  (
                    omega arith,
                    (
                      tt,
                      (
                        λ some. (
                          omega arith,
                          λ o taken. drop_ends (λ r. Behind (λ i t. Enough Stop (λ r. Behind (λ i t. Enough Stop (λ r. Behind (λ i t. Wanted (runs (free_code base) i t)) Wanted r) i t) (λ r. Behind (λ i t. Wanted (runs (free_code base) i t)) Wanted r) r) i t) (λ r. Behind (λ i t. Enough Stop (λ r. Behind (λ i t. Wanted (runs (free_code base) i t)) Wanted r) i t) (λ r. Behind (λ i t. Wanted (runs (free_code base) i t)) Wanted r) r) r) kind held 10 (state_of (locals_of base at 16 (spot base at) (from_bool (tag == 1)) tag held 0) m h es) o
                              (λ n. one_held (Over Trap 10 (state_of (locals_of base at 16 (spot base at) (from_bool (tag == 1)) tag held 0) m h es)) None (tag_yes (tag == 1) some) (taken ∙ n) (omega arith) refl)
                              (λ a n. let f = frees 10 base 16 (spot base at) (from_bool (tag == 1)) tag held 0 a.map (es ++ Dropped kind a.answer held ∷ []) (Dropped kind a.answer held ∷ []) refl (omega arith) in one_held (runs (free_code base) 10 (state_of (locals_of base at 16 (spot base at) (from_bool (tag == 1)) tag held 0) m a.map (es ++ Dropped kind a.answer held ∷ []))) (Some a) (tag_yes (tag == 1) some) (taken ∙ n) f.0 f.1),
                        ),
                        λ none. none_held (runs (free_code base) 8 (state_of (locals_of base at 16 (spot base at) (from_bool (tag == 1)) tag 0 0) m h es)) (tag_no (tag == 1) none) (frees 8 base 16 (spot base at) (from_bool (tag == 1)) tag 0 0 h es [] (sym (append-nil es)) (omega arith)),
                      ),
                    ),
                  ),
                ),
              ),
            ),
          ),
        ))

  destroyed : (host : Option ℕ) → Destroys host base capacity free at e start (ended (runs (destroy_code host base) 0 (state_of (locals_of 0 at 0 0 0 0 0 0) m h es)))
  destroyed None = frees 0 0 0 0 0 0 0 0 h es [] (sym (append-nil es)) (omega arith)
  destroyed (Some kind) = releases kind

  -- ---- the same at home in the destructor's locals
  freed_inside : (places : List ℕ) (outer : List Local) (h' : HandleMap ℕ) (extra : List Effect) (r : Run) → IsFreed base capacity free at start h' extra (ended r) → IsFreed base capacity free at start h' extra (ended (run_inside places outer r))
  freed_inside places outer h' extra r p =
      let a = alike_inside places outer r in
      record {
        end = a.end ∙ p.end;
        changed = subst (λ n. Changed m n base capacity (free + 1) at (Free (first_of m base capacity))) (sym a.memory) p.changed;
        table = a.table ∙ p.table;
        effects = a.effects ∙ p.effects;
      }

  drops_inside : (places : List ℕ) (outer : List Local) (kind index : ℕ) (o : Option (Answered ℕ ℕ)) (r : Run) → Drops kind index base capacity free at start o (ended r) → Drops kind index base capacity free at start o (ended (run_inside places outer r))
  drops_inside places outer kind index None r p = (alike_inside places outer r).end ∙ p
  drops_inside places outer kind index (Some a) r p = freed_inside places outer a.map (Dropped kind a.answer index ∷ []) r p

  releases_inside : (places : List ℕ) (outer : List Local) (kind : ℕ) (o : Option ℕ) (r : Run) → Releases kind o base capacity free at start (ended r) → Releases kind o base capacity free at start (ended (run_inside places outer r))
  releases_inside places outer kind None r p = freed_inside places outer h [] r p
  releases_inside places outer kind (Some index) r p = drops_inside places outer kind index (take_own h index kind) r p

  destroys_inside : (places : List ℕ) (outer : List Local) (host : Option ℕ) (r : Run) → Destroys host base capacity free at e start (ended r) → Destroys host base capacity free at e start (ended (run_inside places outer r))
  destroys_inside places outer None r p = (omega (arith, p.0, (alike_inside places outer r).count), freed_inside places outer h [] r p.1)
  destroys_inside places outer (Some kind) r p = (omega (arith, p.0, (alike_inside places outer r).count), releases_inside places outer kind (host_of e) r p.1)

  pub destroyed_home : (host : Option ℕ) → Destroys host base capacity free at e start (routine_run (routine_of host base) start)
  destroyed_home host =
      at_home destroy_places start.locals (destroy_code host base) (λ r. Destroys host base capacity free at e start (ended r)) 0 (state_of (locals_of 0 at 0 0 0 0 0 0) m h es) refl refl (within_eight host)
      (destroys_inside destroy_places start.locals host (runs (destroy_code host base) 0 (state_of (locals_of 0 at 0 0 0 0 0 0) m h es)) (destroyed host))
    where
      within_eight : (host : Option ℕ) → within (length destroy_places) (destroy_code host base) ≡ true
      within_eight None = refl
      within_eight (Some kind) = refl

-- ---- the function

zeros_fit : (i : ℕ) → Fits (local_at (Small 0 ∷ Small 0 ∷ Small 0 ∷ Small 0 ∷ Small 0 ∷ Small 0 ∷ Wide 0 ∷ []) i)
zeros_fit zero = lit< tt
zeros_fit (suc zero) = lit< tt
zeros_fit (suc (suc zero)) = lit< tt
zeros_fit (suc (suc (suc zero))) = lit< tt
zeros_fit (suc (suc (suc (suc zero)))) = lit< tt
zeros_fit (suc (suc (suc (suc (suc zero))))) = lit< tt
zeros_fit (suc (suc (suc (suc (suc (suc zero)))))) = tt
zeros_fit (suc (suc (suc (suc (suc (suc (suc i))))))) = lit< tt

start_fits : (at i : ℕ) (m : List ℕ) (h : HandleMap ℕ) (es : List Effect) → at < 2 ^ 32 → Fits (local_at (destructor_state at m h es).locals i)
start_fits at zero m h es lt = lt
start_fits at (suc i) m h es lt = zeros_fit i

has_calls : (calls : HandleCalls) (host : Option ℕ) (base : ℕ) → CanDrop calls host → HasCalls calls (routine_of host base)
has_calls calls None base can = (tt, (tt, (tt, (tt, (tt, (tt, (tt, tt), (tt, (tt, (tt, (tt, (tt, (tt, tt))))))))))))
has_calls calls (Some kind) base can = (tt, (tt, (tt, (tt, (tt, (tt, (tt, ((tt, (can, tt)), tt, (tt, (tt, (tt, (tt, (tt, (tt, (tt, tt), (tt, (tt, (tt, (tt, (tt, (tt, tt))))))))))))))))))))

pub fine_destructor : (host : Option ℕ) (base : ℕ) → IfSome host (λ kind. kind < 14) → IsWellFormed destroy_widths [] (routine_of host base)
fine_destructor None base lt = well_formed_is destroy_widths [] (routine_of None base) refl
fine_destructor (Some kind) base lt = well_formed_is destroy_widths [] (routine_of (Some kind) base) (rw (lt-ltb kind 14 lt) refl)

pub shallow_destructor : (host : Option ℕ) (base : ℕ) → brackets (routine_of host base) ≤ 1
shallow_destructor None base = lit≤ tt
shallow_destructor (Some kind) base = lit≤ tt

pub destructs : (host : Option ℕ) (base : ℕ) (calls : HandleCalls) (body : Body) → Compiles 1 destroy_widths calls (routine_of host base) body → IsDestructor host base calls body
destructs host base calls body compiled numbers home f capacity free at e m h es made can good placed' lt bytes handles table used = (
  routine_run (routine_of host base) (destructor_state at m h es),
  destroyed_home base capacity free at e m h es table used host,
  compiled numbers home f (destructor_state at m h es) made (has_calls calls host base can) good placed' refl refl (record { locals = λ i. start_fits at i m h es lt; memory = bytes; table = handles }),
)
