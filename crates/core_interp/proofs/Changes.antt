-- Changes of memories and tables, as the store tells them.
use Rattle.std.proofs.Common.{◌≡◌, ℕ, ◌<◌, ◌≤◌, List, length-set, refl, ap, sym, ◌∙◌, subst, arith, Bool, true, false, Option, Some, None, Result, Ok, Err, ⊎_elim, inl, inr}
use Rattle.std.specs.Prelude.{nat_lt, nat_le, ◌&&◌, slice_set, if◌then◌else◌, ℤ, pos, negsuc, ◌⊎◌}
use Rattle.std.proofs.lemmas.Grind.{common_steps}
use Rattle.virt_base.specs.declared.fault.Trap.{Trap as TrapType}
use Rattle.core_memory.specs.declared.fault.StoreFault.{StoreFault}
use Rattle.core_memory.specs.declared.fault.StoreFault.TheVariants.{Trap, NoMemory}
use Rattle.core_memory.specs.Linear.{Linear, Writes, Moves, Grows}
use Rattle.core_store.specs.declared.value.CoreRef.{CoreRef}
use Rattle.core_store.specs.Table.{Entries, Sets, Fills, Moves as MovesRefs, Grows as GrowsTable}
use Rattle.core_store.specs.State.{State, memory_at, table_at, InMemory, InTable}
use Rattle.core_store.specs.Effects.{with_memory, with_table, put_bytes, move_bytes, set_ref, fill_refs, move_refs, grow_memory, grow_table}
use Rattle.core_store.specs.Scene.{scene_of}
use Rattle.core_interp.specs.Plains.{Stays, Made, word_of_answer}

pub stays_memory : (s : State) (k : ℕ) (m : Linear) → Stays s (with_memory s k m)
stays_memory s k m = record { scene = ap (λ (n : ℕ). record (scene_of s) { memories = n }) (sym (length-set s.memories k m)); nesting = refl }

pub stays_table : (s : State) (k : ℕ) (t : Entries) → Stays s (with_table s k t)
stays_table s k t = record { scene = ap (λ (n : ℕ). record (scene_of s) { tables = n }) (sym (length-set s.tables k t)); nesting = refl }

pub stays_segments : (s : State) (k : ℕ) (bytes : List ℕ) → Stays s (record s { segments = slice_set s.segments k bytes })
stays_segments s k bytes = record { scene = ap (λ (n : ℕ). record (scene_of s) { segments = n }) (sym (length-set s.segments k bytes)); nesting = refl }

pub stays_elements : (s : State) (k : ℕ) (refs : List CoreRef) → Stays s (record s { elements = slice_set s.elements k refs })
stays_elements s k refs = record { scene = ap (λ (n : ℕ). record (scene_of s) { elements = n }) (sym (length-set s.elements k refs)); nesting = refl }

stays_to : (s t u : State) → t ≡ u → Stays s u → Stays s t
stays_to s t u e h = subst (λ (v : State). Stays s v) (sym e) h

-- a test decides
pub le_true : (a b : ℕ) → a ≤ b → nat_le a b ≡ true
le_true a b h = grind (arith, common_steps)

pub le_false : (a b : ℕ) → b < a → nat_le a b ≡ false
le_false a b h = grind (arith, common_steps)

pub lt_true : (a b : ℕ) → a < b → nat_lt a b ≡ true
lt_true a b h = grind (arith, common_steps)

pub lt_false : (a b : ℕ) → b ≤ a → nat_lt a b ≡ false
lt_false a b h = grind (arith, common_steps)

both_false : (a b : Bool) → (a ≡ false) ⊎ (b ≡ false) → (a && b) ≡ false
both_false true true h = ⊎_elim (λ e. e) (λ e. e) h
both_false true false h = refl
both_false false true h = refl
both_false false false h = refl

pub if_true : {A : Type 0} (b : Bool) (x y : A) → b ≡ true → (if b then x else y) ≡ x
if_true true x y e = refl
if_true false x y e = absurd (cc)

pub if_false : {A : Type 0} (b : Bool) (x y : A) → b ≡ false → (if b then x else y) ≡ y
if_false true x y e = absurd (cc)
if_false false x y e = refl

⊎_map : (A B C D : Type 0) → (A → C) → (B → D) → A ⊎ B → C ⊎ D
⊎_map A B C D f g h = ⊎_elim (λ a. inl (f a)) (λ b. inr (g b)) h

both_true : (a b : Bool) → a ≡ true → b ≡ true → (a && b) ≡ true
both_true true true e f = refl
both_true true false e f = f
both_true false b e f = e

-- how a call of the store ended that writes to a memory
abbrev pub ended_with : Result (Unit {0}) StoreFault → Option Bool
ended_with (Ok done) = Some true
ended_with (Err Trap) = Some false
ended_with (Err NoMemory) = None

module _ (s t : State) (k : ℕ) where
  memory_is : (m : Linear) → memory_at t k ≡ m → t ≡ record s { memories = slice_set s.memories k (memory_at t k) } → t ≡ with_memory s k m
  memory_is m e same = same ∙ ap (with_memory s k) e

  table_is : (m : Entries) → table_at t k ≡ m → t ≡ record s { tables = slice_set s.tables k (table_at t k) } → t ≡ with_table s k m
  table_is m e same = same ∙ ap (with_table s k) e

pub bytes_put : (s t : State) (k at : ℕ) (bytes : List ℕ) (r : Result (Unit {0}) StoreFault) (went : Bool) → InMemory s t k (λ old new. Writes old new at bytes r) → ended_with r ≡ Some went → Made (put_bytes s k at bytes) s t went
bytes_put s t k at bytes (Ok done) true h e =
    let m = memory_is s t k _ h.0.1 h.1 in
    (if_true _ _ _ (le_true _ _ h.0.0) ∙ ap Some (sym m), stays_to s t _ m (stays_memory s k _))
bytes_put s t k at bytes (Ok done) false h e = absurd (cc)
bytes_put s t k at bytes (Err Trap) true h e = absurd (cc)
bytes_put s t k at bytes (Err Trap) false h e = (if_false _ _ _ (le_false _ _ h.0.0), stays_to s t _ h.1 (stays_memory s k _))
bytes_put s t k at bytes (Err NoMemory) went h e = absurd (cc)

pub bytes_moved : (source : List ℕ) (s t : State) (k to from len : ℕ) (r : Result (Unit {0}) StoreFault) (went : Bool) → InMemory s t k (λ old new. Moves source old new to from len r) → ended_with r ≡ Some went → Made (move_bytes source s k to from len) s t went
bytes_moved source s t k to from len (Ok done) true h e =
    let m = memory_is s t k _ h.0.2 h.1 in
    (if_true _ _ _ (both_true _ _ (le_true _ _ h.0.0) (le_true _ _ h.0.1)) ∙ ap Some (sym m), stays_to s t _ m (stays_memory s k _))
bytes_moved source s t k to from len (Ok done) false h e = absurd (cc)
bytes_moved source s t k to from len (Err Trap) true h e = absurd (cc)
bytes_moved source s t k to from len (Err Trap) false h e = (if_false _ _ _ (both_false _ _ (⊎_map _ _ _ _ (λ q. le_false _ _ q) (λ q. le_false _ _ q) h.0.0)), stays_to s t _ h.1 (stays_memory s k _))
bytes_moved source s t k to from len (Err NoMemory) went h e = absurd (cc)

-- how a call of the store ended that writes to a table
abbrev pub set_with : Result (Unit {0}) TrapType → Bool
set_with (Ok done) = true
set_with (Err trap) = false

pub ref_set : (s t : State) (k at : ℕ) (value : CoreRef) (r : Result (Unit {0}) TrapType) → InTable s t k (λ old new. Sets old new at value r) → Made (set_ref s k at value) s t (set_with r)
ref_set s t k at value (Ok done) h =
    let m = table_is s t k _ h.0.1 h.1 in
    (if_true _ _ _ (lt_true _ _ h.0.0) ∙ ap Some (sym m), stays_to s t _ m (stays_table s k _))
ref_set s t k at value (Err trap) h = (if_false _ _ _ (lt_false _ _ h.0.0), stays_to s t _ h.1 (stays_table s k _))

pub refs_filled : (s t : State) (k at : ℕ) (value : CoreRef) (len : ℕ) (r : Result (Unit {0}) TrapType) → InTable s t k (λ old new. Fills old new at value len r) → Made (fill_refs s k at value len) s t (set_with r)
refs_filled s t k at value len (Ok done) h =
    let m = table_is s t k _ h.0.1 h.1 in
    (if_true _ _ _ (le_true _ _ h.0.0) ∙ ap Some (sym m), stays_to s t _ m (stays_table s k _))
refs_filled s t k at value len (Err trap) h = (if_false _ _ _ (le_false _ _ h.0.0), stays_to s t _ h.1 (stays_table s k _))

pub refs_moved : (source : List CoreRef) (s t : State) (k to from len : ℕ) (r : Result (Unit {0}) TrapType) → InTable s t k (λ old new. MovesRefs source old new to from len r) → Made (move_refs source s k to from len) s t (set_with r)
refs_moved source s t k to from len (Ok done) h =
    let m = table_is s t k _ h.0.2 h.1 in
    (if_true _ _ _ (both_true _ _ (le_true _ _ h.0.0) (le_true _ _ h.0.1)) ∙ ap Some (sym m), stays_to s t _ m (stays_table s k _))
refs_moved source s t k to from len (Err trap) h = (if_false _ _ _ (both_false _ _ (⊎_map _ _ _ _ (λ q. le_false _ _ q) (λ q. le_false _ _ q) h.0.0)), stays_to s t _ h.1 (stays_table s k _))

-- growing
pub memory_grows : (s t : State) (k pages : ℕ) (n : ℤ) → InMemory s t k (λ old new. Grows old new pages (Ok n)) → (t ≡ grow_memory s k pages) × Stays s t
memory_grows s t k pages n h = let m = memory_is s t k _ h.0.1 h.1 in (m, stays_to s t _ m (stays_memory s k _))

pub table_grows : (s t : State) (k by : ℕ) (value : CoreRef) (n : ℤ) → InTable s t k (λ old new. GrowsTable old new by value (Ok n)) → (t ≡ grow_table s k by value) × Stays s t
table_grows s t k by value n h = let m = table_is s t k _ h.0.1 h.1 in (m, stays_to s t _ m (stays_table s k _))

answer_if : (b : Bool) (n : ℕ) → word_of_answer (if b then pos n else negsuc 0) ≡ (if b then n else 4294967295)
answer_if true n = refl
answer_if false n = refl
