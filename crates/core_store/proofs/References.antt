-- References within a list that changes.
use Rattle.std.proofs.Common.{◌≡◌, ℕ, ◌+◌, ◌-◌, ◌<◌, List, [], ◌∷◌, ◌++◌, length, set, take, drop, replicate, refl, ap, sym, ◌∙◌, subst, arith, length-append, Result, Ok, Err}
use Rattle.std.proofs.lemmas.List.{length-replicate, append_assoc, append-nil, replicate_more}
use Rattle.std.proofs.lemmas.List.Edits.{fill_from_more, paste_all}
use lib.Seq.{paste}
use Rattle.core_memory.proofs.Parts.{replaced_none}
use Rattle.std.proofs.lemmas.List.Elements.{All-append, All-take, All-drop, All-replicate}
use Rattle.std.specs.Prelude.{None, ℤ, Bool, true, false, if◌then◌else◌}
use Rattle.virt_base.specs.declared.fault.Trap.{Trap}
use Rattle.virt_base.specs.declared.fault.NoMemory.{NoMemory}
use Rattle.core_memory.specs.Replaced.{replaced, repeated}
use Rattle.core_store.specs.declared.value.CoreRef.{CoreRef}
use Rattle.core_store.specs.declared.value.CoreRef.TheVariants.{Null}
use Rattle.core_store.specs.Table.{Entries, IsRef, AreRefs, Fills, Moves, Grows, can_grow, nulls}

pub repeated_refs : (n k : ℕ) (r : CoreRef) → IsRef n r → AreRefs n (repeated k r)
unfolding repeated
repeated_refs n k r w = All-replicate (IsRef n) k r w

pub replaced_refs : (n : ℕ) (xs ys : List CoreRef) (at : ℕ) → AreRefs n xs → AreRefs n ys → AreRefs n (replaced xs at ys)
replaced_refs n xs ys at w v =
    All-append (IsRef n) (take at xs) (ys ++ drop (at + length ys) xs) (All-take (IsRef n) at xs w) (All-append (IsRef n) ys (drop (at + length ys) xs) v (All-drop (IsRef n) (at + length ys) xs w))

pub fills_refs : (n : ℕ) (old new : Entries) (at : ℕ) (value : CoreRef) (len : ℕ) (r : Result (Unit {0}) Trap) → Fills old new at value len r → AreRefs n old.refs → IsRef n value → AreRefs n new.refs
fills_refs n old new at value len (Ok done) s w v = subst (λ (t : Entries). AreRefs n t.refs) (sym s.1) (replaced_refs n old.refs (repeated len value) at w (repeated_refs n len value v))
fills_refs n old new at value len (Err e) s w v = subst (λ (t : Entries). AreRefs n t.refs) (sym s.1) w

pub moves_refs : (n : ℕ) (source : List CoreRef) (old new : Entries) (to from len : ℕ) (r : Result (Unit {0}) Trap) → Moves source old new to from len r → AreRefs n old.refs → AreRefs n source → AreRefs n new.refs
moves_refs n source old new to from len (Ok done) s w v = subst (λ (t : Entries). AreRefs n t.refs) (sym s.2) (replaced_refs n old.refs (take len (drop from source)) to w (All-take (IsRef n) len (drop from source) (All-drop (IsRef n) from source v)))
moves_refs n source old new to from len (Err e) s w v = subst (λ (t : Entries). AreRefs n t.refs) (sym s.1) w

pub grows_refs : (n : ℕ) (old new : Entries) (by : ℕ) (value : CoreRef) (r : Result ℤ NoMemory) → Grows old new by value r → AreRefs n old.refs → IsRef n value → AreRefs n new.refs
grows_refs n old new by value (Err e) s w v = subst (λ (t : Entries). AreRefs n t.refs) (sym s) w
grows_refs n old new by value (Ok answer) s w v = subst (λ (t : Entries). AreRefs n t.refs) (sym s.1) (either (can_grow old by)) where
  either : (b : Bool) → AreRefs n (if b then record old { refs = old.refs ++ repeated by value } else old).refs
  either true = All-append (IsRef n) old.refs (repeated by value) w (repeated_refs n by value v)
  either false = w

pub repeated_none : {X : Type 0} (x : X) → repeated 0 x ≡ []
unfolding repeated
repeated_none x = refl

repeated_more : {X : Type 0} (n : ℕ) (x : X) → repeated n x ++ x ∷ [] ≡ repeated (n + 1) x
unfolding repeated
repeated_more n x = replicate_more n x

pub no_entries : (xs : List CoreRef) → xs ≡ [] → record { refs = xs; max = None } ≡ nulls 0 None
no_entries xs e = ap (λ (v : List CoreRef). record { refs = v; max = None }) (e ∙ sym (repeated_none Null))

-- the turns of the loop that adds references
pub add_none : (xs : List CoreRef) (x : CoreRef) → xs ≡ xs ++ repeated 0 x
add_none xs x = sym (ap (λ (v : List CoreRef). xs ++ v) (repeated_none x) ∙ append-nil xs)

pub add_more : (xs ys zs : List CoreRef) (n : ℕ) (x : CoreRef) → ys ≡ xs ++ repeated n x → zs ≡ ys ++ x ∷ [] → zs ≡ xs ++ repeated (n + 1) x
add_more xs ys zs n x e f = f ∙ ap (λ (v : List CoreRef). v ++ x ∷ []) e ∙ append_assoc xs (repeated n x) (x ∷ []) ∙ ap (λ (v : List CoreRef). xs ++ v) (repeated_more n x)

-- the turns of the loop that fills
is_paste : (xs : List CoreRef) (a n : ℕ) (x : CoreRef) → replaced xs a (repeated n x) ≡ paste xs a (replicate n x) n
unfolding repeated
is_paste xs a n x = let k = length-replicate n x in ap (λ j. take a xs ++ (replicate n x ++ drop (a + j) xs)) k ∙ sym (paste_all xs a (replicate n x) n (sym k))

pub fill_none : (xs : List CoreRef) (a n : ℕ) (x : CoreRef) → n ≡ 0 → xs ≡ replaced xs a (repeated n x)
fill_none xs a n x e = sym (ap (λ (k : ℕ). replaced xs a (repeated k x)) e ∙ ap (λ (v : List CoreRef). replaced xs a v) (repeated_none x) ∙ replaced_none xs a)

pub fill_more : (xs ys : List CoreRef) (a n m i : ℕ) (x : CoreRef) → i < length xs → i ≡ a + n → m ≡ n + 1 → ys ≡ replaced xs a (repeated n x) → set ys i x ≡ replaced xs a (repeated m x)
fill_more xs ys a n m i x lt e em before =
    ap (λ (v : List CoreRef). set v i x) (before ∙ is_paste xs a n x) ∙ ap (λ j. set (paste xs a (replicate n x) n) j x) e ∙ fill_from_more xs a n x (omega arith)
    ∙ sym (is_paste xs a (n + 1) x) ∙ ap (λ j. replaced xs a (repeated j x)) (sym em)

pub length_repeated : {X : Type 0} (n : ℕ) (x : X) → length (repeated n x) ≡ n
unfolding repeated
length_repeated n x = length-replicate n x

pub length_added : (xs ys : List CoreRef) (n : ℕ) (x : CoreRef) → ys ≡ xs ++ repeated n x → length ys ≡ length xs + n
length_added xs ys n x e = ap length e ∙ length-append xs (repeated n x) ∙ ap (λ k. length xs + k) (length_repeated n x)
