-- Locals and memories, as a routine and its code see them.
use Rattle.std.proofs.Common.{◌≡◌, ℕ, zero, suc, ◌+◌, ◌<◌, ◌^◌, List, [], ◌∷◌, ◌++◌, Some, length, refl, ap, ◌∙◌, arith}
use Rattle.std.specs.Prelude.{map, slice_get, slice_set, slice_index_or}
use Rattle.core_memory.specs.Linear.{Linear}
use Rattle.core_store.specs.State.{State as StoreState, memory_at}
use Rattle.core_store.specs.Effects.{with_memory}
use Rattle.adapter_code.specs.declared.statement.Width.{Width}
use Rattle.adapter_code.specs.declared.statement.Width.TheVariants.{Narrow}
use Rattle.adapter_code.specs.declared.state.Local.{Local}
use Rattle.adapter_code.specs.declared.state.Local.TheVariants.{Small, Wide}
use Rattle.adapter_code.specs.Run.{value, local_width, with_value, local_at}
use Rattle.adapter_code.specs.WellFormed.{HasWidth}
use Rattle.adapter_compile.specs.Instructions.{width_in}
use Rattle.adapter_compile.specs.Does.{Fits}

-- a local of the routine is one of the function
pub reads : (ls : List Local) (cs : List ℕ) (i : ℕ) → i < length ls → slice_get (map value ls ++ cs) i ≡ Some (value (local_at ls i))
reads [] cs i lt = absurd (omega arith)
reads (l ∷ ls) cs zero lt = refl
reads (l ∷ ls) cs (suc i) lt = reads ls cs i (omega arith)

pub writes : (ls : List Local) (cs : List ℕ) (i n : ℕ) → i < length ls → slice_set (map value ls ++ cs) i n ≡ map value (slice_set ls i (with_value (local_at ls i) n)) ++ cs
writes [] cs i n lt = absurd (omega arith)
writes (Small v ∷ ls) cs zero n lt = refl
writes (Wide v ∷ ls) cs zero n lt = refl
writes (l ∷ ls) cs (suc i) n lt = ap (λ xs. value l ∷ xs) (writes ls cs i n (omega arith))

-- the counters stand after
reads_counter : (ls : List Local) (cs : List ℕ) (i : ℕ) → slice_get (map value ls ++ cs) (length ls + i) ≡ slice_get cs i
reads_counter [] cs i = let e : 0 + i ≡ i = omega arith in ap (slice_get cs) e
reads_counter (l ∷ ls) cs i =
    let e : suc (length ls) + i ≡ suc (length ls + i) = omega arith in
    ap (slice_get (value l ∷ (map value ls ++ cs))) e ∙ reads_counter ls cs i

writes_counter : (ls : List Local) (cs : List ℕ) (i n : ℕ) → slice_set (map value ls ++ cs) (length ls + i) n ≡ map value ls ++ slice_set cs i n
writes_counter [] cs i n = let e : 0 + i ≡ i = omega arith in ap (λ k. slice_set cs k n) e
writes_counter (l ∷ ls) cs i n =
    let e : suc (length ls) + i ≡ suc (length ls + i) = omega arith in
    ap (λ k. slice_set (value l ∷ (map value ls ++ cs)) k n) e ∙ ap (λ xs. value l ∷ xs) (writes_counter ls cs i n)

pub set_here : (cs : List ℕ) (i n : ℕ) → i < length cs → slice_get (slice_set cs i n) i ≡ Some n
set_here [] i n lt = absurd (omega arith)
set_here (c ∷ cs) zero n lt = refl
set_here (c ∷ cs) (suc i) n lt = set_here cs i n (omega arith)

pub set_other : (cs : List ℕ) (i j n : ℕ) → j < i → slice_get (slice_set cs i n) j ≡ slice_get cs j
set_other [] i j n lt = refl
set_other (c ∷ cs) zero j n lt = absurd (omega arith)
set_other (c ∷ cs) (suc i) zero n lt = refl
set_other (c ∷ cs) (suc i) (suc j) n lt = set_other cs i j n (omega arith)

pub set_length : (cs : List ℕ) (i n : ℕ) → length (slice_set cs i n) ≡ length cs
set_length [] i n = refl
set_length (c ∷ cs) zero n = refl
set_length (c ∷ cs) (suc i) n = ap suc (set_length cs i n)

-- the widths of locals
pub width_same : (ls : List Local) (i : ℕ) → local_width (local_at ls i) ≡ width_in (map local_width ls) i
width_same [] i = refl
width_same (l ∷ ls) zero = refl
width_same (l ∷ ls) (suc i) = width_same ls i

pub widths_length : (ls : List Local) → length (map local_width ls) ≡ length ls
widths_length [] = refl
widths_length (l ∷ ls) = ap suc (widths_length ls)

pub has_in : (ws : List Width) (i : ℕ) (w : Width) → HasWidth ws i w → width_in ws i ≡ w
has_in [] i w h = cc
has_in (v ∷ ws) zero w h = cc
has_in (v ∷ ws) (suc i) w h = has_in ws i w h

-- a local's range
pub fits_set : (ls : List Local) (i : ℕ) (x : Local) → Fits x → ((j : ℕ) → Fits (local_at ls j)) → (j : ℕ) → Fits (local_at (slice_set ls i x) j)
fits_set [] i x f all j = all j
fits_set (l ∷ ls) zero x f all zero = f
fits_set (l ∷ ls) zero x f all (suc j) = all (suc j)
fits_set (l ∷ ls) (suc i) x f all zero = all zero
fits_set (l ∷ ls) (suc i) x f all (suc j) = fits_set ls i x f (λ k. all (suc k)) j

pub fits_small : (l : Local) (n : ℕ) → (local_width l ≡ Narrow → n < 2 ^ 32) → Fits (with_value l n)
fits_small (Small v) n h = h refl
fits_small (Wide v) n h = tt

pub small_fits : (l : Local) → Fits l → local_width l ≡ Narrow → value l < 2 ^ 32
small_fits (Small v) f e = f
small_fits (Wide v) f e = cc

pub reads_behind : (ws : List Width) (ls : List Local) (cs : List ℕ) (i : ℕ) → map local_width ls ≡ ws → slice_get (map value ls ++ cs) (length ws + i) ≡ slice_get cs i
reads_behind ws ls cs i e =
    let same : length ws + i ≡ length ls + i = omega (arith, ap length e, widths_length ls) in
    ap (slice_get (map value ls ++ cs)) same ∙ reads_counter ls cs i

pub writes_behind : (ws : List Width) (ls : List Local) (cs : List ℕ) (i n : ℕ) → map local_width ls ≡ ws → slice_set (map value ls ++ cs) (length ws + i) n ≡ map value ls ++ slice_set cs i n
writes_behind ws ls cs i n e =
    let same : length ws + i ≡ length ls + i = omega (arith, ap length e, widths_length ls) in
    ap (λ k. slice_set (map value ls ++ cs) k n) same ∙ writes_counter ls cs i n

pub has_index : (ws : List Width) (ls : List Local) (i : ℕ) → map local_width ls ≡ ws → i < length ws → i < length ls
has_index ws ls i e lt = omega (arith, ap length e, widths_length ls)

-- the memory at its place
memory_set : (ms : List Linear) (k : ℕ) (m d : Linear) → k < length ms → slice_index_or (slice_set ms k m) k d ≡ m
memory_set [] k m d lt = absurd (omega arith)
memory_set (x ∷ ms) zero m d lt = refl
memory_set (x ∷ ms) (suc k) m d lt = memory_set ms k m d (omega arith)

memory_again : (ms : List Linear) (k : ℕ) (m m' : Linear) → slice_set (slice_set ms k m) k m' ≡ slice_set ms k m'
memory_again [] k m m' = refl
memory_again (x ∷ ms) zero m m' = refl
memory_again (x ∷ ms) (suc k) m m' = ap (λ ys. x ∷ ys) (memory_again ms k m m')

pub memory_here : (s : StoreState) (k : ℕ) (m : Linear) → k < length s.memories → memory_at (with_memory s k m) k ≡ m
memory_here s k m lt = memory_set s.memories k m _ lt

pub memory_over : (s : StoreState) (k : ℕ) (m m' : Linear) → with_memory (with_memory s k m) k m' ≡ with_memory s k m'
memory_over s k m m' = ap (λ ms. let t : StoreState = record s { memories = ms } in t) (memory_again s.memories k m m')
