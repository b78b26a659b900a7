-- What the segment of a module leaves in its memory.
use Rattle.std.proofs.Common.{◌≡◌, ℕ, zero, suc, ◌+◌, ◌*◌, ◌<◌, ◌≤◌, List, [], ◌∷◌, ◌++◌, Some, None, Bool, true, false, Ok, Err, length, map, refl, sym, ap, ◌∙◌, arith, length-append}
use Rattle.std.specs.Prelude.{nat_le, if◌then◌else◌, slice_get, slice_set, slice_index_or}
use Rattle.std.specs.List.{range_with_len}
use Rattle.std.proofs.lemmas.Bool.{leb-true}
use Rattle.wasm_ast.specs.declared.module.Data.{Data}
use Rattle.wasm_ast.specs.declared.module.Elements.{Elements}
use Rattle.wasm_ast.specs.declared.module.Limits.{Limits}
use Rattle.core_memory.specs.Linear.{Linear, fresh, written}
use Rattle.core_memory.proofs.Contents.{length_zeros}
use Rattle.core_store.specs.declared.value.CoreSpaces.{CoreSpaces}
use Rattle.core_store.specs.State.{State as StoreState, memory_at, segment_at}
use Rattle.core_instance.specs.declared.constants.Names.{Names}
use Rattle.core_instance.specs.Spaces.{places_of}
use Rattle.core_instance.specs.Constants.{constant, offset_in}
use Rattle.core_instance.specs.Instantiation.{bytes_of, names_of, allocated, and_next, without_segment, with_bytes, write_segment, apply_elements, apply_segments, instantiated}
use Rattle.adapter_bytes.specs.Memories.{Filled, MemoriesAreFilled}

index_set : {A : Type 0} → (xs : List A) (k : ℕ) (x d : A) → k < length xs → slice_index_or (slice_set xs k x) k d ≡ x
index_set [] k x d lt = absurd (omega (arith, lt))
index_set (y ∷ xs) zero x d lt = refl
index_set (y ∷ xs) (suc k) x d lt = index_set xs k x d (omega (arith, lt))

index_behind : {A : Type 0} → (xs : List A) (y d : A) → slice_index_or (xs ++ y ∷ []) (length xs) d ≡ y
index_behind [] y d = refl
index_behind (x ∷ xs) y d = index_behind xs y d

-- a segment that is written into a memory that is there
filled : (limits : Limits) (at place k : ℕ) (bytes : List ℕ) (a t : StoreState) → place < length a.memories → memory_at a place ≡ fresh limits.min limits.max → segment_at a k ≡ bytes →
    and_next (write_segment a k (Some place) at) (λ u. Ok u) ≡ Ok t → Filled limits at bytes place t
filled limits at place k bytes a t there memory segment e = by_test (nat_le (at + length (segment_at a k)) (length (memory_at a place).bytes)) refl e
  where
    by_test : (b : Bool) → nat_le (at + length (segment_at a k)) (length (memory_at a place).bytes) ≡ b → and_next (if b then Ok (without_segment (with_bytes a place at (segment_at a k)) k) else Err a) (λ u. Ok u) ≡ Ok t → Filled limits at bytes place t
    by_test false test made = absurd (cc)
    by_test true test made =
        let same : without_segment (with_bytes a place at (segment_at a k)) k ≡ t = cc in
        let fits : at + length (segment_at a k) ≤ length (memory_at a place).bytes = leb-true (at + length (segment_at a k)) (length (memory_at a place).bytes) test in
        let long : length (memory_at a place).bytes ≡ 65536 * limits.min = ap (λ (m : Linear). length m.bytes) memory ∙ length_zeros (65536 * limits.min) in
        record {
          within = omega (arith, fits, long, ap length segment);
          holds =
              ap (λ (u : StoreState). memory_at u place) (sym same)
              ∙ index_set a.memories place (written (memory_at a place) at (segment_at a k)) (fresh 0 None) there
              ∙ ap (λ m. written m at (segment_at a k)) memory ∙ ap (written (fresh limits.min limits.max) at) segment;
        }

pub fill : MemoriesAreFilled
fill s m imports t limits offset bytes is made =
    let v : CoreSpaces = places_of s m imports in
    let names : Names = names_of s m imports in
    let a : StoreState = allocated s m imports in
    let k = length s.segments in
    let place = length s.memories in
    let at = offset_in (constant names offset) in
    let own : a.memories ≡ s.memories ++ fresh limits.min limits.max ∷ [] = ap (λ ls. s.memories ++ map (λ (l : Limits). fresh l.min l.max) ls) is.memory in
    let segments : a.segments ≡ s.segments ++ bytes ∷ [] = ap (λ ds. s.segments ++ map bytes_of ds) is.segment in
    let named : slice_get v.memories 0 ≡ Some place =
    ap (λ ms. slice_get (ms ++ range_with_len place (length m.memories)) 0) is.imported ∙ ap (λ (ls : List Limits). slice_get (range_with_len place (length ls)) 0) is.memory in
    let path : instantiated s m imports ≡ and_next (write_segment a k (Some place) at) (λ u. Ok u) =
    ap (λ (es : List Elements). and_next (apply_elements v names a (length s.elements) es) (λ u. apply_segments v names u k m.segments)) is.bare
    ∙ ap (λ (ds : List Data). apply_segments v names a k ds) is.segment
    ∙ ap (λ o. and_next (write_segment a k o at) (λ u. Ok u)) named in
    filled limits at place k bytes a t
    (omega (arith, ap length own, length-append s.memories (fresh limits.min limits.max ∷ [])))
    (ap (λ ms. slice_index_or ms place (fresh 0 None)) own ∙ index_behind s.memories (fresh limits.min limits.max) (fresh 0 None))
    (ap (λ xs. slice_index_or xs k []) segments ∙ index_behind s.segments bytes [])
    (sym path ∙ made)
