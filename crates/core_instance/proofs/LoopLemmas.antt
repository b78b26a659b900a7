-- Segments in order: each turn of the loops over them goes on as the rest of the list does.
use Rattle.std.proofs.Common.{◌≡◌, ℕ, zero, suc, ◌+◌, ◌<◌, List, [], ◌∷◌, length, map, drop, get_or, Result, Ok, Err, refl, sym, ap, ◌∙◌, arith}
use Rattle.std.specs.Prelude.{IsErr}
use Rattle.std.specs.List.{range_with_len}
use Rattle.std.proofs.lemmas.List.{drop_more}
use Rattle.std.proofs.lemmas.List.FromFn.{length-range_with_len, get_or-range_with_len}
use Rattle.wasm_ast.specs.declared.module.Elements.{Elements}
use Rattle.wasm_ast.specs.declared.module.Data.{Data}
use Rattle.virt_base.specs.declared.fault.Trap.{Trap}
use Rattle.core_memory.specs.declared.fault.StoreFault.{StoreFault}
use Rattle.core_memory.specs.declared.fault.StoreFault.TheVariants as faults
use Rattle.core_store.specs.declared.value.CoreRef.{CoreRef}
use Rattle.core_store.specs.declared.value.CoreSpaces.{CoreSpaces}
use Rattle.core_store.specs.State.{State, segment_at, elements_at}
use Rattle.core_instance.specs.declared.constants.Names.{Names}
use Rattle.core_instance.specs.Constants.{refs_of}
use Rattle.core_instance.specs.Instantiation.{Leaves, LeavesInMemory, and_next, bytes_of, apply_element, apply_data, apply_elements, apply_segments}
use Rattle.core_instance.proofs.SegmentLemmas.{element_keeps, data_keeps}

-- ---- answers

pub leaves_err : (due : Result State State) (t : State) (r : Result (Unit {0}) Trap) → IsErr r → due ≡ Err t → Leaves due t r
leaves_err due t (Ok done) h e = absurd cc
leaves_err due t (Err trap) h e = e

-- a call that ends as another did, where the stores are those that are due
pub leaves_as : (one due : Result State State) (t : State) (r : Result (Unit {0}) StoreFault) (fault : StoreFault) → r ≡ Err fault → LeavesInMemory one t (Err fault) → (one ≡ Err t → due ≡ Err t) → LeavesInMemory due t r
leaves_as one due t (Ok done) fault is h go = absurd cc
leaves_as one due t (Err faults.Trap) faults.Trap is h go = go h
leaves_as one due t (Err faults.Trap) faults.NoMemory is h go = absurd cc
leaves_as one due t (Err faults.NoMemory) fault is h go = tt

-- ---- lists

-- the item at a place, and what is after it
pub found : {X : Type 0} (xs : List X) (k : ℕ) (y : X) (ys : List X) (d : X) → drop k xs ≡ y ∷ ys → (k < length xs) × (get_or xs k d ≡ y) × (drop (k + 1) xs ≡ ys)
found [] zero y ys d e = absurd cc
found [] (suc k) y ys d e = absurd cc
found (x ∷ xs) zero y ys d e = (omega arith, cc, cc)
found {X} (x ∷ xs) (suc k) y ys d e =
    let h = found xs k y ys d e in
    let far : suc k + 1 ≡ suc (k + 1) = omega arith in
    (omega (arith, h.0), h.1, ap (λ (n : ℕ). drop n (x ∷ xs)) far ∙ h.2)

-- the place of the segment at an index
pub place_is : (places : List ℕ) (first count i d : ℕ) → places ≡ range_with_len first count → i < count → (i < length places) × (get_or places i d ≡ first + i)
place_is places first count i d e less = (
  omega (arith, less, ap length e ∙ length-range_with_len first count),
  ap (λ (ps : List ℕ). get_or ps i d) e ∙ get_or-range_with_len first count i d less,
)

rest_is : {X : Type 0} (xs : List X) (i : ℕ) (x : X) → i < length xs → x ≡ get_or xs i x → drop i xs ≡ x ∷ drop (i + 1) xs
rest_is xs i x less is = drop_more xs i x less ∙ ap (λ (y : _). y ∷ drop (i + 1) xs) (sym is)

-- ---- element segments

-- after that many segments: the others lead where all lead, and stand in the store
pub record ElementsGo (v : CoreSpaces) (names : Names) (s : State) (first : ℕ) (segments : List Elements) (t : State) (i : ℕ) : Type 0 where
  pub goes : apply_elements v names t (first + i) (drop i segments) ≡ apply_elements v names s first segments
  pub count : length t.elements ≡ length s.elements
  pub tables : length t.tables ≡ length s.tables
  pub others : drop (first + i) t.elements ≡ map (refs_of names) (drop i segments)

next_elements : (v : CoreSpaces) (names : Names) (s t : State) (first i : ℕ) (segments : List Elements) (segment : Elements) → i < length segments → segment ≡ get_or segments i segment
    → ElementsGo v names s first segments t i → and_next (apply_element v names t (first + i) segment) (λ u. apply_elements v names u (first + i + 1) (drop (i + 1) segments)) ≡ apply_elements v names s first segments
next_elements v names s t first i segments segment less is go =
    ap (apply_elements v names t (first + i)) (sym (rest_is segments i segment less is)) ∙ go.goes

held_elements : (v : CoreSpaces) (names : Names) (s t : State) (first i : ℕ) (segments : List Elements) (segment : Elements) (d : List CoreRef) → i < length segments → segment ≡ get_or segments i segment
    → ElementsGo v names s first segments t i → (first + i < length t.elements) × (get_or t.elements (first + i) d ≡ refs_of names segment) × (drop (first + i + 1) t.elements ≡ map (refs_of names) (drop (i + 1) segments))
held_elements v names s t first i segments segment d less is go =
    found t.elements (first + i) (refs_of names segment) (map (refs_of names) (drop (i + 1) segments)) d (go.others ∙ ap (map (refs_of names)) (rest_is segments i segment less is))

pub elements_held : (v : CoreSpaces) (names : Names) (s t : State) (first i at : ℕ) (segments : List Elements) (segment : Elements) → at ≡ first + i → i < length segments → segment ≡ get_or segments i segment
    → ElementsGo v names s first segments t i → (at < length t.elements) × (elements_at t at ≡ refs_of names segment)
elements_held v names s t first i at segments segment e less is go =
    let h = held_elements v names s t first i segments segment [] less is go in
    (omega (arith, e, h.0), ap (elements_at t) e ∙ h.1)

pub elements_go_on : (v : CoreSpaces) (names : Names) (s t u : State) (first i at : ℕ) (segments : List Elements) (segment : Elements) → at ≡ first + i → i < length segments → segment ≡ get_or segments i segment
    → ElementsGo v names s first segments t i → apply_element v names t at segment ≡ Ok u → ElementsGo v names s first segments u (i + 1)
elements_go_on v names s t u first i at segments segment e less is go ok =
    let done : apply_element v names t (first + i) segment ≡ Ok u = ap (λ (k : ℕ). apply_element v names t k segment) (sym e) ∙ ok in
    let kept = element_keeps v names t u (first + i) segment done in
    let far : first + (i + 1) ≡ first + i + 1 = omega arith in
    let next = ap (λ (r : Result State State). and_next r (λ x. apply_elements v names x (first + i + 1) (drop (i + 1) segments))) (sym done) ∙ next_elements v names s t first i segments segment less is go in
    record {
      goes = ap (λ (k : ℕ). apply_elements v names u k (drop (i + 1) segments)) far ∙ next;
      count = kept.elements ∙ go.count;
      tables = kept.tables ∙ go.tables;
      others = ap (λ (k : ℕ). drop k u.elements) far ∙ (kept.behind ∙ (held_elements v names s t first i segments segment [] less is go).2);
    }

pub elements_stop : (v : CoreSpaces) (names : Names) (s t u : State) (first i at : ℕ) (segments : List Elements) (segment : Elements) → at ≡ first + i → i < length segments → segment ≡ get_or segments i segment
    → ElementsGo v names s first segments t i → apply_element v names t at segment ≡ Err u → apply_elements v names s first segments ≡ Err u
elements_stop v names s t u first i at segments segment e less is go err =
    let failed : apply_element v names t (first + i) segment ≡ Err u = ap (λ (k : ℕ). apply_element v names t k segment) (sym e) ∙ err in
    sym (next_elements v names s t first i segments segment less is go) ∙ ap (λ (r : Result State State). and_next r (λ x. apply_elements v names x (first + i + 1) (drop (i + 1) segments))) failed

pub elements_begin : (v : CoreSpaces) (names : Names) (s : State) (first : ℕ) (segments : List Elements) → drop first s.elements ≡ map (refs_of names) segments → ElementsGo v names s first segments s 0
elements_begin v names s first segments held =
    let same : first + 0 ≡ first = omega arith in
    record {
      goes = ap (λ (k : ℕ). apply_elements v names s k segments) same;
      count = refl;
      tables = refl;
      others = ap (λ (k : ℕ). drop k s.elements) same ∙ held;
    }

-- ---- data segments

-- after that many segments: the others lead where all lead, and stand in the store
pub record SegmentsGo (v : CoreSpaces) (names : Names) (s : State) (first : ℕ) (segments : List Data) (t : State) (i : ℕ) : Type 0 where
  pub goes : apply_segments v names t (first + i) (drop i segments) ≡ apply_segments v names s first segments
  pub count : length t.segments ≡ length s.segments
  pub memories : length t.memories ≡ length s.memories
  pub others : drop (first + i) t.segments ≡ map bytes_of (drop i segments)

next_segments : (v : CoreSpaces) (names : Names) (s t : State) (first i : ℕ) (segments : List Data) (segment : Data) → i < length segments → segment ≡ get_or segments i segment
    → SegmentsGo v names s first segments t i → and_next (apply_data v names t (first + i) segment) (λ u. apply_segments v names u (first + i + 1) (drop (i + 1) segments)) ≡ apply_segments v names s first segments
next_segments v names s t first i segments segment less is go =
    ap (apply_segments v names t (first + i)) (sym (rest_is segments i segment less is)) ∙ go.goes

held_segments : (v : CoreSpaces) (names : Names) (s t : State) (first i : ℕ) (segments : List Data) (segment : Data) (d : List ℕ) → i < length segments → segment ≡ get_or segments i segment
    → SegmentsGo v names s first segments t i → (first + i < length t.segments) × (get_or t.segments (first + i) d ≡ bytes_of segment) × (drop (first + i + 1) t.segments ≡ map bytes_of (drop (i + 1) segments))
held_segments v names s t first i segments segment d less is go =
    found t.segments (first + i) (bytes_of segment) (map bytes_of (drop (i + 1) segments)) d (go.others ∙ ap (map bytes_of) (rest_is segments i segment less is))

pub segments_held : (v : CoreSpaces) (names : Names) (s t : State) (first i at : ℕ) (segments : List Data) (segment : Data) → at ≡ first + i → i < length segments → segment ≡ get_or segments i segment
    → SegmentsGo v names s first segments t i → (at < length t.segments) × (segment_at t at ≡ bytes_of segment)
segments_held v names s t first i at segments segment e less is go =
    let h = held_segments v names s t first i segments segment [] less is go in
    (omega (arith, e, h.0), ap (segment_at t) e ∙ h.1)

pub segments_go_on : (v : CoreSpaces) (names : Names) (s t u : State) (first i at : ℕ) (segments : List Data) (segment : Data) → at ≡ first + i → i < length segments → segment ≡ get_or segments i segment
    → SegmentsGo v names s first segments t i → apply_data v names t at segment ≡ Ok u → SegmentsGo v names s first segments u (i + 1)
segments_go_on v names s t u first i at segments segment e less is go ok =
    let done : apply_data v names t (first + i) segment ≡ Ok u = ap (λ (k : ℕ). apply_data v names t k segment) (sym e) ∙ ok in
    let kept = data_keeps v names t u (first + i) segment done in
    let far : first + (i + 1) ≡ first + i + 1 = omega arith in
    let next = ap (λ (r : Result State State). and_next r (λ x. apply_segments v names x (first + i + 1) (drop (i + 1) segments))) (sym done) ∙ next_segments v names s t first i segments segment less is go in
    record {
      goes = ap (λ (k : ℕ). apply_segments v names u k (drop (i + 1) segments)) far ∙ next;
      count = kept.segments ∙ go.count;
      memories = kept.memories ∙ go.memories;
      others = ap (λ (k : ℕ). drop k u.segments) far ∙ (kept.behind ∙ (held_segments v names s t first i segments segment [] less is go).2);
    }

pub segments_stop : (v : CoreSpaces) (names : Names) (s t u : State) (first i at : ℕ) (segments : List Data) (segment : Data) → at ≡ first + i → i < length segments → segment ≡ get_or segments i segment
    → SegmentsGo v names s first segments t i → apply_data v names t at segment ≡ Err u → apply_segments v names s first segments ≡ Err u
segments_stop v names s t u first i at segments segment e less is go err =
    let failed : apply_data v names t (first + i) segment ≡ Err u = ap (λ (k : ℕ). apply_data v names t k segment) (sym e) ∙ err in
    sym (next_segments v names s t first i segments segment less is go) ∙ ap (λ (r : Result State State). and_next r (λ x. apply_segments v names x (first + i + 1) (drop (i + 1) segments))) failed

pub segments_begin : (v : CoreSpaces) (names : Names) (s : State) (first : ℕ) (segments : List Data) → drop first s.segments ≡ map bytes_of segments → SegmentsGo v names s first segments s 0
segments_begin v names s first segments held =
    let same : first + 0 ≡ first = omega arith in
    record {
      goes = ap (λ (k : ℕ). apply_segments v names s k segments) same;
      count = refl;
      memories = refl;
      others = ap (λ (k : ℕ). drop k s.segments) same ∙ held;
    }
