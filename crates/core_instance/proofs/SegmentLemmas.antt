-- What writing a segment keeps: how many items there are, and the segments after it.
use Rattle.std.proofs.Common.{◌≡◌, ℕ, ◌+◌, [], length, drop, Bool, true, false, cond, nat_le, Option, Some, None, Result, Ok, Err, refl, subst, arith}
use Rattle.std.proofs.lemmas.List.{length-set, drop-set-lt}
use Rattle.wasm_ast.specs.declared.module.Elements.{Elements}
use Rattle.wasm_ast.specs.declared.module.Elements.TheVariants as elements
use Rattle.wasm_ast.specs.declared.module.Data.{Data}
use Rattle.wasm_ast.specs.declared.module.Data.TheVariants as data_of
use Rattle.core_store.specs.declared.value.CoreSpaces.{CoreSpaces}
use Rattle.core_store.specs.State.{State, memory_at, table_at, segment_at, elements_at}
use Rattle.core_instance.specs.declared.constants.Names.{Names}
use Rattle.core_instance.specs.Instantiation.{without_element, without_segment, with_refs, with_bytes, write_element, write_segment, apply_element, apply_data}

pub record KeepsElements (s t : State) (k : ℕ) : Type 0 where
  pub elements : length t.elements ≡ length s.elements
  pub tables : length t.tables ≡ length s.tables
  pub behind : drop (k + 1) t.elements ≡ drop (k + 1) s.elements
  pub segments : t.segments ≡ s.segments
  pub memories : t.memories ≡ s.memories

pub record KeepsSegments (s t : State) (k : ℕ) : Type 0 where
  pub segments : length t.segments ≡ length s.segments
  pub memories : length t.memories ≡ length s.memories
  pub behind : drop (k + 1) t.segments ≡ drop (k + 1) s.segments

abbrev pub done : State → Result State State
done s = Ok s

pub ok_is : (s t : State) → done s ≡ Ok t → s ≡ t
ok_is s t e = cc

same_elements : (s : State) (k : ℕ) → KeepsElements s s k
same_elements s k = record { elements = refl; tables = refl; behind = refl; segments = refl; memories = refl }

emptied : (s : State) (k : ℕ) → KeepsElements s (without_element s k) k
emptied s k = record { elements = length-set s.elements k []; tables = refl; behind = drop-set-lt (k + 1) s.elements k [] (omega arith); segments = refl; memories = refl }

written_element : (b : Bool) (s t : State) (k table at : ℕ) → cond b (done (without_element (with_refs s table at (elements_at s k)) k)) (Err s) ≡ Ok t → KeepsElements s t k
written_element false s t k table at e = absurd cc
written_element true s t k table at e =
    let is = ok_is (without_element (with_refs s table at (elements_at s k)) k) t e in
    subst (λ (u : State). KeepsElements s u k) is (record {
      elements = length-set s.elements k [];
      tables = length-set s.tables table _;
      behind = drop-set-lt (k + 1) s.elements k [] (omega arith);
      segments = refl;
      memories = refl;
    })

write_element_keeps : (s t : State) (k : ℕ) (table : Option ℕ) (at : ℕ) → write_element s k table at ≡ Ok t → KeepsElements s t k
write_element_keeps s t k None at e = subst (λ (u : State). KeepsElements s u k) (ok_is s t e) (same_elements s k)
write_element_keeps s t k (Some table) at e = written_element (nat_le (at + length (elements_at s k)) (length (table_at s table).refs)) s t k table at e

stays : (s t : State) (k : ℕ) → done s ≡ Ok t → KeepsElements s t k
stays s t k e = subst (λ (u : State). KeepsElements s u k) (ok_is s t e) (same_elements s k)

empties : (s t : State) (k : ℕ) → done (without_element s k) ≡ Ok t → KeepsElements s t k
empties s t k e = subst (λ (u : State). KeepsElements s u k) (ok_is (without_element s k) t e) (emptied s k)

pub element_keeps : (v : CoreSpaces) (names : Names) (s t : State) (k : ℕ) (segment : Elements) → apply_element v names s k segment ≡ Ok t → KeepsElements s t k
element_keeps v names s t k (elements.ActiveFuncs offset funcs) e = write_element_keeps s t k _ _ e
element_keeps v names s t k (elements.PassiveFuncs funcs) e = stays s t k e
element_keeps v names s t k (elements.ActiveFuncsAt table offset funcs) e = write_element_keeps s t k _ _ e
element_keeps v names s t k (elements.DeclaredFuncs funcs) e = empties s t k e
element_keeps v names s t k (elements.ActiveExprs offset exprs) e = write_element_keeps s t k _ _ e
element_keeps v names s t k (elements.PassiveExprs ty exprs) e = stays s t k e
element_keeps v names s t k (elements.ActiveExprsAt table offset ty exprs) e = write_element_keeps s t k _ _ e
element_keeps v names s t k (elements.DeclaredExprs ty exprs) e = empties s t k e

same_segments : (s t : State) (k : ℕ) → done s ≡ Ok t → KeepsSegments s t k
same_segments s t k e = subst (λ (u : State). KeepsSegments s u k) (ok_is s t e) (record { segments = refl; memories = refl; behind = refl })

written_segment : (b : Bool) (s t : State) (k memory at : ℕ) → cond b (done (without_segment (with_bytes s memory at (segment_at s k)) k)) (Err s) ≡ Ok t → KeepsSegments s t k
written_segment false s t k memory at e = absurd cc
written_segment true s t k memory at e =
    let is = ok_is (without_segment (with_bytes s memory at (segment_at s k)) k) t e in
    subst (λ (u : State). KeepsSegments s u k) is (record {
      segments = length-set s.segments k [];
      memories = length-set s.memories memory _;
      behind = drop-set-lt (k + 1) s.segments k [] (omega arith);
    })

write_segment_keeps : (s t : State) (k : ℕ) (memory : Option ℕ) (at : ℕ) → write_segment s k memory at ≡ Ok t → KeepsSegments s t k
write_segment_keeps s t k None at e = same_segments s t k e
write_segment_keeps s t k (Some memory) at e = written_segment (nat_le (at + length (segment_at s k)) (length (memory_at s memory).bytes)) s t k memory at e

pub data_keeps : (v : CoreSpaces) (names : Names) (s t : State) (k : ℕ) (segment : Data) → apply_data v names s k segment ≡ Ok t → KeepsSegments s t k
data_keeps v names s t k (data_of.Active offset bytes) e = write_segment_keeps s t k _ _ e
data_keeps v names s t k (data_of.Passive bytes) e = same_segments s t k e
data_keeps v names s t k (data_of.ActiveAt memory offset bytes) e = write_segment_keeps s t k _ _ e
