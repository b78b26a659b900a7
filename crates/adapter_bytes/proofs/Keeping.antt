-- What segments leave as it was.
use Rattle.std.proofs.Common.{◌≡◌, ℕ, ◌+◌, List, [], ◌∷◌, Option, Some, None, Bool, true, false, Result, Ok, Err, length, length-set, refl, ◌∙◌, subst}
use Rattle.std.specs.Prelude.{nat_le, if◌then◌else◌, slice_get}
use Rattle.wasm_ast.specs.declared.module.Data.{Data}
use Rattle.wasm_ast.specs.declared.module.Data.TheVariants as data_of
use Rattle.wasm_ast.specs.declared.module.Elements.{Elements}
use Rattle.wasm_ast.specs.declared.module.Elements.TheVariants as elements
use Rattle.core_store.specs.declared.value.CoreSpaces.{CoreSpaces}
use Rattle.core_store.specs.State.{State as StoreState, memory_at, table_at, segment_at, elements_at}
use Rattle.core_instance.specs.declared.constants.Names.{Names}
use Rattle.core_instance.specs.Constants.{constant, offset_in}
use Rattle.core_instance.specs.Instantiation.{and_next, without_element, without_segment, with_refs, with_bytes, write_element, write_segment, apply_element, apply_data, apply_elements, apply_segments}

pub record Kept (a b : StoreState) : Type 0 where
  pub functions : b.functions ≡ a.functions
  pub instances : b.instances ≡ a.instances
  pub globals : b.globals ≡ a.globals
  pub nesting : b.nesting ≡ a.nesting
  pub deepest : b.deepest ≡ a.deepest
  pub memories : length b.memories ≡ length a.memories

kept_same : (s : StoreState) → Kept s s
kept_same s = record { functions = refl; instances = refl; globals = refl; nesting = refl; deepest = refl; memories = refl }

kept_on : (a b c : StoreState) → Kept a b → Kept b c → Kept a c
kept_on a b c p q = record {
  functions = q.functions ∙ p.functions;
  instances = q.instances ∙ p.instances;
  globals = q.globals ∙ p.globals;
  nesting = q.nesting ∙ p.nesting;
  deepest = q.deepest ∙ p.deepest;
  memories = q.memories ∙ p.memories;
}

-- a change of the store that ends well
abbrev pub ends : StoreState → Result StoreState StoreState
ends s = Ok s

kept_ok : (s u t : StoreState) → Kept s u → ends u ≡ ends t → Kept s t
kept_ok s u t p e =
    let same : u ≡ t = cc in
    let P : StoreState → Type 0 = λ x. Kept s x in
    subst P same p

-- one change after another
pub kept_then : (s t : StoreState) (r : Result StoreState StoreState) (f : StoreState → Result StoreState StoreState) → ((u : StoreState) → r ≡ ends u → Kept s u) → ((u : StoreState) → f u ≡ ends t → Kept u t) → and_next r f ≡ ends t → Kept s t
kept_then s t (Ok u) f first rest e = kept_on s u t (first u refl) (rest u e)
kept_then s t (Err u) f first rest e = absurd (cc)

-- ---- element segments

kept_refs : (s t : StoreState) (k at : ℕ) (o : Option ℕ) → write_element s k o at ≡ ends t → Kept s t
kept_refs s t k at None e = kept_ok s s t (kept_same s) e
kept_refs s t k at (Some table) e = by_test (nat_le (at + length (elements_at s k)) (length (table_at s table).refs)) e
  where
    by_test : (b : Bool) → (if b then Ok (without_element (with_refs s table at (elements_at s k)) k) else Err s) ≡ ends t → Kept s t
    by_test true e =
        kept_ok s (without_element (with_refs s table at (elements_at s k)) k) t (record { functions = refl; instances = refl; globals = refl; nesting = refl; deepest = refl; memories = refl }) e
    by_test false e = absurd (cc)

kept_declared : (s t : StoreState) (k : ℕ) → ends (without_element s k) ≡ ends t → Kept s t
kept_declared s t k e = kept_ok s (without_element s k) t (record { functions = refl; instances = refl; globals = refl; nesting = refl; deepest = refl; memories = refl }) e

kept_element : (v : CoreSpaces) (names : Names) (s t : StoreState) (k : ℕ) (d : Elements) → apply_element v names s k d ≡ ends t → Kept s t
kept_element v names s t k (elements.ActiveFuncs offset funcs) e = kept_refs s t k (offset_in (constant names offset)) (slice_get v.tables 0) e
kept_element v names s t k (elements.PassiveFuncs funcs) e = kept_ok s s t (kept_same s) e
kept_element v names s t k (elements.ActiveFuncsAt table offset funcs) e = kept_refs s t k (offset_in (constant names offset)) (slice_get v.tables table) e
kept_element v names s t k (elements.DeclaredFuncs funcs) e = kept_declared s t k e
kept_element v names s t k (elements.ActiveExprs offset exprs) e = kept_refs s t k (offset_in (constant names offset)) (slice_get v.tables 0) e
kept_element v names s t k (elements.PassiveExprs ty exprs) e = kept_ok s s t (kept_same s) e
kept_element v names s t k (elements.ActiveExprsAt table offset ty exprs) e = kept_refs s t k (offset_in (constant names offset)) (slice_get v.tables table) e
kept_element v names s t k (elements.DeclaredExprs ty exprs) e = kept_declared s t k e

pub kept_elements : (v : CoreSpaces) (names : Names) (ds : List Elements) (s t : StoreState) (k : ℕ) → apply_elements v names s k ds ≡ ends t → Kept s t
kept_elements v names [] s t k e = kept_ok s s t (kept_same s) e
kept_elements v names (d ∷ ds) s t k e =
    kept_then s t (apply_element v names s k d) (λ u. apply_elements v names u (k + 1) ds) (λ u first. kept_element v names s u k d first) (λ u rest. kept_elements v names ds u t (k + 1) rest) e

-- ---- data segments

kept_bytes : (s t : StoreState) (k at : ℕ) (o : Option ℕ) → write_segment s k o at ≡ ends t → Kept s t
kept_bytes s t k at None e = kept_ok s s t (kept_same s) e
kept_bytes s t k at (Some memory) e = by_test (nat_le (at + length (segment_at s k)) (length (memory_at s memory).bytes)) e
  where
    by_test : (b : Bool) → (if b then Ok (without_segment (with_bytes s memory at (segment_at s k)) k) else Err s) ≡ ends t → Kept s t
    by_test true e =
        kept_ok s (without_segment (with_bytes s memory at (segment_at s k)) k) t (record { functions = refl; instances = refl; globals = refl; nesting = refl; deepest = refl; memories = length-set s.memories memory _ }) e
    by_test false e = absurd (cc)

kept_data : (v : CoreSpaces) (names : Names) (s t : StoreState) (k : ℕ) (d : Data) → apply_data v names s k d ≡ ends t → Kept s t
kept_data v names s t k (data_of.Active offset bytes) e = kept_bytes s t k (offset_in (constant names offset)) (slice_get v.memories 0) e
kept_data v names s t k (data_of.Passive bytes) e = kept_ok s s t (kept_same s) e
kept_data v names s t k (data_of.ActiveAt memory offset bytes) e = kept_bytes s t k (offset_in (constant names offset)) (slice_get v.memories memory) e

pub kept_segments : (v : CoreSpaces) (names : Names) (ds : List Data) (s t : StoreState) (k : ℕ) → apply_segments v names s k ds ≡ ends t → Kept s t
kept_segments v names [] s t k e = kept_ok s s t (kept_same s) e
kept_segments v names (d ∷ ds) s t k e =
    kept_then s t (apply_data v names s k d) (λ u. apply_segments v names u (k + 1) ds) (λ u first. kept_data v names s u k d first) (λ u rest. kept_segments v names ds u t (k + 1) rest) e
