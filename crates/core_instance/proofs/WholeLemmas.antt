-- Allocation and segments, taken together.
use Rattle.std.proofs.Common.{◌≡◌, ℕ, ◌+◌, ◌-◌, ◌<◌, List, [], ◌∷◌, ◌++◌, length, map, drop, Option, Result, Ok, Err, refl, sym, ap, subst, ◌∙◌, arith}
use Rattle.std.specs.Prelude.{IsErr}
use Rattle.std.specs.List.{All, range_with_len}
use Rattle.std.proofs.lemmas.List.{length-append, length-map}
use Rattle.std.proofs.Math.Seq.{drop-append_seam}
use Rattle.wasm_ast.specs.declared.module.Module.{Module}
use Rattle.wasm_ast.specs.declared.module.Elements.{Elements}
use Rattle.wasm_ast.specs.declared.module.Data.{Data}
use Rattle.core_memory.specs.Linear.{fresh}
use Rattle.core_memory.specs.declared.fault.StoreFault.{StoreFault}
use Rattle.core_memory.specs.declared.fault.StoreFault.TheVariants as faults
use Rattle.core_store.specs.Table.{nulls}
use Rattle.core_store.specs.declared.value.CoreSpaces.{CoreSpaces}
use Rattle.core_store.specs.State.{State}
use Rattle.core_instance.specs.declared.constants.Names.{Names}
use Rattle.core_instance.specs.declared.external.Extern.{Extern}
use Rattle.core_instance.specs.declared.external.CoreInstance.{CoreInstance}
use Rattle.core_instance.specs.declared.external.NamedExtern.{NamedExtern}
use Rattle.core_instance.specs.Spaces.{places_of, IsThere}
use Rattle.core_instance.specs.Constants.{refs_of}
use Rattle.core_instance.specs.Instantiation.{Answers, LeavesInMemory, and_next, bytes_of, names_of, allocated, apply_element, apply_elements, apply_segments, instantiated}
use Rattle.core_instance.proofs.PlaceLemmas.{tables_there, memories_there}
use Rattle.core_instance.proofs.SegmentLemmas.{element_keeps, ok_is}

-- ---- what element segments keep

went_on : (r : Result State State) (f : State → Result State State) (t : State) → and_next r f ≡ Ok t → (u : State) × (r ≡ Ok u) × (f u ≡ Ok t)
went_on (Ok u) f t e = (u, refl, e)
went_on (Err u) f t e = absurd cc

pub elements_keep : (v : CoreSpaces) (names : Names) (s t : State) (k : ℕ) (es : List Elements) → apply_elements v names s k es ≡ Ok t → (t.segments ≡ s.segments) × (t.memories ≡ s.memories)
elements_keep v names s t k [] e = (ap (λ (x : State). x.segments) (sym (ok_is s t e)), ap (λ (x : State). x.memories) (sym (ok_is s t e)))
elements_keep v names s t k (segment ∷ es) e =
    let w = went_on (apply_element v names s k segment) (λ u. apply_elements v names u (k + 1) es) t e in
    let kept = element_keeps v names s w.0 k segment w.1 in
    let rest = elements_keep v names w.0 t (k + 1) es w.2 in
    (rest.0 ∙ kept.segments, rest.1 ∙ kept.memories)

-- ---- where the module's items begin

behind_first : {A B : Type 0} (f : A → B) (xs : List B) (ys : List A) → length (xs ++ map f ys) - length ys ≡ length xs
behind_first f xs ys = omega (arith, length-append xs (map f ys), length-map ys f)

pub tables_in_store : (s : State) (m : Module) (imports : List Extern) (v : CoreSpaces) (a : State) → All (IsThere s) imports → v ≡ places_of s m imports → a ≡ allocated s m imports → All (λ t. t < length a.tables) v.tables
tables_in_store s m imports v a there hv ha =
    let count : length s.tables + length m.tables ≡ length a.tables =
    sym (ap (λ (x : State). length x.tables) ha ∙ (length-append s.tables (map (λ t. nulls t.limits.min t.limits.max) m.tables) ∙ ap (λ (n : ℕ). length s.tables + n) (length-map m.tables (λ t. nulls t.limits.min t.limits.max)))) in
    subst (λ (x : CoreSpaces). All (λ t. t < length a.tables) x.tables) (sym hv) (subst (λ (n : ℕ). All (λ t. t < n) (places_of s m imports).tables) count (tables_there s imports (length m.tables) there))

pub memories_in_store : (s : State) (m : Module) (imports : List Extern) (v : CoreSpaces) (t : State) → All (IsThere s) imports → v ≡ places_of s m imports → t.memories ≡ (allocated s m imports).memories → All (λ k. k < length t.memories) v.memories
memories_in_store s m imports v t there hv ht =
    let count : length s.memories + length m.memories ≡ length t.memories =
    sym (ap length ht ∙ (length-append s.memories (map (λ l. fresh l.min l.max) m.memories) ∙ ap (λ (n : ℕ). length s.memories + n) (length-map m.memories (λ l. fresh l.min l.max)))) in
    subst (λ (x : CoreSpaces). All (λ k. k < length t.memories) x.memories) (sym hv) (subst (λ (n : ℕ). All (λ k. k < n) (places_of s m imports).memories) count (memories_there s imports (length m.memories) there))

pub segments_begin_at : (s : State) (m : Module) (imports : List Extern) (t : State) (ds : List Data) → t.segments ≡ (allocated s m imports).segments → ds ≡ m.segments → length t.segments - length ds ≡ length s.segments
segments_begin_at s m imports t ds ht hd =
    ap (λ (n : ℕ). n - length ds) (ap length ht) ∙ (ap (λ (x : List Data). length (allocated s m imports).segments - length x) hd ∙ behind_first bytes_of s.segments m.segments)

pub segments_in_store : (s : State) (m : Module) (imports : List Extern) (t : State) (ds : List Data) → t.segments ≡ (allocated s m imports).segments → ds ≡ m.segments → drop (length t.segments - length ds) t.segments ≡ map bytes_of ds
segments_in_store s m imports t ds ht hd =
    ap (λ (n : ℕ). drop n t.segments) (segments_begin_at s m imports t ds ht hd)
    ∙ (ap (λ (x : List (List ℕ)). drop (length s.segments) x) ht ∙ (drop-append_seam s.segments (map bytes_of m.segments) ∙ ap (λ (x : List Data). map bytes_of x) (sym hd)))

pub segment_places : (s : State) (m : Module) (imports : List Extern) (v : CoreSpaces) (t : State) (ds : List Data) → v ≡ places_of s m imports → t.segments ≡ (allocated s m imports).segments → ds ≡ m.segments → v.segments ≡ range_with_len (length t.segments - length ds) (length ds)
segment_places s m imports v t ds hv ht hd =
    ap (λ (x : CoreSpaces). x.segments) hv
    ∙ (ap (λ (n : ℕ). range_with_len n (length m.segments)) (sym (segments_begin_at s m imports t ds ht hd)) ∙ ap (λ (x : List Data). range_with_len (length t.segments - length ds) (length x)) (sym hd))

-- ---- what is due

pub elements_due : (s : State) (m : Module) (imports : List Extern) (v : CoreSpaces) (n : Names) (a : State) (es : List Elements) (r : Result State State)
    → v ≡ places_of s m imports → n ≡ names_of s m imports → a ≡ allocated s m imports → es ≡ m.elements
    → apply_elements v n a (length a.elements - length es) es ≡ r → apply_elements (places_of s m imports) (names_of s m imports) (allocated s m imports) (length s.elements) m.elements ≡ r
elements_due s m imports v n a es r hv hn ha he h =
    let P = places_of s m imports in
    let N = names_of s m imports in
    let A = allocated s m imports in
    let one = ap (λ (x : CoreSpaces). apply_elements x n a (length a.elements - length es) es) hv in
    let two = ap (λ (x : Names). apply_elements P x a (length a.elements - length es) es) hn in
    let three = ap (λ (x : State). apply_elements P N x (length x.elements - length es) es) ha in
    let four = ap (λ (x : List Elements). apply_elements P N A (length A.elements - length x) x) he in
    let five = ap (λ (k : ℕ). apply_elements P N A k m.elements) (behind_first (refs_of N) s.elements m.elements) in
    sym (one ∙ (two ∙ (three ∙ (four ∙ five)))) ∙ h

pub segments_due : (s : State) (m : Module) (imports : List Extern) (v : CoreSpaces) (n : Names) (t : State) (ds : List Data) (r : Result State State)
    → v ≡ places_of s m imports → n ≡ names_of s m imports → t.segments ≡ (allocated s m imports).segments → ds ≡ m.segments
    → apply_segments v n t (length t.segments - length ds) ds ≡ r → apply_segments (places_of s m imports) (names_of s m imports) t (length s.segments) m.segments ≡ r
segments_due s m imports v n t ds r hv hn ht hd h =
    let P = places_of s m imports in
    let N = names_of s m imports in
    let one = ap (λ (x : CoreSpaces). apply_segments x n t (length t.segments - length ds) ds) hv in
    let two = ap (λ (x : Names). apply_segments P x t (length t.segments - length ds) ds) hn in
    let three = ap (λ (k : ℕ). apply_segments P N t k ds) (segments_begin_at s m imports t ds ht hd) in
    let four = ap (λ (x : List Data). apply_segments P N t (length s.segments) x) hd in
    sym (one ∙ (two ∙ (three ∙ four))) ∙ h

-- ---- answers

pub whole : (s : State) (m : Module) (imports : List Extern) (u : State) (r : Result State State)
    → apply_elements (places_of s m imports) (names_of s m imports) (allocated s m imports) (length s.elements) m.elements ≡ Ok u
    → apply_segments (places_of s m imports) (names_of s m imports) u (length s.segments) m.segments ≡ r → instantiated s m imports ≡ r
whole s m imports u r he hs = ap (λ (x : Result State State). and_next x (λ t. apply_segments (places_of s m imports) (names_of s m imports) t (length s.segments) m.segments)) he ∙ hs

pub stopped : (s : State) (m : Module) (imports : List Extern) (u : State)
    → apply_elements (places_of s m imports) (names_of s m imports) (allocated s m imports) (length s.elements) m.elements ≡ Err u → instantiated s m imports ≡ Err u
stopped s m imports u he = ap (λ (x : Result State State). and_next x (λ t. apply_segments (places_of s m imports) (names_of s m imports) t (length s.segments) m.segments)) he

pub answers_err : (s : State) (m : Module) (imports : List Extern) (t : State) (r : Result CoreInstance StoreFault) → IsErr r → instantiated s m imports ≡ Err t → Answers s m imports t r
answers_err s m imports t (Ok instance) h e = absurd cc
answers_err s m imports t (Err faults.Trap) h e = e
answers_err s m imports t (Err faults.NoMemory) h e = tt

pub answers_as : (s : State) (m : Module) (imports : List Extern) (one : Result State State) (t : State) (r : Result CoreInstance StoreFault) (fault : StoreFault) → r ≡ Err fault → LeavesInMemory one t (Err fault) → (one ≡ Err t → instantiated s m imports ≡ Err t) → Answers s m imports t r
answers_as s m imports one t (Ok instance) fault is h go = absurd cc
answers_as s m imports one t (Err faults.Trap) faults.Trap is h go = go h
answers_as s m imports one t (Err faults.Trap) faults.NoMemory is h go = absurd cc
answers_as s m imports one t (Err faults.NoMemory) fault is h go = tt

pub instance_is : (number place : ℕ) (exports due : List NamedExtern) (start found : Option ℕ) → number ≡ place → exports ≡ due → start ≡ found
    → ◌≡◌ {A = CoreInstance} (record { number = number; exports = exports; start = start }) (record { number = place; exports = due; start = found })
instance_is number place exports due start found en ee es =
    ap (λ (x : ℕ). record { number = x; exports = exports; start = start }) en
    ∙ (ap (λ (x : List NamedExtern). record { number = place; exports = x; start = start }) ee ∙ ap (λ (x : Option ℕ). record { number = place; exports = due; start = x }) es)
