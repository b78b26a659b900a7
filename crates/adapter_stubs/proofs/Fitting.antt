-- The parts of the stubs module fit each other, so it is valid.
use Rattle.std.proofs.Common.{◌≡◌, ◌≢◌, ℕ, suc, ◌+◌, ◌<◌, ◌≤◌, ◌^◌, List, [], ◌∷◌, ◌++◌, Some, All, map, length, drop, refl, sym, ap, ◌∙◌, subst, arith, length-append}
use Rattle.std.specs.Prelude.{slice_get}
use Rattle.std.specs.Option.{option_and_then}
use Rattle.std.specs.Fmt.{decimal}
use Rattle.std.proofs.lemmas.Fmt.{decimal_injective}
use Rattle.std.proofs.lemmas.List.{length-drop}
use Rattle.std.proofs.lemmas.List.Elements.{All-nil, All-cons, All-append, All-head, All-tail, All-weaker}
use Rattle.wasm_ast.specs.declared.module.CoreFunc.{CoreFunc}
use Rattle.wasm_ast.specs.declared.module.Import.{Import}
use Rattle.wasm_ast.specs.declared.module.Export.{Export}
use Rattle.core_body.specs.Context.{Context, function_type}
use Rattle.core_body.specs.Typing.{operands}
use Rattle.core_body.specs.Locals.{spread}
use Rattle.core_body.specs.Views.{in_body}
use Rattle.core_validate.specs.Spaces.{imported_functions, imported_memories, context}
use Rattle.core_validate.specs.Validity.{IsValidModule}
use Rattle.adapter_code.specs.declared.layout.Layout.{Layout}
use Rattle.adapter_code.specs.Layout.{Fits as FitsPages}
use Rattle.adapter_compile.specs.declared.calls.HandleCalls.{HandleCalls}
use Rattle.adapter_compile.specs.Instructions.{call_at}
use Rattle.adapter_compile.specs.Handles.{makes_type, drops_type}
use Rattle.adapter_compile.specs.Does.{declared_of}
use Rattle.adapter_transfer.specs.Valid.{HasFunctions}
use Rattle.adapter_transfer.proofs.ValidPieces.{whole_body}
use Rattle.adapter_transfer.proofs.Functions.{sum_declared, get_front, get_back}
use Rattle.adapter_transfer.specs.declared.module.Defined.{Defined}
use Rattle.adapter_transfer.specs.Module.{exports_from}
use Rattle.adapter_transfer.specs.ModuleValid.{AreDistinct, AreLimits, ImportFits, GlobalFits, SegmentFits, ExportFits, FunctionFits, Fits, names_of}
use Rattle.adapter_transfer.proofs.Whole.{are_valid}
use Rattle.adapter_state.specs.declared.parts.Presence.{Presence}
use Rattle.adapter_state.specs.declared.parts.Presence.TheVariants.{Absent, Own, Host}
use Rattle.adapter_state.specs.State.{each_kind, drop_import, drop_calls}
use Rattle.adapter_state.proofs.EachKind.{each_all, all_imported, calls_lead}
use Rattle.adapter_state.proofs.Naming.{names_exported}
use Rattle.adapter_state.proofs.Fitting.{pages_fit}
use Rattle.adapter_stubs.specs.declared.stub.HostFunc.{HostFunc}
use Rattle.adapter_stubs.specs.declared.stub.Stub.{Stub}
use Rattle.adapter_stubs.specs.Widths.{stub_widths}
use Rattle.adapter_stubs.specs.Bodies.{stub_code, counters_of, IsStub}
use Rattle.adapter_stubs.specs.Stubs.{new_import, new_calls, memory_import, realloc_import, first_drop, calls_in, host_import, host_type, asked, host_imports, host_types, stub_types, stub_function, stub_functions, stubs_types, stubs_imports, first_host, stubs_parts, stubs_of, AreStubs}
use Rattle.adapter_stubs.proofs.Locals.{function_locals}
use Rattle.adapter_stubs.proofs.Pieces.{stub_piece}
use Rattle.adapter_stubs.proofs.Importing.{news_lead, host_one, type_one, hosts_split, hosts_fit, all_news, functions_are, memories_are, counted}

-- ---- names

record IsPlace (from bound : ℕ) (n : List ℕ) : Type 0 where
  place : ℕ
  least : from ≤ place
  most : place < bound
  is : n ≡ decimal place

abbrev given : List Defined → List (List ℕ)
given ds = map (λ (d : Defined). d.name) ds

all_places : (calls : HandleCalls) (bound place at ty : ℕ) (ss : List Stub) → place + length ss ≤ bound → All (IsPlace place bound) (given (stub_functions calls place at ty ss))
all_places calls bound place at ty [] le = All-nil (IsPlace place bound)
all_places calls bound place at ty (s ∷ ss) le =
    All-cons (IsPlace place bound) (decimal place) _ (record { place = place; least = omega arith; most = omega (arith, le); is = refl })
    (All-weaker (IsPlace (suc place) bound) (IsPlace place bound) (λ n p. let least = p.least in record { place = p.place; least = omega (arith, least); most = p.most; is = p.is }) _ (all_places calls bound (suc place) (at + asked s.host) (suc ty) ss (omega (arith, le))))

places_distinct : (calls : HandleCalls) (place at ty : ℕ) (ss : List Stub) → place + length ss < 2 ^ 32 → AreDistinct (given (stub_functions calls place at ty ss))
places_distinct calls place at ty [] lt = tt
places_distinct calls place at ty (s ∷ ss) lt = (
  All-weaker (IsPlace (suc place) (2 ^ 32)) (λ n. decimal place ≢ n)
      (λ n p e.
      let least = p.least in
      let most = p.most in
      let same = decimal_injective place p.place (omega (arith, lt)) (omega (arith, most)) (e ∙ p.is) in
      absurd (omega (arith, same, least)))
      _ (all_places calls (2 ^ 32) (suc place) (at + asked s.host) (suc ty) ss (omega (arith, lt))),
  places_distinct calls (suc place) (at + asked s.host) (suc ty) ss (omega (arith, lt)),
)

-- ---- functions

stub_fits : (c : Context) (calls : HandleCalls) (place at ty : ℕ) (s : Stub) → IsStub s → HasFunctions c calls → slice_get c.types ty ≡ Some s.flat → ((h : HostFunc) → s.host ≡ Some h → function_type c at ≡ Some h.flat) → FunctionFits c (stub_function calls place at ty s)
stub_fits c calls place at ty s is has type host =
    let locals = s.flat.params ++ spread (declared_of (drop (length s.flat.params) (stub_widths s)) (counters_of s)) in
    let inner = in_body c locals s.flat.results in (
      s.flat,
      type,
      record {
        few =
            let sum = sum_declared (drop (length s.flat.params) (stub_widths s)) (counters_of s) in
            let long = length-drop (length s.flat.params) (stub_widths s) in
            omega (arith, sum, long, is.few);
        valid = λ rule. whole_body c locals s.flat.results (stub_code calls at s)
            (stub_piece inner s calls at is (function_locals s is.params) (record { memory = has.memory; makes = has.makes; drops = has.drops }) (Some (operands s.flat.results) ∷ []) host) rule;
      },
    )

all_fit : (c : Context) (calls : HandleCalls) (place at ty t : ℕ) (ss : List Stub) → All IsStub ss → HasFunctions c calls → ((k : ℕ) (f : CoreFunc) → slice_get (stub_types ss) k ≡ Some f → slice_get c.types (ty + k) ≡ Some f) →
    ((k n : ℕ) → slice_get (imported_functions (host_imports t ss)) k ≡ Some n → slice_get c.functions (at + k) ≡ Some n) → ((k : ℕ) (f : CoreFunc) → slice_get (host_types ss) k ≡ Some f → slice_get c.types (t + k) ≡ Some f) → All (FunctionFits c) (stub_functions calls place at ty ss)
all_fit c calls place at ty t [] are has own functions types = All-nil (FunctionFits c)
all_fit c calls place at ty t (s ∷ ss) are has own functions types =
    let here : ty + 0 ≡ ty = omega arith in
    let n = asked s.host in
    All-cons (FunctionFits c) (stub_function calls place at ty s) (stub_functions calls (suc place) (at + n) (suc ty) ss)
    (stub_fits c calls place at ty s (All-head IsStub s ss are) has (ap (slice_get c.types) (sym here) ∙ own 0 s.flat refl) host)
    (all_fit c calls (suc place) (at + n) (suc ty) (t + n) ss (All-tail IsStub s ss are) has
    (λ k f is. let next : suc ty + k ≡ ty + suc k = omega arith in ap (slice_get c.types) next ∙ own (suc k) f is)
    (λ k m is.
    let next : at + n + k ≡ at + (n + k) = omega arith in
    let one = host_one t s.host in
    ap (slice_get c.functions) next ∙ functions (n + k) m (ap (λ l. slice_get l (n + k)) (hosts_split t s ss) ∙ get_back (imported_functions (host_import t s.host)) (imported_functions (host_imports (t + n) ss)) k (n + k) (omega (arith, one)) ∙ is))
    (λ k f is.
    let next : t + n + k ≡ t + (n + k) = omega arith in
    let one = type_one s.host in
    ap (slice_get c.types) next ∙ types (n + k) f (get_back (host_type s.host) (host_types ss) k (n + k) (omega (arith, one)) ∙ is)))
  where
    host : (h : HostFunc) → s.host ≡ Some h → function_type c at ≡ Some h.flat
    host h e =
        let none_at : at ≡ at + 0 = omega arith in
        let none_t : t ≡ t + 0 = omega arith in
        let index = ap (λ l. slice_get l 0) (hosts_split t s ss) ∙ ap (λ x. slice_get (imported_functions (host_import t x) ++ imported_functions (host_imports (t + asked s.host) ss)) 0) e in
        let type = ap (λ x. slice_get (host_type x ++ host_types ss) 0) e in
        ap (λ f. option_and_then (λ i. slice_get c.types i) f) (ap (slice_get c.functions) none_at ∙ functions 0 t index) ∙ ap (slice_get c.types) none_t ∙ types 0 h.flat type

-- ---- the module

new_fits : (n : ℕ) → 2 < n → (k : ℕ) (p : Presence) → k < 14 → All (λ (i : Import). ImportFits n i.item) (new_import k p)
new_fits n lt k Absent le = All-nil (λ (i : Import). ImportFits n i.item)
new_fits n lt k Own le = All-cons (λ (i : Import). ImportFits n i.item) _ [] lt (All-nil (λ (i : Import). ImportFits n i.item))
new_fits n lt k Host le = All-cons (λ (i : Import). ImportFits n i.item) _ [] lt (All-nil (λ (i : Import). ImportFits n i.item))

drop_fits : (n : ℕ) → 2 < n → (k : ℕ) (p : Presence) → k < 14 → All (λ (i : Import). ImportFits n i.item) (drop_import k p)
drop_fits n lt k Absent le = All-nil (λ (i : Import). ImportFits n i.item)
drop_fits n lt k Own le = All-nil (λ (i : Import). ImportFits n i.item)
drop_fits n lt k Host le = All-cons (λ (i : Import). ImportFits n i.item) _ [] (omega (arith, lt)) (All-nil (λ (i : Import). ImportFits n i.item))

module _ (kinds : List Presence) (l : Layout) (stubs : List Stub) (few : length kinds ≤ 14) (fits : FitsPages l) (are : AreStubs stubs) where
  abbrev c : Context
  c = context (stubs_of kinds l stubs)

  abbrev news : List ℕ
  news = imported_functions (each_kind new_import 0 kinds)

  abbrev drops : List ℕ
  drops = imported_functions (each_kind drop_import 0 kinds)

  abbrev hosted : List ℕ
  hosted = imported_functions (host_imports 3 stubs)

  abbrev types : ℕ
  types = length (stubs_types stubs)

  abbrev functions : List Defined
  functions = stub_functions (calls_in kinds) 0 (first_host kinds) (3 + length (host_types stubs)) stubs

  -- a function that is imported, by its index
  imported_at : (k n : ℕ) → slice_get (1 ∷ (news ++ (drops ++ hosted))) k ≡ Some n → slice_get c.functions k ≡ Some n
  imported_at k n e = get_front (imported_functions (stubs_imports kinds l stubs)) (map (λ (d : Defined). d.ty) functions) k n (ap (λ fs. slice_get fs k) (functions_are kinds l stubs) ∙ e)

  has_memory : 0 < c.memories
  has_memory =
      let one = memories_are kinds l stubs in
      let all = length-append (imported_memories (stubs_imports kinds l stubs)) [] in
      omega (arith, one, all)

  has_makes : (kind f : ℕ) → call_at (new_calls 1 kinds) kind ≡ Some f → function_type c f ≡ Some makes_type
  has_makes kind f e =
      let r = news_lead 1 0 kinds kind f e in
      let same : f ≡ suc r.0 = omega (arith, r.1) in
      ap (function_type c) same ∙ ap (option_and_then (λ t. slice_get c.types t)) (imported_at (suc r.0) 2 (get_front news (drops ++ hosted) r.0 2 r.2))

  has_drops : (kind f : ℕ) → call_at (drop_calls (first_drop kinds) kinds) kind ≡ Some f → function_type c f ≡ Some drops_type
  has_drops kind f e =
      let r = calls_lead (first_drop kinds) 0 kinds kind f e in
      let long = all_news 0 kinds in
      let same : f ≡ suc (length news + r.0) = omega (arith, r.1, long) in
      ap (function_type c) same
      ∙ ap (option_and_then (λ t. slice_get c.types t)) (imported_at (suc (length news + r.0)) 0 (get_back news (drops ++ hosted) r.0 (length news + r.0) refl ∙ get_front drops hosted r.0 0 r.2))

  has_functions : HasFunctions c (calls_in kinds)
  has_functions = record { memory = has_memory; makes = has_makes; drops = has_drops }

  host_at : (k n : ℕ) → slice_get hosted k ≡ Some n → slice_get c.functions (first_host kinds + k) ≡ Some n
  host_at k n e =
      let a = all_news 0 kinds in
      let b = all_imported 0 kinds in
      let same : first_host kinds + k ≡ suc (length news + (length drops + k)) = omega (arith, a, b) in
      ap (slice_get c.functions) same
      ∙ imported_at (suc (length news + (length drops + k))) n (get_back news (drops ++ hosted) (length drops + k) (length news + (length drops + k)) refl ∙ get_back drops hosted k (length drops + k) refl ∙ e)

  host_type_at : (k : ℕ) (f : CoreFunc) → slice_get (host_types stubs) k ≡ Some f → slice_get c.types (3 + k) ≡ Some f
  host_type_at k f e =
      let same : 3 + k ≡ suc (suc (suc k)) = omega arith in
      ap (slice_get c.types) same ∙ get_front (host_types stubs) (stub_types stubs) k f e

  own_type_at : (k : ℕ) (f : CoreFunc) → slice_get (stub_types stubs) k ≡ Some f → slice_get c.types (3 + length (host_types stubs) + k) ≡ Some f
  own_type_at k f e =
      let same : 3 + length (host_types stubs) + k ≡ suc (suc (suc (length (host_types stubs) + k))) = omega arith in
      ap (slice_get c.types) same ∙ get_back (host_types stubs) (stub_types stubs) k (length (host_types stubs) + k) refl ∙ e

  functions_fit : All (FunctionFits c) functions
  functions_fit = all_fit c (calls_in kinds) 0 (first_host kinds) (3 + length (host_types stubs)) 3 stubs are.each has_functions own_type_at host_at host_type_at

  some_types : 2 < types
  some_types = omega arith

  imports_fit : All (λ (i : Import). ImportFits types i.item) (stubs_imports kinds l stubs)
  imports_fit =
      let P : Import → Type 0 = λ i. ImportFits types i.item in
      let room = length-append (host_types stubs) (stub_types stubs) in
      let behind = each_kind new_import 0 kinds ++ (each_kind drop_import 0 kinds ++ host_imports 3 stubs) in
      All-cons P (memory_import l) (realloc_import ∷ behind) (pages_fit l fits, refl) (All-cons P realloc_import behind (omega (arith, some_types))
      (All-append P (each_kind new_import 0 kinds) (each_kind drop_import 0 kinds ++ host_imports 3 stubs) (each_all new_import P 14 0 kinds (omega (arith, few)) (new_fits types some_types))
      (All-append P (each_kind drop_import 0 kinds) (host_imports 3 stubs) (each_all drop_import P 14 0 kinds (omega (arith, few)) (drop_fits types some_types)) (hosts_fit types 3 stubs (omega (arith, room))))))

  names_fit : AreDistinct (names_of (exports_from (first_host kinds + length (host_types stubs)) functions))
  names_fit =
      let P : List (List ℕ) → Type 0 = λ ns. AreDistinct ns in
      subst P (sym (names_exported (first_host kinds + length (host_types stubs)) functions)) (places_distinct (calls_in kinds) 0 (first_host kinds) (3 + length (host_types stubs)) stubs (let lt = are.few in omega (arith, lt)))

  parts_fit : Fits (stubs_parts kinds l stubs) functions
  parts_fit = record {
    imports = imports_fit;
    imported = counted kinds l stubs;
    single = let one = memories_are kinds l stubs in omega (arith, one);
    memories = All-nil AreLimits;
    globals = All-nil GlobalFits;
    exports = All-nil (λ (e : Export). ExportFits (length (imported_memories (stubs_imports kinds l stubs)) + 0) e.item);
    names = names_fit;
    functions = functions_fit;
    segments = All-nil SegmentFits;
    hold = λ some. absurd (omega (arith, some));
  }

  pub stubs_valid : IsValidModule (stubs_of kinds l stubs)
  stubs_valid = are_valid (stubs_parts kinds l stubs) functions parts_fit
