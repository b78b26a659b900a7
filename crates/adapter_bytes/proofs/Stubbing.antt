-- What the functions of the stubs module do.
use Rattle.std.proofs.Common.{◌≡◌, ℕ, zero, suc, ◌+◌, List, [], ◌∷◌, ◌++◌, Option, Some, None, All, length, take, refl, ap, ◌∙◌, subst, arith, length-append}
use Rattle.std.specs.Prelude.{slice_get, unwrap_or}
use Rattle.std.specs.Option.{option_and_then, option_map}
use Rattle.std.specs.List.{flat_map}
use Rattle.std.proofs.lemmas.Grind.{flat_map-append}
use Rattle.std.proofs.lemmas.List.Elements.{All-head, All-tail}
use Rattle.std.proofs.lemmas.Option.{slice_get-map}
use Rattle.wasm_ast.specs.declared.module.Module.{Module}
use Rattle.core_body.specs.Context.{arrow}
use Rattle.core_store.specs.declared.value.CoreSpaces.{CoreSpaces}
use Rattle.core_store.specs.declared.value.StoreFunc.{StoreFunc}
use Rattle.core_store.specs.declared.value.StoreFunc.TheVariants.{Inside}
use Rattle.core_store.specs.Locals.{each_local}
use Rattle.core_store.specs.State.{State as StoreState}
use Rattle.core_store.specs.Config.{spaces_of}
use Rattle.core_validate.specs.Items.{body_type}
use Rattle.core_instance.specs.declared.external.Extern.{Extern}
use Rattle.core_instance.specs.Spaces.{functions_of, memories_of}
use Rattle.adapter_bytes.specs.Bodies.{HasBodies}
use Rattle.adapter_bytes.proofs.Standing.{stands}
use Rattle.adapter_code.specs.declared.layout.Layout.{Layout}
use Rattle.adapter_compile.specs.declared.calls.HandleCalls.{HandleCalls}
use Rattle.adapter_compile.specs.Instructions.{call_at}
use Rattle.adapter_compile.specs.Handles.{Numbers, IsOutside, makes_type, drops_type}
use Rattle.adapter_compile.specs.Does.{Home, IsHome}
use Rattle.adapter_transfer.proofs.Functions.{get_front, get_back}
use Rattle.adapter_transfer.specs.declared.module.Defined.{Defined}
use Rattle.adapter_transfer.specs.Transfer.{Stands}
use Rattle.adapter_state.specs.declared.parts.Presence.{Presence}
use Rattle.adapter_state.specs.State.{drop_calls}
use Rattle.adapter_stubs.specs.declared.stub.HostFunc.{HostFunc}
use Rattle.adapter_stubs.specs.declared.stub.Stub.{Stub}
use Rattle.adapter_stubs.specs.Bodies.{stub_body, IsStub}
use Rattle.adapter_stubs.specs.Stubs.{new_calls, first_drop, first_host, calls_in, host_type, host_types, stub_types, stub_function, stub_functions, stubs_types, stubs_of, asked, AreStubs}
use Rattle.adapter_stubs.specs.Calls.{HasHost}
use Rattle.adapter_stubs.proofs.Calling.{stubs_run}
use Rattle.adapter_stubs.proofs.Importing.{type_one}
use Rattle.adapter_bytes.specs.StateWorks.{Later}
use Rattle.adapter_bytes.specs.StubsWork.{AreGiven, StubsWork, StubsDo}
use Rattle.adapter_bytes.proofs.Placing.{drops_lead}
use Rattle.adapter_bytes.proofs.Importing.{news_lead, news_long, drops_long, hosts_lead}

-- ---- the function of the stub at a place

function_at : (calls : HandleCalls) (place at ty : ℕ) (ss : List Stub) (k : ℕ) (s : Stub) → slice_get ss k ≡ Some s →
    slice_get (stub_functions calls place at ty ss) k ≡ Some (stub_function calls (place + k) (at + length (host_types (take k ss))) (ty + k) s)
function_at calls place at ty [] k s here = absurd (cc)
function_at calls place at ty (r ∷ ss) zero s here =
    let same : r ≡ s = cc in
    let a : place ≡ place + 0 = omega arith in
    let b : at ≡ at + 0 = omega arith in
    let d : ty ≡ ty + 0 = omega arith in
    ap (λ x. Some (stub_function calls place at ty x)) same ∙ ap (λ n. Some (stub_function calls n at ty s)) a ∙ ap (λ n. Some (stub_function calls (place + 0) n ty s)) b ∙ ap (λ n. Some (stub_function calls (place + 0) (at + 0) n s)) d
function_at calls place at ty (r ∷ ss) (suc k) s here =
    let rest = length (host_types (take k ss)) in
    let a : suc place + k ≡ place + suc k = omega arith in
    let b : at + asked r.host + rest ≡ at + length (host_types (r ∷ take k ss)) = omega (arith, length-append (host_type r.host) (host_types (take k ss)), type_one r.host) in
    let d : suc ty + k ≡ ty + suc k = omega arith in
    function_at calls (suc place) (at + asked r.host) (suc ty) ss k s here
    ∙ ap (λ n. Some (stub_function calls n (at + asked r.host + rest) (suc ty + k) s)) a ∙ ap (λ n. Some (stub_function calls (place + suc k) n (suc ty + k) s)) b
    ∙ ap (λ n. Some (stub_function calls (place + suc k) (at + length (host_types (r ∷ take k ss))) n s)) d

type_of : (ss : List Stub) (k : ℕ) (s : Stub) → slice_get ss k ≡ Some s → slice_get (stub_types ss) k ≡ Some s.flat
type_of [] k s here = absurd (cc)
type_of (r ∷ ss) zero s here = let same : r ≡ s = cc in ap (λ (x : Stub). Some x.flat) same
type_of (r ∷ ss) (suc k) s here = type_of ss k s here

one_of : (P : Stub → Type 0) (ss : List Stub) (k : ℕ) (s : Stub) → All P ss → slice_get ss k ≡ Some s → P s
one_of P [] k s all here = absurd (cc)
one_of P (r ∷ ss) zero s all here = let same : r ≡ s = cc in subst P same (All-head P r ss all)
one_of P (r ∷ ss) (suc k) s all here = one_of P ss k s (All-tail P r ss all) here

module _ (kinds : List Presence) (l : Layout) (stubs : List Stub) (numbers : Numbers) (asks : ℕ → ℕ) (s t : StoreState) (memory : ℕ) (imports : List Extern)
    (are : AreStubs stubs) (given : AreGiven numbers asks kinds stubs s memory imports) (has : HasBodies s (stubs_of kinds l stubs) imports t) (u : StoreState) (later : Later t u (length s.instances)) where
  abbrev m : Module
  m = stubs_of kinds l stubs

  abbrev calls : HandleCalls
  calls = calls_in kinds

  abbrev types_before : ℕ
  types_before = 3 + length (host_types stubs)

  abbrev all : List Defined
  all = stub_functions calls 0 (first_host kinds) types_before stubs

  abbrev spaces : CoreSpaces
  spaces = spaces_of t.instances (length s.instances)

  abbrev home : Home
  home = record { spaces = spaces; store = u; memory = memory }

  -- ---- its functions

  abbrev at_of : ℕ → ℕ
  at_of k = first_host kinds + length (host_types (take k stubs))

  stub_stands : (k : ℕ) (stub : Stub) → slice_get stubs k ≡ Some stub → Stands stub.flat (stub_body calls (at_of k) stub) spaces u (length s.functions + k)
  stub_stands k stub here =
      let there = function_at calls 0 (first_host kinds) types_before stubs k stub here in
      let body = slice_get-map (λ (x : Defined). x.body) all k ∙ ap (option_map (λ (x : Defined). x.body)) there in
      let index = slice_get-map (λ (x : Defined). x.ty) all k ∙ ap (option_map (λ (x : Defined). x.ty)) there in
      let behind : types_before + k ≡ suc (suc (suc (length (host_types stubs) + k))) = omega arith in
      let type : slice_get (stubs_types stubs) (types_before + k) ≡ Some stub.flat =
      ap (slice_get (stubs_types stubs)) behind ∙ get_back (host_types stubs) (stub_types stubs) k (length (host_types stubs) + k) refl ∙ type_of stubs k stub here in
      let typed : body_type m k ≡ stub.flat =
      ap (λ o. unwrap_or (option_and_then (λ n. slice_get (stubs_types stubs) n) o) (arrow [] [])) index ∙ ap (λ o. unwrap_or o (arrow [] [])) type in
      record {
        instance = length s.instances;
        function = later.functions (length s.functions + k) _ (has.functions k (stub_body calls (at_of k) stub) body ∙ ap (λ ty. Some (Inside ty (length s.instances) (each_local (stub_body calls (at_of k) stub).locals) (stub_body calls (at_of k) stub).code)) typed);
        own = later.own;
        enters = later.enters;
      }

  -- ---- what it imports

  abbrev N : List ℕ
  N = flat_map functions_of given.news

  abbrev D : List ℕ
  D = flat_map functions_of given.drops

  abbrev H : List ℕ
  H = flat_map functions_of given.hosts

  functions_are : flat_map functions_of imports ≡ given.realloc ∷ (N ++ (D ++ H))
  functions_are =
      ap (flat_map functions_of) given.whole
      ∙ ap (λ fs. given.realloc ∷ fs) (flat_map-append functions_of given.news (given.drops ++ given.hosts) ∙ ap (λ fs. N ++ fs) (flat_map-append functions_of given.drops given.hosts))

  imported : (i place : ℕ) → slice_get (given.realloc ∷ (N ++ (D ++ H))) i ≡ Some place → slice_get spaces.functions i ≡ Some place
  imported i place e =
      ap (λ (v : CoreSpaces). slice_get v.functions i) has.own ∙ get_front (flat_map functions_of imports) _ i place (ap (λ (fs : List ℕ). slice_get fs i) functions_are ∙ e)

  standing : (place : ℕ) (f : StoreFunc) → slice_get s.functions place ≡ Some f → slice_get u.functions place ≡ Some f
  standing place f e = later.functions place f (has.earlier place f e)

  has_makes : (kind f : ℕ) → call_at (new_calls 1 kinds) kind ≡ Some f → IsOutside spaces u.functions f makes_type (numbers.makes kind)
  has_makes kind f e =
      let r = news_lead numbers s.functions 0 kind kinds given.news 1 kind f given.are_news (omega arith) e in
      let behind = r.behind in
      let same : f ≡ suc r.index = omega (arith, behind) in
      (r.place, ap (slice_get spaces.functions) same ∙ imported (suc r.index) r.place (get_front N (D ++ H) r.index r.place r.named), standing r.place _ r.outside)

  has_drops : (kind f : ℕ) → call_at (drop_calls (first_drop kinds) kinds) kind ≡ Some f → IsOutside spaces u.functions f drops_type (numbers.drops kind)
  has_drops kind f e =
      let r = drops_lead numbers s.functions 0 kind kinds given.drops (first_drop kinds) kind f given.are_drops (omega arith) e in
      let behind = r.behind in
      let news = news_long numbers s.functions 0 kinds given.news given.are_news in
      let same : f ≡ suc (length N + r.index) = omega (arith, behind, news) in (
        r.place,
        ap (slice_get spaces.functions) same ∙ imported (suc (length N + r.index)) r.place (get_back N (D ++ H) r.index (length N + r.index) refl ∙ get_front D H r.index r.place r.named),
        standing r.place _ r.outside,
      )

  has_host : (k : ℕ) (stub : Stub) → slice_get stubs k ≡ Some stub → (o : Option HostFunc) → stub.host ≡ o → HasHost asks home (at_of k) o
  has_host k stub here None e = tt
  has_host k stub here (Some h) e =
      let r = hosts_lead asks s.functions stubs given.hosts k stub h given.are_hosts here e in
      let before = length (host_types (take k stubs)) in
      let news = news_long numbers s.functions 0 kinds given.news given.are_news in
      let drops = drops_long numbers s.functions 0 kinds given.drops given.are_drops in
      let same : at_of k ≡ suc (length N + (length D + before)) = omega (arith, news, drops) in (
        r.0,
        ap (slice_get spaces.functions) same
            ∙ imported (suc (length N + (length D + before))) r.0 (get_back N (D ++ H) (length D + before) (length N + (length D + before)) refl ∙ get_back D H before (length D + before) refl ∙ r.1),
        standing r.0 _ r.2,
      )

  memory_there : slice_get spaces.memories 0 ≡ Some memory
  memory_there =
      ap (λ (v : CoreSpaces). slice_get v.memories 0) has.own ∙ get_front (flat_map memories_of imports) _ 0 memory (ap (λ (is : List Extern). slice_get (flat_map memories_of is) 0) given.whole)

  is_home : IsHome calls numbers home
  is_home =
      let there = given.there in
      let memories = has.memories in
      let le = later.memories in
      record { memory = memory_there; within = omega (arith, there, memories, le); hosted = record { makes = has_makes; drops = has_drops } }

  works : StubsWork kinds stubs numbers asks home (length s.functions)
  works k stub here before after state made wide zeros range =
      stubs_run calls numbers asks home (length s.functions + k) (at_of k) stub state made (one_of IsStub stubs k stub are.each here) before after is_home (stub_stands k stub here) (has_host k stub here stub.host refl) wide zeros range

pub stubs_do : StubsDo
stubs_do kinds l stubs numbers asks s t memory imports are enters given made u later =
    works kinds l stubs numbers asks s t memory imports are given (stands s (stubs_of kinds l stubs) imports t enters made) u later
