-- What the functions of the state module do.
use Rattle.std.proofs.Common.{◌≡◌, ◌≢◌, ℕ, suc, ◌+◌, ◌*◌, ◌%◌, ◌<◌, ◌≤◌, ◌^◌, List, [], ◌∷◌, true, Option, Some, None, length, take, refl, sym, ap, ◌∙◌, subst, arith}
use Rattle.std.specs.Prelude.{slice_get, unwrap_or, IfSome}
use Rattle.std.specs.Option.{option_and_then, option_map}
use Rattle.std.specs.List.{flat_map}
use Rattle.std.specs.Int.{w32}
use Rattle.std.proofs.lemmas.Int.{of_z-to_z}
use Rattle.std.proofs.lemmas.Option.{slice_get-map, slice_get_within}
use Rattle.wasm_ast.specs.declared.module.CoreFunc.{CoreFunc}
use Rattle.wasm_ast.specs.declared.module.Module.{Module}
use Rattle.core_body.specs.Context.{arrow}
use Rattle.core_store.specs.declared.value.CoreSpaces.{CoreSpaces}
use Rattle.core_store.specs.declared.value.CoreValue.TheVariants as values
use Rattle.core_store.specs.declared.value.StoreFunc.TheVariants.{Inside}
use Rattle.core_store.specs.Locals.{each_local}
use Rattle.core_memory.specs.Linear.{fresh, written}
use Rattle.core_store.specs.State.{State as StoreState, memory_at}
use Rattle.core_store.specs.Config.{spaces_of}
use Rattle.core_validate.specs.Items.{body_type}
use Rattle.core_instance.specs.declared.external.Extern.{Extern}
use Rattle.core_instance.specs.Spaces.{functions_of, memories_of, globals_of}
use Rattle.core_instance.specs.Constants.{constant, offset_in}
use Rattle.core_instance.specs.Instantiation.{names_of}
use Rattle.adapter_bytes.specs.Bodies.{HasBodies, spaces_in}
use Rattle.adapter_bytes.proofs.Standing.{stands}
use Rattle.adapter_bytes.proofs.Filling.{fill}
use Rattle.adapter_code.specs.declared.layout.Layout.{Layout}
use Rattle.adapter_code.specs.declared.statement.Width.{Width}
use Rattle.adapter_code.specs.declared.statement.Width.TheVariants.{Narrow, Broad}
use Rattle.adapter_code.specs.Layout.{Fits, table_at, image_at, transfer_at, pages_of}
use Rattle.adapter_compile.specs.Instructions.{call_at}
use Rattle.adapter_compile.specs.Handles.{Numbers, drops_type, makes_type, IsOutside}
use Rattle.adapter_compile.specs.Does.{Home, IsHome, IsPlaced, body_of}
use Rattle.adapter_compile.proofs.Called.{compiled}
use Rattle.adapter_transfer.proofs.Functions.{get_front, get_back}
use Rattle.adapter_transfer.specs.declared.module.Defined.{Defined}
use Rattle.adapter_transfer.specs.Transfer.{realloc_code, reset_code, realloc_type, reset_type, Stands, IsUsed}
use Rattle.adapter_transfer.specs.Transfer.{body_of as closed}
use Rattle.adapter_transfer.proofs.Reallocating.{reallocs, put_back}
use Rattle.adapter_state.specs.declared.parts.Presence.{Presence}
use Rattle.adapter_state.specs.declared.parts.Presence.TheVariants.{Absent, Own, Host}
use Rattle.adapter_state.specs.declared.parts.Posts.{Posts}
use Rattle.adapter_state.specs.Destructor.{destroy_widths, routine_of, CanDrop}
use Rattle.adapter_state.specs.State.{each_kind, drop_calls, calls_in, host_kind, realloc_function, free_function, destructor_of, posts_of, state_functions, state_types, constant_code, state_of}
use Rattle.adapter_state.proofs.Destroying.{fine_destructor, destructs}
use Rattle.adapter_state.proofs.EachKind.{none_at}
use Rattle.adapter_bytes.specs.StateWorks.{AreDrops, Later, destructor_at, posts_at, has_post, before_post, DestroysAt, StateWorks, StateDoes}
use Rattle.adapter_bytes.proofs.Opened.{opened}
use Rattle.adapter_bytes.proofs.Placing.{each_at, type_at, post_of, post_here, none_memories, none_globals, drops_lead, can_drop}

module _ (kinds : List Presence) (l : Layout) (image : List ℕ) (posts : Posts) (numbers : Numbers) (s t : StoreState) (imports : List Extern)
    (few : length kinds ≤ 14) (fits : Fits l) (are : AreDrops numbers s.functions 0 kinds imports) (has : HasBodies s (state_of kinds l image posts) imports t) where
  abbrev m : Module
  m = state_of kinds l image posts

  abbrev all : List Defined
  all = state_functions kinds l posts

  abbrev spaces : CoreSpaces
  spaces = spaces_of t.instances (length s.instances)

  module _ (u : StoreState) (later : Later t u (length s.instances)) where
    -- a function by its place among the module's
    stands_at : (i : ℕ) (d : Defined) (ty : CoreFunc) → slice_get all i ≡ Some d → slice_get state_types d.ty ≡ Some ty → Stands ty d.body spaces u (length s.functions + i)
    stands_at i d ty here type =
        let body = slice_get-map (λ (x : Defined). x.body) all i ∙ ap (option_map (λ (x : Defined). x.body)) here in
        let index = slice_get-map (λ (x : Defined). x.ty) all i ∙ ap (option_map (λ (x : Defined). x.ty)) here in
        let typed : body_type m i ≡ ty =
        ap (λ o. unwrap_or (option_and_then (λ n. slice_get state_types n) o) (arrow [] [])) index ∙ ap (λ o. unwrap_or o (arrow [] [])) type in
        record {
          instance = length s.instances;
          function = later.functions (length s.functions + i) _ (has.functions i d.body body ∙ ap (λ f. Some (Inside f (length s.instances) (each_local d.body.locals) d.body.code)) typed);
          own = later.own;
          enters = later.enters;
        }

    realloc_stands : Stands realloc_type (closed (realloc_code l)) spaces u (length s.functions)
    realloc_stands =
        let P : ℕ → Type 0 = λ n. Stands realloc_type (closed (realloc_code l)) spaces u n in
        let same : length s.functions + 0 ≡ length s.functions = omega arith in
        subst P same (stands_at 0 (realloc_function l) realloc_type refl refl)

    abbrev destructors : List Defined
    destructors = each_kind (destructor_of kinds l) 0 kinds

    post_type : (flat : Option Width) → slice_get state_types (type_at flat) ≡ Some (reset_type flat)
    post_type None = refl
    post_type (Some Narrow) = refl
    post_type (Some Broad) = refl

    post_stands : (flat : Option Width) → has_post posts flat ≡ true → Stands (reset_type flat) (closed (reset_code l)) spaces u (length s.functions + (posts_at kinds l + before_post posts flat))
    post_stands flat there =
        let next : posts_at kinds l + before_post posts flat ≡ suc (length destructors + before_post posts flat) = omega arith in
        let here = ap (slice_get all) next ∙ get_back destructors (posts_of l posts) (before_post posts flat) (length destructors + before_post posts flat) refl ∙ post_here l posts flat there in
        stands_at (posts_at kinds l + before_post posts flat) (post_of l flat) (reset_type flat) here (post_type flat)

    free_stands : (kind : ℕ) (p : Presence) (host : Option ℕ) → slice_get kinds kind ≡ Some p → destructor_of kinds l kind p ≡ free_function kinds l kind host ∷ [] →
        Stands drops_type (free_function kinds l kind host).body spaces u (length s.functions + destructor_at kinds l kind)
    free_stands kind p host there one =
        let before = length (each_kind (destructor_of kinds l) 0 (take kind kinds)) in
        let next : destructor_at kinds l kind ≡ suc before = omega arith in
        let inner = each_at (destructor_of kinds l) 0 kind kind kinds p (free_function kinds l kind host) there (omega arith) one in
        let here = ap (slice_get all) next ∙ get_front destructors (posts_of l posts) before (free_function kinds l kind host) inner in
        stands_at (destructor_at kinds l kind) (free_function kinds l kind host) drops_type here refl

    -- ---- what destructors need
    abbrev home : Home
    home = record { spaces = spaces; store = u; memory = length s.memories }

    memory_there : slice_get spaces.memories 0 ≡ Some (length s.memories)
    memory_there =
        let none = ap length (none_memories numbers s.functions 0 kinds imports are) in
        let at : length (flat_map memories_of imports) + 0 ≡ 0 = omega (arith, none) in
        let same : length s.memories + 0 ≡ length s.memories = omega arith in
        ap (λ (v : CoreSpaces). slice_get v.memories 0) has.own ∙ ap (slice_get (spaces_in s m imports).memories) (sym at) ∙ has.memory_named 0 (omega arith) ∙ ap Some same

    no_makes : (kind f : ℕ) → call_at [] kind ≡ Some f → IsOutside spaces u.functions f makes_type (numbers.makes kind)
    no_makes kind f e = let never = none_at kind in absurd (cc)

    has_drops : (kind f : ℕ) → call_at (drop_calls 0 kinds) kind ≡ Some f → IsOutside spaces u.functions f drops_type (numbers.drops kind)
    has_drops kind f e =
        let r = drops_lead numbers s.functions 0 kind kinds imports 0 kind f are (omega arith) e in
        let behind = r.behind in
        let same : f ≡ r.index = omega (arith, behind) in (
          r.place,
          ap (slice_get spaces.functions) same ∙ ap (λ (v : CoreSpaces). slice_get v.functions r.index) has.own ∙ get_front (flat_map functions_of imports) _ r.index r.place r.named,
          later.functions r.place _ (has.earlier r.place _ r.outside),
        )

    is_home : IsHome (calls_in kinds) numbers home
    is_home =
        let memories = has.memories in
        let le = later.memories in
        record { memory = memory_there; within = omega (arith, memories, le); hosted = record { makes = no_makes; drops = has_drops } }

    destroys : (kind : ℕ) (p : Presence) (host : Option ℕ) → slice_get kinds kind ≡ Some p → destructor_of kinds l kind p ≡ free_function kinds l kind host ∷ [] → IfSome host (λ k. k < 14) → CanDrop (calls_in kinds) host →
        DestroysAt host (table_at l kind) numbers home (length s.functions + destructor_at kinds l kind)
    destroys kind p host there one lt can capacity free at e bytes h es made small all_bytes handles table used =
        let st = free_stands kind p host there one in
        let base = table_at l kind in
        let body = body_of 1 destroy_widths (calls_in kinds) (routine_of host base) in
        let placed : IsPlaced 1 destroy_widths body home (length s.functions + destructor_at kinds l kind) = record { instance = st.instance; function = st.function; spaces = st.own; enters = st.enters } in
        destructs host base (calls_in kinds) body (compiled 1 destroy_widths (calls_in kinds) (routine_of host base) (fine_destructor host base lt)) numbers home (length s.functions + destructor_at kinds l kind) capacity free at e bytes h es made can is_home placed small all_bytes handles table used

    destructor_works : (kind : ℕ) (p : Presence) → slice_get kinds kind ≡ Some p → p ≢ Absent → DestroysAt (host_kind kind p) (table_at l kind) numbers home (length s.functions + destructor_at kinds l kind)
    destructor_works kind Absent there some = absurd (some refl)
    destructor_works kind Own there some = destroys kind Own None there refl tt tt
    destructor_works kind Host there some =
        let lt = slice_get_within kinds kind Host there in
        destroys kind Host (Some kind) there refl (omega (arith, lt, few)) (can_drop 0 kind kinds there)

    works : StateWorks kinds l posts numbers spaces u (length s.functions) (length s.memories)
    works = record {
      realloc = λ global at used old old_len align len small rs n. reallocs l fits spaces u (length s.functions) global at realloc_stands used old old_len align len small rs n;
      destructors = destructor_works;
      post_returns = λ flat there global at used v rs n. put_back l flat fits spaces u (length s.functions + (posts_at kinds l + before_post posts flat)) global at (post_stands flat there) used v rs n;
    }

  -- ---- at first
  end_small : transfer_at l < 2 ^ 32
  end_small = omega (arith, fits)

  global_there : slice_get spaces.globals 0 ≡ Some (length s.globals)
  global_there =
      let none = ap length (none_globals numbers s.functions 0 kinds imports are) in
      let at : length (flat_map globals_of imports) + 0 ≡ 0 = omega (arith, none) in
      let same : length s.globals + 0 ≡ length s.globals = omega arith in
      ap (λ (v : CoreSpaces). slice_get v.globals 0) has.own ∙ ap (slice_get (spaces_in s m imports).globals) (sym at) ∙ has.global_named 0 (omega arith) ∙ ap Some same

  global_holds : slice_get t.globals (length s.globals) ≡ Some (values.I32 (transfer_at l))
  global_holds =
      let same : length s.globals ≡ length s.globals + 0 = omega arith in
      let low : transfer_at l % 2 ^ 32 ≡ transfer_at l = omega (arith, end_small) in
      ap (slice_get t.globals) same ∙ has.globals 0 _ refl ∙ ap (λ n. Some (values.I32 n)) (of_z-to_z w32 (transfer_at l % 2 ^ 32) (omega (arith, end_small, low)) ∙ low)

  begins : IsUsed l spaces t (length s.globals) (transfer_at l)
  begins = record { there = global_there; holds = global_holds; whole = omega arith; from = omega arith; to = omega arith }

pub does : StateDoes
does kinds l image posts numbers s t imports few fits enters are made =
    let m = state_of kinds l image posts in
    let has = stands s m imports t enters made in
    let full = fill s m imports t (record { min = pages_of l; max = Some (pages_of l) }) (constant_code (image_at l)) image (record { bare = refl; imported = none_memories numbers s.functions 0 kinds imports are; memory = refl; segment = refl }) made in
    let small : image_at l < 2 ^ 32 = omega (arith, fits) in
    let low : image_at l % 2 ^ 32 ≡ image_at l = omega (arith, small) in
    let at : offset_in (constant (names_of s m imports) (constant_code (image_at l))) ≡ image_at l = of_z-to_z w32 (image_at l % 2 ^ 32) (omega (arith, small, low)) ∙ low in
    let inside : image_at l + length image ≤ 65536 * pages_of l = let fit = full.within in omega (arith, fit, at) in
    record {
      opens = opened l image (memory_at t (length s.memories)) fits inside (full.holds ∙ ap (λ k. written (fresh (pages_of l) (Some (pages_of l))) k image) at);
      begins = begins kinds l image posts numbers s t imports few fits are has;
      works = λ u later. works kinds l image posts numbers s t imports few fits are has u later;
    }
