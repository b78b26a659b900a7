-- No two exports have one name.
use Rattle.std.proofs.Common.{◌≡◌, ◌≢◌, ℕ, zero, suc, ◌+◌, ◌<◌, ◌≤◌, ◌^◌, List, [], ◌∷◌, ◌++◌, Bool, true, false, All, map, length, drop, get_or, refl, sym, ap, ◌∙◌, subst, arith}
use Rattle.std.specs.Prelude.{codes}
use Rattle.std.specs.Fmt.{decimal}
use Rattle.std.proofs.lemmas.Fmt.{decimal_injective}
use Rattle.std.proofs.lemmas.List.{map-append}
use Rattle.std.proofs.lemmas.List.Elements.{All-nil, All-cons, All-head, All-tail, All-append, All-weaker}
use Rattle.wasm_ast.specs.declared.module.Export.{Export}
use Rattle.adapter_code.specs.declared.layout.Layout.{Layout}
use Rattle.adapter_transfer.specs.declared.module.Defined.{Defined}
use Rattle.adapter_transfer.specs.Module.{exports_from}
use Rattle.adapter_transfer.specs.ModuleValid.{AreDistinct, names_of}
use Rattle.adapter_state.specs.declared.parts.Presence.{Presence}
use Rattle.adapter_state.specs.declared.parts.Presence.TheVariants.{Absent, Own, Host}
use Rattle.adapter_state.specs.declared.parts.Posts.{Posts}
use Rattle.adapter_state.specs.State.{each_kind, destructor_of, post_function, posts_of, state_functions}

abbrev Name : Type 0
Name = List ℕ

abbrev given : List Defined → List Name
given ds = map (λ (d : Defined). d.name) ds

pub names_exported : (at : ℕ) (ds : List Defined) → names_of (exports_from at ds) ≡ given ds
names_exported at [] = refl
names_exported at (d ∷ ds) = ap (λ l. d.name ∷ l) (names_exported (suc at) ds)

-- names of two beginnings
abbrev Begins : ℕ → Name → Type 0
Begins b n = get_or n 0 0 ≡ b

other : (a b : ℕ) (m n : Name) → a ≢ b → Begins a m → Begins b n → m ≢ n
other a b m n apart p q e = apart (sym p ∙ ap (λ l. get_or l 0 0) e ∙ q)

others : (a b : ℕ) (m : Name) (ns : List Name) → a ≢ b → Begins a m → All (Begins b) ns → All (λ n. m ≢ n) ns
others a b m ns apart p all = All-weaker (Begins b) (λ n. m ≢ n) (λ n q. other a b m n apart p q) ns all

distinct_both : (a b : ℕ) (xs ys : List Name) → a ≢ b → AreDistinct xs → AreDistinct ys → All (Begins a) xs → All (Begins b) ys → AreDistinct (xs ++ ys)
distinct_both a b [] ys apart p q first second = q
distinct_both a b (x ∷ xs) ys apart (fresh, p) q first second =
    (All-append (λ n. x ≢ n) xs ys fresh (others a b x ys apart (All-head (Begins a) x xs first) second), distinct_both a b xs ys apart p q (All-tail (Begins a) x xs first) second)

-- ---- destructors

abbrev freeing : ℕ → Name
freeing kind = codes "free-" ++ decimal kind

freeing_apart : (i j : ℕ) → i < j → j < 14 → freeing i ≢ freeing j
freeing_apart i j lt le e =
    let small_i : i < 2 ^ 64 = omega (arith, lt, le) in
    let small_j : j < 2 ^ 64 = omega (arith, le) in
    let same = decimal_injective i j small_i small_j (ap (drop 5) e) in
    omega (arith, same, lt)

record IsFreeing (from : ℕ) (n : Name) : Type 0 where
  kind : ℕ
  least : from ≤ kind
  most : kind < 14
  is : n ≡ freeing kind

later : (k : ℕ) (n : Name) → IsFreeing (suc k) n → IsFreeing k n
later k n f = let le = f.least in record { kind = f.kind; least = omega (arith, le); most = f.most; is = f.is }

module _ (kinds : List Presence) (l : Layout) where
  abbrev frees : ℕ → List Presence → List Defined
  frees k ps = each_kind (destructor_of kinds l) k ps

  all_freeing : (k : ℕ) (ps : List Presence) → k + length ps ≤ 14 → All (IsFreeing k) (given (frees k ps))
  all_freeing k [] le = All-nil (IsFreeing k)
  all_freeing k (Absent ∷ ps) le = All-weaker (IsFreeing (suc k)) (IsFreeing k) (later k) (given (frees (suc k) ps)) (all_freeing (suc k) ps (omega (arith, le)))
  all_freeing k (Own ∷ ps) le =
      All-cons (IsFreeing k) (freeing k) (given (frees (suc k) ps)) (record { kind = k; least = omega arith; most = omega (arith, le); is = refl })
      (All-weaker (IsFreeing (suc k)) (IsFreeing k) (later k) (given (frees (suc k) ps)) (all_freeing (suc k) ps (omega (arith, le))))
  all_freeing k (Host ∷ ps) le =
      All-cons (IsFreeing k) (freeing k) (given (frees (suc k) ps)) (record { kind = k; least = omega arith; most = omega (arith, le); is = refl })
      (All-weaker (IsFreeing (suc k)) (IsFreeing k) (later k) (given (frees (suc k) ps)) (all_freeing (suc k) ps (omega (arith, le))))

  fresh : (k : ℕ) (ps : List Presence) → k + suc (length ps) ≤ 14 → All (λ n. freeing k ≢ n) (given (frees (suc k) ps))
  fresh k ps le =
      All-weaker (IsFreeing (suc k)) (λ n. freeing k ≢ n) (λ n f. λ e. freeing_apart k f.kind (let lt = f.least in omega (arith, lt)) f.most (e ∙ f.is)) (given (frees (suc k) ps))
      (all_freeing (suc k) ps (omega (arith, le)))

  frees_distinct : (k : ℕ) (ps : List Presence) → k + length ps ≤ 14 → AreDistinct (given (frees k ps))
  frees_distinct k [] le = tt
  frees_distinct k (Absent ∷ ps) le = frees_distinct (suc k) ps (omega (arith, le))
  frees_distinct k (Own ∷ ps) le = (fresh k ps (omega (arith, le)), frees_distinct (suc k) ps (omega (arith, le)))
  frees_distinct k (Host ∷ ps) le = (fresh k ps (omega (arith, le)), frees_distinct (suc k) ps (omega (arith, le)))

  frees_begin : (k : ℕ) (ps : List Presence) → k + length ps ≤ 14 → All (Begins 102) (given (frees k ps))
  frees_begin k ps le = All-weaker (IsFreeing k) (Begins 102) (λ n f. ap (λ m. get_or m 0 0) f.is) (given (frees k ps)) (all_freeing k ps le)

  -- ---- post-returns
  bare-narrow : codes "post" ≢ codes "post-i32"
  bare-narrow e = let long = ap length e in absurd (omega (arith, long))

  bare-broad : codes "post" ≢ codes "post-i64"
  bare-broad e = let long = ap length e in absurd (omega (arith, long))

  narrow-broad : codes "post-i32" ≢ codes "post-i64"
  narrow-broad e = let sixth = ap (λ n. get_or n 6 0) e in absurd (omega (arith, sixth))

  one_of : (n : Name) (ns : List Name) (m : Name) → m ≢ n → All (λ x. m ≢ x) ns → All (λ x. m ≢ x) (n ∷ ns)
  one_of n ns m p all = All-cons (λ x. m ≢ x) n ns p all

  none : (m : Name) → All (λ x. m ≢ x) []
  none m = All-nil (λ x. m ≢ x)

  abbrev posts_given : Bool → Bool → Bool → List Name
  posts_given bare narrow broad = given (posts_of l (record { bare = bare; narrow = narrow; broad = broad }))

  posts_distinct : (bare narrow broad : Bool) → AreDistinct (posts_given bare narrow broad)
  posts_distinct true true true = (
    one_of (codes "post-i32") (codes "post-i64" ∷ []) (codes "post") bare-narrow (one_of (codes "post-i64") [] (codes "post") bare-broad (none (codes "post"))),
    (one_of (codes "post-i64") [] (codes "post-i32") narrow-broad (none (codes "post-i32")), (none (codes "post-i64"), tt)),
  )
  posts_distinct true true false = (one_of (codes "post-i32") [] (codes "post") bare-narrow (none (codes "post")), (none (codes "post-i32"), tt))
  posts_distinct true false true = (one_of (codes "post-i64") [] (codes "post") bare-broad (none (codes "post")), (none (codes "post-i64"), tt))
  posts_distinct true false false = (none (codes "post"), tt)
  posts_distinct false true true = (one_of (codes "post-i64") [] (codes "post-i32") narrow-broad (none (codes "post-i32")), (none (codes "post-i64"), tt))
  posts_distinct false true false = (none (codes "post-i32"), tt)
  posts_distinct false false true = (none (codes "post-i64"), tt)
  posts_distinct false false false = tt

  begin_one : (n : Name) (ns : List Name) → Begins 112 n → All (Begins 112) ns → All (Begins 112) (n ∷ ns)
  begin_one n ns p all = All-cons (Begins 112) n ns p all

  begin_post : (there : Bool) (name : Name) (ty : ℕ) (rest : List Defined) → Begins 112 name → All (Begins 112) (given rest) → All (Begins 112) (given (post_function l there name ty ++ rest))
  begin_post true name ty rest p all = begin_one name (given rest) p all
  begin_post false name ty rest p all = all

  last_post : (there : Bool) (name : Name) (ty : ℕ) → Begins 112 name → All (Begins 112) (given (post_function l there name ty))
  last_post true name ty p = begin_one name [] p (All-nil (Begins 112))
  last_post false name ty p = All-nil (Begins 112)

  posts_begin : (bare narrow broad : Bool) → All (Begins 112) (posts_given bare narrow broad)
  posts_begin bare narrow broad =
      begin_post bare (codes "post") 2 _ refl (begin_post narrow (codes "post-i32") 0 _ refl (last_post broad (codes "post-i64") 3 refl))

  -- ---- all
  pub distinct_names : (posts : Posts) → length kinds ≤ 14 → (at : ℕ) → AreDistinct (codes "memory" ∷ names_of (exports_from at (state_functions kinds l posts)))
  distinct_names posts le at =
      let F = given (frees 0 kinds) in
      let P = given (posts_of l posts) in
      let some : 0 + length kinds ≤ 14 = omega (arith, le) in
      let begin_f = frees_begin 0 kinds some in
      let begin_p = posts_begin posts.bare posts.narrow posts.broad in
      let behind = distinct_both 102 112 F P (λ e. absurd (omega (arith, e))) (frees_distinct 0 kinds some) (posts_distinct posts.bare posts.narrow posts.broad) begin_f begin_p in
      let from_realloc = All-append (λ n. codes "realloc" ≢ n) F P (others 114 102 (codes "realloc") F (λ e. absurd (omega (arith, e))) refl begin_f) (others 114 112 (codes "realloc") P (λ e. absurd (omega (arith, e))) refl begin_p) in
      let from_memory = All-append (λ n. codes "memory" ≢ n) F P (others 109 102 (codes "memory") F (λ e. absurd (omega (arith, e))) refl begin_f) (others 109 112 (codes "memory") P (λ e. absurd (omega (arith, e))) refl begin_p) in
      let first = All-cons (λ n. codes "memory" ≢ n) (codes "realloc") (F ++ P) (other 109 114 (codes "memory") (codes "realloc") (λ e. absurd (omega (arith, e))) refl refl) from_memory in
      let Q : List Name → Type 0 = λ ns. AreDistinct (codes "memory" ∷ ns) in
      let split = names_exported at (state_functions kinds l posts) ∙ ap (λ ns. codes "realloc" ∷ ns) (map-append (λ (d : Defined). d.name) (frees 0 kinds) (posts_of l posts)) in
      subst Q (sym split) (first, (from_realloc, behind))
