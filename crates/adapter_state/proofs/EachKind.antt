-- Lists that are made kind by kind.
use Rattle.std.proofs.Common.{◌≡◌, ℕ, zero, suc, ◌+◌, ◌<◌, ◌≤◌, List, [], ◌∷◌, ◌++◌, Bool, true, false, Option, Some, None, All, length, drop, refl, sym, ap, ◌∙◌, subst, arith, append_assoc, append-nil, length-append, drop-cons}
use Rattle.std.specs.Prelude.{slice_get, slice_index_or, codes}
use Rattle.std.proofs.lemmas.List.Elements.{All-nil, All-append}
use Rattle.std.proofs.lemmas.Option.{slice_get_within, get_or_from_slice_get}
use Rattle.wasm_ast.specs.declared.module.Import.{Import}
use Rattle.core_validate.specs.Spaces.{imported_functions, imported_memories, imported_globals}
use Rattle.adapter_code.specs.declared.layout.Layout.{Layout}
use Rattle.adapter_compile.specs.Instructions.{call_at}
use Rattle.adapter_state.specs.declared.parts.Presence.{Presence}
use Rattle.adapter_state.specs.declared.parts.Presence.TheVariants.{Absent, Own, Host}
use Rattle.adapter_state.specs.declared.parts.Posts.{Posts}
use Rattle.adapter_state.specs.State.{each_kind, drop_import, drop_call, hosts, drop_calls, destructor_of, post_function, posts_of}

-- what is left at a place of a list
pub left_at : {A : Type 0} → (xs : List A) (i j : ℕ) (x : A) → slice_get xs i ≡ Some x → j ≡ i + 1 → drop i xs ≡ x ∷ drop j xs
left_at xs i j x is next =
    let same : suc i ≡ j = omega (arith, next) in
    drop-cons xs i x (slice_get_within xs i x is) ∙ ap (λ y. y ∷ drop (suc i) xs) (get_or_from_slice_get xs i x x is) ∙ ap (λ n. x ∷ drop n xs) same

module _ {A : Type 0} (f : ℕ → Presence → List A) where
  -- one kind more
  pub each_step : (ps : List Presence) (i j kind : ℕ) (p : Presence) (xs ys all : List A) → slice_get ps i ≡ Some p → j ≡ i + 1 → ys ≡ xs ++ f kind p →
      xs ++ each_kind f kind (drop i ps) ≡ all → ys ++ each_kind f (suc kind) (drop j ps) ≡ all
  each_step ps i j kind p xs ys all is next more so_far =
      ap (λ l. l ++ each_kind f (suc kind) (drop j ps)) more ∙ append_assoc xs (f kind p) (each_kind f (suc kind) (drop j ps))
      ∙ ap (λ l. xs ++ each_kind f kind l) (sym (left_at ps i j p is next)) ∙ so_far

  pub each_end : (ps : List Presence) (i kind : ℕ) (xs all : List A) → drop i ps ≡ [] → xs ++ each_kind f kind (drop i ps) ≡ all → xs ≡ all
  each_end ps i kind xs all none so_far = sym (append-nil xs) ∙ ap (λ l. xs ++ each_kind f kind l) (sym none) ∙ so_far

  pub each_length : (kind : ℕ) (ps : List Presence) → ((k : ℕ) (p : Presence) → length (f k p) ≤ 1) → length (each_kind f kind ps) ≤ length ps
  each_length kind [] few = omega arith
  each_length kind (p ∷ ps) few = omega (arith, few kind p, each_length (suc kind) ps few, length-append (f kind p) (each_kind f (suc kind) ps))

  pub each_all : (P : A → Type 0) (bound kind : ℕ) (ps : List Presence) → kind + length ps ≤ bound → ((k : ℕ) (p : Presence) → k < bound → All P (f k p)) → All P (each_kind f kind ps)
  each_all P bound kind [] le each = All-nil P
  each_all P bound kind (p ∷ ps) le each = All-append P (f kind p) (each_kind f (suc kind) ps) (each kind p (omega (arith, le))) (each_all P bound (suc kind) ps (omega (arith, le)) each)

pub one_import : (k : ℕ) (p : Presence) → length (drop_import k p) ≤ 1
one_import k Absent = omega arith
one_import k Own = omega arith
one_import k Host = omega arith

pub one_destructor : (kinds : List Presence) (l : Layout) (k : ℕ) (p : Presence) → length (destructor_of kinds l k p) ≤ 1
one_destructor kinds l k Absent = omega arith
one_destructor kinds l k Own = omega arith
one_destructor kinds l k Host = omega arith

post_most : (l : Layout) (there : Bool) (name : List ℕ) (ty : ℕ) → length (post_function l there name ty) ≤ 1
post_most l true name ty = omega arith
post_most l false name ty = omega arith

pub three_posts : (l : Layout) (posts : Posts) → length (posts_of l posts) ≤ 3
three_posts l posts =
    let a = post_function l posts.bare (codes "post") 2 in
    let b = post_function l posts.narrow (codes "post-i32") 0 in
    let d = post_function l posts.broad (codes "post-i64") 3 in
    omega (arith, length-append a (b ++ d), length-append b d, post_most l posts.bare (codes "post") 2, post_most l posts.narrow (codes "post-i32") 0, post_most l posts.broad (codes "post-i64") 3)

-- ---- the functions that are imported

pub all_imported : (k : ℕ) (ps : List Presence) → length (imported_functions (each_kind drop_import k ps)) ≡ length (each_kind drop_import k ps)
all_imported k [] = refl
all_imported k (Absent ∷ ps) = all_imported (suc k) ps
all_imported k (Own ∷ ps) = all_imported (suc k) ps
all_imported k (Host ∷ ps) = ap suc (all_imported (suc k) ps)

pub no_memories : (k : ℕ) (ps : List Presence) → imported_memories (each_kind drop_import k ps) ≡ []
no_memories k [] = refl
no_memories k (Absent ∷ ps) = no_memories (suc k) ps
no_memories k (Own ∷ ps) = no_memories (suc k) ps
no_memories k (Host ∷ ps) = no_memories (suc k) ps

pub no_globals : (k : ℕ) (ps : List Presence) → imported_globals (each_kind drop_import k ps) ≡ []
no_globals k [] = refl
no_globals k (Absent ∷ ps) = no_globals (suc k) ps
no_globals k (Own ∷ ps) = no_globals (suc k) ps
no_globals k (Host ∷ ps) = no_globals (suc k) ps

pub none_at : (kind : ℕ) → call_at [] kind ≡ None
none_at zero = refl
none_at (suc kind) = refl

-- a kind's call leads to a function that was imported
pub calls_lead : (at k : ℕ) (ps : List Presence) (kind f : ℕ) → call_at (drop_calls at ps) kind ≡ Some f → (j : ℕ) × (f ≡ at + j) × (slice_get (imported_functions (each_kind drop_import k ps)) j ≡ Some 0)
calls_lead at k [] kind f e = let never = none_at kind in absurd (cc)
calls_lead at k (Absent ∷ ps) zero f e = absurd (cc)
calls_lead at k (Absent ∷ ps) (suc kind) f e = let r = calls_lead (at + 0) (suc k) ps kind f e in (r.0, omega (arith, r.1), r.2)
calls_lead at k (Own ∷ ps) zero f e = absurd (cc)
calls_lead at k (Own ∷ ps) (suc kind) f e = let r = calls_lead (at + 0) (suc k) ps kind f e in (r.0, omega (arith, r.1), r.2)
calls_lead at k (Host ∷ ps) zero f e =
    let same : at ≡ f = cc in
    (0, omega (arith, same), refl)
calls_lead at k (Host ∷ ps) (suc kind) f e = let r = calls_lead (at + 1) (suc k) ps kind f e in (suc r.0, omega (arith, r.1), r.2)
