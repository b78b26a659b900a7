-- The functions that the stubs module imports.
use Rattle.std.proofs.Common.{◌≡◌, ℕ, zero, suc, ◌+◌, ◌≤◌, List, [], ◌∷◌, ◌++◌, Option, Some, None, All, length, refl, sym, ap, ◌∙◌, arith, append_assoc, length-append}
use Rattle.std.specs.Prelude.{slice_get}
use Rattle.std.proofs.lemmas.List.Elements.{All-nil, All-cons, All-append}
use Rattle.wasm_ast.specs.declared.module.Import.{Import}
use Rattle.core_validate.specs.Gather.{gather}
use Rattle.core_validate.specs.Spaces.{functions_of, memories_of, imported_functions, imported_memories}
use Rattle.adapter_code.specs.declared.layout.Layout.{Layout}
use Rattle.adapter_compile.specs.Instructions.{call_at}
use Rattle.adapter_transfer.specs.ModuleValid.{ImportFits}
use Rattle.adapter_state.specs.declared.parts.Presence.{Presence}
use Rattle.adapter_state.specs.declared.parts.Presence.TheVariants.{Absent, Own, Host}
use Rattle.adapter_state.specs.State.{each_kind, drop_import}
use Rattle.adapter_state.proofs.EachKind.{all_imported, no_memories, none_at}
use Rattle.adapter_stubs.specs.declared.stub.HostFunc.{HostFunc}
use Rattle.adapter_stubs.specs.declared.stub.Stub.{Stub}
use Rattle.adapter_stubs.specs.Stubs.{new_import, new_calls, host_import, host_type, asked, host_imports, host_types, stubs_imports, first_host}

pub gather_append : {A B : Type 0} (f : A → List B) → (xs ys : List A) → gather f (xs ++ ys) ≡ gather f xs ++ gather f ys
gather_append f [] ys = refl
gather_append f (x ∷ xs) ys = ap (λ l. f x ++ l) (gather_append f xs ys) ∙ sym (append_assoc (f x) (gather f xs) (gather f ys))

-- ---- what makes handles

pub one_new : (k : ℕ) (p : Presence) → length (new_import k p) ≤ 1
one_new k Absent = omega arith
one_new k Own = omega arith
one_new k Host = omega arith

pub all_news : (k : ℕ) (ps : List Presence) → length (imported_functions (each_kind new_import k ps)) ≡ length (each_kind new_import k ps)
all_news k [] = refl
all_news k (Absent ∷ ps) = all_news (suc k) ps
all_news k (Own ∷ ps) = ap suc (all_news (suc k) ps)
all_news k (Host ∷ ps) = ap suc (all_news (suc k) ps)

new_memories : (k : ℕ) (ps : List Presence) → imported_memories (each_kind new_import k ps) ≡ []
new_memories k [] = refl
new_memories k (Absent ∷ ps) = new_memories (suc k) ps
new_memories k (Own ∷ ps) = new_memories (suc k) ps
new_memories k (Host ∷ ps) = new_memories (suc k) ps

pub news_lead : (at k : ℕ) (ps : List Presence) (kind f : ℕ) → call_at (new_calls at ps) kind ≡ Some f → (j : ℕ) × (f ≡ at + j) × (slice_get (imported_functions (each_kind new_import k ps)) j ≡ Some 2)
news_lead at k [] kind f e = let never = none_at kind in absurd (cc)
news_lead at k (Absent ∷ ps) zero f e = absurd (cc)
news_lead at k (Absent ∷ ps) (suc kind) f e = let r = news_lead (at + 0) (suc k) ps kind f e in (r.0, omega (arith, r.1), r.2)
news_lead at k (Own ∷ ps) zero f e =
    let same : at ≡ f = cc in
    (0, omega (arith, same), refl)
news_lead at k (Own ∷ ps) (suc kind) f e = let r = news_lead (at + 1) (suc k) ps kind f e in (suc r.0, omega (arith, r.1), r.2)
news_lead at k (Host ∷ ps) zero f e =
    let same : at ≡ f = cc in
    (0, omega (arith, same), refl)
news_lead at k (Host ∷ ps) (suc kind) f e = let r = news_lead (at + 1) (suc k) ps kind f e in (suc r.0, omega (arith, r.1), r.2)

-- ---- the host's functions

pub host_one : (ty : ℕ) (o : Option HostFunc) → length (imported_functions (host_import ty o)) ≡ asked o
host_one ty None = refl
host_one ty (Some h) = refl

pub type_one : (o : Option HostFunc) → length (host_type o) ≡ asked o
type_one None = refl
type_one (Some h) = refl

host_memories_one : (ty : ℕ) (o : Option HostFunc) → imported_memories (host_import ty o) ≡ []
host_memories_one ty None = refl
host_memories_one ty (Some h) = refl

pub hosts_split : (ty : ℕ) (s : Stub) (ss : List Stub) → imported_functions (host_imports ty (s ∷ ss)) ≡ imported_functions (host_import ty s.host) ++ imported_functions (host_imports (ty + asked s.host) ss)
hosts_split ty s ss = gather_append (λ (i : Import). functions_of i.item) (host_import ty s.host) (host_imports (ty + asked s.host) ss)

pub all_hosts : (ty : ℕ) (ss : List Stub) → length (imported_functions (host_imports ty ss)) ≡ length (host_types ss)
all_hosts ty [] = refl
all_hosts ty (s ∷ ss) =
    let a = ap length (hosts_split ty s ss) ∙ length-append (imported_functions (host_import ty s.host)) (imported_functions (host_imports (ty + asked s.host) ss)) in
    let b = length-append (host_type s.host) (host_types ss) in
    omega (arith, a, b, host_one ty s.host, type_one s.host, all_hosts (ty + asked s.host) ss)

host_memories : (ty : ℕ) (ss : List Stub) → imported_memories (host_imports ty ss) ≡ []
host_memories ty [] = refl
host_memories ty (s ∷ ss) =
    gather_append (λ (i : Import). memories_of i.item) (host_import ty s.host) (host_imports (ty + asked s.host) ss)
    ∙ ap (λ l. l ++ imported_memories (host_imports (ty + asked s.host) ss)) (host_memories_one ty s.host) ∙ host_memories (ty + asked s.host) ss

host_fits : (n ty : ℕ) (o : Option HostFunc) → ty + asked o ≤ n → All (λ (i : Import). ImportFits n i.item) (host_import ty o)
host_fits n ty None le = All-nil (λ (i : Import). ImportFits n i.item)
host_fits n ty (Some h) le = All-cons (λ (i : Import). ImportFits n i.item) _ [] (omega (arith, le)) (All-nil (λ (i : Import). ImportFits n i.item))

pub hosts_fit : (n ty : ℕ) (ss : List Stub) → ty + length (host_types ss) ≤ n → All (λ (i : Import). ImportFits n i.item) (host_imports ty ss)
hosts_fit n ty [] le = All-nil (λ (i : Import). ImportFits n i.item)
hosts_fit n ty (s ∷ ss) le =
    let long = length-append (host_type s.host) (host_types ss) in
    let one = type_one s.host in
    All-append (λ (i : Import). ImportFits n i.item) (host_import ty s.host) (host_imports (ty + asked s.host) ss) (host_fits n ty s.host (omega (arith, le, long, one)))
    (hosts_fit n (ty + asked s.host) ss (omega (arith, le, long, one)))

-- ---- all imports

module _ (kinds : List Presence) (l : Layout) (stubs : List Stub) where
  abbrev news : List ℕ
  news = imported_functions (each_kind new_import 0 kinds)

  abbrev drops : List ℕ
  drops = imported_functions (each_kind drop_import 0 kinds)

  abbrev hosted : List ℕ
  hosted = imported_functions (host_imports 3 stubs)

  pub functions_are : imported_functions (stubs_imports kinds l stubs) ≡ 1 ∷ (news ++ (drops ++ hosted))
  functions_are =
      ap (λ fs. 1 ∷ fs) (gather_append (λ (i : Import). functions_of i.item) (each_kind new_import 0 kinds) (each_kind drop_import 0 kinds ++ host_imports 3 stubs)
      ∙ ap (λ fs. news ++ fs) (gather_append (λ (i : Import). functions_of i.item) (each_kind drop_import 0 kinds) (host_imports 3 stubs)))

  pub memories_are : length (imported_memories (stubs_imports kinds l stubs)) ≡ 1
  memories_are =
      let split = gather_append (λ (i : Import). memories_of i.item) (each_kind new_import 0 kinds) (each_kind drop_import 0 kinds ++ host_imports 3 stubs)
      ∙ ap (λ ms. ms ++ imported_memories (each_kind drop_import 0 kinds ++ host_imports 3 stubs)) (new_memories 0 kinds)
      ∙ gather_append (λ (i : Import). memories_of i.item) (each_kind drop_import 0 kinds) (host_imports 3 stubs)
      ∙ ap (λ ms. ms ++ imported_memories (host_imports 3 stubs)) (no_memories 0 kinds) ∙ host_memories 3 stubs in
      let none = ap length split in
      omega (arith, none)

  pub counted : length (imported_functions (stubs_imports kinds l stubs)) ≡ first_host kinds + length (host_types stubs)
  counted =
      let a = ap length functions_are in
      let b = length-append news (drops ++ hosted) in
      let d = length-append drops hosted in
      omega (arith, a, b, d, all_news 0 kinds, all_imported 0 kinds, all_hosts 3 stubs)
