-- What the stubs module imports, by the places in its index space.
use Rattle.std.proofs.Common.{◌≡◌, ℕ, zero, suc, ◌+◌, List, [], ◌∷◌, Option, Some, None, length, take, refl, sym, ap, ◌∙◌, arith, length-append}
use Rattle.std.specs.Prelude.{slice_get}
use Rattle.std.specs.List.{flat_map}
use Rattle.core_store.specs.declared.value.StoreFunc.{StoreFunc}
use Rattle.core_store.specs.declared.value.StoreFunc.TheVariants.{Outside}
use Rattle.core_instance.specs.declared.external.Extern.{Extern}
use Rattle.core_instance.specs.declared.external.Extern.TheVariants.{Func, Table, Memory, Global}
use Rattle.core_instance.specs.Spaces.{functions_of}
use Rattle.wasm_ast.specs.declared.module.CoreFunc.{CoreFunc}
use Rattle.adapter_compile.specs.Instructions.{call_at}
use Rattle.adapter_compile.specs.Handles.{Numbers, makes_type}
use Rattle.adapter_state.specs.declared.parts.Presence.{Presence}
use Rattle.adapter_state.specs.declared.parts.Presence.TheVariants.{Absent, Own, Host}
use Rattle.adapter_state.specs.State.{each_kind, drop_import}
use Rattle.adapter_state.proofs.EachKind.{none_at}
use Rattle.adapter_stubs.specs.declared.stub.HostFunc.{HostFunc}
use Rattle.adapter_stubs.specs.declared.stub.Stub.{Stub}
use Rattle.adapter_stubs.specs.Stubs.{new_import, new_calls, host_type, host_types}
use Rattle.adapter_bytes.specs.StateWorks.{AreDrops}
use Rattle.adapter_bytes.specs.StubsWork.{AreNews, IsHostOf, AreHosts}

-- ---- what makes handles

-- where a call leads: to the function of this index among those of these imports, which is the embedder's
pub record Leads (fs : List StoreFunc) (is : List Extern) (ty : CoreFunc) (number at f : ℕ) : Type 0 where
  pub index : ℕ
  pub place : ℕ
  pub behind : f ≡ at + index
  pub named : slice_get (flat_map functions_of is) index ≡ Some place
  pub outside : slice_get fs place ≡ Some (Outside ty number)

further : (fs : List StoreFunc) (place : ℕ) (is : List Extern) (ty : CoreFunc) (number at f : ℕ) → Leads fs is ty number (at + 1) f → Leads fs (Func place ∷ is) ty number at f
further fs place is ty number at f p =
    let behind = p.behind in
    record { index = suc p.index; place = p.place; behind = omega (arith, behind); named = p.named; outside = p.outside }

same_start : (fs : List StoreFunc) (is : List Extern) (ty : CoreFunc) (number at f : ℕ) → Leads fs is ty number (at + 0) f → Leads fs is ty number at f
same_start fs is ty number at f p =
    let behind = p.behind in
    record { index = p.index; place = p.place; behind = omega (arith, behind); named = p.named; outside = p.outside }

-- a kind of the world is the first
first_new : (numbers : Numbers) (fs : List StoreFunc) (place k j : ℕ) (is : List Extern) (at f : ℕ) → slice_get fs place ≡ Some (Outside makes_type (numbers.makes k)) → j ≡ k + 0 → Some at ≡ Some f → Leads fs (Func place ∷ is) makes_type (numbers.makes j) at f
first_new numbers fs place k j is at f here e same =
    let equal : at ≡ f = cc in
    let number : k ≡ j = omega (arith, e) in
    record { index = 0; place = place; behind = omega (arith, equal); named = refl; outside = here ∙ ap (λ n. Some (Outside makes_type (numbers.makes n))) number }

pub news_lead : (numbers : Numbers) (fs : List StoreFunc) (k j : ℕ) (ps : List Presence) (is : List Extern) (at kind f : ℕ) → AreNews numbers fs k ps is → j ≡ k + kind → call_at (new_calls at ps) kind ≡ Some f → Leads fs is makes_type (numbers.makes j) at f
news_lead numbers fs k j [] is at kind f are e here = let never = none_at kind in absurd (cc)
news_lead numbers fs k j (Absent ∷ ps) is at zero f are e here = absurd (cc)
news_lead numbers fs k j (Absent ∷ ps) is at (suc kind) f are e here = same_start fs is makes_type (numbers.makes j) at f (news_lead numbers fs (suc k) j ps is (at + 0) kind f are (omega (arith, e)) here)
news_lead numbers fs k j (Own ∷ ps) [] at kind f are e here = absurd are
news_lead numbers fs k j (Own ∷ ps) (Func place ∷ is) at zero f are e here = first_new numbers fs place k j is at f are.0 e here
news_lead numbers fs k j (Own ∷ ps) (Func place ∷ is) at (suc kind) f are e here = further fs place is makes_type (numbers.makes j) at f (news_lead numbers fs (suc k) j ps is (at + 1) kind f are.1 (omega (arith, e)) here)
news_lead numbers fs k j (Own ∷ ps) (Table place ∷ is) at kind f are e here = absurd are
news_lead numbers fs k j (Own ∷ ps) (Memory place ∷ is) at kind f are e here = absurd are
news_lead numbers fs k j (Own ∷ ps) (Global place ∷ is) at kind f are e here = absurd are
news_lead numbers fs k j (Host ∷ ps) [] at kind f are e here = absurd are
news_lead numbers fs k j (Host ∷ ps) (Func place ∷ is) at zero f are e here = first_new numbers fs place k j is at f are.0 e here
news_lead numbers fs k j (Host ∷ ps) (Func place ∷ is) at (suc kind) f are e here = further fs place is makes_type (numbers.makes j) at f (news_lead numbers fs (suc k) j ps is (at + 1) kind f are.1 (omega (arith, e)) here)
news_lead numbers fs k j (Host ∷ ps) (Table place ∷ is) at kind f are e here = absurd are
news_lead numbers fs k j (Host ∷ ps) (Memory place ∷ is) at kind f are e here = absurd are
news_lead numbers fs k j (Host ∷ ps) (Global place ∷ is) at kind f are e here = absurd are

pub news_long : (numbers : Numbers) (fs : List StoreFunc) (k : ℕ) (ps : List Presence) (is : List Extern) → AreNews numbers fs k ps is → length (flat_map functions_of is) ≡ length (each_kind new_import k ps)
news_long numbers fs k [] [] are = refl
news_long numbers fs k [] (i ∷ is) are = absurd are
news_long numbers fs k (Absent ∷ ps) is are = news_long numbers fs (suc k) ps is are
news_long numbers fs k (Own ∷ ps) [] are = absurd are
news_long numbers fs k (Own ∷ ps) (Func place ∷ is) are = ap suc (news_long numbers fs (suc k) ps is are.1)
news_long numbers fs k (Own ∷ ps) (Table place ∷ is) are = absurd are
news_long numbers fs k (Own ∷ ps) (Memory place ∷ is) are = absurd are
news_long numbers fs k (Own ∷ ps) (Global place ∷ is) are = absurd are
news_long numbers fs k (Host ∷ ps) [] are = absurd are
news_long numbers fs k (Host ∷ ps) (Func place ∷ is) are = ap suc (news_long numbers fs (suc k) ps is are.1)
news_long numbers fs k (Host ∷ ps) (Table place ∷ is) are = absurd are
news_long numbers fs k (Host ∷ ps) (Memory place ∷ is) are = absurd are
news_long numbers fs k (Host ∷ ps) (Global place ∷ is) are = absurd are

pub drops_long : (numbers : Numbers) (fs : List StoreFunc) (k : ℕ) (ps : List Presence) (is : List Extern) → AreDrops numbers fs k ps is → length (flat_map functions_of is) ≡ length (each_kind drop_import k ps)
drops_long numbers fs k [] [] are = refl
drops_long numbers fs k [] (i ∷ is) are = absurd are
drops_long numbers fs k (Absent ∷ ps) is are = drops_long numbers fs (suc k) ps is are
drops_long numbers fs k (Own ∷ ps) is are = drops_long numbers fs (suc k) ps is are
drops_long numbers fs k (Host ∷ ps) [] are = absurd are
drops_long numbers fs k (Host ∷ ps) (Func place ∷ is) are = ap suc (drops_long numbers fs (suc k) ps is are.1)
drops_long numbers fs k (Host ∷ ps) (Table place ∷ is) are = absurd are
drops_long numbers fs k (Host ∷ ps) (Memory place ∷ is) are = absurd are
drops_long numbers fs k (Host ∷ ps) (Global place ∷ is) are = absurd are

-- ---- the host's functions

-- one stub's import, and those of the others
pub record Split (asks : ℕ → ℕ) (fs : List StoreFunc) (o : Option HostFunc) (is : List Extern) (rest : List Extern → Type 0) : Type 0 where
  pub others : List Extern
  pub are : rest others
  pub long : length (flat_map functions_of is) ≡ length (host_type o) + length (flat_map functions_of others)
  pub behind : (i : ℕ) → slice_get (flat_map functions_of is) (length (host_type o) + i) ≡ slice_get (flat_map functions_of others) i

split : (asks : ℕ → ℕ) (fs : List StoreFunc) (o : Option HostFunc) (is : List Extern) (rest : List Extern → Type 0) → IsHostOf asks fs o is rest → Split asks fs o is rest
split asks fs None is rest p = record { others = is; are = p; long = omega arith; behind = λ i. let e : 0 + i ≡ i = omega arith in ap (slice_get (flat_map functions_of is)) e }
split asks fs (Some h) [] rest p = absurd p
split asks fs (Some h) (Func place ∷ is) rest p = record { others = is; are = p.1; long = omega arith; behind = λ i. let e : 1 + i ≡ suc i = omega arith in ap (slice_get (place ∷ flat_map functions_of is)) e }
split asks fs (Some h) (Table place ∷ is) rest p = absurd p
split asks fs (Some h) (Memory place ∷ is) rest p = absurd p
split asks fs (Some h) (Global place ∷ is) rest p = absurd p

first_host : (asks : ℕ → ℕ) (fs : List StoreFunc) (o : Option HostFunc) (h : HostFunc) (is : List Extern) (rest : List Extern → Type 0) → o ≡ Some h → IsHostOf asks fs o is rest → Leads fs is h.flat (asks h.function) 0 0
first_host asks fs None h is rest e p = cc
first_host asks fs (Some g) h [] rest e p = absurd p
first_host asks fs (Some g) h (Func place ∷ is) rest e p =
    let same : g ≡ h = cc in
    record { index = 0; place = place; behind = refl; named = refl; outside = p.0 ∙ ap (λ (x : HostFunc). Some (Outside x.flat (asks x.function))) same }
first_host asks fs (Some g) h (Table place ∷ is) rest e p = absurd p
first_host asks fs (Some g) h (Memory place ∷ is) rest e p = absurd p
first_host asks fs (Some g) h (Global place ∷ is) rest e p = absurd p

-- the function of the stub at a place stands after those of the stubs before it
pub hosts_lead : (asks : ℕ → ℕ) (fs : List StoreFunc) (ss : List Stub) (is : List Extern) (k : ℕ) (s : Stub) (h : HostFunc) → AreHosts asks fs ss is → slice_get ss k ≡ Some s → s.host ≡ Some h →
    (place : ℕ) × (slice_get (flat_map functions_of is) (length (host_types (take k ss))) ≡ Some place) × (slice_get fs place ≡ Some (Outside h.flat (asks h.function)))
hosts_lead asks fs [] is k s h are here host = absurd (cc)
hosts_lead asks fs (r ∷ ss) is zero s h are here host =
    let same : r ≡ s = cc in
    let l = first_host asks fs r.host h is (AreHosts asks fs ss) (ap (λ (x : Stub). x.host) same ∙ host) are in
    let behind = l.behind in
    let none : l.index ≡ 0 = omega (arith, behind) in
    (l.place, ap (slice_get (flat_map functions_of is)) (sym none) ∙ l.named, l.outside)
hosts_lead asks fs (r ∷ ss) is (suc k) s h are here host =
    let p = split asks fs r.host is (AreHosts asks fs ss) are in
    let rest = hosts_lead asks fs ss p.others k s h p.are here host in
    (rest.0, ap (slice_get (flat_map functions_of is)) (length-append (host_type r.host) (host_types (take k ss))) ∙ p.behind (length (host_types (take k ss))) ∙ rest.1, rest.2)
