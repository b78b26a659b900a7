-- How many functions are imported, and the module of its parts.
use Rattle.std.proofs.Common.{◌≡◌, ℕ, suc, ◌+◌, ◌≤◌, List, [], ◌∷◌, ◌++◌, Option, Some, None, length, refl, ap, ◌∙◌, arith, append_assoc, length-append}
use Rattle.wasm_ast.specs.declared.module.CoreFunc.{CoreFunc}
use Rattle.wasm_ast.specs.declared.module.Import.{Import}
use Rattle.wasm_ast.specs.declared.module.Export.{Export}
use Rattle.wasm_ast.specs.declared.module.Limits.{Limits}
use Rattle.wasm_ast.specs.declared.module.Global.{Global}
use Rattle.wasm_ast.specs.declared.module.Data.{Data}
use Rattle.wasm_ast.specs.declared.module.Module.{Module}
use Rattle.adapter_code.specs.declared.layout.Layout.{Layout}
use Rattle.adapter_compile.specs.declared.calls.HandleCalls.{HandleCalls}
use Rattle.adapter_transfer.specs.declared.module.Defined.{Defined}
use Rattle.adapter_transfer.specs.Module.{module_of}
use Rattle.adapter_state.specs.declared.parts.Presence.{Presence}
use Rattle.adapter_state.specs.State.{each_kind, drop_import, drop_calls}
use Rattle.adapter_state.proofs.EachKind.{each_length, one_import}
use Rattle.adapter_stubs.specs.declared.stub.HostFunc.{HostFunc}
use Rattle.adapter_stubs.specs.declared.stub.Stub.{Stub}
use Rattle.adapter_stubs.specs.Stubs.{new_import, new_calls, first_drop, calls_in, host_import, host_type, asked, host_imports, host_types, stub_functions, stubs_types, stubs_imports, memory_import, realloc_import, first_host, stubs_parts, stubs_of}
use Rattle.adapter_stubs.proofs.Importing.{one_new, type_one}

host_few : (ty : ℕ) (o : Option HostFunc) → length (host_import ty o) ≡ asked o
host_few ty None = refl
host_few ty (Some h) = refl

asked_few : (o : Option HostFunc) → asked o ≤ 1
asked_few None = omega arith
asked_few (Some h) = omega arith

hosts_length : (ty : ℕ) (ss : List Stub) → length (host_imports ty ss) ≡ length (host_types ss)
hosts_length ty [] = refl
hosts_length ty (s ∷ ss) =
    let a = length-append (host_import ty s.host) (host_imports (ty + asked s.host) ss) in
    let b = length-append (host_type s.host) (host_types ss) in
    omega (arith, a, b, host_few ty s.host, type_one s.host, hosts_length (ty + asked s.host) ss)

hosts_few : (ss : List Stub) → length (host_types ss) ≤ length ss
hosts_few [] = omega arith
hosts_few (s ∷ ss) =
    let b = length-append (host_type s.host) (host_types ss) in
    omega (arith, b, type_one s.host, asked_few s.host, hosts_few ss)

pub functions_length : (calls : HandleCalls) (place at ty : ℕ) (ss : List Stub) → length (stub_functions calls place at ty ss) ≡ length ss
functions_length calls place at ty [] = refl
functions_length calls place at ty (s ∷ ss) = ap suc (functions_length calls (suc place) (at + asked s.host) (suc ty) ss)

-- the imports as they are added, and how many they are
pub record Counts (kinds : List Presence) (stubs : List Stub) (a b d : ℕ) : Type 0 where
  pub drops : a ≡ suc (first_drop kinds)
  pub hosts : b ≡ suc (first_host kinds)
  pub all : d ≡ suc (first_host kinds + length (host_types stubs))
  pub few_drops : first_drop kinds ≤ 15
  pub few_hosts : first_host kinds ≤ 29
  pub few : length (host_types stubs) ≤ length stubs

pub counts : (kinds : List Presence) (l : Layout) (stubs : List Stub) (i0 i1 i2 i3 : List Import) → length kinds ≤ 14 → i0 ≡ memory_import l ∷ realloc_import ∷ [] → i1 ≡ i0 ++ each_kind new_import 0 kinds → i2 ≡ i1 ++ each_kind drop_import 0 kinds → i3 ≡ i2 ++ host_imports 3 stubs →
    Counts kinds stubs (length i1) (length i2) (length i3)
counts kinds l stubs i0 i1 i2 i3 le e0 e1 e2 e3 =
    let n0 = ap length e0 in
    let n1 = ap length e1 ∙ length-append i0 (each_kind new_import 0 kinds) in
    let n2 = ap length e2 ∙ length-append i1 (each_kind drop_import 0 kinds) in
    let n3 = ap length e3 ∙ length-append i2 (host_imports 3 stubs) in
    let news = each_length new_import 0 kinds one_new in
    let drops = each_length drop_import 0 kinds one_import in
    let hosts = hosts_length 3 stubs in
    record {
      drops = omega (arith, n0, n1);
      hosts = omega (arith, n0, n1, n2);
      all = omega (arith, n0, n1, n2, n3, hosts);
      few_drops = omega (arith, news, le);
      few_hosts = omega (arith, news, drops, le);
      few = hosts_few stubs;
    }

pub imports_are : (kinds : List Presence) (l : Layout) (stubs : List Stub) (i0 i1 i2 i3 : List Import) → i0 ≡ memory_import l ∷ realloc_import ∷ [] → i1 ≡ i0 ++ each_kind new_import 0 kinds → i2 ≡ i1 ++ each_kind drop_import 0 kinds → i3 ≡ i2 ++ host_imports 3 stubs → i3 ≡ stubs_imports kinds l stubs
imports_are kinds l stubs i0 i1 i2 i3 e0 e1 e2 e3 =
    let N = each_kind new_import 0 kinds in
    let D = each_kind drop_import 0 kinds in
    let H = host_imports 3 stubs in
    e3 ∙ ap (λ i. i ++ H) (e2 ∙ ap (λ i. i ++ D) (e1 ∙ ap (λ i. i ++ N) e0))
    ∙ ap (λ i. memory_import l ∷ realloc_import ∷ i) (append_assoc N D H)

-- the functions for handles
pub calls_are : (kinds : List Presence) (makes drops : List (Option ℕ)) (first : ℕ) → makes ≡ new_calls 1 kinds → drops ≡ drop_calls first kinds → first ≡ first_drop kinds → (let h : HandleCalls = record { makes = makes; drops = drops } in h) ≡ calls_in kinds
calls_are kinds makes drops first e f g =
    ap (λ m. let h : HandleCalls = record { makes = m; drops = drops } in h) e
    ∙ ap (λ d. let h : HandleCalls = record { makes = new_calls 1 kinds; drops = d } in h) (f ∙ ap (λ n. drop_calls n kinds) g)

abbrev with_parts : List CoreFunc → List Import → ℕ → List Limits → List Global → List Export → List Data → List Defined → Module
with_parts types imports imported memories globals exports segments ds =
    module_of (record { types = types; imports = imports; imported = imported; memories = memories; globals = globals; exports = exports; segments = segments }) ds

pub module_is : (kinds : List Presence) (l : Layout) (stubs : List Stub) (types : List CoreFunc) (imports : List Import) (imported : ℕ) (memories : List Limits) (globals : List Global) (exports : List Export) (segments : List Data) (ds : List Defined) (calls : HandleCalls) (at ty : ℕ) →
    types ≡ stubs_types stubs → imports ≡ stubs_imports kinds l stubs → imported ≡ first_host kinds + length (host_types stubs) → memories ≡ [] → globals ≡ [] → exports ≡ [] → segments ≡ [] →
    ds ≡ stub_functions calls 0 at ty stubs → calls ≡ calls_in kinds → at ≡ first_host kinds → ty ≡ 3 + length (host_types stubs) →
    with_parts types imports imported memories globals exports segments ds ≡ stubs_of kinds l stubs
module_is kinds l stubs types imports imported memories globals exports segments ds calls at ty e1 e2 e3 e4 e5 e6 e7 e8 e9 e10 e11 =
    ap (λ x. with_parts x imports imported memories globals exports segments ds) e1 ∙ ap (λ x. with_parts (stubs_types stubs) x imported memories globals exports segments ds) e2
    ∙ ap (λ x. with_parts (stubs_types stubs) (stubs_imports kinds l stubs) x memories globals exports segments ds) e3
    ∙ ap (λ x. with_parts (stubs_types stubs) (stubs_imports kinds l stubs) (first_host kinds + length (host_types stubs)) x globals exports segments ds) e4
    ∙ ap (λ x. with_parts (stubs_types stubs) (stubs_imports kinds l stubs) (first_host kinds + length (host_types stubs)) [] x exports segments ds) e5
    ∙ ap (λ x. with_parts (stubs_types stubs) (stubs_imports kinds l stubs) (first_host kinds + length (host_types stubs)) [] [] x segments ds) e6
    ∙ ap (λ x. with_parts (stubs_types stubs) (stubs_imports kinds l stubs) (first_host kinds + length (host_types stubs)) [] [] [] x ds) e7
    ∙ ap (λ x. module_of (stubs_parts kinds l stubs) x) (e8 ∙ ap (λ h. stub_functions h 0 at ty stubs) e9 ∙ ap (λ n. stub_functions (calls_in kinds) 0 n ty stubs) e10 ∙ ap (λ n. stub_functions (calls_in kinds) 0 (first_host kinds) n stubs) e11)
