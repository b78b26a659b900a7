-- The stubs module: a function for each stub, exported under its place.
use Rattle.std.specs.Prelude.{ℕ, suc, ◌+◌, ◌<◌, ◌^◌, List, [], ◌∷◌, ◌++◌, Option, Some, None, length, codes}
use Rattle.std.specs.List.{All}
use Rattle.std.specs.Fmt.{decimal}
use Rattle.wasm_ast.specs.declared.module.CoreFunc.{CoreFunc}
use Rattle.wasm_ast.specs.declared.module.Import.{Import}
use Rattle.wasm_ast.specs.declared.module.ImportItem.TheVariants.{Func, Memory}
use Rattle.wasm_ast.specs.declared.module.Module.{Module}
use Rattle.adapter_code.specs.declared.layout.Layout.{Layout}
use Rattle.adapter_code.specs.Layout.{pages_of}
use Rattle.adapter_compile.specs.declared.calls.HandleCalls.{HandleCalls}
use Rattle.adapter_compile.specs.Handles.{makes_type, drops_type}
use Rattle.adapter_transfer.specs.declared.module.Defined.{Defined}
use Rattle.adapter_transfer.specs.declared.module.Parts.{Parts}
use Rattle.adapter_transfer.specs.Module.{module_of}
use Rattle.adapter_transfer.specs.Transfer.{realloc_type}
use Rattle.adapter_state.specs.declared.parts.Presence.{Presence}
use Rattle.adapter_state.specs.declared.parts.Presence.TheVariants.{Absent, Own, Host}
use Rattle.adapter_state.specs.State.{each_kind, drop_import, drop_calls}
use Rattle.adapter_stubs.specs.declared.stub.HostFunc.{HostFunc}
use Rattle.adapter_stubs.specs.declared.stub.Stub.{Stub}
use Rattle.adapter_stubs.specs.Bodies.{stub_body, IsStub}

-- ---- what makes handles of the adapter's own

abbrev pub new_import : ℕ → Presence → List Import
new_import kind Absent = []
new_import kind Own = record { «module» = codes "host"; name = codes "new-" ++ decimal kind; item = Func 2 } ∷ []
new_import kind Host = record { «module» = codes "host"; name = codes "new-" ++ decimal kind; item = Func 2 } ∷ []

-- the index of its function, where that many are imported before
abbrev pub new_call : ℕ → Presence → Option ℕ
new_call at Absent = None
new_call at Own = Some at
new_call at Host = Some at

abbrev pub worlds : Presence → ℕ
worlds Absent = 0
worlds Own = 1
worlds Host = 1

abbrev pub new_calls : ℕ → List Presence → List (Option ℕ)
new_calls at [] = []
new_calls at (p ∷ ps) = new_call at p ∷ new_calls (at + worlds p) ps

-- realloc is function 0, and after it stand these
abbrev pub first_drop : List Presence → ℕ
first_drop kinds = 1 + length (each_kind new_import 0 kinds)

abbrev pub calls_in : List Presence → HandleCalls
calls_in kinds = record { makes = new_calls 1 kinds; drops = drop_calls (first_drop kinds) kinds }

-- ---- the host's functions, by the index of their types

abbrev pub host_import : ℕ → Option HostFunc → List Import
host_import ty None = []
host_import ty (Some h) = record { «module» = codes "host"; name = decimal h.function; item = Func ty } ∷ []

abbrev pub host_type : Option HostFunc → List CoreFunc
host_type None = []
host_type (Some h) = h.flat ∷ []

abbrev pub asked : Option HostFunc → ℕ
asked None = 0
asked (Some h) = 1

abbrev pub host_imports : ℕ → List Stub → List Import
host_imports ty [] = []
host_imports ty (s ∷ ss) = host_import ty s.host ++ host_imports (ty + asked s.host) ss

abbrev pub host_types : List Stub → List CoreFunc
host_types [] = []
host_types (s ∷ ss) = host_type s.host ++ host_types ss

abbrev pub stub_types : List Stub → List CoreFunc
stub_types [] = []
stub_types (s ∷ ss) = s.flat ∷ stub_types ss

-- ---- the functions, by their places, the index of what the next asks, and the index of their types

abbrev pub stub_function : HandleCalls → ℕ → ℕ → ℕ → Stub → Defined
stub_function calls place at ty s = record { name = decimal place; ty = ty; body = stub_body calls at s }

abbrev pub stub_functions : HandleCalls → ℕ → ℕ → ℕ → List Stub → List Defined
stub_functions calls place at ty [] = []
stub_functions calls place at ty (s ∷ ss) = stub_function calls place at ty s ∷ stub_functions calls (suc place) (at + asked s.host) (suc ty) ss

-- ---- the module

abbrev pub memory_import : Layout → Import
memory_import l = record { «module» = codes "state"; name = codes "memory"; item = Memory (record { min = pages_of l; max = Some (pages_of l) }) }

abbrev pub realloc_import : Import
realloc_import = record { «module» = codes "state"; name = codes "realloc"; item = Func 1 }

abbrev pub stubs_types : List Stub → List CoreFunc
stubs_types stubs = drops_type ∷ realloc_type ∷ makes_type ∷ (host_types stubs ++ stub_types stubs)

abbrev pub stubs_imports : List Presence → Layout → List Stub → List Import
stubs_imports kinds l stubs =
    memory_import l ∷ realloc_import ∷ (each_kind new_import 0 kinds ++ (each_kind drop_import 0 kinds ++ host_imports 3 stubs))

-- how many functions stand in front of the host's
abbrev pub first_host : List Presence → ℕ
first_host kinds = first_drop kinds + length (each_kind drop_import 0 kinds)

abbrev pub stubs_parts : List Presence → Layout → List Stub → Parts
stubs_parts kinds l stubs = record {
  types = stubs_types stubs;
  imports = stubs_imports kinds l stubs;
  imported = first_host kinds + length (host_types stubs);
  memories = [];
  globals = [];
  exports = [];
  segments = [];
}

abbrev pub stubs_of : List Presence → Layout → List Stub → Module
stubs_of kinds l stubs = module_of (stubs_parts kinds l stubs) (stub_functions (calls_in kinds) 0 (first_host kinds) (3 + length (host_types stubs)) stubs)

-- ---- what is asked of stubs: they are fewer than 2^30
pub record AreStubs (stubs : List Stub) : Type 0 where
  pub each : All IsStub stubs
  pub few : length stubs < 2 ^ 30
