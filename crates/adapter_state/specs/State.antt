-- The state module: the adapter's memory, its realloc, the destructors of its resources and the post-returns.
use Rattle.std.specs.Prelude.{ℕ, zero, suc, ◌+◌, List, [], ◌∷◌, ◌++◌, Option, Some, None, Bool, true, false, length, codes}
use Rattle.std.specs.Fmt.{decimal}
use Rattle.virt_base.specs.declared.core_type.CoreType.TheVariants.{I32}
use Rattle.wasm_ast.specs.declared.instr.Instr.{Instr}
use Rattle.wasm_ast.specs.declared.instr.Instr.TheVariants.{End}
use Rattle.wasm_ast.specs.declared.module.CoreFunc.{CoreFunc}
use Rattle.wasm_ast.specs.declared.module.Import.{Import}
use Rattle.wasm_ast.specs.declared.module.ImportItem.TheVariants.{Func}
use Rattle.wasm_ast.specs.declared.module.ExportItem.TheVariants.{Memory}
use Rattle.wasm_ast.specs.declared.module.Data.{Data}
use Rattle.wasm_ast.specs.declared.module.Data.TheVariants.{Active}
use Rattle.wasm_ast.specs.declared.module.Global.{Global}
use Rattle.wasm_ast.specs.declared.module.Module.{Module}
use Rattle.adapter_code.specs.declared.layout.Layout.{Layout}
use Rattle.adapter_code.specs.declared.statement.Width.TheVariants.{Narrow, Broad}
use Rattle.adapter_code.specs.Layout.{table_at, image_at, transfer_at, pages_of}
use Rattle.adapter_compile.specs.declared.calls.HandleCalls.{HandleCalls}
use Rattle.adapter_compile.specs.Instructions.{constant}
use Rattle.adapter_compile.specs.Handles.{drops_type}
use Rattle.adapter_compile.specs.Does.{body_of}
use Rattle.adapter_transfer.specs.declared.module.Defined.{Defined}
use Rattle.adapter_transfer.specs.declared.module.Parts.{Parts}
use Rattle.adapter_transfer.specs.Module.{module_of}
use Rattle.adapter_transfer.specs.Transfer.{realloc_code, reset_code, realloc_type, reset_type}
use Rattle.adapter_transfer.specs.Transfer.{body_of as closed}
use Rattle.adapter_state.specs.declared.parts.Presence.{Presence}
use Rattle.adapter_state.specs.declared.parts.Presence.TheVariants.{Absent, Own, Host}
use Rattle.adapter_state.specs.declared.parts.Posts.{Posts}
use Rattle.adapter_state.specs.Destructor.{destroy_widths, routine_of}

-- what each kind gives, in the order of their numbers from one on
abbrev pub each_kind : {A : Type 0} → (ℕ → Presence → List A) → ℕ → List Presence → List A
each_kind f kind [] = []
each_kind f kind (p ∷ ps) = f kind p ++ each_kind f (suc kind) ps

-- ---- what drops the host's handles

-- the import of a kind that the host has
abbrev pub drop_import : ℕ → Presence → List Import
drop_import kind Absent = []
drop_import kind Own = []
drop_import kind Host = record { «module» = codes "host"; name = codes "drop-" ++ decimal kind; item = Func 0 } ∷ []

-- the index of its function, where that many are imported before
abbrev pub drop_call : ℕ → Presence → Option ℕ
drop_call at Absent = None
drop_call at Own = None
drop_call at Host = Some at

abbrev pub hosts : Presence → ℕ
hosts Absent = 0
hosts Own = 0
hosts Host = 1

abbrev pub drop_calls : ℕ → List Presence → List (Option ℕ)
drop_calls at [] = []
drop_calls at (p ∷ ps) = drop_call at p ∷ drop_calls (at + hosts p) ps

-- no handle is made here
abbrev pub calls_in : List Presence → HandleCalls
calls_in kinds = record { makes = []; drops = drop_calls 0 kinds }

-- ---- the functions that are defined

abbrev pub realloc_function : Layout → Defined
realloc_function l = record { name = codes "realloc"; ty = 1; body = closed (realloc_code l) }

abbrev pub host_kind : ℕ → Presence → Option ℕ
host_kind kind Absent = None
host_kind kind Own = None
host_kind kind Host = Some kind

abbrev pub free_function : List Presence → Layout → ℕ → Option ℕ → Defined
free_function kinds l kind host = record { name = codes "free-" ++ decimal kind; ty = 0; body = body_of 1 destroy_widths (calls_in kinds) (routine_of host (table_at l kind)) }

-- the destructor of a kind of the world
abbrev pub destructor_of : List Presence → Layout → ℕ → Presence → List Defined
destructor_of kinds l kind Absent = []
destructor_of kinds l kind Own = free_function kinds l kind None ∷ []
destructor_of kinds l kind Host = free_function kinds l kind (Some kind) ∷ []

-- a post-return of a name and a type
abbrev pub post_function : Layout → Bool → List ℕ → ℕ → List Defined
post_function l true name ty = record { name = name; ty = ty; body = closed (reset_code l) } ∷ []
post_function l false name ty = []

abbrev pub posts_of : Layout → Posts → List Defined
posts_of l posts = post_function l posts.bare (codes "post") 2 ++ (post_function l posts.narrow (codes "post-i32") 0 ++ post_function l posts.broad (codes "post-i64") 3)

abbrev pub state_functions : List Presence → Layout → Posts → List Defined
state_functions kinds l posts = realloc_function l ∷ (each_kind (destructor_of kinds l) 0 kinds ++ posts_of l posts)

-- ---- the module

-- a constant expression
abbrev pub constant_code : ℕ → List Instr
constant_code v = constant Narrow v ∷ End ∷ []

-- the types by their index: 0 is also that of what drops a handle, and of the post-return of an i32
abbrev pub state_types : List CoreFunc
state_types = drops_type ∷ realloc_type ∷ reset_type None ∷ reset_type (Some Broad) ∷ []

-- the end of the used part of the transfer area
abbrev pub state_globals : Layout → List Global
state_globals l = record { ty = record { value = I32; variable = true }; init = constant_code (transfer_at l) } ∷ []

-- the static data in its place
abbrev pub state_segments : Layout → List ℕ → List Data
state_segments l image = Active (constant_code (image_at l)) image ∷ []

-- the memory has the fewest pages that hold the layout, and as many at most
abbrev pub state_parts : List Presence → Layout → List ℕ → Parts
state_parts kinds l image = record {
  types = state_types;
  imports = each_kind drop_import 0 kinds;
  imported = length (each_kind drop_import 0 kinds);
  memories = record { min = pages_of l; max = Some (pages_of l) } ∷ [];
  globals = state_globals l;
  exports = record { name = codes "memory"; item = Memory 0 } ∷ [];
  segments = state_segments l image;
}

abbrev pub state_of : List Presence → Layout → List ℕ → Posts → Module
state_of kinds l image posts = module_of (state_parts kinds l image) (state_functions kinds l posts)
