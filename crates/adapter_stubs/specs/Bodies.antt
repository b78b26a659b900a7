-- The function of a stub.
use Rattle.std.specs.Prelude.{◌≡◌, ◌⊎◌, ℕ, ◌+◌, ◌<◌, ◌≤◌, ◌^◌, max, List, [], ◌∷◌, ◌++◌, Option, Some, None, length, drop}
use Rattle.std.specs.List.{All}
use Rattle.virt_base.specs.declared.core_type.CoreType.{CoreType}
use Rattle.wasm_ast.specs.declared.module.Body.{Body}
use Rattle.wasm_ast.specs.declared.instr.Instr.{Instr}
use Rattle.wasm_ast.specs.declared.instr.Instr.TheVariants.{End}
use Rattle.adapter_code.specs.Code.{code_of}
use Rattle.adapter_code.specs.WellFormed.{IsWellFormed}
use Rattle.adapter_compile.specs.declared.calls.HandleCalls.{HandleCalls}
use Rattle.adapter_compile.specs.Instructions.{get, routine_code}
use Rattle.adapter_compile.specs.Bounds.{nesting, brackets}
use Rattle.adapter_compile.specs.Does.{declared_of}
use Rattle.adapter_stubs.specs.declared.host_call.HostCall.{HostCall}
use Rattle.adapter_stubs.specs.declared.stub.HostFunc.{HostFunc}
use Rattle.adapter_stubs.specs.declared.stub.Stub.{Stub}
use Rattle.adapter_stubs.specs.Stub.{host_code}
use Rattle.adapter_stubs.specs.Widths.{IsFlat, gives, stub_widths, flag_of, result_of}

-- the call of the host's function, which has this index
abbrev pub host_call : ℕ → HostFunc → HostCall
host_call at h = record { function = at; params = length h.flat.params; gives = gives h.flat.results }

-- what stands between the routine before and the result
abbrev pub asking_code : HandleCalls → ℕ → Stub → Option HostFunc → List Instr
asking_code calls at s None = []
asking_code calls at s (Some h) = host_code (stub_widths s) calls (flag_of s) (host_call at h) (code_of s.after.items)

-- the flat result, where there is one
abbrev pub answer_code : ℕ → List CoreType → List Instr
answer_code at [] = []
answer_code at (t ∷ ts) = get at ∷ []

abbrev pub stub_code : HandleCalls → ℕ → Stub → List Instr
stub_code calls at s =
    routine_code (stub_widths s) calls (code_of s.before.items) ++ (asking_code calls at s s.host ++ answer_code (result_of s) s.flat.results)

-- how many counters both routines need
abbrev pub counters_of : Stub → ℕ
counters_of s = max (nesting (code_of s.before.items)) (nesting (code_of s.after.items))

abbrev pub stub_body : HandleCalls → ℕ → Stub → Body
stub_body calls at s = record { locals = declared_of (drop (length s.flat.params) (stub_widths s)) (counters_of s); code = stub_code calls at s ++ End ∷ [] }

-- ---- what is asked of a stub

-- the host's function gives the result of the stub, or none
abbrev pub HostFits : List CoreType → Option HostFunc → Type 0
HostFits results None = Unit {0}
HostFits results (Some h) = All IsFlat h.flat.params × ((h.flat.results ≡ []) ⊎ (h.flat.results ≡ results))

pub record IsStub (s : Stub) : Type 0 where
  pub params : All IsFlat s.flat.params
  pub results : All IsFlat s.flat.results
  pub single : length s.flat.results ≤ 1
  pub host : HostFits s.flat.results s.host
  pub few : length (stub_widths s) + counters_of s ≤ 40000
  pub before : IsWellFormed (stub_widths s) [] (code_of s.before.items)
  pub after : IsWellFormed (stub_widths s) [] (code_of s.after.items)
  pub before_shallow : length (stub_widths s) + brackets (code_of s.before.items) < 2 ^ 32
  pub after_shallow : length (stub_widths s) + brackets (code_of s.after.items) < 2 ^ 32
