-- The values of constant expressions (WebAssembly Core 2.0, sections 3.3.10 and 4.5.4), and the references of element segments.
use Rattle.std.specs.Prelude.{ℕ, List, [], ◌∷◌, map, slice_get, Option, Some, None}
use Rattle.std.specs.Int.{w32, w64, cast_unsigned}
use Rattle.wasm_ast.specs.declared.instr.Op.{Op}
use Rattle.wasm_ast.specs.declared.instr.Op.TheVariants as op
use Rattle.wasm_ast.specs.declared.instr.Instr.{Instr}
use Rattle.wasm_ast.specs.declared.instr.Instr.TheVariants as code
use Rattle.wasm_ast.specs.declared.module.Elements.{Elements}
use Rattle.wasm_ast.specs.declared.module.Elements.TheVariants as elements
use Rattle.core_store.specs.declared.value.CoreRef.{CoreRef}
use Rattle.core_instance.specs.declared.constants.Names.{Names}
use Rattle.core_store.specs.declared.value.CoreRef.TheVariants.{Null, Func}
use Rattle.core_store.specs.declared.value.CoreValue.{CoreValue}
use Rattle.core_store.specs.declared.value.CoreValue.TheVariants.{I32, I64, Ref}

-- in a valid module each index is in its space; what stands for others is never asked
abbrev pub global_or : Option CoreValue → CoreValue
global_or (Some v) = v
global_or None = I32 0

abbrev pub ref_or : Option ℕ → CoreRef
ref_or (Some place) = Func place
ref_or None = Null

abbrev pub op_value : Names → Op → CoreValue
op_value names (op.I32Const n) = I32 (cast_unsigned w32 n)
op_value names (op.GlobalGet n) = global_or (slice_get names.globals n)
op_value names (op.RefNull t) = Ref Null
op_value names (op.RefFunc n) = Ref (ref_or (slice_get names.functions n))
op_value names _ = I32 0

abbrev pub instr_value : Names → Instr → CoreValue
instr_value names (code.Plain o) = op_value names o
instr_value names (code.I64Const n) = I64 (cast_unsigned w64 n)
instr_value names _ = I32 0

-- a valid constant expression is one instruction and the End that closes it
abbrev pub constant : Names → List Instr → CoreValue
constant names [] = I32 0
constant names (i ∷ rest) = instr_value names i

-- an offset is an i32, and an element a reference
abbrev pub offset_in : CoreValue → ℕ
offset_in (I32 n) = n
offset_in (I64 n) = 0
offset_in (Ref r) = 0

abbrev pub ref_in : CoreValue → CoreRef
ref_in (I32 n) = Null
ref_in (I64 n) = Null
ref_in (Ref r) = r

abbrev pub refs_to : Names → List ℕ → List CoreRef
refs_to names funcs = map (λ n. ref_or (slice_get names.functions n)) funcs

abbrev pub refs_from : Names → List (List Instr) → List CoreRef
refs_from names exprs = map (λ e. ref_in (constant names e)) exprs

-- the references of an element segment
abbrev pub refs_of : Names → Elements → List CoreRef
refs_of names (elements.ActiveFuncs offset funcs) = refs_to names funcs
refs_of names (elements.PassiveFuncs funcs) = refs_to names funcs
refs_of names (elements.ActiveFuncsAt table offset funcs) = refs_to names funcs
refs_of names (elements.DeclaredFuncs funcs) = refs_to names funcs
refs_of names (elements.ActiveExprs offset exprs) = refs_from names exprs
refs_of names (elements.PassiveExprs ty exprs) = refs_from names exprs
refs_of names (elements.ActiveExprsAt table offset ty exprs) = refs_from names exprs
refs_of names (elements.DeclaredExprs ty exprs) = refs_from names exprs
