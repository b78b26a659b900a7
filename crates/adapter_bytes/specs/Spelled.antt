-- When the code of a routine may be written, and in how many bytes at most (WebAssembly Core 2.0, sections 5.4 and 5.5.13).
use Rattle.std.specs.Prelude.{◌≡◌, ℕ, suc, ◌+◌, ◌*◌, ◌<◌, ◌≤◌, ◌^◌, List, [], ◌∷◌, ◌++◌, Bool, Some, length}
use Rattle.std.specs.List.{AllByRecursion}
use Rattle.wasm_format.specs.Sections.{write_parts}
use Rattle.wasm_format.specs.Until.{UntilFits}
use Rattle.wasm_ast.specs.declared.instr.Instr.{Instr}
use Rattle.wasm_ast.specs.declared.instr.Instr.TheVariants.{End}
use Rattle.wasm_ast.specs.declared.module.LocalRun.{LocalRun}
use Rattle.wasm_ast.specs.declared.module.Body.{Body}
use Rattle.wasm_ast.specs.Expressions.{Open, nested}
use Rattle.wasm_ast.specs.Items.{body}
use Rattle.adapter_code.specs.declared.statement.Statement.{Statement, Load, Store}
use Rattle.adapter_code.specs.declared.statement.Width.{Width}
use Rattle.adapter_code.specs.Code.{Code, Stop, Then, Choose, Turns}
use Rattle.adapter_code.specs.WellFormed.{IsWellFormed}
use Rattle.adapter_compile.specs.declared.calls.HandleCalls.{HandleCalls}
use Rattle.adapter_compile.specs.Instructions.{call_at, routine_code}
use Rattle.adapter_compile.specs.Bounds.{nesting, brackets}

-- how many statements a routine has
abbrev pub statements : Code → ℕ
statements Stop = 0
statements (Then statement rest) = 1 + statements rest
statements (Choose test first other rest) = 1 + statements first + statements other + statements rest
statements (Turns name count body rest) = 1 + statements body + statements rest

-- the offsets of its loads and stores are numbers of 32 bits
abbrev pub IsNumbered : Statement → Type 0
IsNumbered (Load to at offset size) = offset < 2 ^ 32
IsNumbered (Store from at offset size) = offset < 2 ^ 32
IsNumbered other = Unit {0}

abbrev pub AreNumbered : Code → Type 0
AreNumbered Stop = Unit {0}
AreNumbered (Then statement rest) = IsNumbered statement × AreNumbered rest
AreNumbered (Choose test first other rest) = AreNumbered first × AreNumbered other × AreNumbered rest
AreNumbered (Turns name count body rest) = AreNumbered body × AreNumbered rest

-- the functions by which handles are made and dropped have indexes of 32 bits
pub record AreIndexes (calls : HandleCalls) : Type 0 where
  pub makes : (kind f : ℕ) → call_at calls.makes kind ≡ Some f → f < 2 ^ 32
  pub drops : (kind f : ℕ) → call_at calls.drops kind ≡ Some f → f < 2 ^ 32

-- code in front of whatever else: it may be written where that may, in that many bytes more
pub record IsSpelledIn (most : ℕ) (code : List Instr) : Type 0 where
  pub fits : (b : Bool) (o : Open) (rest : List Instr) → UntilFits nested (b ∷ o) rest → UntilFits nested (b ∷ o) (code ++ rest)
  pub few : (b : Bool) (o : Open) (rest : List Instr) → length (write_parts nested (b ∷ o) (code ++ rest)) ≤ most + length (write_parts nested (b ∷ o) rest)

-- a well-formed routine takes at most 107 bytes a statement
abbrev pub RoutinesAreSpelled : Type 0
RoutinesAreSpelled =
    (ws : List Width) (calls : HandleCalls) (code : Code) →
    IsWellFormed ws [] code → AreNumbered code → AreIndexes calls → length ws + nesting code < 2 ^ 32 → brackets code < 2 ^ 32 →
    IsSpelledIn (107 * statements code + 4) (routine_code ws calls code)

-- the body of a function: its locals and its code
abbrev pub BodiesAreSpelled : Type 0
BodiesAreSpelled =
    (locals : List LocalRun) (code : List Instr) (most : ℕ) →
    AllByRecursion (λ (r : LocalRun). r.count < 2 ^ 32) locals → length locals < 2 ^ 32 → IsSpelledIn most code →
    let whole : Body = record { locals = locals; code = code ++ End ∷ [] } in
    body.Fits whole × (length (body.write whole) ≤ 7 + 6 * length locals + most)
