-- The index spaces of a module (WebAssembly Core 2.0, sections 2.5.1 and 3.4.10): imports first, then definitions.
use Rattle.std.specs.Prelude.{ℕ, Bool, true, false, Option, None, List, [], ◌∷◌, ◌++◌, map, length, replicate, slice_set}
use Rattle.wasm_ast.specs.declared.module.TableType.{TableType}
use Rattle.wasm_ast.specs.declared.module.Limits.{Limits}
use Rattle.wasm_ast.specs.declared.module.GlobalType.{GlobalType}
use Rattle.wasm_ast.specs.declared.module.Global.{Global}
use Rattle.wasm_ast.specs.declared.module.Import.{Import}
use Rattle.wasm_ast.specs.declared.module.ImportItem.{ImportItem}
use Rattle.wasm_ast.specs.declared.module.ImportItem.TheVariants as imported
use Rattle.wasm_ast.specs.declared.module.Export.{Export}
use Rattle.wasm_ast.specs.declared.module.ExportItem.{ExportItem}
use Rattle.wasm_ast.specs.declared.module.ExportItem.TheVariants as exported
use Rattle.wasm_ast.specs.declared.module.Elements.{Elements}
use Rattle.wasm_ast.specs.declared.module.Elements.TheVariants as elements
use Rattle.wasm_ast.specs.declared.module.Module.{Module}
use Rattle.wasm_ast.specs.declared.instr.RefType.{RefType}
use Rattle.wasm_ast.specs.declared.instr.RefType.TheVariants.{Func, Extern}
use Rattle.wasm_ast.specs.declared.instr.Op.TheVariants as op
use Rattle.wasm_ast.specs.declared.instr.Instr.{Instr}
use Rattle.wasm_ast.specs.declared.instr.Instr.TheVariants as code
use Rattle.core_body.specs.Context.{Context}
use Rattle.core_validate.specs.Gather.{gather}

abbrev pub functions_of : ImportItem → List ℕ
functions_of (imported.Func n) = n ∷ []
functions_of (imported.Table t) = []
functions_of (imported.Memory l) = []
functions_of (imported.Global g) = []

abbrev pub tables_of : ImportItem → List TableType
tables_of (imported.Func n) = []
tables_of (imported.Table t) = t ∷ []
tables_of (imported.Memory l) = []
tables_of (imported.Global g) = []

abbrev pub memories_of : ImportItem → List Limits
memories_of (imported.Func n) = []
memories_of (imported.Table t) = []
memories_of (imported.Memory l) = l ∷ []
memories_of (imported.Global g) = []

abbrev pub globals_of : ImportItem → List GlobalType
globals_of (imported.Func n) = []
globals_of (imported.Table t) = []
globals_of (imported.Memory l) = []
globals_of (imported.Global g) = g ∷ []

abbrev pub imported_functions : List Import → List ℕ
imported_functions is = gather (λ i. functions_of i.item) is

abbrev pub imported_tables : List Import → List TableType
imported_tables is = gather (λ i. tables_of i.item) is

abbrev pub imported_memories : List Import → List Limits
imported_memories is = gather (λ i. memories_of i.item) is

abbrev pub imported_globals : List Import → List GlobalType
imported_globals is = gather (λ i. globals_of i.item) is

-- what a segment's elements are
abbrev pub element_type : Elements → RefType
element_type (elements.ActiveFuncs offset funcs) = Func
element_type (elements.PassiveFuncs funcs) = Func
element_type (elements.ActiveFuncsAt table offset funcs) = Func
element_type (elements.DeclaredFuncs funcs) = Func
element_type (elements.ActiveExprs offset exprs) = Func
element_type (elements.PassiveExprs ty exprs) = ty
element_type (elements.ActiveExprsAt table offset ty exprs) = ty
element_type (elements.DeclaredExprs ty exprs) = ty

-- the functions that an expression, an export or an element segment names
abbrev pub functions_in : Instr → List ℕ
functions_in (code.Plain (op.RefFunc n)) = n ∷ []
functions_in _ = []

abbrev pub functions_in_code : List Instr → List ℕ
functions_in_code is = gather functions_in is

abbrev pub exported_functions : ExportItem → List ℕ
exported_functions (exported.Func n) = n ∷ []
exported_functions (exported.Table n) = []
exported_functions (exported.Memory n) = []
exported_functions (exported.Global n) = []

abbrev pub element_functions : Elements → List ℕ
element_functions (elements.ActiveFuncs offset funcs) = funcs
element_functions (elements.PassiveFuncs funcs) = funcs
element_functions (elements.ActiveFuncsAt table offset funcs) = funcs
element_functions (elements.DeclaredFuncs funcs) = funcs
element_functions (elements.ActiveExprs offset exprs) = gather functions_in_code exprs
element_functions (elements.PassiveExprs ty exprs) = gather functions_in_code exprs
element_functions (elements.ActiveExprsAt table offset ty exprs) = gather functions_in_code exprs
element_functions (elements.DeclaredExprs ty exprs) = gather functions_in_code exprs

-- the functions that ref.func may name in a body: those in an export, an element segment or a global's expression
abbrev pub declared_functions : Module → List ℕ
declared_functions m =
    gather (λ (e : Export). exported_functions e.item) m.exports
    ++ (gather element_functions m.elements ++ gather (λ (g : Global). functions_in_code g.init) m.globals)

-- a mark at each place that is named
abbrev pub marked : List ℕ → List Bool → List Bool
marked [] marks = marks
marked (n ∷ ns) marks = marked ns (slice_set marks n true)

abbrev pub functions : Module → List ℕ
functions m = imported_functions m.imports ++ m.functions

abbrev pub tables : Module → List TableType
tables m = imported_tables m.imports ++ m.tables

abbrev pub memories : Module → List Limits
memories m = imported_memories m.imports ++ m.memories

abbrev pub globals : Module → List GlobalType
globals m = imported_globals m.imports ++ map (λ (g : Global). g.ty) m.globals

abbrev pub refs : Module → List Bool
refs m = marked (declared_functions m) (replicate (length (functions m)) false)

-- the context of a module's items
abbrev pub context : Module → Context
context m = record {
  types = m.types;
  functions = functions m;
  tables = tables m;
  memories = length (memories m);
  globals = globals m;
  imported_globals = length (imported_globals m.imports);
  elements = map element_type m.elements;
  data_count = m.data_count;
  refs = refs m;
  locals = [];
  results = None;
  due = [];
}
