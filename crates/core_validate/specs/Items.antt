-- The items of a module, in the order in which they are asked, and what is asked of each.
use Rattle.std.specs.Prelude.{ℕ, ◌+◌, Bool, true, false, Option, Some, None, List, [], ◌∷◌, ◌++◌, map, length, slice_get, unwrap_or, if◌then◌else◌}
use Rattle.std.specs.Option.{option_and_then, option_to_list}
use Rattle.virt_base.specs.declared.core_type.CoreType.{CoreType}
use Rattle.virt_base.specs.declared.core_type.CoreType.TheVariants.{I32}
use Rattle.wasm_ast.specs.declared.module.CoreFunc.{CoreFunc}
use Rattle.wasm_ast.specs.declared.module.TableType.{TableType}
use Rattle.wasm_ast.specs.declared.module.Limits.{Limits}
use Rattle.wasm_ast.specs.declared.module.Global.{Global}
use Rattle.wasm_ast.specs.declared.module.Import.{Import}
use Rattle.wasm_ast.specs.declared.module.ImportItem.{ImportItem}
use Rattle.wasm_ast.specs.declared.module.ImportItem.TheVariants as imported
use Rattle.wasm_ast.specs.declared.module.Export.{Export}
use Rattle.wasm_ast.specs.declared.module.ExportItem.{ExportItem}
use Rattle.wasm_ast.specs.declared.module.ExportItem.TheVariants as exported
use Rattle.wasm_ast.specs.declared.module.Elements.{Elements}
use Rattle.wasm_ast.specs.declared.module.Elements.TheVariants as elements
use Rattle.wasm_ast.specs.declared.module.Body.{Body}
use Rattle.wasm_ast.specs.declared.module.Data.{Data}
use Rattle.wasm_ast.specs.declared.module.Data.TheVariants as data_of
use Rattle.wasm_ast.specs.declared.module.Module.{Module}
use Rattle.wasm_ast.specs.declared.instr.RefType.{RefType}
use Rattle.wasm_ast.specs.declared.instr.Instr.{Instr}
use Rattle.core_body.specs.Context.{Context, arrow}
use Rattle.core_body.specs.Conditions.{Condition, TypeAt, FunctionAt, TableAt, MemoryAt, GlobalAt, OnlyMemory, TableLimits, MemoryLimits, FewLocals, NewName, StartsBare}
use Rattle.core_body.specs.Locals.{spread}
use Rattle.core_body.specs.Shapes.{value_of, same_ref}
use Rattle.core_body.specs.Views.{in_body, in_expression}
use Rattle.core_validate.specs.Gather.{with_earlier}
use Rattle.core_validate.specs.Spaces.{imported_memories, element_type}

pub data Item : Type 0 where
  -- an import, with the number of memories before it
  AnImport : (memories : ℕ) (item : ImportItem) → Item
  AFunction : (type : ℕ) → Item
  ATable : TableType → Item
  AMemory : (memories : ℕ) (limits : Limits) → Item
  AGlobal : Global → Item
  -- an export, with the names of those before it
  AnExport : (earlier : List (List ℕ)) (export : Export) → Item
  AStart : (function : ℕ) → Item
  Segment : Elements → Item
  -- a body, with its function's type
  ABody : CoreFunc → Body → Item
  DataSegment : Data → Item

-- code that stands in an item
pub record Part : Type 0 where
  pub context : Context
  pub in_body : Bool
  pub code : List Instr

-- a constant expression of one type; an offset is an i32 (sections 3.4.5 and 3.4.6)
abbrev pub expression : Context → CoreType → List Instr → Part
expression c t code = record { context = in_expression c t; in_body = false; code = code }

abbrev pub offset_parts : Context → Option (List Instr) → List Part
offset_parts c None = []
offset_parts c (Some code) = expression c I32 code ∷ []

abbrev pub expressions : Context → RefType → List (List Instr) → List Part
expressions c t exprs = map (expression c (value_of t)) exprs

-- where an active segment begins, and a segment's elements that are expressions
abbrev pub offset_in : Elements → Option (List Instr)
offset_in (elements.ActiveFuncs offset funcs) = Some offset
offset_in (elements.PassiveFuncs funcs) = None
offset_in (elements.ActiveFuncsAt table offset funcs) = Some offset
offset_in (elements.DeclaredFuncs funcs) = None
offset_in (elements.ActiveExprs offset exprs) = Some offset
offset_in (elements.PassiveExprs ty exprs) = None
offset_in (elements.ActiveExprsAt table offset ty exprs) = Some offset
offset_in (elements.DeclaredExprs ty exprs) = None

abbrev pub exprs_of : Elements → List (List Instr)
exprs_of (elements.ActiveFuncs offset funcs) = []
exprs_of (elements.PassiveFuncs funcs) = []
exprs_of (elements.ActiveFuncsAt table offset funcs) = []
exprs_of (elements.DeclaredFuncs funcs) = []
exprs_of (elements.ActiveExprs offset exprs) = exprs
exprs_of (elements.PassiveExprs ty exprs) = exprs
exprs_of (elements.ActiveExprsAt table offset ty exprs) = exprs
exprs_of (elements.DeclaredExprs ty exprs) = exprs

abbrev pub data_offset : Data → Option (List Instr)
data_offset (data_of.Active offset bytes) = Some offset
data_offset (data_of.Passive bytes) = None
data_offset (data_of.ActiveAt memory offset bytes) = Some offset

abbrev pub parts : Context → Item → List Part
parts c (AGlobal g) = expression c g.ty.value g.init ∷ []
parts c (Segment e) = offset_parts c (offset_in e) ++ expressions c (element_type e) (exprs_of e)
parts c (ABody f b) = record { context = in_body c (f.params ++ spread b.locals) f.results; in_body = true; code = b.code } ∷ []
parts c (DataSegment d) = offset_parts c (data_offset d)
parts c _ = []

-- the table that a segment fills
abbrev pub table_of : Elements → Option ℕ
table_of (elements.ActiveFuncs offset funcs) = Some 0
table_of (elements.PassiveFuncs funcs) = None
table_of (elements.ActiveFuncsAt table offset funcs) = Some table
table_of (elements.DeclaredFuncs funcs) = None
table_of (elements.ActiveExprs offset exprs) = Some 0
table_of (elements.PassiveExprs ty exprs) = None
table_of (elements.ActiveExprsAt table offset ty exprs) = Some table
table_of (elements.DeclaredExprs ty exprs) = None

-- the functions of a segment's indexes
abbrev pub indexes_of : Elements → List ℕ
indexes_of (elements.ActiveFuncs offset funcs) = funcs
indexes_of (elements.PassiveFuncs funcs) = funcs
indexes_of (elements.ActiveFuncsAt table offset funcs) = funcs
indexes_of (elements.DeclaredFuncs funcs) = funcs
indexes_of (elements.ActiveExprs offset exprs) = []
indexes_of (elements.PassiveExprs ty exprs) = []
indexes_of (elements.ActiveExprsAt table offset ty exprs) = []
indexes_of (elements.DeclaredExprs ty exprs) = []

-- the memory that a segment fills
abbrev pub memory_of : Data → Option ℕ
memory_of (data_of.Active offset bytes) = Some 0
memory_of (data_of.Passive bytes) = None
memory_of (data_of.ActiveAt memory offset bytes) = Some memory

abbrev pub import_conditions : ℕ → ImportItem → List Condition
import_conditions before (imported.Func n) = TypeAt n ∷ []
import_conditions before (imported.Table t) = TableLimits t.limits ∷ []
import_conditions before (imported.Memory l) = OnlyMemory before ∷ MemoryLimits l ∷ []
import_conditions before (imported.Global g) = []

abbrev pub export_condition : ExportItem → Condition
export_condition (exported.Func n) = FunctionAt n
export_condition (exported.Table n) = TableAt n
export_condition (exported.Memory n) = MemoryAt n
export_condition (exported.Global n) = GlobalAt n

-- what is asked of an item besides its code
abbrev pub item_conditions : Item → List Condition
item_conditions (AnImport before i) = import_conditions before i
item_conditions (AFunction n) = TypeAt n ∷ []
item_conditions (ATable t) = TableLimits t.limits ∷ []
item_conditions (AMemory before l) = OnlyMemory before ∷ MemoryLimits l ∷ []
item_conditions (AGlobal g) = []
item_conditions (AnExport earlier e) = export_condition e.item ∷ NewName earlier e.name ∷ []
item_conditions (AStart n) = FunctionAt n ∷ StartsBare n ∷ []
item_conditions (Segment e) = map TableAt (option_to_list (table_of e)) ++ map FunctionAt (indexes_of e)
item_conditions (ABody f b) = FewLocals b.locals ∷ []
item_conditions (DataSegment d) = map MemoryAt (option_to_list (memory_of d))

-- whether a segment's elements are of the type that the table holds which it fills
abbrev pub fits_table : Option TableType → RefType → Bool
fits_table None t = true
fits_table (Some table) t = same_ref table.element t

abbrev pub fits : Context → Item → Bool
fits c (Segment e) = fits_table (option_and_then (λ n. slice_get c.tables n) (table_of e)) (element_type e)
fits c _ = true

-- the type of the function whose body stands at a place of the code section
abbrev pub body_type : Module → ℕ → CoreFunc
body_type m i = unwrap_or (option_and_then (λ t. slice_get m.types t) (slice_get m.functions i)) (arrow [] [])

-- the items in order
abbrev pub plain_items : {A : Type 0} → (A → Item) → List A → List Item
plain_items f xs = with_earlier (λ before x. f x) [] xs

abbrev pub import_items : List Import → List Item
import_items is = with_earlier (λ before i. AnImport (length (imported_memories before)) i.item) [] is

abbrev pub memory_items : Module → List Item
memory_items m = with_earlier (λ before l. AMemory (length (imported_memories m.imports) + length before) l) [] m.memories

abbrev pub export_items : List Export → List Item
export_items es = with_earlier (λ before e. AnExport (map (λ x. x.name) before) e) [] es

abbrev pub body_items : Module → List Item
body_items m = with_earlier (λ before b. ABody (body_type m (length before)) b) [] m.code

abbrev pub first_items : Module → List Item
first_items m =
    import_items m.imports ++ (plain_items AFunction m.functions ++ (plain_items ATable m.tables ++ (memory_items m ++ plain_items AGlobal m.globals)))

abbrev pub later_items : Module → List Item
later_items m =
    export_items m.exports ++ (plain_items AStart (option_to_list m.start) ++ (plain_items Segment m.elements ++ (body_items m ++ plain_items DataSegment m.segments)))

abbrev pub items : Module → List Item
items m = first_items m ++ later_items m
