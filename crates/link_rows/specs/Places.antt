-- A host that hands out handles, and a component that does so in its place: it knows each by one of two places of its table, of which
-- the host has names of its own. Both ask a script.
use Rattle.std.specs.Prelude.{◌≡◌, ◌⊎◌, ℕ, suc, ◌<◌, ◌||◌, nat_eq, if◌then◌else◌, List, [], ◌∷◌, ◌++◌, pos, codes, Option, Some, None, is_some, Bool, true, false}
use Rattle.virt_base.specs.declared.core_type.CoreType.TheVariants.{I32}
use Rattle.wasm_ast.specs.declared.module.CoreFunc.{CoreFunc}
use Rattle.wasm_ast.specs.declared.module.Import.{Import as ModuleImport}
use Rattle.wasm_ast.specs.declared.module.ImportItem.TheVariants as imported
use Rattle.wasm_ast.specs.declared.module.Export.{Export}
use Rattle.wasm_ast.specs.declared.module.ExportItem.{ExportItem}
use Rattle.wasm_ast.specs.declared.module.ExportItem.TheVariants as exported
use Rattle.wasm_ast.specs.declared.module.Global.{Global}
use Rattle.wasm_ast.specs.declared.instr.BlockType.TheVariants as blocks
use Rattle.wasm_ast.specs.declared.instr.Instr.{Instr}
use Rattle.wasm_ast.specs.declared.instr.Instr.TheVariants.{Plain, If, Else, Unreachable, Call, End as EndOf}
use Rattle.wasm_ast.specs.declared.instr.Op.TheVariants.{LocalGet, GlobalGet, GlobalSet, Select, I32Const}
use Rattle.wasm_ast.specs.declared.component.CoreSort.TheVariants as core_sorts
use Rattle.wasm_ast.specs.declared.component.CoreInstance.TheVariants as core_instances
use Rattle.wasm_ast.specs.declared.component.NamedItem.{NamedItem}
use Rattle.wasm_ast.specs.declared.component.Sort.TheVariants as sorts
use Rattle.wasm_ast.specs.declared.component.Instance.TheVariants as instances
use Rattle.wasm_ast.specs.declared.component.Alias.{Alias}
use Rattle.wasm_ast.specs.declared.component.Alias.TheVariants as aliases
use Rattle.wasm_ast.specs.declared.component.ValType.TheVariants as values
use Rattle.wasm_ast.specs.declared.component.LabelType.{LabelType}
use Rattle.wasm_ast.specs.declared.component.ExternDesc.TheVariants as descs
use Rattle.wasm_ast.specs.declared.component.TypeDef.TheVariants as defs
use Rattle.wasm_ast.specs.declared.component.TypeItem.TheVariants as items
use Rattle.wasm_ast.specs.declared.component.Canon.TheVariants as canons
use Rattle.core_store.specs.State.{State}
use Rattle.core_store.specs.declared.value.CoreSpaces.{CoreSpaces}
use Rattle.core_store.specs.declared.value.StoreFunc.TheVariants as functions
use Rattle.core_store.specs.declared.value.CoreValue.{CoreValue}
use Rattle.core_store.specs.declared.value.CoreValue.TheVariants as words
use Rattle.wit_types.specs.Plain.{OwnType, BorrowType, End as NoParts, More as Param}
use Rattle.wit_types.specs.PlainValue.{PlainValues, HandleValue, End as NoValues, More as Values}
use Rattle.handle_space.specs.HandleMap.{HandleMap, empty}
use Rattle.host_port.specs.Calls.{PlainCall, PlainObservation, Called, Returned, Trapped, Gives, Trap}
use Rattle.host_port.specs.Hosts.{HostStep, Reaction}
use Rattle.host_port.specs.Scripts.{NoValue, Script, script_call, script}
use Rattle.comp_types.specs.Items.{same_name}
use Rattle.comp_grammar.specs.Trees.{Part, Tree, CoreModule, CoreInstances, Instances, Aliases, Types, Canons, Imports, Exports}
use Rattle.comp_worlds.specs.Groups.{Import, Theirs, LoweredFunc, ResourceDrop, Config, World, Due, Nothing, Served, Below}
use Rattle.comp_worlds.specs.Observed.{Call as CallOf, obs}
use Rattle.comp_worlds.specs.Related.{Both}
use Rattle.comp_link.specs.Linking.{group_of}
use Rattle.comp_link.specs.Components.{component_obs}
use Rattle.link_rows.specs.Trees.{tree, somewhere, core_type, body, from_h, module_of, instance_type, func_of, core_func_of, core_named, given_core, with_core, import_h, exports_f}

-- ---- the host: it gives each handle the next number, keeps at most two at once, and asks the script where one is read

pub record Books : Type 0 where
  pub next : ℕ
  pub first : Option ℕ
  pub second : Option ℕ
  pub script : Script

-- a place holds this number
abbrev pub holds : Option ℕ → ℕ → Bool
holds None id = false
holds (Some n) id = nat_eq n id

-- what is asked of the script
abbrev pub tick : PlainCall
tick = record { interface = codes "s"; function = codes "tick"; params = NoParts; args = NoValues; answer = None }

abbrev pub with_script : Books → Reaction Script → Reaction Books
with_script s r = record { seen = r.seen; answer = r.answer; next = record s { script = r.next } }

abbrev pub given : Books → Reaction Books
given s = record { seen = []; answer = Gives (Some (HandleValue s.next)); next = record s { next = suc s.next } }

abbrev pub refused : Books → Reaction Books
refused s = record { seen = []; answer = Trap; next = s }

-- a new handle takes the first place, or else the second
abbrev pub makes : Option ℕ → Option ℕ → Books → Reaction Books
makes None second s = given (record s { first = Some s.next })
makes (Some n) None s = given (record s { second = Some s.next })
makes (Some n) (Some m) s = refused s

abbrev pub reads_if : Bool → Books → Reaction Books
reads_if true s = with_script s (script_call s.script tick)
reads_if false s = refused s

abbrev pub reads : Books → PlainValues → Reaction Books
reads s (Values (HandleValue id) rest) = reads_if (holds s.first id || holds s.second id) s
reads s args = refused s

-- it answers whatever else it is asked as the script does
abbrev pub answers : Books → PlainCall → Reaction Books
answers s c =
    if same_name c.function (codes "make") then makes s.first s.second s
    else if same_name c.function (codes "read") then reads s c.args
    else with_script s (script_call s.script c)

abbrev pub frees : Bool → Bool → Books → Books
frees true second s = record s { first = None }
frees false true s = record s { second = None }
frees false false s = s

abbrev pub keeper : HostStep Books
keeper = record {
  call = answers;
  drop = λ s r id. record { seen = []; next = frees (holds s.first id) (holds s.second id) s };
}

abbrev pub opening : Script → Books
opening items = record { next = 5; first = None; second = None; script = items }

-- ---- the component: a place of its table is a variable, which is 1 where the place is in use

abbrev pub number : ℕ → Instr
number n = Plain (I32Const (pos n))

abbrev pub place : ℕ → Instr
place n = Plain (GlobalGet n)

abbrev pub set_place : ℕ → ℕ → List Instr
set_place at n = number n ∷ Plain (GlobalSet at) ∷ []

abbrev pub if_so : List Instr → List Instr → List Instr
if_so this other = If blocks.Empty ∷ this ++ Else ∷ other ++ EndOf ∷ []

abbrev pub a_variable : Global
a_variable = record { ty = record { value = I32; variable = true }; init = number 0 ∷ EndOf ∷ [] }

abbrev pub exported_as : List ℕ → ExportItem → Export
exported_as name item = record { name = name; item = item }

-- the place of a handle that is dropped is freed
abbrev pub frees_place : List Instr
frees_place = Plain (LocalGet 0) ∷ if_so (set_place 1 0) (set_place 0 0)

-- a place is taken, and a handle of it made
abbrev pub takes_place : List Instr
takes_place = place 0 ∷ If (blocks.Value I32) ∷ place 1 ∷ if_so (Unreachable ∷ []) [] ++ set_place 1 1 ++ number 1 ∷ Else ∷ set_place 0 1 ++ number 0 ∷ EndOf ∷ Call 1 ∷ []

-- the script is asked where the handle's place is in use
abbrev pub reads_place : List Instr
reads_place = place 1 ∷ place 0 ∷ Plain (LocalGet 0) ∷ Plain Select ∷ if_so (Call 0 ∷ []) (Unreachable ∷ [])

abbrev pub table : Part
table = CoreModule somewhere (record {
  types = core_type 1 0 ∷ [];
  imports = [];
  functions = 0 ∷ [];
  tables = [];
  memories = [];
  globals = a_variable ∷ a_variable ∷ [];
  exports = exported_as (codes "f") (exported.Func 0) ∷ exported_as (codes "one") (exported.Global 0) ∷ exported_as (codes "two") (exported.Global 1) ∷ [];
  start = None;
  elements = [];
  data_count = None;
  code = body frees_place ∷ [];
  segments = [];
})

abbrev pub from_table : List ℕ → ModuleImport
from_table name = record { «module» = codes "t"; name = name; item = imported.Global (record { value = I32; variable = true }) }

abbrev pub door_types : List CoreFunc
door_types = core_type 0 0 ∷ core_type 1 1 ∷ core_type 0 1 ∷ core_type 1 0 ∷ []

-- the last function does nothing
abbrev pub doors : Part
doors = CoreModule somewhere (record {
  types = door_types;
  imports = from_h (codes "tick") 0 ∷ from_h (codes "new") 1 ∷ from_table (codes "one") ∷ from_table (codes "two") ∷ [];
  functions = 2 ∷ 3 ∷ 0 ∷ [];
  tables = [];
  memories = [];
  globals = [];
  exports = exported_as (codes "make") (exported.Func 2) ∷ exported_as (codes "read") (exported.Func 3) ∷ exported_as (codes "more") (exported.Func 4) ∷ [];
  start = None;
  elements = [];
  data_count = None;
  code = body takes_place ∷ body reads_place ∷ body [] ∷ [];
  segments = [];
})

abbrev pub a_handle : List LabelType
a_handle = record { label = codes "x"; ty = values.Index 4 } ∷ []

abbrev pub named_func : List ℕ → ℕ → NamedItem
named_func name index = record { name = name; sort = sorts.Func; index = index }

abbrev pub core_func_named : ℕ → List ℕ → Alias
core_func_named instance name = aliases.CoreExport core_sorts.Func instance name

abbrev pub adapter : Tree
adapter = tree (
    instance_type (codes "tick") [] None
    ∷ Imports (record { name = codes "s"; desc = descs.Instance 0 } ∷ [])
    ∷ Aliases (func_of 0 (codes "tick") ∷ [])
    ∷ Canons (canons.Lower 0 [] ∷ [])
    ∷ table
    ∷ CoreInstances (core_instances.Instantiate 0 [] ∷ [])
    ∷ Aliases (core_func_of 0 ∷ [])
    ∷ Types (items.Define (defs.Resource (Some 1)) ∷ [])
    ∷ Canons (canons.ResourceNew 1 ∷ [])
    ∷ given_core (core_named (codes "tick") 0 ∷ core_named (codes "new") 2 ∷ [])
    ∷ doors
    ∷ CoreInstances (core_instances.Instantiate 1 (record { name = codes "h"; instance = 1 } ∷ record { name = codes "t"; instance = 0 } ∷ []) ∷ [])
    ∷ Aliases (core_func_named 2 (codes "make") ∷ core_func_named 2 (codes "read") ∷ core_func_named 2 (codes "more") ∷ [])
    ∷ Types (items.Define (defs.Own 1) ∷ items.Define (defs.Func [] (Some (values.Index 2))) ∷ items.Define (defs.Borrow 1) ∷ items.Define (defs.Func a_handle None) ∷ items.Define (defs.Func [] None) ∷ [])
    ∷ Canons (canons.Lift 3 [] 3 ∷ canons.Lift 4 [] 5 ∷ canons.Lift 5 [] 6 ∷ [])
    ∷ Instances (instances.Inline (record { name = codes "r"; sort = sorts.Type; index = 1 } ∷ named_func (codes "make") 1 ∷ named_func (codes "read") 2 ∷ named_func (codes "more") 3 ∷ []) ∷ [])
    ∷ Exports (record { name = codes "h"; sort = sorts.Instance; index = 1; desc = None } ∷ [])
    ∷ [])

-- ---- the application: it makes two handles, drops the second, and reads the first

abbrev pub app : Tree
app = tree (
    Types (items.Define (defs.Instance 7) ∷ items.Export (codes "r") descs.Resource ∷ items.Define (defs.Own 0) ∷ items.Define (defs.Func [] (Some (values.Index 1))) ∷ items.Export (codes "make") (descs.Func 2)
    ∷ items.Define (defs.Borrow 0) ∷ items.Define (defs.Func (record { label = codes "x"; ty = values.Index 3 } ∷ []) None) ∷ items.Export (codes "read") (descs.Func 4) ∷ [])
    ∷ import_h
    ∷ Aliases (aliases.Export sorts.Type 0 (codes "r") ∷ func_of 0 (codes "make") ∷ func_of 0 (codes "read") ∷ [])
    ∷ Canons (canons.Lower 0 [] ∷ canons.Lower 1 [] ∷ canons.ResourceDrop 1 ∷ [])
    ∷ given_core (core_named (codes "make") 0 ∷ core_named (codes "read") 1 ∷ core_named (codes "drop") 2 ∷ [])
    ∷ module_of (core_type 0 1 ∷ core_type 1 0 ∷ core_type 1 0 ∷ core_type 0 0 ∷ []) (from_h (codes "make") 0 ∷ from_h (codes "read") 1 ∷ from_h (codes "drop") 2 ∷ []) (Call 0 ∷ Call 0 ∷ Call 2 ∷ Call 1 ∷ [])
    ∷ with_core 0 0
    ∷ Aliases (core_func_of 1 ∷ [])
    ∷ Types (items.Define (defs.Func [] None) ∷ [])
    ∷ Canons (canons.Lift 3 [] 2 ∷ [])
    ∷ exports_f 2
    ∷ [])

-- its number of the resource is 1
abbrev pub make : Import
make = record { interface = codes "h"; function = codes "make"; ty = record { params = NoParts; answer = Some (OwnType 1) } }

abbrev pub read : Import
read = record { interface = codes "h"; function = codes "read"; ty = record { params = Param (codes "x") (BorrowType 1) NoParts; answer = None } }

-- ---- how the two stand to each other

abbrev pub of_table : ℕ → Bool
of_table r = nat_eq r 1

abbrev pub flag : Option ℕ → CoreValue
flag None = words.I32 0
flag (Some id) = words.I32 1

abbrev pub spaces : List CoreFunc → List ℕ → CoreSpaces
spaces types funcs = record { types = types; functions = funcs; tables = []; memories = []; globals = 0 ∷ 1 ∷ []; segments = []; elements = [] }

-- the store of the component as it is made, where these places are in use
abbrev pub laid : Option ℕ → Option ℕ → Option ℕ → State
laid deepest first second = record {
  functions =
      functions.Outside (core_type 0 0) 0 ∷ functions.Inside (core_type 1 0) 0 [] (body frees_place).code ∷ functions.Outside (core_type 1 1) 1
      ∷ functions.Inside (core_type 0 1) 1 [] (body takes_place).code ∷ functions.Inside (core_type 1 0) 1 [] (body reads_place).code ∷ functions.Inside (core_type 0 0) 1 [] (body []).code ∷ [];
  tables = [];
  memories = [];
  globals = flag first ∷ flag second ∷ [];
  segments = [];
  elements = [];
  instances = spaces (core_type 1 0 ∷ []) (1 ∷ []) ∷ spaces door_types (0 ∷ 2 ∷ 3 ∷ 4 ∷ 5 ∷ []) ∷ [];
  nesting = 0;
  deepest = deepest;
}

-- it has no handles; the first index was never used, or is free again
abbrev pub no_handles : Bool → HandleMap ℕ
no_handles false = empty
no_handles true = record { entries = None ∷ None ∷ []; freed = 1 ∷ [] }

-- its instance, where the host has these numbers at its places
abbrev pub instance_at : Bool → Option ℕ → Bool → Option ℕ → Option ℕ → Config ℕ
instance_at entered deepest used first second = record { store = laid deepest first second; map = no_handles used; entered = entered; closed = false }

-- The component's places are those of the host, whose numbers are old and differ.
pub record Stands (entered : Bool) (s : Books) (w : World Script) : Type 0 where
  pub deepest : Option ℕ
  pub used : Bool
  pub here : w.configs 0 ≡ instance_at entered deepest used s.first s.second
  pub below : w.below ≡ s.script
  pub old_first : (id : ℕ) → s.first ≡ Some id → id < s.next
  pub old_second : (id : ℕ) → s.second ≡ Some id → id < s.next
  pub differ : (id : ℕ) → s.first ≡ Some id → s.second ≡ Some id → ⊥

abbrev pub Idle : Books → World Script → Type 0
Idle s w = Stands false s w

-- a call of the component's own instance, with nothing to do after it
abbrev pub Returns : Due → Type 0
Returns (Served k lifting results) = (k ≡ 0) × (lifting.post ≡ None)
Returns Nothing = ⊥
Returns (Below due) = ⊥

abbrev pub Answered : Books → Due → World Script → Due → Type 0
Answered s due w due' = Returns due' × Stands true s w

-- the host's number of a handle, and the component's place of it
abbrev pub Held : Books → World Script → ℕ → Both → Type 0
Held s w r x = ((s.first ≡ Some x.one) × (x.two ≡ 0)) ⊎ ((s.second ≡ Some x.one) × (x.two ≡ 1))

-- ---- what is seen

abbrev pub f : CallOf
f = record { interface = []; function = codes "f"; args = NoValues }

abbrev pub over_host : Script → List CallOf → List PlainObservation
over_host items calls = component_obs app keeper (opening items) calls 100

abbrev pub over_adapter : Script → List CallOf → List PlainObservation
over_adapter items calls = obs (group_of app) (group_of adapter ∷ []) script items calls 100

abbrev pub ticked : PlainObservation
ticked = Called tick

pub record PlacesExamples : Type 0 where
  pub once : over_host (NoValue ∷ []) (f ∷ []) ≡ ticked ∷ Returned None ∷ []
  pub adapted : over_adapter (NoValue ∷ []) (f ∷ []) ≡ ticked ∷ Returned None ∷ []
  -- the first handle of the first call is kept, so that there is no place for the second of the next
  pub full : over_host (NoValue ∷ []) (f ∷ f ∷ []) ≡ ticked ∷ Returned None ∷ Trapped ∷ []
  pub full_too : over_adapter (NoValue ∷ []) (f ∷ f ∷ []) ≡ ticked ∷ Returned None ∷ Trapped ∷ []
  pub asks_make : (group_of app).canons 0 0 ≡ Some (LoweredFunc (Theirs make) (record { memory = None; realloc = None }))
  pub asks_read : (group_of app).canons 0 1 ≡ Some (LoweredFunc (Theirs read) (record { memory = None; realloc = None }))
  pub drops : (group_of app).canons 0 2 ≡ Some (ResourceDrop 1)
  -- the host answers what the component does not, and the component what the application does not ask
  pub host_answers : (keeper.call (opening (NoValue ∷ [])) (record tick { function = codes "other" })).answer ≡ Gives None
  pub is_not_answered : (group_of adapter).exports (codes "h") (codes "other") ≡ None
  pub is_not_asked : is_some ((group_of adapter).exports (codes "h") (codes "more")) ≡ true
