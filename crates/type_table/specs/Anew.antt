-- What a definition makes anew of value types: the type that it defines, and those of an instance that it makes or describes. All
-- else that it adds stands in the index spaces before.
use Rattle.std.specs.Prelude.{◌≡◌, ℕ, ◌++◌, ⊤, Option, Some, None, slice_get}
use Rattle.wasm_ast.specs.declared.component.Instance.{Instance}
use Rattle.wasm_ast.specs.declared.component.Instance.TheVariants as instances
use Rattle.wasm_ast.specs.declared.component.ExternDesc.{ExternDesc}
use Rattle.comp_types.specs.Items.{Kind, Entries, ResourceKind, ValueKind, FuncKind, InstanceKind}
use Rattle.comp_types.specs.Spaces.{Space, NestedComponent}
use Rattle.comp_types.specs.GivenResources.{renamed, given_by, numbered}
use Rattle.comp_types.specs.Types.{kind_of}
use Rattle.comp_types.specs.Added.{described, named_items}
use Rattle.comp_types.specs.Declarations.{Declaration, ATypeDef, AnInstanceType, ATypeAlias, ATypeExport}
use Rattle.comp_types.specs.Definitions.{Definition, AnInstance, AType, AnImport, AnExport}
use Rattle.type_table.specs.Tables.{Types, IsSound, Grew, HasOwnParts, HasFunc, HasItem, HasKind, HasEntries}

abbrev pub HasInstantiated : Types → Space → Option NestedComponent → Entries → Type 0
HasInstantiated types s None args = ⊤
HasInstantiated types s (Some c) args = HasEntries types (renamed (given_by args c.signature.imports ++ numbered c.own s.next) c.signature.exports)

abbrev pub HasInstance : Types → Space → Instance → Type 0
HasInstance types s (instances.Instantiate c args) = HasInstantiated types s (slice_get s.components c) (named_items s args)
HasInstance types s (instances.Inline exports) = ⊤

abbrev pub HasStated : Types → Space → Option ExternDesc → Type 0
HasStated types s None = ⊤
HasStated types s (Some desc) = HasItem types (described s desc)

abbrev pub HasDeclared : Types → Space → Declaration → Type 0
HasDeclared types s (ATypeDef d) = HasKind types (kind_of s d)
HasDeclared types s (ATypeExport name desc) = HasItem types (described s desc)
HasDeclared types s (ATypeAlias a) = ⊤
-- an instance type is made by its declarations, one after another
HasDeclared types s (AnInstanceType ds) = ⊥

abbrev pub HasNew : Types → Space → Definition → Type 0
HasNew types s (AnInstance i) = HasInstance types s i
HasNew types s (AType d) = HasDeclared types s d
HasNew types s (AnImport i) = HasItem types (described s i.desc)
HasNew types s (AnExport e) = HasStated types s e.desc
HasNew types s _ = ⊤

-- the table has what a type is made of; an instance type's entries stand there as they were made
abbrev pub HasPartsOf : Types → Kind → Type 0
HasPartsOf types (ResourceKind r) = IsSound types
HasPartsOf types (ValueKind ty) = HasOwnParts types ty
HasPartsOf types (FuncKind ty) = IsSound types × HasFunc types ty
HasPartsOf types (InstanceKind own entries) = IsSound types × HasEntries types entries

-- where a definition breaks no rule, what it makes is in the table
abbrev pub Makes : (old new : Types) → Space → Definition → Option ℕ → Type 0
Makes old new s d rule = Grew old new × (rule ≡ None → HasNew new s d)
