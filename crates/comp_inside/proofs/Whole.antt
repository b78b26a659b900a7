-- No outer alias leads out of a valid component.
use Rattle.std.proofs.Common.{◌≡◌, ℕ, ◌+◌, ◌<◌, List, [], ◌∷◌, length, true, refl, subst, arith}
use Rattle.std.specs.Prelude.{slice_get, nat_lt, not, ◌||◌}
use Rattle.std.proofs.lemmas.Bool.{ltb-true, and_parts}
use Rattle.wasm_ast.specs.declared.component.OuterSort.{OuterSort}
use Rattle.wasm_ast.specs.declared.component.OuterSort.TheVariants as outer_sorts
use Rattle.wasm_ast.specs.declared.component.Alias.TheVariants as aliases
use Rattle.wasm_ast.specs.declared.component.TypeAlias.TheVariants as type_aliases
use Rattle.comp_grammar.specs.Trees.{Part, Tree, CoreModule, Nested, CoreInstances, Instances, Aliases, Types, Canons, Imports, Exports, Custom, End, More}
use Rattle.comp_types.specs.Declarations.{Declaration, Declarations, ATypeDef, AnInstanceType, ATypeAlias, ATypeExport, Done, Then}
use Rattle.comp_types.specs.Definitions.{Definition, ACoreInstance, AnInstance, AnAlias, AType, ACanon, AnImport, AnExport, definitions}
use Rattle.comp_types.specs.Spaces.{Space}
use Rattle.comp_types.specs.Added.{opened, entered, after_declaration, after, after_part, root}
use Rattle.comp_types.specs.Rules.{if_there, leaves_component, names_none, type_stays, outer_stays}
use Rattle.comp_types.specs.Validity.{IsValidDeclaration, AreValidDeclarations, IsValidDefinition, AreValid, IsValidPart, IsValidTree}
use Rattle.comp_inside.specs.Later.{Declares, DeclareAll, Defines, DefineAll, Stays, StaysWhole, ValidStay}

type_within : (scopes : List Space) (count i : ℕ) → type_stays scopes count i ≡ true → count < length scopes
type_within scopes count i h =
    ltb-true count (length scopes) (and_parts (nat_lt count (length scopes)) (not (leaves_component scopes count) || if_there (λ (scope : Space). if_there names_none (slice_get scope.types i)) (slice_get scopes count)) h).0

outer_within : (scopes : List Space) (sort : OuterSort) (count i : ℕ) → outer_stays scopes sort count i ≡ true → count < length scopes
outer_within scopes outer_sorts.Type count i h = type_within scopes count i h
outer_within scopes outer_sorts.CoreModule count i h = ltb-true count (length scopes) h
outer_within scopes outer_sorts.Component count i h = ltb-true count (length scopes) h

-- in the scopes around and in its own
own_and : (around : List Space) (s : Space) (count : ℕ) → count < length (s ∷ around) → count < length around + 1
own_and around s count h = omega (arith, h)

one_deeper : (around : List Space) (s : Space) → length (s ∷ around) + 1 ≡ length around + 1 + 1
one_deeper around s = omega arith

mutual
  declares : (around : List Space) (s : Space) (d : Declaration) → IsValidDeclaration around s d → Declares (length around + 1) d
  declares around s (ATypeDef d) v = tt
  declares around s (AnInstanceType ds) v = subst (λ n. DeclareAll n ds) (one_deeper around s) (all_declare (s ∷ around) (opened s) ds v.0)
  declares around s (ATypeAlias (type_aliases.Export i name)) v = tt
  declares around s (ATypeAlias (type_aliases.Outer count i)) v = own_and around s count (type_within (s ∷ around) count i ((v 8).borders refl))
  declares around s (ATypeExport name desc) v = tt

  all_declare : (around : List Space) (s : Space) (ds : Declarations) → AreValidDeclarations around s ds → DeclareAll (length around + 1) ds
  all_declare around s Done v = tt
  all_declare around s (Then d ds) v = (declares around s d v.0, all_declare around (after_declaration around s d) ds v.1)

defines : (around : List Space) (s : Space) (d : Definition) → IsValidDefinition around s d → Defines (length around + 1) d
defines around s (AnAlias (aliases.Outer sort count i)) v = own_and around s count (outer_within (s ∷ around) sort count i ((v 8).borders refl))
defines around s (AnAlias (aliases.Export sort i name)) v = tt
defines around s (AnAlias (aliases.CoreExport sort i name)) v = tt
defines around s (AType d) v = declares around s d v
defines around s (ACoreInstance i) v = tt
defines around s (AnInstance i) v = tt
defines around s (ACanon c) v = tt
defines around s (AnImport i) v = tt
defines around s (AnExport e) v = tt

all_define : (around : List Space) (s : Space) (ds : List Definition) → AreValid around s ds → DefineAll (length around + 1) ds
all_define around s [] v = tt
all_define around s (d ∷ ds) v = (defines around s d v.0, all_define around (after around s d) ds v.1)

mutual
  part_stays : (around : List Space) (s : Space) (part : Part) → IsValidPart around s part → Stays (length around + 1) part
  part_stays around s (CoreModule span m) v = tt
  part_stays around s (Nested span tree) v = subst (λ n. StaysWhole n tree) (one_deeper around s) (tree_stays (s ∷ around) (entered s) tree v)
  part_stays around s (CoreInstances items) v = all_define around s (definitions (CoreInstances items)) v
  part_stays around s (Instances items) v = all_define around s (definitions (Instances items)) v
  part_stays around s (Aliases items) v = all_define around s (definitions (Aliases items)) v
  part_stays around s (Types items) v = all_define around s (definitions (Types items)) v
  part_stays around s (Canons items) v = all_define around s (definitions (Canons items)) v
  part_stays around s (Imports items) v = all_define around s (definitions (Imports items)) v
  part_stays around s (Exports items) v = all_define around s (definitions (Exports items)) v
  part_stays around s (Custom span) v = tt

  tree_stays : (around : List Space) (s : Space) (tree : Tree) → IsValidTree around s tree → StaysWhole (length around + 1) tree
  tree_stays around s End v = tt
  tree_stays around s (More part rest) v = (part_stays around s part v.0, tree_stays around (after_part around s part) rest v.1)

pub valid_stay : ValidStay
valid_stay c v = tree_stays [] root c v
