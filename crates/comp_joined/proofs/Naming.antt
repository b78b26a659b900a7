-- Sections that make nothing name alone, and bring no module and no component.
use Rattle.std.proofs.Common.{◌≡◌, refl, sym, subst, ℕ, zero, suc, List, [], ◌∷◌, map, Option, None}
use Rattle.std.specs.List.{AllByRecursion}
use Rattle.wasm_ast.specs.declared.component.Alias.{Alias}
use Rattle.wasm_ast.specs.declared.component.Alias.TheVariants as aliases
use Rattle.wasm_ast.specs.declared.component.OuterSort.TheVariants as outer_sorts
use Rattle.wasm_ast.specs.declared.component.TypeDef.{TypeDef}
use Rattle.wasm_ast.specs.declared.component.TypeDef.TheVariants as defs
use Rattle.wasm_ast.specs.declared.component.TypeItem.{TypeItem}
use Rattle.wasm_ast.specs.declared.component.TypeItem.TheVariants as items
use Rattle.wasm_ast.specs.declared.component.ComponentImport.{ComponentImport}
use Rattle.wasm_ast.specs.declared.component.ComponentExport.{ComponentExport}
use Rattle.wasm_ast.specs.KeptTypes.{resource_destructor}
use Rattle.comp_grammar.specs.Trees.{Part, CoreModule, Nested, CoreInstances, Instances, Aliases, Types, Canons, Imports, Exports, Custom}
use Rattle.comp_types.specs.Declarations.{Declaration, Declarations, ATypeDef, AnInstanceType, ATypeAlias, ATypeExport, Done, Then as Declared, behind as declared_behind, defined, grouped}
use Rattle.comp_types.specs.Definitions.{Definition, AnAlias, AType, AnImport, AnExport, types_in}
use Rattle.comp_types.specs.Spaces.{Space}
use Rattle.comp_types.specs.Added.{after, after_part}
use Rattle.comp_link.specs.Plans.{Plan, End, Then, Scope, followed, planned_by, scope_after, plan_all, plan_part}
use Rattle.comp_joins.specs.Joining.{AllName, JoinOnly}
use Rattle.comp_joined.specs.Form.{DefinesNoResource, NamesAnItem, MakesNothing}

-- ---- plans

followed_names : (p q : Plan) → AllName p → AllName q → AllName (followed p q)
followed_names End q hp hq = hq
followed_names (Then item p) q hp hq = (hp.0, followed_names p q hp.1 hq)

-- wherever the definition stands
abbrev Names : Definition → Type 0
Names d = (scope : Scope) (s : Space) → AllName (planned_by scope s d) × (scope_after [] scope d ≡ scope)

abbrev EachNames : List Definition → Type 0
EachNames [] = Unit {0}
EachNames (d ∷ ds) = Names d × EachNames ds

abbrev AreNames : Scope → Space → List Definition → Scope → Type 0
AreNames scope s ds next = AllName (plan_all [] [] s next ds).plan × ((plan_all [] [] s next ds).scope ≡ scope)

all_name : (scope : Scope) (s : Space) (ds : List Definition) → EachNames ds → AreNames scope s ds scope
all_name scope s [] h = (tt, refl)
all_name scope s (d ∷ ds) h =
    let one = h.0 scope s in
    let more : AreNames scope (after [] s d) ds (scope_after [] scope d) = subst (AreNames scope (after [] s d) ds) (sym one.1) (all_name scope (after [] s d) ds h.1) in
    (followed_names (planned_by scope s d) (plan_all [] [] (after [] s d) (scope_after [] scope d) ds).plan one.0 more.0, more.1)

-- ---- definitions

imports_name : (is : List ComponentImport) → EachNames (map AnImport is)
imports_name [] = tt
imports_name (i ∷ is) = (λ scope s. ((tt, tt), refl), imports_name is)

exports_name : (es : List ComponentExport) → EachNames (map AnExport es)
exports_name [] = tt
exports_name (e ∷ es) = (λ scope s. ((tt, tt), refl), exports_name es)

alias_names : (a : Alias) → NamesAnItem a → Names (AnAlias a)
alias_names (aliases.Export sort instance name) h = λ scope s. ((tt, tt), refl)
alias_names (aliases.Outer outer_sorts.Type count index) h = λ scope s. (tt, refl)
alias_names (aliases.Outer outer_sorts.CoreModule count index) h = absurd h
alias_names (aliases.Outer outer_sorts.Component count index) h = absurd h
alias_names (aliases.CoreExport sort instance name) h = absurd h

aliases_name : (list : List Alias) → AllByRecursion NamesAnItem list → EachNames (map AnAlias list)
aliases_name [] h = tt
aliases_name (a ∷ list) h = (alias_names a h.0, aliases_name list h.1)

-- ---- types

abbrev IsPlain : Declaration → Type 0
IsPlain (ATypeDef def) = resource_destructor def ≡ None
IsPlain _ = Unit {0}

abbrev ArePlain : Declarations → Type 0
ArePlain Done = Unit {0}
ArePlain (Declared d ds) = IsPlain d × ArePlain ds

behind_plain : (n : ℕ) (ds : Declarations) → ArePlain ds → ArePlain (declared_behind n ds)
behind_plain zero ds h = h
behind_plain (suc n) Done h = tt
behind_plain (suc n) (Declared d ds) h = behind_plain n ds h.1

defined_plain : (def : TypeDef) (ds : Declarations) → resource_destructor def ≡ None → ArePlain ds → ArePlain (defined def ds)
defined_plain (defs.Primitive primitive) ds e h = (refl, h)
defined_plain (defs.Record fields) ds e h = (refl, h)
defined_plain (defs.Variant cases) ds e h = (refl, h)
defined_plain (defs.List item) ds e h = (refl, h)
defined_plain (defs.Tuple types) ds e h = (refl, h)
defined_plain (defs.Flags labels) ds e h = (refl, h)
defined_plain (defs.Enum labels) ds e h = (refl, h)
defined_plain (defs.Option item) ds e h = (refl, h)
defined_plain (defs.Result ok err) ds e h = (refl, h)
defined_plain (defs.Own index) ds e h = (refl, h)
defined_plain (defs.Borrow index) ds e h = (refl, h)
defined_plain (defs.Func params result) ds e h = (refl, h)
defined_plain (defs.Instance n) ds e h = (tt, behind_plain n ds h)
defined_plain (defs.Resource destructor) ds e h = (e, h)

grouped_plain : (is : List TypeItem) → AllByRecursion DefinesNoResource is → ArePlain (grouped is)
grouped_plain [] h = tt
grouped_plain (items.Define def ∷ rest) h = defined_plain def (grouped rest) h.0 (grouped_plain rest h.1)
grouped_plain (items.Alias a ∷ rest) h = (tt, grouped_plain rest h.1)
grouped_plain (items.Export name desc ∷ rest) h = (tt, grouped_plain rest h.1)

def_names : (def : TypeDef) → resource_destructor def ≡ None → Names (AType (ATypeDef def))
def_names (defs.Primitive primitive) e = λ scope s. (tt, refl)
def_names (defs.Record fields) e = λ scope s. (tt, refl)
def_names (defs.Variant cases) e = λ scope s. (tt, refl)
def_names (defs.List item) e = λ scope s. (tt, refl)
def_names (defs.Tuple types) e = λ scope s. (tt, refl)
def_names (defs.Flags labels) e = λ scope s. (tt, refl)
def_names (defs.Enum labels) e = λ scope s. (tt, refl)
def_names (defs.Option item) e = λ scope s. (tt, refl)
def_names (defs.Result ok err) e = λ scope s. (tt, refl)
def_names (defs.Own index) e = λ scope s. (tt, refl)
def_names (defs.Borrow index) e = λ scope s. (tt, refl)
def_names (defs.Func params result) e = λ scope s. (tt, refl)
def_names (defs.Instance n) e = λ scope s. (tt, refl)
def_names (defs.Resource destructor) e = absurd (cc)

declaration_names : (d : Declaration) → IsPlain d → Names (AType d)
declaration_names (ATypeDef def) h = def_names def h
declaration_names (AnInstanceType ds) h = λ scope s. (tt, refl)
declaration_names (ATypeAlias a) h = λ scope s. (tt, refl)
declaration_names (ATypeExport name desc) h = λ scope s. (tt, refl)

types_name : (ds : Declarations) → ArePlain ds → EachNames (types_in ds)
types_name Done h = tt
types_name (Declared d ds) h = (declaration_names d h.0, types_name ds h.1)

-- ---- sections

part_names : (part : Part) → MakesNothing part → (scope : Scope) (s : Space) → AllName (plan_part [] [] s scope part).plan × ((plan_part [] [] s scope part).scope ≡ scope)
part_names (Types is) h scope s = all_name scope s (types_in (grouped is)) (types_name (grouped is) (grouped_plain is h))
part_names (Aliases list) h scope s = all_name scope s (map AnAlias list) (aliases_name list h)
part_names (Imports is) h scope s = all_name scope s (map AnImport is) (imports_name is)
part_names (Exports es) h scope s = all_name scope s (map AnExport es) (exports_name es)
part_names (CoreModule span m) h scope s = absurd h
part_names (Nested span inner) h scope s = absurd h
part_names (CoreInstances is) h scope s = absurd h
part_names (Instances is) h scope s = absurd h
part_names (Canons is) h scope s = absurd h
part_names (Custom span) h scope s = absurd h

pub parts_join : (scope : Scope) (s : Space) (parts : List Part) → AllByRecursion MakesNothing parts → JoinOnly scope s parts
parts_join scope s [] h = tt
parts_join scope s (part ∷ parts) h =
    let one = part_names part h.0 scope s in
    (one.0, one.1, parts_join scope (after_part [] s part) parts h.1)
