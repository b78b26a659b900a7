-- What is still to be judged of a section of types while instance types are open: each has that many declarations left, and then it is
-- closed. `whole` is what is to be said of the whole section, of the scopes at its end and the answer.
use Rattle.std.specs.Prelude.{◌≡◌, ℕ, List, [], ◌∷◌, Option, Some, None, IsTrue, ◌⊎◌, ⊤}
use Rattle.wasm_ast.specs.declared.component.TypeItem.{TypeItem}
use Rattle.wasm_ast.specs.declared.component.TypeItem.TheVariants as items
use Rattle.wasm_ast.specs.KeptTypes.{declaration_count}
use Rattle.comp_types.specs.Declarations.{Declaration, Declarations, ATypeDef, ATypeAlias, ATypeExport, Then, first_of, behind, defined}
use Rattle.comp_types.specs.Spaces.{Space}
use Rattle.comp_types.specs.Definitions.{types_in}
use Rattle.comp_types.specs.Added.{instance_type, after_declarations}
use Rattle.comp_types.specs.Rules.{is_within_limits}
use Rattle.comp_types.specs.Validity.{AreValidDeclarations, BreakDeclarations}
use Rattle.comp_defining.specs.declared.scopes.Scopes.{Scopes}
use Rattle.comp_defining.specs.Around.{StandAll}
use Rattle.comp_defining.specs.Judged.{JudgedEach}
use Rattle.comp_validate.specs.Closing.{closed}

-- ---- the list with an item in front

abbrev pub in_front : TypeItem → Declarations → Declarations
in_front (items.Define d) rest = defined d rest
in_front (items.Alias a) rest = Then (ATypeAlias a) rest
in_front (items.Export name desc) rest = Then (ATypeExport name desc) rest

-- an item alone, but for an instance type
abbrev pub alone : TypeItem → Declaration
alone (items.Define d) = ATypeDef d
alone (items.Alias a) = ATypeAlias a
alone (items.Export name desc) = ATypeExport name desc

-- how many declarations stand after an instance type
abbrev pub item_count : TypeItem → Option ℕ
item_count (items.Define d) = declaration_count d
item_count (items.Alias a) = None
item_count (items.Export name desc) = None

-- ---- what is to be judged

abbrev pub IsSound : List Space → Space → Declarations → Type 0
IsSound around s ds = AreValidDeclarations around s ds × IsTrue (is_within_limits (instance_type (after_declarations around s ds)))

-- the declarations of an instance type, and what is later
abbrev pub Wholly : List Space → Space → Declarations → (later : Option ℕ → Type 0) → Option ℕ → Type 0
Wholly around s ds later None = IsSound around s ds × later None
Wholly around s ds later (Some rule) = BreakDeclarations around s ds rule
    ⊎ ((AreValidDeclarations around s ds × (rule ≡ 10) × (IsTrue (is_within_limits (instance_type (after_declarations around s ds))) → ⊥))
    ⊎ (IsSound around s ds × later (Some rule)))

abbrev pub Rest : List ℕ → List Space → Space → Declarations → Scopes → Option ℕ → Type 0
Rest [] around s ds x answer = JudgedEach around s (types_in ds) x answer
Rest (n ∷ counts) [] s ds x answer = ⊤
Rest (n ∷ counts) (t ∷ around) s ds x answer = Wholly (t ∷ around) s (first_of n ds) (Rest counts around (closed t (after_declarations (t ∷ around) s (first_of n ds))) (behind n ds) x) answer

-- ---- a step

-- what is judged of the rest in these scopes is judged of the whole
pub record Leads (whole : Scopes → Option ℕ → Type 0) (counts : List ℕ) (ds : Declarations) (x : Scopes) : Type 0 where
  pub around : List Space
  pub inner : Space
  pub stand : StandAll around inner x
  pub rest : (y : Scopes) (answer : Option ℕ) → Rest counts around inner ds y answer → whole y answer

abbrev pub Step : (whole : Scopes → Option ℕ → Type 0) → List ℕ → Declarations → Scopes → Option ℕ → Type 0
Step whole counts ds x None = Leads whole counts ds x
Step whole counts ds x (Some rule) = (y : Scopes) → whole y (Some rule)
