-- Valid components, and which fault is answered of others.
use Rattle.std.specs.Prelude.{◌≡◌, ◌⊎◌, ℕ, ◌+◌, List, [], ◌∷◌, IsTrue, Some}
use Rattle.core_validate.specs.Validity.{IsValidModule, IsLeastFailing}
use Rattle.comp_grammar.specs.Trees.{Part, Tree, CoreModule, Nested, End, More}
use Rattle.comp_types.specs.Declarations.{Declaration, Declarations, AnInstanceType, Done, Then}
use Rattle.comp_types.specs.Spaces.{Space}
use Rattle.comp_types.specs.Definitions.{Definition, AType, definitions}
use Rattle.comp_types.specs.Added.{opened, instance_type, after_declaration, after_declarations, after, entered, after_part, root}
use Rattle.comp_types.specs.Rules as rules

-- ---- one definition

-- The rule of this number holds of the definition.
pub record Holds (around : List Space) (s : Space) (d : Definition) (rule : ℕ) : Type 0 where
  pub indexes : rule ≡ 3 → IsTrue (rules.indexes_stand around s d)
  pub core_arguments : rule ≡ 4 → IsTrue (rules.core_arguments_given s d)
  pub core_types : rule ≡ 5 → IsTrue (rules.core_arguments_meet s d)
  pub inline_names : rule ≡ 6 → IsTrue (rules.inline_names_differ d)
  pub aliases : rule ≡ 7 → IsTrue (rules.alias_names_export s d)
  pub borders : rule ≡ 8 → IsTrue (rules.stays_inside around s d)
  pub labels : rule ≡ 9 → IsTrue (rules.types_are_filled d)
  pub sizes : rule ≡ 10 → IsTrue (rules.types_are_small s d)
  pub kinds : rule ≡ 11 → IsTrue (rules.kinds_are_due s d)
  pub resources : rule ≡ 12 → IsTrue (rules.resources_are_due s d)
  pub functions : rule ≡ 13 → IsTrue (rules.functions_are_sound s d)
  pub destructors : rule ≡ 14 → IsTrue (rules.resources_are_sound s d)
  pub declared_names : rule ≡ 15 → IsTrue (rules.declared_name_is_new s d)
  pub flat_types : rule ≡ 16 → IsTrue (rules.lifts_flat_type s d)
  pub options : rule ≡ 17 → IsTrue (rules.options_are_sound s d)
  pub own_resources : rule ≡ 18 → IsTrue (rules.resource_is_own s d)
  pub import_names : rule ≡ 19 → IsTrue (rules.imported_name_is_new s d)
  pub legal_names : rule ≡ 20 → IsTrue (rules.names_are_legal d)
  pub export_names : rule ≡ 21 → IsTrue (rules.exported_name_is_new s d)
  pub stated_types : rule ≡ 22 → rules.StatedTypesFit s d
  pub arguments : rule ≡ 23 → rules.ArgumentsFit s d
  pub annotations : rule ≡ 24 → IsTrue (rules.annotations_fit s d)

abbrev pub AllHold : List Space → Space → Definition → Type 0
AllHold around s d = (rule : ℕ) → Holds around s d rule

abbrev mutual
  -- An instance type is valid where its declarations are, in scopes of their own, and where it is within the limits.
  pub IsValidDeclaration : List Space → Space → Declaration → Type 0
  IsValidDeclaration around s (AnInstanceType ds) = AreValidDeclarations (s ∷ around) (opened s) ds
      × IsTrue (rules.is_within_limits (instance_type (after_declarations (s ∷ around) (opened s) ds)))
  IsValidDeclaration around s d = AllHold around s (AType d)

  pub AreValidDeclarations : List Space → Space → Declarations → Type 0
  AreValidDeclarations around s Done = Unit {0}
  AreValidDeclarations around s (Then d ds) = IsValidDeclaration around s d × AreValidDeclarations around (after_declaration around s d) ds

abbrev pub IsValidDefinition : List Space → Space → Definition → Type 0
IsValidDefinition around s (AType d) = IsValidDeclaration around s d
IsValidDefinition around s d = AllHold around s d

abbrev pub AreValid : List Space → Space → List Definition → Type 0
AreValid around s [] = Unit {0}
AreValid around s (d ∷ ds) = IsValidDefinition around s d × AreValid around (after around s d) ds

-- ---- components

abbrev mutual
  -- rule 1: a module is valid; rule 2: a component in the component is
  pub IsValidPart : List Space → Space → Part → Type 0
  IsValidPart around s (CoreModule span m) = IsValidModule m
  IsValidPart around s (Nested span tree) = IsValidTree (s ∷ around) (entered s) tree
  IsValidPart around s part = AreValid around s (definitions part)

  pub IsValidTree : List Space → Space → Tree → Type 0
  IsValidTree around s End = Unit {0}
  IsValidTree around s (More part rest) = IsValidPart around s part × IsValidTree around (after_part around s part) rest

-- Each rule holds of each definition, in the index spaces that the definitions before it make.
abbrev pub IsValidComponent : Tree → Type 0
IsValidComponent tree = IsValidTree [] root tree

-- ---- which fault is answered

abbrev pub IsLeastOf : List Space → Space → Definition → ℕ → Type 0
IsLeastOf around s d rule = IsLeastFailing (Holds around s d) (Some rule)

abbrev mutual
  -- Of an instance type it is that of its first declaration at fault; the limits of its own are asked when there is none.
  pub BreaksDeclaration : List Space → Space → Declaration → ℕ → Type 0
  BreaksDeclaration around s (AnInstanceType ds) rule = BreakDeclarations (s ∷ around) (opened s) ds rule
      ⊎ (AreValidDeclarations (s ∷ around) (opened s) ds × (rule ≡ 10) × (IsTrue (rules.is_within_limits (instance_type (after_declarations (s ∷ around) (opened s) ds))) → ⊥))
  BreaksDeclaration around s d rule = IsLeastOf around s (AType d) rule

  -- the first declaration at fault
  pub BreakDeclarations : List Space → Space → Declarations → ℕ → Type 0
  BreakDeclarations around s Done rule = ⊥
  BreakDeclarations around s (Then d ds) rule = BreaksDeclaration around s d rule ⊎ (IsValidDeclaration around s d × BreakDeclarations around (after_declaration around s d) ds rule)

-- the least rule that fails of the definition
abbrev pub BreaksDefinition : List Space → Space → Definition → ℕ → Type 0
BreaksDefinition around s (AType d) rule = BreaksDeclaration around s d rule
BreaksDefinition around s d rule = IsLeastOf around s d rule

-- the first definition at fault
abbrev pub Break : List Space → Space → List Definition → ℕ → Type 0
Break around s [] rule = ⊥
Break around s (d ∷ ds) rule = BreaksDefinition around s d rule ⊎ (IsValidDefinition around s d × Break around (after around s d) ds rule)

-- whatever fails in a module of the component is rule 1, and whatever fails in a component in it is rule 2
abbrev pub BreaksPart : List Space → Space → Part → ℕ → Type 0
BreaksPart around s (CoreModule span m) rule = (rule ≡ 1) × (IsValidModule m → ⊥)
BreaksPart around s (Nested span tree) rule = (rule ≡ 2) × (IsValidTree (s ∷ around) (entered s) tree → ⊥)
BreaksPart around s part rule = Break around s (definitions part) rule

-- The first section at fault, counted from this one on with the custom ones.
abbrev pub BreaksTree : List Space → Space → Tree → ℕ → ℕ → Type 0
BreaksTree around s End rule section = ⊥
BreaksTree around s (More part rest) rule section = ((section ≡ 0) × BreaksPart around s part rule)
    ⊎ (IsValidPart around s part × ((later : ℕ) × (section ≡ later + 1) × BreaksTree around (after_part around s part) rest rule later))

-- The component breaks this rule in this section.
abbrev pub BreaksComponent : Tree → ℕ → ℕ → Type 0
BreaksComponent tree rule section = BreaksTree [] root tree rule section
