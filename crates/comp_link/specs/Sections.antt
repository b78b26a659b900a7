-- A section of types defines types (Component Model, Binary.md, "Type Definitions"): what declares an export stands in an instance type.
use Rattle.comp_grammar.specs.Trees.{Part, Tree, Nested, Types, End, More}
use Rattle.comp_types.specs.Declarations.{Declaration, Declarations, ATypeExport, Done, Then, grouped}

abbrev pub IsDefined : Declaration → Type 0
IsDefined (ATypeExport name desc) = ⊥
IsDefined _ = Unit {0}

abbrev pub AreDefined : Declarations → Type 0
AreDefined Done = Unit {0}
AreDefined (Then d ds) = IsDefined d × AreDefined ds

-- in the component and in those that stand in it
abbrev mutual
  pub DefinesIn : Part → Type 0
  DefinesIn (Nested span tree) = DefinesTypes tree
  DefinesIn (Types items) = AreDefined (grouped items)
  DefinesIn _ = Unit {0}

  pub DefinesTypes : Tree → Type 0
  DefinesTypes End = Unit {0}
  DefinesTypes (More part rest) = DefinesIn part × DefinesTypes rest
