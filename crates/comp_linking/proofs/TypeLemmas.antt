-- Declarations add no component.
use Rattle.std.proofs.Common.{◌≡◌, refl, List, ◌∷◌, slice_get}
use Rattle.std.specs.Option.{option_and_then}
use Rattle.wasm_ast.specs.declared.component.TypeDef.{TypeDef}
use Rattle.wasm_ast.specs.declared.component.TypeDef.TheVariants as defs
use Rattle.wasm_ast.specs.declared.component.TypeAlias.TheVariants as type_aliases
use Rattle.comp_types.specs.Items.{look_up}
use Rattle.comp_types.specs.Declarations.{Declaration, ATypeDef, AnInstanceType, ATypeAlias, ATypeExport}
use Rattle.comp_types.specs.Definitions.{AType}
use Rattle.comp_types.specs.Spaces.{Space, and_type, entry_of}
use Rattle.comp_types.specs.Types.{kind_of}
use Rattle.comp_types.specs.Added.{after, and_resource}
use Rattle.comp_linking.proofs.StayLemmas.{some_item_stays, index_stays}
use Rattle.comp_linking.proofs.NameLemmas.{outer_type_stays}

resource_stays : (s : Space) (d : TypeDef) → (and_resource s d).components ≡ s.components
resource_stays s (defs.Resource destructor) = refl
resource_stays s _ = refl

pub declaration_stays : (around : List Space) (s : Space) (d : Declaration) → (after around s (AType d)).components ≡ s.components
declaration_stays around s (ATypeDef d) = resource_stays (and_type s (entry_of (kind_of s d))) d
declaration_stays around s (AnInstanceType ds) = refl
declaration_stays around s (ATypeAlias (type_aliases.Export i name)) = some_item_stays s (option_and_then (look_up name) (slice_get s.instances i))
declaration_stays around s (ATypeAlias (type_aliases.Outer count i)) = outer_type_stays s (slice_get (s ∷ around) count) i
declaration_stays around s (ATypeExport name desc) = index_stays s desc
