-- Types of the same form and names whose parts have other types.
use Rattle.std.specs.Prelude.{◌≡◌, ℕ, List, [], ◌∷◌, map, option_map, is_some, slice_get, ⊤, Option as Opt, Some, None}
use Rattle.std.specs.declared.rc.Rc.{Rc}
use Rattle.std.specs.Global.{Global}
use Rattle.wit_types.specs.Plain.{Name, Plain, Parts, ListType, RecordType, VariantType, End, More, Bare, case_part}
use Rattle.comp_facts.specs.Facts.{and_part, and_bare}
use Rattle.type_table.specs.Slots.{Part}

-- parts have types where others have them
abbrev pub Fits : List Part → List (Opt Plain) → Type 0
Fits [] [] = ⊤
Fits (part ∷ parts) (ty ∷ tys) = (is_some part.1 ≡ is_some ty) × Fits parts tys
Fits _ _ = ⊥

abbrev pub retyped_parts : Parts → List (Opt Plain) → Parts
retyped_parts End tys = End
retyped_parts (More name _ rest) (ty ∷ tys) = case_part name ty (retyped_parts rest tys)
retyped_parts (Bare name rest) (ty ∷ tys) = case_part name ty (retyped_parts rest tys)
retyped_parts _ [] = End

abbrev pub retyped : Plain → List (Opt Plain) → Plain
retyped (ListType _) (Some ty ∷ _) = ListType ty
retyped (RecordType form fields) tys = RecordType form (retyped_parts fields tys)
retyped (VariantType form cases) tys = VariantType form (retyped_parts cases tys)
retyped ty _ = ty

abbrev pub value_of : Opt (Rc Plain Global) → Opt Plain
value_of part = option_map (λ (p : Rc Plain Global). p.value) part

abbrev pub values_of : List (Opt (Rc Plain Global)) → List (Opt Plain)
values_of parts = map value_of parts

abbrev pub flat_value : Opt (Opt Plain) → Opt Plain
flat_value None = None
flat_value (Some ty) = ty

-- the type of the part at an index, if it has one
abbrev pub part_value : List (Opt Plain) → ℕ → Opt Plain
part_value tys index = flat_value (slice_get tys index)

-- one part more, with a type or without
abbrev pub and_slot : Parts → Name → Opt Plain → Parts
and_slot ps name None = and_bare ps name
and_slot ps name (Some ty) = and_part ps name ty
