-- The parts of a type in order, each with its name, and with its type if it has one; and walks through two types by them.
use Rattle.std.specs.Prelude.{ℕ, List, [], ◌∷◌, option_map, Option as Opt, Some, None}
use Rattle.wit_types.specs.Plain.{Name, Plain, Parts, AsRecord, AsTuple, AsVariant, AsEnum, AsOption, AsResult, ListType, RecordType, VariantType, End, More, Bare, plain}
use Rattle.comp_types.specs.Items.{same_name}
use Rattle.comp_types.specs.Matching.{Pairs, onward, only_if, matched_answer}
use Rattle.type_table.specs.declared.slots.Slot.{Slot}

abbrev pub Part : Type 0
Part = Name × Opt Plain

abbrev pub slots_in : Parts → List Part
slots_in End = []
slots_in (More name ty rest) = (name, Some ty) ∷ slots_in rest
slots_in (Bare name rest) = (name, None) ∷ slots_in rest

abbrev pub slots_of : Plain → List Part
slots_of (ListType item) = ([], Some item) ∷ []
slots_of (RecordType form fields) = slots_in fields
slots_of (VariantType form cases) = slots_in cases
slots_of _ = []

-- a number for each form of types with parts; others have the number 0
abbrev pub form_number : Plain → ℕ
form_number (ListType item) = 1
form_number (RecordType AsRecord fields) = 2
form_number (RecordType AsTuple fields) = 3
form_number (VariantType AsVariant cases) = 4
form_number (VariantType AsEnum cases) = 5
form_number (VariantType AsOption cases) = 6
form_number (VariantType AsResult cases) = 7
form_number _ = 0

-- the part that a slot stands for
abbrev pub part_of : Slot → Part
part_of slot = (slot.name.now, option_map (λ ty. plain ty.now) slot.ty)

abbrev pub matched_slots : Pairs → List Part → List Part → Opt Pairs
matched_slots by [] [] = Some by
matched_slots by (a ∷ these) (b ∷ others) = only_if (same_name a.0 b.0) (onward (λ more. matched_slots more these others) (matched_answer by a.1 b.1))
matched_slots by _ _ = None
