-- What is noted of values.
use Rattle.std.specs.Prelude.{ℕ, List, [], ◌∷◌, map, Option, Some, None}
use Rattle.wit_types.specs.Plain.{Plain}
use Rattle.wit_types.specs.PlainValue.{PlainValues, Payload}
use Rattle.wit_types.specs.Layout.{size}
use Rattle.wit_types.specs.Limits.{parts}
use Rattle.reference_step.specs.Atoms as reference
use Rattle.reference_step.specs.Atoms.{atoms, each_atoms, payload_atoms, count}
use Rattle.ref_guards.specs.declared.atoms.Atom.{Atom}
use Rattle.ref_guards.specs.declared.atoms.Atom.TheVariants.{Text, Elements, Handle}

abbrev pub shown : Atom → reference.Atom
shown (Text bytes) = reference.Text bytes
shown (Elements count size) = reference.Elements count size
shown (Handle kind id) = reference.Handle kind id

abbrev pub shown_all : List Atom → List reference.Atom
shown_all noted = map shown noted

-- the parts of a result type
abbrev pub parts_of_result : Option Plain → ℕ
parts_of_result None = 0
parts_of_result (Some ty) = parts ty

-- of a payload, where the case has one
abbrev pub optional_atoms : Option Plain → Payload → List reference.Atom
optional_atoms None payload = []
optional_atoms (Some ty) payload = payload_atoms (λ v. atoms ty v) payload

-- a list, and what is in it
abbrev pub items_atoms : Plain → PlainValues → List reference.Atom
items_atoms item vs = reference.Elements (count vs) (size item) ∷ each_atoms (λ v. atoms item v) vs
