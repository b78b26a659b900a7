-- What is answered of a component.
use Rattle.std.specs.Prelude.{◌≡◌, Result, Ok, Err}
use Rattle.comp_grammar.specs.Trees.{Tree}
use Rattle.comp_types.specs.Added.{type_of}
use Rattle.comp_types.specs.Validity.{IsValidComponent, BreaksComponent}
use Rattle.comp_validate.specs.declared.fault.CompFault.{CompFault}
use Rattle.comp_validate.specs.declared.fault.CompFault.TheVariants.{Invalid, NoMemory}
use Rattle.comp_signature.specs.declared.ComponentType.{ComponentType}
use Rattle.comp_signature.specs.Signatures.{component_signature}

-- a valid component's type; or the least rule that the first faulty definition breaks, with its outermost section; or that memory ran out
abbrev pub Answers : Tree → Result ComponentType CompFault → Type 0
Answers tree (Ok ty) = IsValidComponent tree × (component_signature ty ≡ type_of tree)
Answers tree (Err (Invalid rule section)) = BreaksComponent tree rule section
Answers tree (Err NoMemory) = Unit {0}
