-- What the type of a component stands for.
use Rattle.comp_types.specs.Items.{Signature}
use Rattle.comp_signature.specs.declared.ComponentType.{ComponentType}

abbrev pub component_signature : ComponentType → Signature
component_signature ty = record { imports = ty.imports; exports = ty.exports }
