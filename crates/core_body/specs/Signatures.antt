-- What the code's signatures stand for.
use Rattle.std.specs.Prelude.{List, [], ◌∷◌}
use Rattle.std.specs.Option.{option_to_list}
use Rattle.virt_base.specs.declared.core_type.CoreType.{CoreType}
use Rattle.core_body.specs.declared.shapes.Takes.{Takes}
use Rattle.core_body.specs.declared.shapes.Takes.TheVariants.{Nothing, One, Two, Three}
use Rattle.core_body.specs.declared.shapes.Signature.{Signature}
use Rattle.core_body.specs.declared.shapes.Signature.TheVariants as signature
use Rattle.core_body.specs.Shapes.{Shape, Missing, Fixed, AnyOperand, TwoNumbers, OneReference}

abbrev pub taken : Takes → List CoreType
taken Nothing = []
taken (One a) = a ∷ []
taken (Two a b) = a ∷ b ∷ []
taken (Three a b d) = a ∷ b ∷ d ∷ []

abbrev pub shape_at : Signature → Shape
shape_at signature.Missing = Missing
shape_at (signature.Fixed takes leaves) = Fixed (taken takes) (option_to_list leaves)
shape_at signature.AnyOperand = AnyOperand
shape_at signature.TwoNumbers = TwoNumbers
shape_at signature.OneReference = OneReference
