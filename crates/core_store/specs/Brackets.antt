-- Blocks and their ends, from the last instruction to the first.
use Rattle.std.specs.Prelude.{◌≡◌, List, [], ◌∷◌, Bool, true, false, Option, Some, None, drop, map}
use Rattle.std.specs.Option.{option_and_then}
use Rattle.wasm_ast.specs.declared.instr.Instr.{Instr}
use Rattle.wasm_ast.specs.declared.instr.Instr.TheVariants.{Block, Loop, If, Else, End}
use Rattle.core_store.specs.declared.brackets.Shape.{Shape}
use Rattle.core_store.specs.declared.brackets.Shape.TheVariants.{Opener, Middle, Closer, Inner}
use Rattle.core_store.specs.declared.brackets.Open.{Open}
use Rattle.core_store.specs.Tree.{Stop, Part, first, later, parts}

abbrev pub shape_of : Instr → Shape
shape_of (Block t) = Opener
shape_of (Loop t) = Opener
shape_of (If t) = Opener
shape_of Else = Middle
shape_of End = Closer
shape_of i = Inner

-- the ends that are left open after an instruction, each with whether it has an else part already
abbrev pub opened : Shape → List Bool → Option (List Bool)
opened Closer ends = Some (false ∷ ends)
opened Middle [] = None
opened Middle (true ∷ ends) = None
opened Middle (false ∷ ends) = Some (true ∷ ends)
opened Opener [] = None
opened Opener (has_else ∷ ends) = Some ends
opened Inner ends = Some ends

-- the ends that no block of the list opens, or none where a block has no end or an else stands alone
abbrev pub ends_of : List Instr → Option (List Bool)
ends_of [] = Some []
ends_of (i ∷ is) = option_and_then (opened (shape_of i)) (ends_of is)

-- a block that has no else part yet is followed by none
abbrev pub IsPlainEnd : Bool → List Part → Type 0
IsPlainEnd true ps = Unit {0}
IsPlainEnd false ps = ps ≡ record { here = (first ps).here; other = Stop } ∷ later ps

-- each open block leads where what is left of the code goes on after it
abbrev pub Opens : List Instr → List Open → List Part → Type 0
Opens code [] ps = Unit {0}
Opens code (o ∷ os) ps =
    (parts (drop o.behind code) ≡ later ps)
    × (parts (drop o.other code) ≡ record { here = (first ps).other; other = Stop } ∷ later ps)
    × IsPlainEnd o.has_else ps
    × Opens code os (later ps)

abbrev pub flags : List Open → List Bool
flags os = map (λ (o : Open). o.has_else) os
