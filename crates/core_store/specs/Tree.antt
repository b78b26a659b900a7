-- The structured syntax of a flat list of instructions (WebAssembly Core 2.0, sections 2.4.8 and 5.4.1).
use Rattle.std.specs.Prelude.{List, [], ◌∷◌}
use Rattle.wasm_ast.specs.declared.instr.BlockType.{BlockType}
use Rattle.wasm_ast.specs.declared.instr.Instr.{Instr}
use Rattle.wasm_ast.specs.declared.instr.Instr.TheVariants.{Block, Loop, If, Else, End}

-- a sequence of instructions
pub data Seq : Type 0 where
  Stop : Seq
  Then : (i : Instr) (rest : Seq) → Seq
  InBlock : (type : BlockType) (body rest : Seq) → Seq
  InLoop : (type : BlockType) (body rest : Seq) → Seq
  InIf : (type : BlockType) (then other rest : Seq) → Seq

-- what is left of a sequence, and the else part that follows it (Stop where there is none)
pub record Part : Type 0 where
  pub here : Seq
  pub other : Seq

abbrev pub first : List Part → Part
first [] = record { here = Stop; other = Stop }
first (p ∷ ps) = p

abbrev pub later : List Part → List Part
later [] = []
later (p ∷ ps) = ps

-- an instruction before a part
abbrev pub onto : (Seq → Seq) → List Part → List Part
onto f ps = record { here = f (first ps).here; other = (first ps).other } ∷ later ps

-- a block round the first part and its else part, before the second part
abbrev pub enclose : (Seq → Seq → Seq → Seq) → List Part → List Part
enclose f ps = onto (f (first ps).here (first ps).other) (later ps)

abbrev pub placed : Instr → List Part → List Part
placed End ps = record { here = Stop; other = Stop } ∷ ps
placed Else ps = record { here = Stop; other = (first ps).here } ∷ later ps
placed (Block t) ps = enclose (λ body other rest. InBlock t body rest) ps
placed (Loop t) ps = enclose (λ body other rest. InLoop t body rest) ps
placed (If t) ps = enclose (λ body other rest. InIf t body other rest) ps
placed i ps = onto (Then i) ps

-- what is left from here of the sequence, of the one round it, and so on
abbrev pub parts : List Instr → List Part
parts [] = []
parts (i ∷ is) = placed i (parts is)

-- the sequence of a function's body
abbrev pub tree : List Instr → Seq
tree is = (first (parts is)).here
