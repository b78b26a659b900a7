-- What is left of a derivation, from a state of the machine.
use Rattle.std.proofs.Common.{◌≡◌, Option, Some, None, List, [], ◌∷◌, ◌++◌, ◌⊎◌}
use Rattle.core_body.specs.declared.operand.Operand.{Operand}
use Rattle.wasm_ast.specs.declared.instr.Instr.{Instr}
use Rattle.wasm_ast.specs.declared.instr.Instr.TheVariants as code
use Rattle.core_body.specs.Context.{Context}
use Rattle.core_body.specs.Typing.{Labels, Trees, Nil, Cons, spell, AllBelow, Typed}
use Rattle.core_body.specs.Machine.{Level, State, Running, Finished, Stuck, labels_of, leave}
use Rattle.core_body.proofs.Fits.{Fit, AllBelow-trans}

-- a derivation serves from lower operands too
pub Typed-below : (c : Context) (labels : Labels) (ts : Trees) (low before after : List Operand) → AllBelow low before → Typed c labels ts before after → Typed c labels ts low after
Typed-below c labels Nil low before after p d = AllBelow-trans low before after p d
Typed-below c labels (Cons t ts) low before after p d = (d.0, d.1, d.2, AllBelow-trans low before _ p d.3, d.4, d.5)

-- a level may end without an else
abbrev pub NoElse : Option (List Operand) → List Operand → Type 0
NoElse None rs = Unit {0}
NoElse (Some ps) rs = ps ≡ rs

-- what stands after the sequence of a level
abbrev pub After : Context → Labels → Level → (List Instr → Type 0) → List Instr → Type 0
After c labels l K rest =
    ((more : List Instr) × (rest ≡ code.End ∷ more) × NoElse l.other l.results × K more)
    ⊎ ((ps : List Operand) × (else : Trees) × (more : List Instr) × (l.other ≡ Some ps) × (rest ≡ code.Else ∷ spell else (code.End ∷ more))
    × Typed c (l.label ∷ labels) else ps l.results × K more)

abbrev pub Ends : Context → Labels → Level → (List Instr → Type 0) → List Instr → Type 0
Ends c labels l K is =
    (before : List Operand) × (trees : Trees) × (rest : List Instr) × Fit l.dead l.stack before
    × Typed c (l.label ∷ labels) trees before l.results × (is ≡ spell trees rest) × After c labels l K rest

abbrev pub push : List Operand → Level → Level
push rs l = record l { stack = rs ++ l.stack }

abbrev pub Remains : Context → List Level → Level → List Instr → Type 0
Remains c [] l is = Ends c [] l (λ more. more ≡ []) is
Remains c (o ∷ outer) l is = Ends c (labels_of (o ∷ outer)) l (λ more. Remains c outer (push l.results o) more) is

abbrev pub Opens : Context → State → List Instr → Type 0
Opens c (Running l outer) is = Remains c outer l is
Opens c Finished is = is ≡ []
Opens c Stuck is = ⊥

-- the rest after a level's end, by the levels around it
abbrev pub Rest : Context → List Level → List Operand → List Instr → Type 0
Rest c outer rs more = Opens c (leave rs outer) more

-- Remains, for any list of levels, by what is left after the end
pub remains : (c : Context) (outer : List Level) (l : Level) (is : List Instr) → Ends c (labels_of outer) l (Rest c outer l.results) is → Remains c outer l is
remains c [] l is e = e
remains c (o ∷ outer) l is e = e

pub remains-ends : (c : Context) (outer : List Level) (l : Level) (is : List Instr) → Remains c outer l is → Ends c (labels_of outer) l (Rest c outer l.results) is
remains-ends c [] l is e = e
remains-ends c (o ∷ outer) l is e = e
