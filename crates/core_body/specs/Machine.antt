-- One pass over the flat list, with a level for each construct that is open.
use Rattle.std.specs.Prelude.{ℕ, Option, Some, None, List, [], ◌∷◌, ◌++◌, slice_get, Bool, true, false, ◌&&◌, if◌then◌else◌}
use Rattle.virt_base.specs.declared.core_type.CoreType.{CoreType}
use Rattle.virt_base.specs.declared.core_type.CoreType.TheVariants.{I32, I64, Funcref, Externref}
use Rattle.wasm_ast.specs.declared.module.CoreFunc.{CoreFunc}
use Rattle.wasm_ast.specs.declared.instr.Instr.{Instr}
use Rattle.wasm_ast.specs.declared.instr.Instr.TheVariants as code
use Rattle.core_body.specs.declared.operand.Operand.{Operand}
use Rattle.core_body.specs.declared.operand.Operand.TheVariants.{Any, Known}
use Rattle.core_body.specs.Context.{Context, function_type, block_type}
use Rattle.core_body.specs.Shapes.{Shape, Missing, Fixed, AnyOperand, TwoNumbers, OneReference, shape, select_shape, call_shape, indirect_shape}
use Rattle.core_body.specs.Typing.{Labels, operands, outermost, label_at}

abbrev pub same : CoreType → CoreType → Bool
same I32 I32 = true
same I64 I64 = true
same Funcref Funcref = true
same Externref Externref = true
same _ _ = false

abbrev pub below : Operand → Operand → Bool
below Any o = true
below (Known t) Any = false
below (Known t) (Known u) = same t u

abbrev pub same_list : List Operand → List Operand → Bool
same_list [] [] = true
same_list [] (y ∷ ys) = false
same_list (x ∷ xs) [] = false
same_list (x ∷ xs) (y ∷ ys) = below x y && (below y x && same_list xs ys)

-- takes operands off a stack that ends in any operands where the code is dead
abbrev pub pops : Bool → List Operand → List Operand → Option (List Operand)
pops dead os [] = Some os
pops true [] (p ∷ ps) = Some []
pops false [] (p ∷ ps) = None
pops dead (o ∷ os) (p ∷ ps) = if below o p then pops dead os ps else None

-- operands put on what was left
abbrev pub put : List Operand → Option (List Operand) → Option (List Operand)
put rs None = None
put rs (Some os) = Some (rs ++ os)

-- an open construct: its operands, what a branch to it wants, if it is the target of branches, and what its end wants;
-- `other` has the parameters of an else that may come
pub record Level : Type 0 where
  pub dead : Bool
  pub stack : List Operand
  pub label : Option (List Operand)
  pub results : List Operand
  pub other : Option (List Operand)

pub data State : Type 0 where
  Running : (level : Level) (outer : List Level) → State
  Finished : State
  Stuck : State

-- what an instruction takes and leaves; after the last kind the code is dead
pub data Use : Type 0 where
  Refused : Use
  Goes : (takes leaves : List Operand) → Use
  Dies : (takes : List Operand) → Use

abbrev pub labels_of : List Level → Labels
labels_of [] = []
labels_of (l ∷ ls) = l.label ∷ labels_of ls

abbrev pub top : List Operand → Operand
top [] = Any
top (o ∷ os) = o

abbrev pub second : List Operand → Operand
second [] = Any
second (o ∷ os) = top os

abbrev pub third : List Operand → Operand
third [] = Any
third (o ∷ os) = second os

abbrev pub known_of : Operand → Operand → Operand
known_of Any o = o
known_of (Known t) o = Known t

abbrev pub is_number : Operand → Bool
is_number (Known Funcref) = false
is_number (Known Externref) = false
is_number (Known I32) = true
is_number (Known I64) = true
is_number Any = true

-- the reference type that an operand is taken as
abbrev pub reference_of : Operand → Option CoreType
reference_of Any = Some Funcref
reference_of (Known I32) = None
reference_of (Known I64) = None
reference_of (Known Funcref) = Some Funcref
reference_of (Known Externref) = Some Externref

abbrev pub of_reference : Option CoreType → Use
of_reference None = Refused
of_reference (Some t) = Goes (Known t ∷ []) (Known I32 ∷ [])

abbrev pub of_number : Operand → Use
of_number o = if is_number o then Goes (Known I32 ∷ o ∷ o ∷ []) (o ∷ []) else Refused

abbrev pub of_shape : List Operand → Shape → Use
of_shape os Missing = Refused
of_shape os (Fixed params results) = Goes (operands params) (operands results)
of_shape os AnyOperand = Goes (top os ∷ []) []
of_shape os TwoNumbers = of_number (known_of (second os) (third os))
of_shape os OneReference = of_reference (reference_of (top os))

abbrev pub of_label : Option (List Operand) → (List Operand → Use) → Use
of_label None f = Refused
of_label (Some l) f = f l

abbrev pub of_return : Option (List CoreType) → Use
of_return None = Refused
of_return (Some ts) = Dies (operands ts)

abbrev pub all_below : List Operand → List Operand → Bool
all_below [] [] = true
all_below [] (y ∷ ys) = false
all_below (x ∷ xs) [] = false
all_below (x ∷ xs) (y ∷ ys) = below x y && all_below xs ys

abbrev pub under : List Operand → List Operand
under [] = []
under (o ∷ os) = os

-- as many operands as the label has, from the stack
abbrev pub like : List Operand → List Operand → List Operand
like [] os = []
like (x ∷ xs) [] = Any ∷ like xs []
like (x ∷ xs) (o ∷ os) = o ∷ like xs os

abbrev pub takes_them : Option (List Operand) → List Operand → Bool
takes_them None l = false
takes_them (Some to) l = all_below l to

abbrev pub each_takes : Labels → List Operand → List ℕ → Bool
each_takes labels l [] = true
each_takes labels l (m ∷ ms) = takes_them (label_at labels m) l && each_takes labels l ms

abbrev pub of_table : Option (List Operand) → Labels → List Operand → List ℕ → Use
of_table None labels os ms = Refused
of_table (Some l) labels os ms = if each_takes labels (like l (under os)) ms then Dies (Known I32 ∷ like l (under os)) else Refused

abbrev pub use_of : Context → Labels → List Operand → Instr → Use
use_of c labels os (code.Plain o) = of_shape os (shape c o)
use_of c labels os (code.I64Const n) = of_shape os (Fixed [] (I64 ∷ []))
use_of c labels os (code.SelectTyped ts) = of_shape os (select_shape ts)
use_of c labels os (code.Call n) = of_shape os (call_shape (function_type c n))
use_of c labels os (code.CallIndirect ty table) = of_shape os (indirect_shape (slice_get c.tables table) (slice_get c.types ty))
use_of c labels os code.Unreachable = Dies []
use_of c labels os (code.Br n) = of_label (label_at labels n) (λ l. Dies l)
use_of c labels os (code.BrIf n) = of_label (label_at labels n) (λ l. Goes (Known I32 ∷ l) l)
use_of c labels os (code.BrTable table) = of_table (label_at labels table.value.default) labels os (table.value.default ∷ table.value.labels)
use_of c labels os code.Return = of_return c.results
use_of c labels os _ = Refused

abbrev pub with_stack : Option (List Operand) → (List Operand → State) → State
with_stack None f = Stuck
with_stack (Some os) f = f os

abbrev pub apply : Use → Level → List Level → State
apply Refused l outer = Stuck
apply (Goes ps rs) l outer = with_stack (pops l.dead l.stack ps) (λ os. Running (record l { stack = rs ++ os }) outer)
apply (Dies ps) l outer = with_stack (pops l.dead l.stack ps) (λ os. Running (record l { dead = true; stack = [] }) outer)

abbrev pub none_left : Option (List Operand) → Bool
none_left None = false
none_left (Some []) = true
none_left (Some (o ∷ os)) = false

-- whether the level holds its results and nothing else
abbrev pub is_done : Level → Bool
is_done l = none_left (pops l.dead l.stack l.results)

abbrev pub needs_none : Option (List Operand) → List Operand → Bool
needs_none None rs = true
needs_none (Some ps) rs = same_list ps rs

-- whether no else is needed
abbrev pub may_end : Level → Bool
may_end l = needs_none l.other l.results

abbrev pub leave : List Operand → List Level → State
leave rs [] = Finished
leave rs (l ∷ outer) = Running (record l { stack = rs ++ l.stack }) outer

abbrev pub enter : Option CoreFunc → Level → List Level → List Operand → (List Operand → List Operand → Level) → State
enter None l outer first make = Stuck
enter (Some f) l outer first make =
    with_stack (pops l.dead l.stack (first ++ operands f.params)) (λ os. Running (make (operands f.params) (operands f.results)) (record l { stack = os } ∷ outer))

abbrev pub step_else : Level → List Level → Option (List Operand) → State
step_else l outer None = Stuck
step_else l outer (Some ps) = if is_done l then Running (record l { dead = false; stack = ps; other = None }) outer else Stuck

abbrev pub step : Context → Level → List Level → Instr → State
step c l outer (code.Block n) = enter (block_type c n) l outer [] (λ ps rs. record { dead = false; stack = ps; label = Some rs; results = rs; other = None })
step c l outer (code.Loop n) = enter (block_type c n) l outer [] (λ ps rs. record { dead = false; stack = ps; label = Some ps; results = rs; other = None })
step c l outer (code.If n) = enter (block_type c n) l outer (Known I32 ∷ []) (λ ps rs. record { dead = false; stack = ps; label = Some rs; results = rs; other = Some ps })
step c l outer code.Else = step_else l outer l.other
step c l outer code.End = if is_done l && may_end l then leave l.results outer else Stuck
step c l outer i = apply (use_of c (labels_of (l ∷ outer)) l.stack i) l outer

abbrev pub next : Context → State → Instr → State
next c (Running l outer) i = step c l outer i
next c _ i = Stuck

abbrev pub run : Context → State → List Instr → State
run c s [] = s
run c s (i ∷ is) = run c (next c s i) is

abbrev pub start : Context → State
start c = Running (record { dead = false; stack = []; label = outermost c.results; results = operands c.due; other = None }) []

-- what a use makes of a state
abbrev pub applied : Context → Use → State → State
applied c u (Running l outer) = apply u l outer
applied c u _ = Stuck

abbrev pub is_finished : State → Bool
is_finished (Running l outer) = false
is_finished Finished = true
is_finished Stuck = false
