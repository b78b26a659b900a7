-- Small groups of instances, whose core code is written out.
use Rattle.std.specs.Prelude.{ℕ, zero, suc, ◌++◌, List, [], ◌∷◌, length, pos, Option, Some, None, Result, Ok, codes, replicate}
use Rattle.std.specs.List.{range_with_len}
use Rattle.virt_base.specs.declared.core_type.CoreType.TheVariants.{I32}
use Rattle.wasm_ast.specs.declared.module.CoreFunc.{CoreFunc}
use Rattle.wasm_ast.specs.declared.instr.Instr.{Instr}
use Rattle.wasm_ast.specs.declared.instr.Instr.TheVariants.{Plain, Call, End as EndOf}
use Rattle.wasm_ast.specs.declared.instr.Op.TheVariants.{LocalGet, I32Const}
use Rattle.core_store.specs.State.{State}
use Rattle.core_store.specs.declared.value.StoreFunc.{StoreFunc}
use Rattle.core_store.specs.declared.value.StoreFunc.TheVariants.{Inside}
use Rattle.wit_types.specs.Plain.{Name, PlainFunc, Parts, Plain as PlainType, UnsignedType, StringType, OwnType, BorrowType, FourBytes, End, More}
use Rattle.wit_types.specs.PlainValue.{PlainValue, PlainValues, IntValue, End as NoValues, More as Values}
use Rattle.host_port.specs.declared.call.Resource.{Resource}
use Rattle.host_port.specs.Calls.{PlainObservation, Called, Dropped, Gives}
use Rattle.host_port.specs.Hosts.{HostStep}
use Rattle.comp_worlds.specs.Groups.{Import, Options, Lifting, Target, Mine, Theirs, Func, LoweredFunc, ResourceNew, ResourceDrop, Owner, Stage, Provides, Makes, Group}
use Rattle.comp_worlds.specs.Observed.{Call as CallOf}

-- ---- core code

abbrev pub get : ℕ → Instr
get n = Plain (LocalGet n)

abbrev pub call : ℕ → Instr
call n = Call n

abbrev pub body : List Instr → List Instr
body is = is ++ EndOf ∷ []

-- a function with that many parameters and results of 32 bits
abbrev pub code : ℕ → ℕ → List Instr → StoreFunc
code params results is = Inside (record { params = replicate params I32; results = replicate results I32 }) 0 [] (body is)

-- The canonical functions of an instance stand in front, then its code; both have one index space. There are 32 bytes of memory.
abbrev pub made_of : List StoreFunc → State → Result State State
made_of fs s = Ok (record s {
  functions = s.functions ++ fs;
  memories = record { bytes = replicate 32 0; made = []; max = None } ∷ [];
  instances = record { types = []; functions = range_with_len 0 (length (s.functions ++ fs)); tables = []; memories = []; globals = []; segments = []; elements = [] } ∷ [];
})

abbrev pub core_type : ℕ → ℕ → CoreFunc
core_type params results = record { params = replicate params I32; results = replicate results I32 }

-- ---- types, options, imports

abbrev pub number : PlainType
number = UnsignedType FourBytes

abbrev pub func : Parts → Option PlainType → PlainFunc
func params answer = record { params = params; answer = answer }

abbrev pub one : PlainType → Parts
one ty = More (codes "x") ty End

abbrev pub no_options : Options
no_options = record { memory = None; realloc = None }

abbrev pub in_memory : ℕ → Options
in_memory realloc = record { memory = Some 0; realloc = Some realloc }

abbrev pub lift : ℕ → PlainFunc → Options → Lifting
lift code ty options = record { code = code; ty = ty; options = options; post = None }

abbrev pub import_of : Name → PlainFunc → Import
import_of name ty = record { interface = codes "h"; function = name; ty = ty }

abbrev pub now : Import
now = import_of (codes "now") (func End (Some number))

abbrev pub tell : Import
tell = import_of (codes "tell") (func (one number) None)

-- ---- a host whose every call is seen, and which counts its calls

abbrev pub counted : Option PlainType → ℕ → Option PlainValue
counted None n = None
counted (Some ty) n = Some (IntValue (pos n))

abbrev pub clock : HostStep ℕ
clock = record {
  call = λ n c. record { seen = Called c ∷ []; answer = Gives (counted c.answer n); next = suc n };
  drop = λ n r x. record { seen = Dropped r x ∷ []; next = n };
}

abbrev pub called : Import → PlainValues → PlainObservation
called import args = Called (record { interface = import.interface; function = import.function; params = import.ty.params; args = args; answer = import.ty.answer })

abbrev pub of_host : Resource
of_host = record { interface = codes "h"; name = codes "r" }

abbrev pub calls_of : Name → PlainValues → CallOf
calls_of name args = record { interface = []; function = name; args = args }

abbrev pub a_number : ℕ → PlainValues
a_number n = Values (IntValue (pos n)) NoValues

-- ---- groups of one or two instances

abbrev pub at_number : {A : Type 0} → List A → ℕ → Option A
at_number [] n = None
at_number (x ∷ xs) zero = Some x
at_number (x ∷ xs) (suc n) = at_number xs n

abbrev pub in_order : List Func → List Func → ℕ → ℕ → Option Func
in_order first second zero n = at_number first n
in_order first second (suc k) n = at_number second n

abbrev pub group_of : List Func → List Func → (ℕ → Option Owner) → Target → List Stage → Group
group_of first second owner export stages = record {
  canons = in_order first second;
  owner = owner;
  imported = λ r. of_host;
  exports = λ interface name. Some export;
  given = λ r. None;
  stages = stages;
}

abbrev pub no_owner : ℕ → Option Owner
no_owner r = None

-- the first instance defines every resource
abbrev pub first_owns : Option ℕ → ℕ → Option Owner
first_owns destructor r = Some (record { instance = 0; destructor = destructor })

-- ---- reads the clock

abbrev pub reader : Group
reader = group_of (LoweredFunc (Theirs now) no_options ∷ []) [] no_owner (Mine 0 (lift 1 (func End (Some number)) no_options))
    (Provides 0 (core_type 0 1) 0 ∷ Makes 0 (made_of (code 0 1 (call 0 ∷ []) ∷ [])) None ∷ [])

-- ---- takes a text, for which `realloc` tells the host: 1 is the function, 2 is `realloc`

abbrev pub teller : Group
teller = group_of (LoweredFunc (Theirs tell) no_options ∷ []) [] no_owner (Mine 0 (lift 1 (func (one StringType) None) (in_memory 2)))
    (Provides 0 (core_type 1 0) 0 ∷ Makes 0 (made_of (code 2 0 [] ∷ code 4 1 (get 3 ∷ call 0 ∷ get 0 ∷ []) ∷ [])) None ∷ [])

-- the same, where `realloc` asks nobody
abbrev pub taker : Group
taker = group_of (LoweredFunc (Theirs tell) no_options ∷ []) [] no_owner (Mine 0 (lift 1 (func (one StringType) None) (in_memory 2)))
    (Provides 0 (core_type 1 0) 0 ∷ Makes 0 (made_of (code 2 0 (get 1 ∷ call 0 ∷ []) ∷ code 4 1 (Plain (I32Const (pos 8)) ∷ []) ∷ [])) None ∷ [])

-- ---- the first instance makes a handle that stands for 42 and lends it to the second, which is this code

abbrev pub keeper : Lifting
keeper = lift 1 (func (one (BorrowType 3)) None) no_options

abbrev pub lender : List Instr → Group
lender is = group_of (ResourceNew 3 ∷ LoweredFunc (Mine 1 keeper) no_options ∷ []) (ResourceDrop 3 ∷ []) (first_owns None) (Mine 0 (lift 2 (func End None) no_options))
    (Provides 1 (core_type 1 0) 0 ∷ Makes 1 (made_of (code 1 0 is ∷ [])) None
    ∷ Provides 0 (core_type 1 1) 0 ∷ Provides 0 (core_type 1 0) 1 ∷ Makes 0 (made_of (code 0 0 (Plain (I32Const (pos 42)) ∷ call 0 ∷ call 1 ∷ []) ∷ [])) None ∷ [])

-- ---- the second instance gets a handle of the first and drops it; the destructor tells the host what the handle stands for

abbrev pub giver : Lifting
giver = lift 2 (func End (Some (OwnType 3))) no_options

abbrev pub dropper : Group
dropper = group_of (ResourceNew 3 ∷ LoweredFunc (Theirs tell) no_options ∷ []) (LoweredFunc (Mine 0 giver) no_options ∷ ResourceDrop 3 ∷ []) (first_owns (Some 3)) (Mine 1 (lift 2 (func End None) no_options))
    (Provides 0 (core_type 1 1) 0 ∷ Provides 0 (core_type 1 0) 1 ∷ Makes 0 (made_of (code 0 1 (Plain (I32Const (pos 42)) ∷ call 0 ∷ []) ∷ code 1 0 (get 0 ∷ call 1 ∷ []) ∷ [])) None
    ∷ Provides 1 (core_type 0 1) 0 ∷ Provides 1 (core_type 1 0) 1 ∷ Makes 1 (made_of (code 0 0 (call 0 ∷ call 1 ∷ []) ∷ [])) None ∷ [])

-- ---- two instances that call each other

abbrev pub nothing_to_nothing : ℕ → Lifting
nothing_to_nothing at = lift at (func End None) no_options

abbrev pub callers : Group
callers = group_of (LoweredFunc (Mine 1 (nothing_to_nothing 1)) no_options ∷ []) (LoweredFunc (Mine 0 (nothing_to_nothing 1)) no_options ∷ []) no_owner (Mine 0 (nothing_to_nothing 1))
    (Provides 0 (core_type 0 0) 0 ∷ Makes 0 (made_of (code 0 0 (call 0 ∷ []) ∷ [])) None
    ∷ Provides 1 (core_type 0 0) 0 ∷ Makes 1 (made_of (code 0 0 (call 0 ∷ []) ∷ [])) None ∷ [])

-- ---- a start function that calls a lifted function of its own instance, which reads the clock: 3 is the start function

abbrev pub starter : Group
starter = group_of (LoweredFunc (Theirs now) no_options ∷ LoweredFunc (Mine 0 (lift 2 (func End (Some number)) no_options)) no_options ∷ []) [] no_owner (Theirs now)
    (Provides 0 (core_type 0 1) 0 ∷ Provides 0 (core_type 0 1) 1 ∷ Makes 0 (made_of (code 0 1 (call 0 ∷ []) ∷ code 0 0 (call 1 ∷ []) ∷ [])) (Some 3) ∷ [])
