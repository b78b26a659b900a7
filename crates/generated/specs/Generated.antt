-- The component that is generated for a number of functions, byte by byte. It imports `now` of `wasi:clocks/monotonic-clock@0.2.0` and
-- `get-random-u64` of `wasi:random/random@0.2.0`. It exports `f0`, `f1` and so on: `fi` answers what `now` answers and, (i mod 3) + 1
-- times, what `get-random-u64` answers, all added modulo 2^64.
use Rattle.std.specs.Prelude.{ℕ, ◌+◌, ◌%◌, List, [], ◌∷◌, ◌++◌, codes}
use Rattle.std.specs.Fmt.{decimal}
use Rattle.generated.specs.Bytes.{number, sized, section, each, list}
use Rattle.generated.specs.declared.part.Part.{Part}
use Rattle.generated.specs.declared.part.Part.TheVariants.{Functions, CoreExports, Bodies, Aliases, Lifts, Exports}

-- ---- of one function

abbrev pub function_name : ℕ → List ℕ
function_name i = codes "f" ++ decimal i

-- how often it asks for a random number
abbrev pub random_calls : ℕ → ℕ
random_calls i = i % 3 + 1

-- `call 1`, `i64.add`
abbrev pub random_added : ℕ → List ℕ
random_added k = 0x10 ∷ 1 ∷ 0x7C ∷ []

-- no locals, `call 0`, the random numbers, `end`
abbrev pub body : ℕ → List ℕ
body i = ((0 ∷ 0x10 ∷ 0 ∷ []) ++ each random_added (random_calls i)) ++ (0x0B ∷ [])

-- Its item in each list: its type's number; its export from the core module, after the two imports; its code; the alias of that export,
-- of core instance 1; the canonical function that lifts it; its export.
abbrev pub item_of : Part → ℕ → List ℕ
item_of Functions i = 0 ∷ []
item_of CoreExports i = (sized (function_name i) ++ (0 ∷ [])) ++ number (i + 2)
item_of Bodies i = sized (body i)
item_of Aliases i = (0 ∷ 0 ∷ 1 ∷ 1 ∷ []) ++ sized (function_name i)
item_of Lifts i = ((0 ∷ 0 ∷ []) ++ number (i + 2)) ++ (0 ∷ 2 ∷ [])
item_of Exports i = (((0 ∷ []) ++ sized (function_name i)) ++ (1 ∷ [])) ++ (number (i + 2) ++ (0 ∷ []))

-- ---- the core module

-- the type `() -> i64`; the imports `h.n` and `h.r` of that type; the functions
unfoldable pub core_module : ℕ → List ℕ
core_module n =
    ((((0 ∷ 0x61 ∷ 0x73 ∷ 0x6D ∷ 1 ∷ 0 ∷ 0 ∷ 0 ∷ 1 ∷ 5 ∷ 1 ∷ 0x60 ∷ 0 ∷ 1 ∷ 0x7E ∷ 2 ∷ 0x0D ∷ 2 ∷ 1 ∷ 0x68 ∷ 1 ∷ 0x6E ∷ 0 ∷ 0 ∷ 1 ∷ 0x68 ∷ 1 ∷ 0x72 ∷ 0 ∷ 0 ∷ [])
    ++ section 3 (list (item_of Functions) n))
    ++ section 7 (list (item_of CoreExports) n))
    ++ section 10 (list (item_of Bodies) n))

-- ---- the component

-- an instance type that exports one function without parameters and with a result of u64
abbrev pub interface_type : List ℕ → List ℕ
interface_type name = ((1 ∷ 0x42 ∷ 2 ∷ 1 ∷ 0x40 ∷ 0 ∷ 0 ∷ 0x77 ∷ 4 ∷ 0 ∷ []) ++ sized name) ++ (1 ∷ 0 ∷ [])

-- an import of an instance of the type with this index
abbrev pub interface_import : List ℕ → ℕ → List ℕ
interface_import name index = ((1 ∷ 0 ∷ []) ++ sized name) ++ (5 ∷ index ∷ [])

abbrev pub clock : List ℕ
clock = codes "wasi:clocks/monotonic-clock@0.2.0"

abbrev pub random : List ℕ
random = codes "wasi:random/random@0.2.0"

-- aliases of the functions of both instances
abbrev pub function_aliases : List ℕ
function_aliases = ((2 ∷ 1 ∷ 0 ∷ 0 ∷ []) ++ sized (codes "now")) ++ ((1 ∷ 0 ∷ 1 ∷ []) ++ sized (codes "get-random-u64"))

-- both imports, their functions, and these lowered
unfoldable pub imported : List ℕ
imported =
    ((((section 7 (interface_type (codes "now"))
    ++ section 10 (interface_import clock 0))
    ++ section 7 (interface_type (codes "get-random-u64")))
    ++ section 10 (interface_import random 1))
    ++ section 6 function_aliases)
    ++ (8 ∷ 9 ∷ 2 ∷ 1 ∷ 0 ∷ 0 ∷ 0 ∷ 1 ∷ 0 ∷ 1 ∷ 0 ∷ [])

-- the instance `h` of the lowered functions, and the core module's instance, which is given it
abbrev pub core_instances : List ℕ
core_instances = 2 ∷ 0x12 ∷ 2 ∷ 1 ∷ 2 ∷ 1 ∷ 0x6E ∷ 0 ∷ 0 ∷ 1 ∷ 0x72 ∷ 0 ∷ 1 ∷ 0 ∷ 0 ∷ 1 ∷ 1 ∷ 0x68 ∷ 0x12 ∷ 0 ∷ []

-- the type `func() -> u64`
abbrev pub function_type : List ℕ
function_type = 7 ∷ 5 ∷ 1 ∷ 0x40 ∷ 0 ∷ 0 ∷ 0x77 ∷ []

-- what stands before the lists of functions
abbrev pub front : ℕ → List ℕ
front n = (((0 ∷ 0x61 ∷ 0x73 ∷ 0x6D ∷ 0x0D ∷ 0 ∷ 1 ∷ 0 ∷ []) ++ imported) ++ section 1 (core_module n)) ++ core_instances

-- aliases of the core module's exports; the functions' type; the functions, lifted; their exports
unfoldable pub generated : ℕ → List ℕ
generated n =
    (((front n ++ section 6 (list (item_of Aliases) n)) ++ function_type) ++ section 8 (list (item_of Lifts) n)) ++ section 11 (list (item_of Exports) n)

-- ---- the policy under which it is wrapped and run

unfoldable pub policy_text : List ℕ
policy_text = codes "random = \"allow\"\nclocks.monotonic = 5\n"
