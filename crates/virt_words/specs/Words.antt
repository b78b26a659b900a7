-- The command that words give.
use Rattle.std.specs.Prelude.{ℕ, ◌≡◌, List, [], ◌∷◌, Option, Some, None, option_map, codes, if◌then◌else◌, Result, Ok, Err}
use Rattle.std.specs.Str.{bytes_eq}
use Rattle.clap.specs.Words.{App, Row, Kinds, fault_of, first_of, first_value, found_of, matches_of}
use Rattle.clap.specs.declared.parser.matches.ArgMatches.{ArgMatches}
use Rattle.virt_words.specs.declared.command.WordsFault.{WordsFault}
use Rattle.virt_words.specs.declared.command.WordsFault.TheVariants.{Usage, NoMemory}
use Rattle.virt_words.specs.declared.command.Command.{Command}
use Rattle.virt_words.specs.declared.command.Command.TheVariants.{Virt, Run, Gen, Plug}
use Rattle.virt_words.specs.declared.command.InspectWords.{InspectWords}
use Rattle.virt_words.specs.Apps.{virt_app, run_app, gen_app, plug_app, inspect_app}
use Rattle.virt_words.specs.Numbers.{number_in}

-- ---- what the values of a command say

abbrev pub virt_from : Option (List ℕ) → Option (List ℕ) → Option (List ℕ) → Option Command
virt_from (Some app) (Some policy) (Some out) = Some (Virt (record { app = app; policy = policy; out = out }))
virt_from _ _ _ = None

-- the steps that a run may take
abbrev pub steps_in : Option (List ℕ) → Option ℕ
steps_in None = Some 10000000
steps_in (Some text) = number_in 10000000000 text

abbrev pub run_by : Option (List ℕ) → Option (List ℕ) → Option (List ℕ) → Option ℕ → Option Command
run_by (Some component) (Some script) policy (Some steps) = Some (Run (record { component = component; script = script; policy = policy; steps = steps }))
run_by _ _ _ _ = None

abbrev pub run_from : Option (List ℕ) → Option (List ℕ) → Option (List ℕ) → Option (List ℕ) → Option Command
run_from component script policy steps = run_by component script policy (steps_in steps)

abbrev pub gen_from : Option (List ℕ) → Option (List ℕ) → Option Command
gen_from (Some functions) (Some out) = option_map (λ n. Gen (record { functions = n; out = out })) (number_in 1000 functions)
gen_from _ _ = None

abbrev pub plug_from : Option (List ℕ) → Option (List ℕ) → Option (List ℕ) → Option (List ℕ) → Option Command
plug_from (Some first) (Some second) (Some policy) (Some out) = Some (Plug (record { first = first; second = second; policy = policy; out = out }))
plug_from _ _ _ _ = None

abbrev pub inspect_from : Option (List ℕ) → Option (List ℕ) → Option InspectWords
inspect_from (Some component) policy = Some (record { component = component; policy = policy })
inspect_from None policy = None

-- ---- the words after the action, as `clap` takes them

-- where `clap` refuses nothing, what its matches say
abbrev pub unless_refused : {A : Type 0} → Kinds → Option A → Option A
unless_refused [] taken = taken
unless_refused (k ∷ ks) taken = None

abbrev pub words_of : {A : Type 0} → App → (List Row → Option A) → List (List ℕ) → Option A
words_of app taken words = unless_refused (fault_of app words) (taken (matches_of app words))

abbrev pub virt_in : List Row → Option Command
virt_in rows = virt_from (first_of (codes "APP") rows) (first_of (codes "policy") rows) (first_of (codes "out") rows)

abbrev pub virt_words : List (List ℕ) → Option Command
virt_words words = words_of virt_app virt_in words

abbrev pub run_in : List Row → Option Command
run_in rows = run_from (first_of (codes "COMPONENT") rows) (first_of (codes "script") rows) (first_of (codes "policy") rows) (first_of (codes "steps") rows)

abbrev pub run_words : List (List ℕ) → Option Command
run_words words = words_of run_app run_in words

abbrev pub gen_in : List Row → Option Command
gen_in rows = gen_from (first_of (codes "N") rows) (first_of (codes "OUT") rows)

abbrev pub gen_words : List (List ℕ) → Option Command
gen_words words = words_of gen_app gen_in words

abbrev pub plug_in : List Row → Option Command
plug_in rows = plug_from (first_of (codes "A") rows) (first_of (codes "B") rows) (first_of (codes "policy") rows) (first_of (codes "out") rows)

abbrev pub plug_words : List (List ℕ) → Option Command
plug_words words = words_of plug_app plug_in words

-- those of another program, which does one thing: they have no action
abbrev pub inspect_in : List Row → Option InspectWords
inspect_in rows = inspect_from (first_of (codes "COMPONENT") rows) (first_of (codes "policy") rows)

unfoldable pub inspect_words : List (List ℕ) → Option InspectWords
inspect_words words = words_of inspect_app inspect_in words

-- ---- all words: the first names the action

abbrev pub command_of : List (List ℕ) → Option Command
command_of [] = None
command_of (action ∷ words) =
    if bytes_eq action (codes "virt") then virt_words words
    else (if bytes_eq action (codes "run") then run_words words
    else (if bytes_eq action (codes "gen") then gen_words words
    else (if bytes_eq action (codes "plug") then plug_words words else None)))

-- the command that is due, unless memory ran out
abbrev pub Reads : {A : Type 0} → Option A → Result A WordsFault → Type 0
Reads due (Ok command) = due ≡ Some command
Reads due (Err Usage) = due ≡ None
Reads due (Err NoMemory) = Unit {0}

abbrev pub IsRefused : Kinds → Type 0
IsRefused [] = ⊥
IsRefused (k ∷ ks) = Unit {0}

-- `clap` refuses nothing in the words and finds what its definition says, or it refuses something
abbrev pub Matches : App → List (List ℕ) → Result ArgMatches WordsFault → Type 0
Matches app words (Ok m) = (fault_of app words ≡ []) × ((id : List ℕ) → first_value (found_of m) id ≡ first_of id (matches_of app words))
Matches app words (Err Usage) = IsRefused (fault_of app words)
Matches app words (Err NoMemory) = Unit {0}
