-- The commands as `clap` has them: all options take one value, and what is required has to be there.
use Rattle.std.specs.Prelude.{ℕ, List, true, Some, codes}
use Rattle.clap.specs.Words.{App, Rule, new_app, new_rule, with_rule}
use Rattle.clap.specs.Simple.{on_top}

-- a required word
abbrev pub positional : List ℕ → Rule
positional id = record (new_rule id) { required = true }

-- an option under its name, and under one letter
abbrev pub option_named : List ℕ → ℕ → Rule
option_named id short = record (new_rule id) { short = Some short; long = Some id }

abbrev pub long_option : List ℕ → Rule
long_option id = record (new_rule id) { long = Some id }

abbrev pub required_option : List ℕ → ℕ → Rule
required_option id short = record (option_named id short) { required = true }

-- no name of the program among the words, and no flags of `clap`'s own
abbrev pub plain_app : List ℕ → App
plain_app name =
    on_top (λ s. record s { disable_version_flag = true }) (on_top (λ s. record s { disable_help_flag = true }) (on_top (λ s. record s { no_binary_name = true }) (new_app name)))

-- `APP`, with `-p` and `-o`
abbrev pub virt_app : App
virt_app = with_rule (with_rule (with_rule (plain_app (codes "virt")) (positional (codes "APP")))
    (required_option (codes "policy") 112)) (required_option (codes "out") 111)

-- `COMPONENT`, with `-s`, and with `-p` and `--steps` where they are wanted
abbrev pub run_app : App
run_app = with_rule (with_rule (with_rule (with_rule (plain_app (codes "run")) (positional (codes "COMPONENT")))
    (required_option (codes "script") 115)) (option_named (codes "policy") 112)) (long_option (codes "steps"))

-- `N` and `OUT`
abbrev pub gen_app : App
gen_app = with_rule (with_rule (plain_app (codes "gen")) (positional (codes "N"))) (positional (codes "OUT"))

-- `COMPONENT`, with `-p` where it is wanted
abbrev pub inspect_app : App
inspect_app = with_rule (with_rule (plain_app (codes "inspect")) (positional (codes "COMPONENT"))) (option_named (codes "policy") 112)

-- `A` and `B`, with `-p` and `-o`
abbrev pub plug_app : App
plug_app = with_rule (with_rule (with_rule (with_rule (plain_app (codes "plug")) (positional (codes "A"))) (positional (codes "B")))
    (required_option (codes "policy") 112)) (required_option (codes "out") 111)
