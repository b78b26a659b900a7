-- How the functions of an interface are answered, by the words of a policy by which they go.
use Rattle.wit_types.specs.Plain.{Name}
use Rattle.policy_data.specs.declared.policy.Policy.{Policy}
use Rattle.reference_step.specs.Access.{Access, Hosted, by_environment, by_word, by_stream, by_wall, by_monotonic, by_sockets, hosted_if, is_host_stream, asks_folders}
use Rattle.ref_rules.specs.declared.access.Source.{Source}
use Rattle.ref_rules.specs.declared.access.Source.TheVariants.{Handles, Environment, Exit, Stdin, Stdout, Stderr, TerminalIn, TerminalOut, TerminalError, Wall, Monotonic, Random, Folders, Sockets}

abbrev pub by_source : Policy → Source → Name → Access
by_source p Handles f = Hosted
by_source p Environment f = by_environment p f
by_source p Exit f = by_word p.exit
by_source p Stdin f = by_stream p.stdio_stdin
by_source p Stdout f = by_stream p.stdio_stdout
by_source p Stderr f = by_stream p.stdio_stderr
by_source p TerminalIn f = hosted_if (is_host_stream p.stdio_stdin)
by_source p TerminalOut f = hosted_if (is_host_stream p.stdio_stdout)
by_source p TerminalError f = hosted_if (is_host_stream p.stdio_stderr)
by_source p Wall f = by_wall p.clocks_wall
by_source p Monotonic f = by_monotonic p.clocks_monotonic
by_source p Random f = by_word p.random
by_source p Folders f = hosted_if (asks_folders p)
by_source p Sockets f = by_sockets p.sockets
