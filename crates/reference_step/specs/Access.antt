-- Whether a function asks the host, is denied, or is answered without the host, under a policy.
use Rattle.std.specs.Prelude.{ℕ, Bool, true, false, not, ◌||◌, List, [], ◌∷◌, codes, slice_index_or, if◌then◌else◌}
use Rattle.std.specs.Str.{bytes_eq}
use Rattle.wit_types.specs.Plain.{Name}
use Rattle.policy_data.specs.declared.policy.Policy.{Policy}
use Rattle.policy_data.specs.declared.words.Stream.{Stream}
use Rattle.policy_data.specs.declared.words.Stream.TheVariants.{Allow as HostStream, Ignore as IgnoredStream, Deny as NoStream}
use Rattle.policy_data.specs.declared.words.Access.{Access as Word}
use Rattle.policy_data.specs.declared.words.Access.TheVariants.{Allow, Deny}
use Rattle.policy_data.specs.declared.words.Sockets.{Sockets}
use Rattle.policy_data.specs.declared.words.Sockets.TheVariants.{Allow as AllSockets, Deny as NoSockets, Rules as RuledSockets}
use Rattle.policy_data.specs.declared.words.HostFiles.{HostFiles}
use Rattle.policy_data.specs.declared.words.HostFiles.TheVariants.{All as AllFiles, Deny as NoFiles}
use Rattle.policy_data.specs.declared.data.Arguments.{Arguments}
use Rattle.policy_data.specs.declared.data.Arguments.TheVariants.{Deny as NoArguments, Allow as HostArguments, Given as TheseArguments}
use Rattle.policy_data.specs.declared.data.WorkingDirectory.{WorkingDirectory}
use Rattle.policy_data.specs.declared.data.WorkingDirectory.TheVariants.{Deny as NoFolder, Allow as HostFolder, Given as ThisFolder}
use Rattle.policy_data.specs.declared.data.WallClock.{WallClock}
use Rattle.policy_data.specs.declared.data.WallClock.TheVariants.{Allow as HostWall, Deny as NoWall, Fixed as FixedWall}
use Rattle.policy_data.specs.declared.data.MonotonicClock.{MonotonicClock}
use Rattle.policy_data.specs.declared.data.MonotonicClock.TheVariants.{Allow as HostMonotonic, Deny as NoMonotonic, Fixed as FixedMonotonic}

pub data Access : Type 0 where
  -- the host is asked, where every handle that is given is the host's
  Hosted : Access
  Denied : Access
  Virtual : Access

abbrev pub is_hosted : Access → Bool
is_hosted Hosted = true
is_hosted Denied = false
is_hosted Virtual = false

abbrev pub hosted_if : Bool → Access
hosted_if asks = if asks then Hosted else Virtual

-- ---- by the words of a policy

abbrev pub by_stream : Stream → Access
by_stream HostStream = Hosted
by_stream IgnoredStream = Virtual
by_stream NoStream = Denied

abbrev pub is_host_stream : Stream → Bool
is_host_stream stream = is_hosted (by_stream stream)

abbrev pub by_word : Word → Access
by_word Allow = Hosted
by_word Deny = Denied

-- by rules as where all are allowed; the rules answer by themselves
abbrev pub by_sockets : Sockets → Access
by_sockets AllSockets = Hosted
by_sockets NoSockets = Denied
by_sockets RuledSockets = Hosted

abbrev pub by_wall : WallClock → Access
by_wall HostWall = Hosted
by_wall NoWall = Denied
by_wall (FixedWall t) = Virtual

abbrev pub by_monotonic : MonotonicClock → Access
by_monotonic HostMonotonic = Hosted
by_monotonic NoMonotonic = Denied
by_monotonic (FixedMonotonic n) = Virtual

abbrev pub is_some_text : List Name → Bool
is_some_text [] = false
is_some_text (t ∷ ts) = true

abbrev pub by_arguments : Arguments → Access
by_arguments HostArguments = Hosted
by_arguments NoArguments = Virtual
by_arguments (TheseArguments texts) = Virtual

abbrev pub by_folder : WorkingDirectory → Access
by_folder HostFolder = Hosted
by_folder NoFolder = Virtual
by_folder (ThisFolder text) = Virtual

abbrev pub all_files : HostFiles → Bool
all_files AllFiles = true
all_files NoFiles = false

abbrev pub is_empty : {A : Type 0} → List A → Bool
is_empty [] = true
is_empty (x ∷ xs) = false

-- get-directories asks the host
abbrev pub asks_folders : Policy → Bool
asks_folders p = all_files p.fs_host || not (is_empty p.fs_pass)

-- ---- the functions of each interface

abbrev pub by_environment : Policy → Name → Access
by_environment p f =
    if bytes_eq f (codes "get-environment") then hosted_if (p.env_pass || is_some_text p.env_allow)
    else if bytes_eq f (codes "get-arguments") then by_arguments p.env_arguments
    else by_folder p.env_cwd

-- of wasi:sockets, all but the making of networks and sockets go by the handles that they are given
abbrev pub accesses : Policy → List (Name → Access)
accesses p =
    (λ f. Hosted)  -- wasi:io/error
    ∷ (λ f. Hosted)  -- wasi:io/poll
    ∷ (λ f. Hosted)  -- wasi:io/streams
    ∷ by_environment p  -- wasi:cli/environment
    ∷ (λ f. by_word p.exit)  -- wasi:cli/exit
    ∷ (λ f. by_stream p.stdio_stdin)  -- wasi:cli/stdin
    ∷ (λ f. by_stream p.stdio_stdout)  -- wasi:cli/stdout
    ∷ (λ f. by_stream p.stdio_stderr)  -- wasi:cli/stderr
    ∷ (λ f. Hosted)  -- wasi:cli/terminal-input
    ∷ (λ f. Hosted)  -- wasi:cli/terminal-output
    ∷ (λ f. hosted_if (is_host_stream p.stdio_stdin))  -- wasi:cli/terminal-stdin
    ∷ (λ f. hosted_if (is_host_stream p.stdio_stdout))  -- wasi:cli/terminal-stdout
    ∷ (λ f. hosted_if (is_host_stream p.stdio_stderr))  -- wasi:cli/terminal-stderr
    ∷ (λ f. by_wall p.clocks_wall)  -- wasi:clocks/wall-clock
    ∷ (λ f. by_monotonic p.clocks_monotonic)  -- wasi:clocks/monotonic-clock
    ∷ (λ f. by_word p.random)  -- wasi:random/random
    ∷ (λ f. by_word p.random)  -- wasi:random/insecure
    ∷ (λ f. by_word p.random)  -- wasi:random/insecure-seed
    ∷ (λ f. Hosted)  -- wasi:filesystem/types
    ∷ (λ f. hosted_if (asks_folders p))  -- wasi:filesystem/preopens
    ∷ (λ f. Hosted)  -- wasi:sockets/network
    ∷ (λ f. by_sockets p.sockets)  -- wasi:sockets/instance-network
    ∷ (λ f. Hosted)  -- wasi:sockets/ip-name-lookup
    ∷ (λ f. Hosted)  -- wasi:sockets/tcp
    ∷ (λ f. by_sockets p.sockets)  -- wasi:sockets/tcp-create-socket
    ∷ (λ f. Hosted)  -- wasi:sockets/udp
    ∷ (λ f. by_sockets p.sockets)  -- wasi:sockets/udp-create-socket
    ∷ []

-- the access of a function, by the number of its interface and its name
abbrev pub access : Policy → ℕ → Name → Access
access p interface function = slice_index_or (accesses p) interface (λ f. Denied) function

-- ---- the kinds whose handles can be the host's

abbrev pub any_sockets : Sockets → Bool
any_sockets s = is_hosted (by_sockets s)

abbrev pub host_input : Policy → Bool
host_input p = is_host_stream p.stdio_stdin || asks_folders p || any_sockets p.sockets

abbrev pub host_output : Policy → Bool
host_output p = is_host_stream p.stdio_stdout || is_host_stream p.stdio_stderr || asks_folders p || any_sockets p.sockets

abbrev pub host_kinds : Policy → List Bool
host_kinds p =
    (host_input p || host_output p)  -- error
    ∷ (host_input p || host_output p || is_hosted (by_monotonic p.clocks_monotonic) || any_sockets p.sockets)  -- pollable
    ∷ host_input p  -- input-stream
    ∷ host_output p  -- output-stream
    ∷ is_host_stream p.stdio_stdin  -- terminal-input
    ∷ (is_host_stream p.stdio_stdout || is_host_stream p.stdio_stderr)  -- terminal-output
    ∷ asks_folders p  -- descriptor
    ∷ asks_folders p  -- directory-entry-stream
    ∷ any_sockets p.sockets  -- network
    ∷ any_sockets p.sockets  -- resolve-address-stream
    ∷ any_sockets p.sockets  -- tcp-socket
    ∷ any_sockets p.sockets  -- udp-socket
    ∷ any_sockets p.sockets  -- incoming-datagram-stream
    ∷ any_sockets p.sockets  -- outgoing-datagram-stream
    ∷ []

-- whether a handle of a kind can be the host's
abbrev pub can_be_host : Policy → ℕ → Bool
can_be_host p kind = slice_index_or (host_kinds p) kind false
