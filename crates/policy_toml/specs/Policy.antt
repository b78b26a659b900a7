-- The policy that a text stands for, or its first fault.
use Rattle.std.specs.Prelude.{◌≡◌, ℕ, List, [], ◌∷◌, Some, None, Result, Ok, Err, IsUtf8, codes}
use Rattle.toml.specs.Data.{Members}
use Rattle.toml.specs.Parse.{parse_document}
use Rattle.policy_data.specs.declared.fault.ReadPolicyFault.{ReadPolicyFault}
use Rattle.policy_data.specs.declared.fault.ReadPolicyFault.TheVariants.{NotToml, NoMemory}
use Rattle.policy_data.specs.declared.words.Version.{Version}
use Rattle.policy_toml.specs.declared.policy.Front.{Front}
use Rattle.policy_toml.specs.declared.policy.Back.{Back}
use Rattle.policy_data.specs.declared.policy.Policy.{Policy}
use Rattle.policy_toml.specs.Reading.{and_then}
use Rattle.policy_toml.specs.Keys.{known_keys, part}
use Rattle.policy_toml.specs.Top.{access_of, limits_of}
use Rattle.policy_toml.specs.Environment.{env_keys, env_of}
use Rattle.policy_toml.specs.Stdio.{stdio_keys, stdio_of}
use Rattle.policy_toml.specs.Clocks.{clocks_keys, clocks_of}
use Rattle.policy_toml.specs.Fs.{fs_keys, fs_of}
use Rattle.policy_toml.specs.Net.{net_at}

abbrev pub top_keys : List (List ℕ)
top_keys = codes "version" ∷ codes "deny" ∷ codes "transfer-limit" ∷ codes "slots" ∷ codes "env" ∷ codes "stdio" ∷ codes "clocks"
    ∷ codes "random" ∷ codes "exit" ∷ codes "sockets" ∷ codes "fs" ∷ codes "net" ∷ []

-- the keys up to `clocks`
abbrev pub front_of : Members → Result Front ReadPolicyFault
front_of ms = and_then (known_keys [] top_keys ms)
    (λ _. and_then (limits_of ms)
    (λ limits. and_then (part (codes "env") env_keys env_of ms)
    (λ env. and_then (part (codes "stdio") stdio_keys stdio_of ms)
    (λ stdio. and_then (part (codes "clocks") clocks_keys clocks_of ms)
    (λ clocks. Ok (record { limits = limits; env = env; stdio = stdio; clocks = clocks }))))))

-- those after it
abbrev pub back_of : Version → Members → Result Back ReadPolicyFault
back_of version ms = and_then (access_of ms)
    (λ access. and_then (part (codes "fs") fs_keys (fs_of version) ms)
    (λ fs. and_then (net_at access.sockets ms)
    (λ net. Ok (record { access = access; fs = fs; net = net }))))

abbrev pub policy_from : Front → Back → Policy
policy_from front back = record {
  version = front.limits.version;
  deny = front.limits.deny;
  transfer_limit = front.limits.transfer_limit;
  slots = front.limits.slots;
  env_pass = front.env.pass;
  env_allow = front.env.allow;
  env_set = front.env.set;
  env_arguments = front.env.arguments;
  env_cwd = front.env.cwd;
  stdio_stdin = front.stdio.stdin;
  stdio_stdout = front.stdio.stdout;
  stdio_stderr = front.stdio.stderr;
  clocks_wall = front.clocks.wall;
  clocks_monotonic = front.clocks.monotonic;
  random = back.access.random;
  exit = back.access.exit;
  sockets = back.access.sockets;
  fs_host = back.fs.host;
  fs_pass = back.fs.pass;
  fs_tree = back.fs.tree;
  fs_scratch = back.fs.scratch;
  net = back.net;
}

-- the policy of a document
abbrev pub policy_of : Members → Result Policy ReadPolicyFault
policy_of ms = and_then (front_of ms)
    (λ front. and_then (back_of front.limits.version ms)
    (λ back. Ok (policy_from front back)))

-- the text is a document in UTF-8 that stands for a policy
abbrev pub IsWellFormed : List ℕ → Policy → Type 0
IsWellFormed text policy = IsUtf8 text × (ms : Members) × (parse_document text ≡ Some ms) × (policy_of ms ≡ Ok policy)

-- a fault of the text: it is no document in UTF-8, or this one is the document's first
abbrev pub HasFault : List ℕ → ReadPolicyFault → Type 0
HasFault text NotToml = IsUtf8 text → parse_document text ≡ None
HasFault text fault = IsUtf8 text × (ms : Members) × (parse_document text ≡ Some ms) × (policy_of ms ≡ Err fault)

-- the policy of the text or its first fault, unless memory ran out
abbrev pub GivesPolicy : List ℕ → Result Policy ReadPolicyFault → Type 0
GivesPolicy text (Ok policy) = IsWellFormed text policy
GivesPolicy text (Err NoMemory) = Unit {0}
GivesPolicy text (Err fault) = HasFault text fault
