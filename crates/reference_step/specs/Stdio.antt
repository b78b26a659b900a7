-- wasi:cli/stdin, stdout and stderr, where the policy ignores the stream, and wasi:cli/terminal-stdin, -stdout and -stderr, where
-- the stream is not the host's.
use Rattle.reference_step.specs.Handles.{EmptyIn, Discard}
use Rattle.reference_step.specs.Values.{none}
use Rattle.reference_step.specs.State.{Row, returns, gives}

abbrev pub get-stdin : Row
get-stdin = gives EmptyIn

-- get-stdout, get-stderr
abbrev pub get-stdout : Row
get-stdout = gives Discard

-- get-terminal-stdin, get-terminal-stdout, get-terminal-stderr
abbrev pub get-terminal : Row
get-terminal = returns none
