use Rattle.ref_virtual.proofs.interfaces.handleless_row.Goals as goal

pub returns-in-Environment : goal.returns-in-Environment
returns-in-Environment c = rw c.in-Environment.is c.environment_row.ensures

pub returns-in-Stdin : goal.returns-in-Stdin
returns-in-Stdin c = rw c.in-Stdin.is (λ f v args. c.stdin_row.ensures f (record v { policy = c.args.policy.now }) args)

pub returns-in-Stdout : goal.returns-in-Stdout
returns-in-Stdout c = rw c.in-Stdout.is (λ f v args. c.stdout_row.ensures f (record v { policy = c.args.policy.now }) args)

pub returns-in-Stderr : goal.returns-in-Stderr
returns-in-Stderr c = rw c.in-Stderr.is (λ f v args. c.stderr_row.ensures f (record v { policy = c.args.policy.now }) args)

pub returns-in-TerminalStdin : goal.returns-in-TerminalStdin
returns-in-TerminalStdin c = rw c.in-TerminalStdin.is (λ f v args. c.terminal_row.ensures f (record v { policy = c.args.policy.now }) args)

pub returns-in-TerminalStdout : goal.returns-in-TerminalStdout
returns-in-TerminalStdout c = rw c.in-TerminalStdout.is (λ f v args. c.terminal_row-in-TerminalStdout.ensures f (record v { policy = c.args.policy.now }) args)

pub returns-in-TerminalStderr : goal.returns-in-TerminalStderr
returns-in-TerminalStderr c = rw c.in-TerminalStderr.is (λ f v args. c.terminal_row-in-TerminalStderr.ensures f (record v { policy = c.args.policy.now }) args)

pub returns-in-WallClock : goal.returns-in-WallClock
returns-in-WallClock c = rw c.in-WallClock.is c.wall_row.ensures

pub returns-in-MonotonicClock : goal.returns-in-MonotonicClock
returns-in-MonotonicClock c = rw c.in-MonotonicClock.is c.monotonic_row.ensures
