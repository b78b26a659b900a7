-- The rows of an interface.
use Rattle.std.specs.Prelude.{List, []}
use Rattle.reference_step.specs.Rows.{Named, poll_rows, stream_rows, environment_rows, stdin_rows, stdout_rows, stderr_rows, terminal_stdin_rows, terminal_stdout_rows, terminal_stderr_rows, wall_rows, monotonic_rows, filesystem_rows}
use Rattle.ref_virtual.specs.declared.interfaces.Handleless.{Handleless}
use Rattle.ref_virtual.specs.declared.interfaces.Handleless.TheVariants.{Environment, Stdin, Stdout, Stderr, TerminalStdin, TerminalStdout, TerminalStderr, WallClock, MonotonicClock}
use Rattle.ref_virtual.specs.declared.interfaces.Interface.{Interface}
use Rattle.ref_virtual.specs.declared.interfaces.Interface.TheVariants.{Rowless, Handleless as Handleless', Poll, Streams, FilesystemTypes}

abbrev pub handleless_rows : Handleless → List Named
handleless_rows Environment = environment_rows
handleless_rows Stdin = stdin_rows
handleless_rows Stdout = stdout_rows
handleless_rows Stderr = stderr_rows
handleless_rows TerminalStdin = terminal_stdin_rows
handleless_rows TerminalStdout = terminal_stdout_rows
handleless_rows TerminalStderr = terminal_stderr_rows
handleless_rows WallClock = wall_rows
handleless_rows MonotonicClock = monotonic_rows

abbrev pub rows_of : Interface → List Named
rows_of Rowless = []
rows_of (Handleless' interface) = handleless_rows interface
rows_of Poll = poll_rows
rows_of Streams = stream_rows
rows_of FilesystemTypes = filesystem_rows
