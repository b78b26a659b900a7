-- Rows of wasi:sockets that the host answers equal the reference host's.
use Rattle.std.proofs.Common.{List, codes, refl, arith, lit<}
use Rattle.wit_types.specs.Plain.{Name, BoolType, UnsignedType, OneByte, EightBytes}
use Rattle.host_port.specs.Hosts.{HostStep}
use Rattle.row_runs.specs.Equals.{Fixed, RowEquals}
use Rattle.row_runs.specs.Asks.{ask_listed, ask_row, ask_widths}
use Rattle.row_runs.proofs.AskRow.{ask_equals}
use Rattle.row_laws.specs.Sockets.{value_or_error, done_or_error}

module _ {S : Type 0} (h : HostStep S) (w : Fixed) (self : Name) (names : List Name) where
  pub hop_limit_equals : RowEquals w h (ask_listed 23 (codes "[method]tcp-socket.hop-limit") self 10 (value_or_error (UnsignedType OneByte)) names) (ask_row w.layout 10) ask_widths
  hop_limit_equals =
      ask_equals h w 23 (codes "[method]tcp-socket.hop-limit") self 10 (value_or_error (UnsignedType OneByte)) names
      (record { kind_lt = lit< tt; plain = record { answers = refl; fixed = refl; handle_free = refl; answer_free = refl; small = omega arith; aligned = refl }; spills = refl; over = refl; traps = λ v args. refl; no_environment = refl; no_folders = refl; no_room = λ p live. refl })
      refl (λ args. refl)

  pub keep_alive_enabled_equals : RowEquals w h (ask_listed 23 (codes "[method]tcp-socket.keep-alive-enabled") self 10 (value_or_error BoolType) names) (ask_row w.layout 10) ask_widths
  keep_alive_enabled_equals =
      ask_equals h w 23 (codes "[method]tcp-socket.keep-alive-enabled") self 10 (value_or_error BoolType) names
      (record { kind_lt = lit< tt; plain = record { answers = refl; fixed = refl; handle_free = refl; answer_free = refl; small = omega arith; aligned = refl }; spills = refl; over = refl; traps = λ v args. refl; no_environment = refl; no_folders = refl; no_room = λ p live. refl })
      refl (λ args. refl)

  pub finish_listen_equals : RowEquals w h (ask_listed 23 (codes "[method]tcp-socket.finish-listen") self 10 done_or_error names) (ask_row w.layout 10) ask_widths
  finish_listen_equals =
      ask_equals h w 23 (codes "[method]tcp-socket.finish-listen") self 10 done_or_error names
      (record { kind_lt = lit< tt; plain = record { answers = refl; fixed = refl; handle_free = refl; answer_free = refl; small = omega arith; aligned = refl }; spills = refl; over = refl; traps = λ v args. refl; no_environment = refl; no_folders = refl; no_room = λ p live. refl })
      refl (λ args. refl)

  pub udp_buffer_size_equals : RowEquals w h (ask_listed 25 (codes "[method]udp-socket.receive-buffer-size") self 11 (value_or_error (UnsignedType EightBytes)) names) (ask_row w.layout 11) ask_widths
  udp_buffer_size_equals =
      ask_equals h w 25 (codes "[method]udp-socket.receive-buffer-size") self 11 (value_or_error (UnsignedType EightBytes)) names
      (record { kind_lt = lit< tt; plain = record { answers = refl; fixed = refl; handle_free = refl; answer_free = refl; small = omega arith; aligned = refl }; spills = refl; over = refl; traps = λ v args. refl; no_environment = refl; no_folders = refl; no_room = λ p live. refl })
      refl (λ args. refl)
