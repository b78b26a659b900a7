-- The rows' functions are those of the listed interfaces.
use Rattle.std.proofs.Common.{◌≡◌, ℕ, [], Option, Some, codes, option_map, refl}
use Rattle.std.specs.List.{find}
use Rattle.std.specs.Str.{bytes_eq}
use Rattle.wit_types.specs.Plain.{Name, PlainFunc, UnsignedType, OneByte}
use Rattle.wasi_table.specs.Plain.{PlainNamedFunc}
use Rattle.wasi_table.specs.Forms.{form_named}
use Rattle.wasi_table.specs.Types.{kind_of}
use Rattle.wasi_table.specs.Tables.{described as described_by}
use Rattle.wasi_listed.specs.IoListed.{described as described_io, known_types}
use Rattle.wasi_listed.specs.FsListed.{described as described_fs}
use Rattle.wasi_listed.specs.NetListed.{described as described_net}
use Rattle.reference_step.specs.Listed.{interface_at}
use Rattle.row_runs.specs.Asks.{ask_type}
use Rattle.row_laws.specs.Now.{now_type}
use Rattle.row_laws.specs.Stdout.{stdout_type}
use Rattle.row_laws.specs.Check.{check_type}
use Rattle.row_laws.specs.Wall.{wall_type}
use Rattle.row_laws.specs.Sockets.{value_or_error}

type_in : ℕ → Name → Option PlainFunc
type_in interface name = option_map (λ (f : PlainNamedFunc). f.ty) (find (λ f. bytes_eq f.name name) (interface_at interface).functions)

hop_found : type_in 23 (codes "[method]tcp-socket.hop-limit") ≡ Some (ask_type [] 10 (value_or_error (UnsignedType OneByte)))
unfolding type_in described_by described_io described_fs described_net known_types form_named kind_of
hop_found = refl

now_found : type_in 14 (codes "now") ≡ Some now_type
unfolding type_in described_by described_io described_fs described_net known_types form_named kind_of
now_found = refl

stdout_found : type_in 6 (codes "get-stdout") ≡ Some stdout_type
unfolding type_in described_by described_io described_fs described_net known_types form_named kind_of
stdout_found = refl

check_found : type_in 2 (codes "[method]output-stream.check-write") ≡ Some (check_type [])
unfolding type_in described_by described_io described_fs described_net known_types form_named kind_of
check_found = refl

wall_found : type_in 13 (codes "now") ≡ Some wall_type
unfolding type_in described_by described_io described_fs described_net known_types form_named kind_of
wall_found = refl
