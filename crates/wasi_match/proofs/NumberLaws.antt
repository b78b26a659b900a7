-- The numbers of listed interfaces are below how many there are.
use Rattle.std.proofs.Common.{◌≡◌, ℕ, suc, ◌+◌, ◌<◌, List, [], ◌∷◌, Bool, true, false, Option, Some, cond, length, refl, arith}
use Rattle.std.specs.Str.{bytes_eq}
use Rattle.wit_types.specs.Plain.{Name}
use Rattle.wasi_table.specs.Texts.{table_of}
use Rattle.wasi_table.specs.Tables.{Items, name_in, numbered}
use Rattle.wasi_listed.specs.declared.io_table.TheConstants.{TABLE as IO}
use Rattle.wasi_listed.specs.declared.fs_table.TheConstants.{TABLE as FS}
use Rattle.wasi_listed.specs.declared.net_table.TheConstants.{TABLE as NET}
use Rattle.wasi_listed.specs.IoListed.{numbered as numbered_io}
use Rattle.wasi_listed.specs.FsListed.{numbered as numbered_fs}
use Rattle.wasi_listed.specs.NetListed.{numbered as numbered_net}

found_here : (b : Bool) (number n most : ℕ) (o : Option ℕ) → number < most → (o ≡ Some n → n < most) → cond b (Some number) o ≡ Some n → n < most
found_here true number n most o h g e = let same : number ≡ n = cc in omega (arith, same, h)
found_here false number n most o h g e = g e

below : (number : ℕ) (table : List Items) (name : Name) (n : ℕ) → numbered number table name ≡ Some n → n < number + length table
below number [] name n e = absurd (cc)
below number (items ∷ rest) name n e =
    found_here (bytes_eq (name_in items) name) number n (number + suc (length rest)) (numbered (number + 1) rest name) (omega arith)
    (λ h. let less = below (number + 1) rest name n h in omega (arith, less)) e

io_count : length (table_of IO.now) ≡ 18
io_count = refl

fs_count : length (table_of FS.now) ≡ 2
fs_count = refl

net_count : length (table_of NET.now) ≡ 7
net_count = refl

pub io_below : (name : Name) (n : ℕ) → numbered_io name ≡ Some n → n < 27
unfolding numbered_io
io_below name n e = let less = below 0 (table_of IO.now) name n e in omega (arith, less, io_count)

pub fs_below : (name : Name) (n : ℕ) → numbered_fs name ≡ Some n → n < 27
unfolding numbered_fs
fs_below name n e = let less = below 18 (table_of FS.now) name n e in omega (arith, less, fs_count)

pub net_below : (name : Name) (n : ℕ) → numbered_net name ≡ Some n → n < 27
unfolding numbered_net
net_below name n e = let less = below 20 (table_of NET.now) name n e in omega (arith, less, net_count)

pub ruleset below_all = (io_below, fs_below, net_below)
