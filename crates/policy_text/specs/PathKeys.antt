-- The keys under which paths are kept: `/` becomes the least byte, so that what lies in a path stands right after it.
use Rattle.std.specs.Prelude.{ℕ, ◌-◌, ◌+◌, Bool, ◌==◌, nat_lt, map, if◌then◌else◌, Vec}
use Rattle.std.specs.declared.alloc.Global.{Global}
use Rattle.path_names.specs.Paths.{Placed}

abbrev pub rank : ℕ → ℕ
rank byte = if byte == 47 then 0 else (if nat_lt byte 47 then byte + 1 else byte)

abbrev pub unrank : ℕ → ℕ
unrank r = if r == 0 then 47 else (if nat_lt r 48 then r - 1 else r)

abbrev pub placed_of : Vec ℕ Global × Bool → Placed
placed_of e = record { path = map unrank e.0.items; leaf = e.1 }
