-- What the second component asks of the host.
use Rattle.std.specs.Prelude.{List, [], ◌∷◌}
use Rattle.std.specs.List.{flat_map}
use Rattle.wasi_match.specs.declared.listed.ListedUse.{ListedUse}
use Rattle.plug_match.specs.declared.source.Source.{Source}
use Rattle.plug_match.specs.declared.source.Source.TheVariants.{Met, Host}

abbrev pub host_use : Source → List ListedUse
host_use Met = []
host_use (Host one) = one ∷ []

abbrev pub host_uses : List Source → List ListedUse
host_uses sources = flat_map host_use sources
