-- What the names that are read stand for.
use Rattle.wasi_match.specs.declared.versions.ListedName.{ListedName}
use Rattle.wasi_match.specs.Names.{Versioned}

abbrev pub plain_name : ListedName → Versioned
plain_name n = record { interface = n.interface; version = n.version.now }
