-- Lists of functions and of names.
use Rattle.std.proofs.Common.{append_assoc}
use Rattle.std.proofs.lemmas.List.{append-nil, map-append}

pub ruleset function_rules = (append_assoc, append-nil, map-append)
