-- One number more.
use Rattle.std.proofs.Common.{◌≡◌, ℕ, ◌+◌, List, ◌++◌, refl, append_assoc, add-one}
use Rattle.std.proofs.lemmas.List.{append-nil, map-append}
use Rattle.adapter_world.specs.Behind.{below}

pub below_more : {A : Type 0} (f : ℕ → List A) (n : ℕ) → below f (n + 1) ≡ below f n ++ f n
below_more f n = rw add-one refl

pub ruleset counting = (below_more, append_assoc, append-nil, map-append)
