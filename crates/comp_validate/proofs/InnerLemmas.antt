-- Definitions that make no value type anew: the table stays as it is.
use Rattle.std.proofs.Common.{ℕ, List, Option}
use Rattle.comp_types.specs.Spaces.{Space}
use Rattle.comp_types.specs.Definitions.{Definition}
use Rattle.comp_scopes.specs.declared.scope.Scope.{Scope}
use Rattle.comp_scopes.specs.Judged.{Judged}
use Rattle.comp_defining.specs.declared.scopes.Scopes.{Scopes}
use Rattle.comp_defining.specs.Around.{StandAll}
use Rattle.comp_defining.specs.Judged.{JudgedIn}
use Rattle.comp_defining.proofs.Inner.{judged_inner}
use Rattle.type_table.specs.Anew.{HasNew}
use Rattle.type_table.proofs.HasLaws.{grew_same}

pub judged_shared : (around : List Space) (s : Space) (d : Definition) (x : Scopes) (y : Scope) (rule : Option ℕ) → StandAll around s x → HasNew x.types s d → Judged around s d y rule → JudgedIn around s d (record x { inner = y }) rule
judged_shared around s d x y rule h has k = judged_inner around s d x y x.types rule h (grew_same x.types, λ none. has) k
