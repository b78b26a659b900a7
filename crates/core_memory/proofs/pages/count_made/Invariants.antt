use Rattle.std.proofs.Common.{◌≡◌, take}
use Rattle.std.specs.List.{count_by}
use Rattle.core_memory.specs.Pages.{made_in}
use Rattle.core_memory.proofs.pages.count_made.Given as goal

abbrev pub invariant-loop-page : goal.invariant-loop-page
invariant-loop-page l = l.count ≡ count_by (λ made. made) (take l.page-index (made_in l.pages))
