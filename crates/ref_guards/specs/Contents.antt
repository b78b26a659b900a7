-- What holds of the contents of all live handles, and how many handles of each kind there are.
use Rattle.std.specs.Prelude.{◌≡◌, ℕ, ◌≤◌, Bool, true, List, slice_index_or, Option, Some, None}
use Rattle.ref_rules.specs.declared.content.Content.{Content}
use Rattle.ref_rules.specs.declared.content.Content.TheVariants.{Host}
use Rattle.ref_rules.specs.declared.content.Handle.{Handle}
use Rattle.ref_rules.specs.Lives.{LiveTable, count_of_kind}

-- it holds of what each live handle stands for
abbrev pub AllHold : (Content → Bool) → List (Option Handle) → Type 0
AllHold P handles = (id : ℕ) (h : Handle) → slice_index_or handles id None ≡ Some h → P h.content ≡ true

-- no kind has more live handles than places
abbrev pub Fits : LiveTable → Type 0
Fits live = (kind : ℕ) → count_of_kind kind live.handles ≤ live.slots

-- What holds of each content that was there, and of each that may enter, holds of each that is there then; and no kind comes to have
-- more handles than places.
pub record KeepsContents (MayEnter : (Content → Bool) → Type 0) (old new : LiveTable) : Type 0 where
  pub held : (P : Content → Bool) → MayEnter P → AllHold P old.handles → AllHold P new.handles
  pub fits : Fits old → Fits new

-- nothing enters
abbrev pub Nothing : (Content → Bool) → Type 0
Nothing P = Unit {0}

-- handles of the host enter
abbrev pub Hosts : (Content → Bool) → Type 0
Hosts P = (id : ℕ) → P (Host id) ≡ true
