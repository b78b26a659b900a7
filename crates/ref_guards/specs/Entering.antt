-- Handles that enter, one by one, as the code keeps them.
use Rattle.std.specs.Prelude.{◌≡◌, ℕ, true, List, [], ◌∷◌, slice_index_or, Option, Some, None}
use Rattle.reference_step.specs.Handles.{first_free, with_entry}
use Rattle.ref_rules.specs.declared.content.Content.{Content}
use Rattle.ref_rules.specs.declared.content.Content.TheVariants.{Host, Always}
use Rattle.ref_rules.specs.declared.content.Handle.{Handle}
use Rattle.ref_rules.specs.Lives.{is_inside}
use Rattle.ref_guards.specs.declared.standing.Standing.{Standing}
use Rattle.ref_guards.specs.declared.standing.Standing.TheVariants.{Hosts, Made}

abbrev pub all_made : Option Content → List Content
all_made None = []
all_made (Some content) = content ∷ []

-- what the handle of a number stands for
abbrev pub stands_for : Standing → ℕ → Content
stands_for Hosts id = Host id
stands_for (Made makes) id = slice_index_or (all_made makes) id Always

abbrev pub handle_for : Standing → ℕ × ℕ → Handle
handle_for standing g = record { kind = g.0; content = stands_for standing g.1 }

-- the live handles, where those of an answer (kind and number) entered
abbrev pub with_handles : Standing → List (Option Handle) → List (ℕ × ℕ) → List (Option Handle)
with_handles standing live [] = live
with_handles standing live (g ∷ gs) = with_handles standing (with_entry live (handle_for standing g)) gs

-- and the numbers that they got
abbrev pub numbers_for : Standing → List (Option Handle) → List (ℕ × ℕ) → List ℕ
numbers_for standing live [] = []
numbers_for standing live (g ∷ gs) = first_free live ∷ numbers_for standing (with_entry live (handle_for standing g)) gs

-- a scratch file that one of them would hold open is one of that many
abbrev pub IsInside : ℕ → Standing → Type 0
IsInside files standing = (id : ℕ) → is_inside files (stands_for standing id) ≡ true
