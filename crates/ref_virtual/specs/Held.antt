-- What live handles stand for.
use Rattle.std.specs.Prelude.{◌≡◌, ℕ, ◌<◌, ◌^◌, true, List, slice_index_or, Option, None}
use Rattle.std.specs.Option.{option_map_or}
use Rattle.wit_types.specs.PlainValue.{PlainValues}
use Rattle.reference_step.specs.Values.{nth, number_in}
use Rattle.ref_rules.specs.declared.content.Content.{Content}
use Rattle.ref_rules.specs.declared.content.Content.TheVariants.{Always}
use Rattle.ref_rules.specs.declared.content.Handle.{Handle}
use Rattle.ref_virtual.specs.Inside.{node_inside}

-- of a number that is not live, a pollable that is ready
abbrev pub content_held : List (Option Handle) → ℕ → Content
content_held handles id = option_map_or (λ h. h.content) (slice_index_or handles id None) Always

-- each live handle's node is one of that many
abbrev pub AreInside : ℕ → List (Option Handle) → Type 0
AreInside nodes handles = (id : ℕ) → node_inside nodes (content_held handles id) ≡ true

-- each number among arguments has 64 bits
abbrev pub AreWords : PlainValues → Type 0
AreWords args = (place : ℕ) → number_in (nth place args) < 2 ^ 64
