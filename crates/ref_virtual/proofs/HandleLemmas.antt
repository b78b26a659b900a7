-- What a live handle stands for, in the definition's words.
use Rattle.std.proofs.Common.{◌≡◌, ℕ, List, get_or, Option, Some, None, option_map, refl, sym, ap, ◌∙◌}
use Rattle.std.specs.Option.{option_map_or}
use Rattle.tree_table.specs.Tables.{Forest}
use Rattle.reference_step.specs.Handles as reference
use Rattle.reference_step.specs.State.{View}
use Rattle.ref_rules.specs.declared.content.Content.{Content}
use Rattle.ref_rules.specs.declared.content.Content.TheVariants.{Always}
use Rattle.ref_rules.specs.declared.content.Handle.{Handle}
use Rattle.ref_answers.specs.Seen.{content_in, handle_in, live_in}
use Rattle.ref_answers.proofs.SeenLaws.{seen_handle_at}
use Rattle.ref_virtual.specs.Held.{content_held}

by_handle : (f : Forest) (h : Option Handle) → content_in f (option_map_or (λ k. k.content) h Always) ≡ reference.content_in (option_map (handle_in f) h)
by_handle f None = refl
by_handle f (Some h) = refl

pub content_is : (f : Forest) (handles : List (Option Handle)) (id : ℕ) → content_in f (content_held handles id) ≡ reference.content_of (live_in f handles) id
content_is f handles id = by_handle f (get_or handles id None) ∙ sym (ap reference.content_in (seen_handle_at f handles id))

-- and as a view of the live handles has it
pub looked : (f : Forest) (v : View) (handles : List (Option Handle)) (id : ℕ) (c : Content) → v.content ≡ reference.content_of (live_in f handles) → c ≡ content_held handles id → content_in f c ≡ v.content id
looked f v handles id c e is = ap (content_in f) is ∙ content_is f handles id ∙ ap (λ g. g id) (sym e)
