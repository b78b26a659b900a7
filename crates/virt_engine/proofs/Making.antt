-- A component that was judged can be made.
use Rattle.std.proofs.Common.{◌≡◌, [], Ok}
use Rattle.comp_grammar.specs.Trees.{plain}
use Rattle.comp_types.specs.Added.{after_tree, root}
use Rattle.comp_link.specs.Plans.{plan_of}
use Rattle.comp_link.specs.declared.linked.Linked.{Linked}
use Rattle.comp_link.specs.Planned.{plan_in}
use Rattle.comp_interp.specs.Sound.{CanBeMade}
use Rattle.comp_interp.proofs.Sounding.{linked_can_be_made}
use Rattle.component_judge.specs.declared.component.Judged.{Judged}
use Rattle.component_judge.specs.Components.{IsRunnable, Judges}
use Rattle.virt_engine.specs.Shown.{CanRun}

pub judged_can_be_made : (judged : Judged) (linked : Linked) → CanRun judged → plan_in linked ≡ plan_of (plain judged.component) → linked.imports ≡ (after_tree [] root (plain judged.component)).imports → CanBeMade linked
judged_can_be_made judged linked h plan imports =
    let judges : Judges h.0 (Ok judged) = h.1 in
    let runnable : IsRunnable h.0 (plain judged.component) = judges.0 in
    linked_can_be_made (plain judged.component) h.0 linked runnable.sound.small.spelled.0.0 runnable.sound.valid plan imports
