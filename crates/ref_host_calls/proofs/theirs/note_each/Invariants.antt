use Rattle.std.proofs.Common.{◌≡◌, ◌++◌, drop, map}
use Rattle.wit_types.specs.PlainValue.{plain_value}
use Rattle.tree_table.specs.Tables.{Forest}
use Rattle.reference_step.specs.Steps.{offer_of}
use Rattle.ref_host_calls.specs.Offers.{shown_all}
use Rattle.ref_host_calls.proofs.theirs.note_each.Given as goal

abbrev pub invariant-loop-value : goal.invariant-loop-value
invariant-loop-value g l = (f : Forest) → shown_all g.H.Host.step f l.offers.items ++ map (λ v. offer_of g.H.Host.step l.policy v) (map plain_value (drop l.value-index l.values)) ≡ shown_all g.H.Host.step f l.fn.offers.items ++ map (λ v. offer_of g.H.Host.step l.policy v) (map plain_value l.values)
