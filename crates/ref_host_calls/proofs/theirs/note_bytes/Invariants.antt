use Rattle.std.proofs.Common.{◌≡◌, ◌++◌, drop, map}
use Rattle.wit_types.specs.PlainValue.{byte_values}
use Rattle.tree_table.specs.Tables.{Forest}
use Rattle.reference_step.specs.Steps.{offer_of}
use Rattle.reference_step.specs.Values.{items}
use Rattle.ref_host_calls.specs.Offers.{shown_all}
use Rattle.ref_host_calls.proofs.theirs.note_bytes.Given as goal

abbrev pub invariant-loop-byte : goal.invariant-loop-byte
invariant-loop-byte g l = (f : Forest) → shown_all g.H.Host.step f l.offers.items ++ map (λ v. offer_of g.H.Host.step l.policy v) (items (byte_values (drop l._byte-index l.bytes))) ≡ shown_all g.H.Host.step f l.fn.offers.items ++ map (λ v. offer_of g.H.Host.step l.policy v) (items (byte_values l.bytes))
