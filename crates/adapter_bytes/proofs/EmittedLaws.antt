-- Both modules may be written.
use Rattle.std.proofs.Common.{ℕ, ◌≤◌}
use Rattle.core_write.specs.Written.{IsWritable}
use Rattle.adapter_bytes.specs.declared.modules.Routines.{Routines}
use Rattle.adapter_bytes.specs.Emit.{posts_in, AreRoutines, state_in, stubs_in}
use Rattle.adapter_bytes.specs.Weight.{weight_in, most_weight, AreNumberedStubs}
use Rattle.adapter_bytes.proofs.StateModule.{state_writable}
use Rattle.adapter_bytes.proofs.StubsModule.{stubs_writable}

pub emitted_writable : (r : Routines) → AreRoutines r → AreNumberedStubs r.stubs.items → weight_in r.stubs.items ≤ most_weight → IsWritable (state_in r) × IsWritable (stubs_in r)
emitted_writable r are numbered light = (
  state_writable r.kinds.items r.layout r.image (posts_in r.stubs.items) are.kinds are.fits are.image,
  stubs_writable r.kinds.items r.layout r.stubs.items are.kinds are.fits are.stubs numbered light,
)
