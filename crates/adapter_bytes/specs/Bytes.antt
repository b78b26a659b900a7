-- Both modules of the adapter may be written.
use Rattle.std.specs.Prelude.{◌≤◌}
use Rattle.core_write.specs.Written.{IsWritable}
use Rattle.adapter_bytes.specs.declared.modules.Routines.{Routines}
use Rattle.adapter_bytes.specs.Emit.{AreRoutines, state_in, stubs_in}
use Rattle.adapter_bytes.specs.Weight.{weight_in, most_weight, AreNumberedStubs}

abbrev pub EmittedAreWritable : Type 0
EmittedAreWritable =
    (r : Routines) → AreRoutines r → AreNumberedStubs r.stubs.items → weight_in r.stubs.items ≤ most_weight →
    IsWritable (state_in r) × IsWritable (stubs_in r)
