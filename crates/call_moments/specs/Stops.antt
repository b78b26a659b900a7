-- How the faults of what stands below end a run.
use Rattle.core_memory.specs.declared.fault.StoreFault.{StoreFault}
use Rattle.core_memory.specs.declared.fault.StoreFault.TheVariants as stores
use Rattle.instance_state.specs.declared.fault.HandleFault.{HandleFault}
use Rattle.instance_state.specs.declared.fault.HandleFault.TheVariants as handles
use Rattle.call_moments.specs.declared.end.Stop.{Stop}
use Rattle.call_moments.specs.declared.end.Stop.TheVariants.{Trapped, NoMemory}

abbrev pub stop_of_handles : HandleFault → Stop
stop_of_handles handles.Trap = Trapped
stop_of_handles handles.NoMemory = NoMemory

abbrev pub stop_of_store : StoreFault → Stop
stop_of_store stores.Trap = Trapped
stop_of_store stores.NoMemory = NoMemory
