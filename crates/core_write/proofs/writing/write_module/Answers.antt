use Rattle.core_write.proofs.Shortest.{spelled_fits}
use Rattle.core_write.proofs.writing.write_module.Goals as goal

pub module_out-requires : goal.module_out-requires
module_out-requires c = spelled_fits c.args.module.now c.requires
