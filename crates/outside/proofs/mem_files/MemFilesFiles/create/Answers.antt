use Rattle.outside.specs.MemState.{mem_state}
use Rattle.outside.proofs.MemMeans.{creates_means}
use Rattle.outside.proofs.mem_files.MemFilesFiles.create.Goals as goal

pub returns-clause-means : goal.returns-clause-means
returns-clause-means c = creates_means c.args.name.now (mem_state c.args.self.now) (mem_state c.create_counted.new.self) c.create_counted.result c.create_counted.ensures
