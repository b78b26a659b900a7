use Rattle.outside.specs.MemState.{mem_state}
use Rattle.outside.proofs.MemMeans.{reads_means}
use Rattle.outside.proofs.mem_files.MemFilesFiles.read.Goals as goal

pub returns-clause-means : goal.returns-clause-means
returns-clause-means c = reads_means c.args.name.now c.args.limit (mem_state c.args.self.now) (mem_state c.read_counted.new.self) c.read_counted.result c.read_counted.ensures
