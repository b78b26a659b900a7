use Rattle.outside.specs.MemState.{mem_state}
use Rattle.outside.proofs.MemMeans.{appends_means}
use Rattle.outside.proofs.mem_files.MemFilesFiles.append.Goals as goal

pub returns-clause-means : goal.returns-clause-means
returns-clause-means c = appends_means c.args.name.now c.args.bytes.now (mem_state c.args.self.now) (mem_state c.append_counted.new.self) c.append_counted.result c.append_counted.ensures
