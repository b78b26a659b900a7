use Rattle.outside.specs.MemState.{mem_state}
use Rattle.outside.proofs.MemMeans.{lists_means}
use Rattle.outside.proofs.mem_files.MemFilesFiles.list.Goals as goal

pub returns-clause-means : goal.returns-clause-means
returns-clause-means c = lists_means c.args.folder.now (mem_state c.args.self.now) (mem_state c.list_counted.new.self) c.list_counted.result c.list_counted.ensures.in_order c.list_counted.ensures.exact
