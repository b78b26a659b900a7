use Rattle.outside.proofs.MemSinkLaws.{put_means}
use Rattle.outside.proofs.mem_sink.MemSinkSink.put.Goals as goal

pub returns-clause-means : goal.returns-clause-means
returns-clause-means c = put_means c.args.bytes.now c.args.self.now c.put_what_fits.new.self c.put_what_fits.result c.put_what_fits.ensures
