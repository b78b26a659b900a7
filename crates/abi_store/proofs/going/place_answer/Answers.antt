use Rattle.std.proofs.Common.{refl}
use Rattle.abi_store.proofs.Resuming.{placed_memory}
use Rattle.abi_store.proofs.going.place_answer.Goals as goal

pub returns-in_ok-push-in-Memory : goal.returns-in_ok-push-in-Memory
returns-in_ok-push-in-Memory c = placed_memory c.args.cell c.in-Memory.at c.args.place c.args.len _ c.args.works.now.items c.push.new.self.items c.args.flats.now c.in-Memory.is (λ k. refl) c.in_ok-push-in-Memory.ensures.items
