use Rattle.std.proofs.Common.{◌+◌, subst}
use Rattle.core_memory.specs.Number.{bytes_of}
use Rattle.core_store.specs.State.{memory_at}
use Rattle.abi_store.specs.declared.work.Written.{Written}
use Rattle.abi_store.specs.Flows.{Leads, none_left, refused}
use Rattle.abi_store.specs.Works.{written_lowered, write_at}
use Rattle.abi_store.proofs.Begins.{place_past, place_then}
use Rattle.abi_store.proofs.Stores.{keeps_then}
use Rattle.abi_store.proofs.storing.turn_place.Goals as goal

pub returns-in-Past : goal.returns-in-Past
returns-in-Past c = (
  place_past (memory_at c.args.store.now c.args.memory) (memory_at c.put.new.store c.args.memory) c.args.work.at c.args.work.place c.args.work.len
      (subst (λ (w : Written). Leads (memory_at c.args.store.now c.args.memory) (write_at c.args.work.at (bytes_of 4 c.args.work.place)) (memory_at c.put.new.store c.args.memory) (written_lowered w)) c.in-Past.is c.in_ok-put.ensures.0),
  c.in_ok-put.ensures.1,
)

pub returns-in-Past-2 : goal.returns-in-Past-2
returns-in-Past-2 c = (
  place_then (memory_at c.args.store.now c.args.memory) (memory_at c.put.new.store c.args.memory) (memory_at c.put-in-Done.new.store c.args.memory) c.args.work.at c.args.work.place c.args.work.len refused
      (subst (λ (w : Written). Leads (memory_at c.args.store.now c.args.memory) (write_at c.args.work.at (bytes_of 4 c.args.work.place)) (memory_at c.put.new.store c.args.memory) (written_lowered w)) c.in-Done.is c.in_ok-put.ensures.0)
      (subst (λ (w : Written). Leads (memory_at c.put.new.store c.args.memory) (write_at (c.args.work.at + 4) (bytes_of 4 c.args.work.len)) (memory_at c.put-in-Done.new.store c.args.memory) (written_lowered w)) c.in-Past-2.is c.in_ok-put-in-Done.ensures.0),
  keeps_then c.args.store.now c.put.new.store c.put-in-Done.new.store c.args.memory c.in_ok-put.ensures.1 c.in_ok-put-in-Done.ensures.1,
)

pub returns-in-Done-2 : goal.returns-in-Done-2
returns-in-Done-2 c = (
  place_then (memory_at c.args.store.now c.args.memory) (memory_at c.put.new.store c.args.memory) (memory_at c.put-in-Done.new.store c.args.memory) c.args.work.at c.args.work.place c.args.work.len none_left
      (subst (λ (w : Written). Leads (memory_at c.args.store.now c.args.memory) (write_at c.args.work.at (bytes_of 4 c.args.work.place)) (memory_at c.put.new.store c.args.memory) (written_lowered w)) c.in-Done.is c.in_ok-put.ensures.0)
      (subst (λ (w : Written). Leads (memory_at c.put.new.store c.args.memory) (write_at (c.args.work.at + 4) (bytes_of 4 c.args.work.len)) (memory_at c.put-in-Done.new.store c.args.memory) (written_lowered w)) c.in-Done-2.is c.in_ok-put-in-Done.ensures.0),
  keeps_then c.args.store.now c.put.new.store c.put-in-Done.new.store c.args.memory c.in_ok-put.ensures.1 c.in_ok-put-in-Done.ensures.1,
)
