use Rattle.std.proofs.Common.{◌+◌, ◌-◌, ◌/◌, ◌≤◌, arith, rules, length, set}
use Rattle.core_memory.specs.Linear.{pages_of}
use Rattle.core_memory.proofs.Marks.{making_none, making_more, making_same, making_stops, making_done, making_ready}
use Rattle.core_memory.proofs.bulk.make_pages.Goals as goal

pub loop-index-init : goal.loop-index-init
loop-index-init c = making_none _ _ _ c.requires.paged (omega arith)

pub loop-index-preserved : goal.loop-index-preserved
loop-index-preserved c =
    making_more c.args.pages.now.items c.loop-index.pages.items (c.args.at / 65536) (c.loop-index.index - c.args.at / 65536) (c.loop-index.index + 1 - c.args.at / 65536) c.loop-index.index c.index_mut.result.now c.make.new.self
    (omega arith) (omega arith) (omega arith) c.loop-index.invariant c.index_mut.ensures.value c.in_ok-make.ensures.ok c.make.ensures.len

pub returns-in_err-make : goal.returns-in_err-make
returns-in_err-make c =
    let lt : c.loop-index.index + 1 ≤ length c.args.pages.now.items = omega arith in
    let after = making_same c.args.pages.now.items c.loop-index.pages.items (c.args.at / 65536) (c.loop-index.index - c.args.at / 65536) c.loop-index.index c.index_mut.result.now c.make.new.self (omega arith) c.loop-index.invariant c.index_mut.ensures.value c.in_err-make.ensures.err c.make.ensures.len in
    let stops = making_stops c.args.pages.now.items c.loop-index.pages.items (set c.loop-index.pages.items c.loop-index.index c.make.new.self) (c.args.at / 65536) (c.loop-index.index - c.args.at / 65536) c.loop-index.index (pages_of c.args.at c.args.len) c.index_mut.result.now (omega arith) (omega arith) (omega arith) c.loop-index.invariant after c.index_mut.ensures.value c.in_err-make.ensures.unmade in
    record { bytes = after.bytes; len = after.len; paged = after.paged; ok = search rules; ready = search rules; err = search rules }

pub returns : goal.returns
returns c =
    let w = c.loop-index.invariant in
    record { bytes = w.bytes; len = w.len; paged = w.paged; ok = making_done _ _ _ _ _ c.requires.some (omega arith) w; ready = making_ready _ _ _ _ _ c.requires.some c.requires.within (omega arith) w; err = tt }
