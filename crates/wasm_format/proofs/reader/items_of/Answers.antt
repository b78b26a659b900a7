use Rattle.std.proofs.Common.{◌∙◌}
use Rattle.std.proofs.lemmas.Result.{err_from_is_err_and}
use Rattle.virt_base.specs.Place.{place}
use Rattle.wasm_format.specs.Format.{read_items}
use Rattle.wasm_format.proofs.Loop.{goes_on, stops, is_done}
use Rattle.wasm_format.proofs.reader.items_of.Goals as goal

pub returns-in_err-item-clause-value : goal.returns-in_err-item-clause-value
returns-in_err-item-clause-value g c =
    let F = g.R.Reader.format c.args.reader.now in
    let p = err_from_is_err_and c.from_residual.result c.from_residual.ensures.1 in
    rw (p.1, p.2) (stops F c.in_err-item.field-0.0 c.loop.items.items c.args.count c.loop.counter (place c.loop.c) (read_items F c.args.count (place c.args.c.now)) c.loop-test.true c.in_err-item.ensures.value c.loop.invariant.read)

pub loop-preserved : goal.loop-preserved
loop-preserved g c =
    let F = g.R.Reader.format c.args.reader.now in
    record {
      input = c.in_ok-item.ensures.input ∙ c.loop.invariant.input;
      read = rw c.in_ok-push.ensures.items (goes_on F c.loop.items.items c.args.count c.loop.counter (place c.loop.c) c.in_ok-item.item (place c.read.new.c) (read_items F c.args.count (place c.args.c.now)) c.loop-test.true c.in_ok-item.ensures.value c.loop.invariant.read);
    }

pub returns-clause-value : goal.returns-clause-value
returns-clause-value g c =
    let F = g.R.Reader.format c.args.reader.now in
    rw (c.new.ensures, c.in_ok-whole.ensures) (is_done F c.loop.items.items c.args.count c.loop.counter (place c.loop.c) (read_items F c.args.count (place c.args.c.now)) c.loop-test.false c.loop.invariant.read)
