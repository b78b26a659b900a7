use Rattle.std.proofs.Common.{rules}
use Rattle.virt_engine.proofs.PairReading.{pair_no_first, pair_no_second, pair_fetched, part_sound}
use Rattle.virt_engine.proofs.plugging.fetch_pair.Goals as goal

pub returns-in_err-first : goal.returns-in_err-first
returns-in_err-first g c = pair_no_first _ _ _ _ c.in_err-first.field-0.0 c.from_residual.result (search (rules, c.from_residual.ensures)) c.in_err-first.ensures

pub returns-in_err-second : goal.returns-in_err-second
returns-in_err-second g c =
    pair_no_second _ _ _ _ c.in_ok-first.first c.in_ok-first.ensures _ c.in_err-second.field-0.0 c.from_residual-in_err-second.result (search (rules, c.from_residual-in_err-second.ensures)) c.in_err-second.ensures

pub plug_parts-requires-clause-first : goal.plug_parts-requires-clause-first
plug_parts-requires-clause-first g c = part_sound c.in_ok-first.ensures.ready.bytes c.in_ok-first.first c.in_ok-first.ensures.ready.is_part

pub plug_parts-requires-clause-second : goal.plug_parts-requires-clause-second
plug_parts-requires-clause-second g c = part_sound c.in_ok-second.ensures.ready.bytes c.in_ok-second.second c.in_ok-second.ensures.ready.is_part

pub returns : goal.returns
returns g c = pair_fetched _ _ _ _ c.in_ok-first.first c.in_ok-first.ensures _ c.in_ok-second.second c.in_ok-second.ensures c.plug_parts.result c.plug_parts.ensures
