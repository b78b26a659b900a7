use Rattle.std.proofs.Common.{refl, inl, rules}
use Rattle.virt_engine.proofs.PairReading.{plugs_so, no_first, no_second, asking_sound, joining_sound, are_plugged, spells}
use Rattle.virt_engine.proofs.plugging.plug_parts.Goals as goal

pub returns-in_err-asking : goal.returns-in_err-asking
returns-in_err-asking c =
    plugs_so _ _ c.from_residual.result c.in_err-asking.field-0.0 (search (rules, c.from_residual.ensures)) (no_first c.args.first c.args.second c.in_err-asking.field-0.0 c.in_err-asking.ensures)

pub returns-in_err-joining : goal.returns-in_err-joining
returns-in_err-joining c =
    plugs_so _ _ c.from_residual-in_err-joining.result c.in_err-joining.field-0.0 (search (rules, c.from_residual-in_err-joining.ensures))
    (no_second c.args.first c.args.second c.in_ok-asking.asking c.in_ok-asking.ensures c.in_err-joining.field-0.0 c.in_err-joining.ensures)

pub second_of-requires-clause-first : goal.second_of-requires-clause-first
second_of-requires-clause-first c = asking_sound c.args.first c.args.second c.in_ok-asking.asking c.in_ok-asking.ensures c.requires.first

pub plug-requires-clause-first : goal.plug-requires-clause-first
plug-requires-clause-first c = spells c.in_ok-asking.asking.half (asking_sound c.args.first c.args.second c.in_ok-asking.asking c.in_ok-asking.ensures c.requires.first)

pub plug-requires-clause-second : goal.plug-requires-clause-second
plug-requires-clause-second c =
    spells c.in_ok-joining.joining.half (joining_sound c.args.first c.args.second c.in_ok-asking.asking c.in_ok-asking.ensures c.in_ok-joining.joining c.in_ok-joining.ensures c.requires.second)

pub returns-in-Ok : goal.returns-in-Ok
returns-in-Ok c =
    are_plugged c.args.first c.args.second c.in_ok-asking.asking c.in_ok-asking.ensures c.in_ok-joining.joining c.in_ok-joining.ensures c.requires.first c.requires.second c.in-Ok.plugged c.as_fetched.result c.as_fetched.ensures c.in-Ok.ensures

pub returns : goal.returns
returns c = inl refl
