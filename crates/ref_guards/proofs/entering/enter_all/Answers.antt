use Rattle.std.proofs.Common.{◌+◌, drop, get_or, ap, arith}
use Rattle.reference_step.specs.Atoms.{handle_in, handles}
use Rattle.ref_rules.specs.Lives.{LiveTable, count_of_kind}
use Rattle.ref_guards.specs.declared.atoms.Atom.TheVariants.{Text}
use Rattle.ref_guards.specs.Noted.{shown, shown_all}
use Rattle.ref_guards.specs.Entering.{with_handles}
use Rattle.ref_guards.proofs.EnterLemmas.{next_handles, room_first, room_rest, kinds_rest, same_then, entered_next, numbers_next}
use Rattle.ref_guards.proofs.entering.enter_all.Goals as goal

pub enter-requires-clause-room : goal.enter-requires-clause-room
enter-requires-clause-room c = λ kind.
    room_first kind _ _ _ (count_of_kind kind c.loop-atom.live.handles) c.loop-atom.live.slots (next_handles c.args.noted.now c.loop-atom.atom-index _ c.loop-atom-test.true) (c.loop-atom.invariant.room kind)

pub loop-atom-preserved : goal.loop-atom-preserved
loop-atom-preserved c =
    let d = Text 0 in
    let cut = next_handles c.args.noted.now c.loop-atom.atom-index d c.loop-atom-test.true in
    let a = handle_in (shown (get_or c.args.noted.now c.loop-atom.atom-index d)) in
    let b = handles (shown_all (drop (c.loop-atom.atom-index + 1) c.args.noted.now)) in
    let all = handles (shown_all (drop c.loop-atom.atom-index c.args.noted.now)) in
    let entered = c.in_ok-enter.ensures.entered in
    let lives = ap (λ (l : LiveTable). l.handles) entered in
    let slots = ap (λ (l : LiveTable). l.slots) entered in
    record {
      kinds = kinds_rest a b all cut c.loop-atom.invariant.kinds;
      room = λ kind.
          let count = ap (count_of_kind kind) lives in
          let rest = room_rest c.args.standing kind a b all c.loop-atom.live.handles c.loop-atom.live.slots cut (c.loop-atom.invariant.room kind) in
          omega (arith, count, rest, slots);
      same = same_then c.enter.new.live c.loop-atom.live c.args.live.now (with_handles c.args.standing c.loop-atom.live.handles a) entered c.loop-atom.invariant.same;
      entered = entered_next c.args.standing c.loop-atom.live.handles c.enter.new.live.handles a b all _ cut lives c.loop-atom.invariant.entered;
      numbers = numbers_next c.args.standing c.loop-atom.numbers.items c.enter.new.numbers.items c.loop-atom.live.handles c.enter.new.live.handles a b all _ cut lives c.in_ok-enter.ensures.numbers c.loop-atom.invariant.numbers;
    }
