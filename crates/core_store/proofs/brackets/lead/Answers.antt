use Rattle.std.proofs.Common.{◌+◌, sym, drop}
use Rattle.std.specs.Prelude.{reverse}
use Rattle.core_store.specs.Tree.{parts}
use Rattle.core_store.specs.Brackets.{flags}
use Rattle.core_store.proofs.Places.{opens_closer, opens_middle, opens_opener, opens_inner, to_front, from_front, pushed_flags, opened_closer, opened_inner, opened_opener, opened_middle, opened_twice}
use Rattle.core_store.proofs.brackets.lead.Goals as goal

pub returns-in_ok-push-in-Closer-clause-opens : goal.returns-in_ok-push-in-Closer-clause-opens
returns-in_ok-push-in-Closer-clause-opens c =
    to_front c.args.code.now c.args.opens.now.items c.push.new.self.items _ (parts (drop c.args.at c.args.code.now)) c.in_ok-push-in-Closer.ensures.items
    (opens_closer c.args.code.now c.args.at c.args.instr.now (reverse c.args.opens.now.items) (record { other = 0; behind = 0 }) (sym c.in-Closer.ensures) c.requires.there c.requires.opens).0

pub returns-in_ok-push-in-Some-clause-opens : goal.returns-in_ok-push-in-Some-clause-opens
returns-in_ok-push-in-Some-clause-opens c =
    to_front c.args.code.now c.pop.new.self.items c.push-in-Some.new.self.items _ (parts (drop c.args.at c.args.code.now)) c.in_ok-push-in-Some.ensures.items
    (opens_middle c.args.code.now c.args.at c.args.instr.now c.in-Some.open (reverse c.pop.new.self.items) 0 (sym c.in-Middle.ensures) c.requires.there c.if-open.false (from_front c.args.code.now c.pop.new.self.items c.args.opens.now.items c.in-Some.open (parts (drop (c.args.at + 1) c.args.code.now)) c.in-Some.ensures.items c.requires.opens)).0

pub returns-in-Some-pop-clause-opens : goal.returns-in-Some-pop-clause-opens
returns-in-Some-pop-clause-opens c =
    (opens_opener c.args.code.now c.args.at c.args.instr.now c.in-Some-pop.open (reverse c.pop-in-Opener.new.self.items) (sym c.in-Opener.ensures) c.requires.there (from_front c.args.code.now c.pop-in-Opener.new.self.items c.args.opens.now.items c.in-Some-pop.open (parts (drop (c.args.at + 1) c.args.code.now)) c.in-Some-pop.ensures.items c.requires.opens)).0

pub returns-in_ok-push-in-Some-clause-leads : goal.returns-in_ok-push-in-Some-clause-leads
returns-in_ok-push-in-Some-clause-leads c =
    (opens_middle c.args.code.now c.args.at c.args.instr.now c.in-Some.open (reverse c.pop.new.self.items) c.args.at (sym c.in-Middle.ensures) c.requires.there c.if-open.false (from_front c.args.code.now c.pop.new.self.items c.args.opens.now.items c.in-Some.open (parts (drop (c.args.at + 1) c.args.code.now)) c.in-Some.ensures.items c.requires.opens)).1

pub returns-in-Some-pop-clause-leads : goal.returns-in-Some-pop-clause-leads
returns-in-Some-pop-clause-leads c =
    (opens_opener c.args.code.now c.args.at c.args.instr.now c.in-Some-pop.open (reverse c.pop-in-Opener.new.self.items) (sym c.in-Opener.ensures) c.requires.there (from_front c.args.code.now c.pop-in-Opener.new.self.items c.args.opens.now.items c.in-Some-pop.open (parts (drop (c.args.at + 1) c.args.code.now)) c.in-Some-pop.ensures.items c.requires.opens)).1

pub returns-in_ok-push-in-Closer-clause-leads : goal.returns-in_ok-push-in-Closer-clause-leads
returns-in_ok-push-in-Closer-clause-leads c =
    (opens_closer c.args.code.now c.args.at c.args.instr.now (reverse c.args.opens.now.items) (record { other = c.args.at; behind = c.args.at }) (sym c.in-Closer.ensures) c.requires.there c.requires.opens).1

pub returns-in-Inner-clause-opens : goal.returns-in-Inner-clause-opens
returns-in-Inner-clause-opens c =
    (opens_inner c.args.code.now c.args.at c.args.instr.now (reverse c.args.opens.now.items) (record { other = 0; behind = 0 }) (sym c.in-Inner.ensures) c.requires.there c.requires.opens).0

pub returns-in-Inner-clause-leads : goal.returns-in-Inner-clause-leads
returns-in-Inner-clause-leads c =
    (opens_inner c.args.code.now c.args.at c.args.instr.now (reverse c.args.opens.now.items) (record { other = c.args.at; behind = c.args.at }) (sym c.in-Inner.ensures) c.requires.there c.requires.opens).1

pub returns-in_ok-push-in-Closer-clause-ends : goal.returns-in_ok-push-in-Closer-clause-ends
returns-in_ok-push-in-Closer-clause-ends c =
    opened_closer c.args.instr.now (flags (reverse c.args.opens.now.items)) _ (sym c.in-Closer.ensures) (pushed_flags c.args.opens.now.items c.push.new.self.items _ c.in_ok-push-in-Closer.ensures.items)

pub returns-in-Inner-clause-ends : goal.returns-in-Inner-clause-ends
returns-in-Inner-clause-ends c = opened_inner c.args.instr.now (flags (reverse c.args.opens.now.items)) (sym c.in-Inner.ensures)

pub returns-in-Some-pop-clause-ends : goal.returns-in-Some-pop-clause-ends
returns-in-Some-pop-clause-ends c =
    opened_opener c.args.instr.now (flags (reverse c.args.opens.now.items)) (flags (reverse c.pop-in-Opener.new.self.items)) c.in-Some-pop.open.has_else (sym c.in-Opener.ensures) (pushed_flags c.pop-in-Opener.new.self.items c.args.opens.now.items c.in-Some-pop.open c.in-Some-pop.ensures.items)

pub returns-in_ok-push-in-Some-clause-ends : goal.returns-in_ok-push-in-Some-clause-ends
returns-in_ok-push-in-Some-clause-ends c =
    opened_middle c.args.instr.now (flags (reverse c.args.opens.now.items)) (flags (reverse c.pop.new.self.items)) _ c.in-Some.open.has_else (sym c.in-Middle.ensures) (pushed_flags c.pop.new.self.items c.args.opens.now.items c.in-Some.open c.in-Some.ensures.items) c.if-open.false
    (pushed_flags c.pop.new.self.items c.push-in-Some.new.self.items _ c.in_ok-push-in-Some.ensures.items)

pub returns-then-open-clause-ends : goal.returns-then-open-clause-ends
returns-then-open-clause-ends c =
    opened_twice c.args.instr.now (flags (reverse c.args.opens.now.items)) (flags (reverse c.pop.new.self.items)) c.in-Some.open.has_else (sym c.in-Middle.ensures) (pushed_flags c.pop.new.self.items c.args.opens.now.items c.in-Some.open c.in-Some.ensures.items) c.if-open.true
