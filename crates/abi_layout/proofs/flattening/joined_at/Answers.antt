use Rattle.std.proofs.Common.{◌≤◌, ◌<◌, take, length, arith, sym, ◌∙◌}
use Rattle.std.proofs.lemmas.List.{get_or-take, length-take-le}
use Rattle.virt_base.specs.declared.core_type.CoreType.TheVariants.{I32}
use Rattle.abi_layout.proofs.FlatLemmas.{get_or-join-first, get_or-join-second, get_or-join-both}
use Rattle.abi_layout.proofs.flattening.joined_at.Goals as goal

pub returns-then-i-other : goal.returns-then-i-other
returns-then-i-other c =
    let one = take c.args.one.now.count c.args.one.now.types in
    let other = take c.args.other.now.count c.args.other.now.types in
    let past : length other ≤ c.args.i = omega (arith, length-take-le c.args.other.now.count c.args.other.now.types (omega (arith, c.args.other.now.whole))) in
    let at : c.args.i < c.args.one.now.count = omega (arith, c.if-i-other.true, c.requires.within) in
    sym (get_or-join-first one other c.args.i I32 past ∙ get_or-take c.args.one.now.count c.args.one.now.types c.args.i I32 at)

pub returns-then-i-one : goal.returns-then-i-one
returns-then-i-one c =
    let one = take c.args.one.now.count c.args.one.now.types in
    let other = take c.args.other.now.count c.args.other.now.types in
    let past : length one ≤ c.args.i = omega (arith, length-take-le c.args.one.now.count c.args.one.now.types (omega (arith, c.args.one.now.whole))) in
    let at : c.args.i < c.args.other.now.count = omega (arith, c.if-i-other.false) in
    sym (get_or-join-second one other c.args.i I32 past ∙ get_or-take c.args.other.now.count c.args.other.now.types c.args.i I32 at)

pub returns-else-i-one : goal.returns-else-i-one
returns-else-i-one c =
    let one = take c.args.one.now.count c.args.one.now.types in
    let other = take c.args.other.now.count c.args.other.now.types in
    let in_one : c.args.i < length one = omega (arith, length-take-le c.args.one.now.count c.args.one.now.types (omega (arith, c.args.one.now.whole))) in
    let in_other : c.args.i < length other = omega (arith, length-take-le c.args.other.now.count c.args.other.now.types (omega (arith, c.args.other.now.whole))) in
    let both = get_or-join-both one other c.args.i I32 in_one in_other in
    let first = get_or-take c.args.one.now.count c.args.one.now.types c.args.i I32 (omega arith) in
    let second = get_or-take c.args.other.now.count c.args.other.now.types c.args.i I32 (omega arith) in
    cc
