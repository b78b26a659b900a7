use Rattle.std.proofs.Common.{◌<◌, length, refl, sym, ◌∙◌, arith}
use Rattle.std.proofs.lemmas.Grind.{common_steps}
use Rattle.std.proofs.lemmas.List.{get_or_read}
use Rattle.ref_rules.proofs.LiveLemmas.{in_kinds, counted, removed}
use Rattle.ref_rules.proofs.live.LiveHandles.remove.Goals as goal

pub index-requires : goal.index-requires
index-requires c =
    let reps = c.self.invariant.reps_count in
    let within = c.in-Some.ensures.within in
    grind (arith, common_steps, reps, within)

pub free_number-requires-clause-kind : goal.free_number-requires-clause-kind
free_number-requires-clause-kind c =
    let there = sym c.get.ensures.value ∙ c.in-Some.is in
    omega (arith, in_kinds _ _ _ _ _ c.self.invariant c.args.id c.in-Some.field-0 there, c.self.invariant.kinds_count)

pub free_number-requires-clause-live : goal.free_number-requires-clause-live
free_number-requires-clause-live c =
    let there = sym c.get.ensures.value ∙ c.in-Some.is in
    let entry = (c.self.invariant.there c.args.id c.in-Some.field-0 there).entry in
    let within : c.args.id < length c.self.inside.reps.items = omega (arith, c.self.invariant.reps_count, c.in-Some.ensures.within) in
    let read = get_or_read c.self.inside.reps.items c.args.id c.index.result.now within c.index.ensures 0 in
    rw (read, entry) refl

pub note_closed-requires-clause-some : goal.note_closed-requires-clause-some
note_closed-requires-clause-some c = λ file is.
    let there = sym c.get.ensures.value ∙ c.in-Some.is in
    counted _ _ _ _ _ c.self.invariant c.args.id c.in-Some.field-0 file there is

pub invariant_of-self : goal.invariant_of-self
invariant_of-self c =
    let there = sym c.get.ensures.value ∙ c.in-Some.is in
    let within : c.args.id < length c.self.inside.reps.items = omega (arith, c.self.invariant.reps_count, c.in-Some.ensures.within) in
    let read = get_or_read c.self.inside.reps.items c.args.id c.index.result.now within c.index.ensures 0 in
    rw (c.free.ensures, c.free_number.ensures, c.note_closed.ensures, read) (removed _ _ _ _ _ c.self.invariant c.args.id c.in-Some.field-0 there)
