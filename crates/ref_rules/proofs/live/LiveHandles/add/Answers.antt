use Rattle.std.proofs.Common.{◌<◌, length, arith}
use Rattle.std.proofs.lemmas.Grind.{common_steps}
use Rattle.ref_rules.specs.Contents.{open_file}
use Rattle.ref_rules.proofs.HoldingLemmas.{within_files}
use Rattle.ref_rules.proofs.LiveLemmas.{has_room, number_within, count_fits, added}
use Rattle.ref_rules.proofs.live.LiveHandles.add.Goals as goal

pub next-id-requires : goal.next-id-requires
next-id-requires c = has_room _ _ _ _ _ c.self.invariant c.args.kind c.requires.kind (rw (← c.self.view_is) at c.requires.room)

pub index_mut-requires : goal.index_mut-requires
index_mut-requires c =
    let within = number_within _ _ _ _ _ c.self.invariant c.args.kind c.requires.kind (rw (← c.self.view_is) at c.requires.room) in
    let shown : c.next-id.result < length c.self.inside.reps.items = rw c.next-id.ensures within in
    grind (arith, common_steps, shown)

pub note_opened-requires-clause-few : goal.note_opened-requires-clause-few
note_opened-requires-clause-few c = λ file is.
    let inside = rw (← c.self.view_is) at c.requires.inside in
    count_fits _ _ _ _ _ c.self.invariant file (within_files (open_file c.args.content) _ file inside is)

pub add-requires : goal.add-requires
add-requires c = has_room _ _ _ _ _ c.self.invariant c.args.kind c.requires.kind (rw (← c.self.view_is) at c.requires.room)

pub invariant_of-self : goal.invariant_of-self
invariant_of-self c =
    let room = rw (← c.self.view_is) at c.requires.room in
    let inside = rw (← c.self.view_is) at c.requires.inside in
    rw (c.add.ensures, c.put_number-rep.ensures.put, c.note_opened.ensures, c.next-id.ensures)
    (added _ _ _ _ _ c.self.invariant c.args.kind c.args.content c.put_number-rep.result c.requires.kind room inside c.put_number-rep.ensures.was_free)
