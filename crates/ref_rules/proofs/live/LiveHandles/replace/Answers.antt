use Rattle.std.proofs.Common.{sym, ◌∙◌, arith}
use Rattle.ref_rules.specs.Contents.{open_file}
use Rattle.ref_rules.proofs.HoldingLemmas.{within_files, less-at}
use Rattle.ref_rules.proofs.LiveLemmas.{counted, count_fits, replaced}
use Rattle.ref_rules.proofs.live.LiveHandles.replace.Goals as goal

pub note_closed-requires-clause-some : goal.note_closed-requires-clause-some
note_closed-requires-clause-some c = λ file is.
    let there = sym c.get.ensures.value ∙ c.in-Some.is in
    counted _ _ _ _ _ c.self.invariant c.args.id c.in-Some.field-0 file there is

pub note_opened-requires-clause-few : goal.note_opened-requires-clause-few
note_opened-requires-clause-few c = λ file is.
    let inside = rw (← c.self.view_is) at c.requires.inside in
    let within = within_files (open_file c.args.content) _ file inside is in
    let fits = count_fits _ _ _ _ _ c.self.invariant file within in
    rw c.note_closed.ensures (omega (arith, fits, less-at c.self.inside.held.items (open_file c.in-Some.field-0.content) file within))

pub invariant_of-self : goal.invariant_of-self
invariant_of-self c =
    let there = sym c.get.ensures.value ∙ c.in-Some.is in
    let inside = rw (← c.self.view_is) at c.requires.inside in
    rw (c.put.ensures, c.note_opened.ensures, c.note_closed.ensures) (replaced _ _ _ _ _ c.self.invariant c.args.id c.in-Some.field-0 c.args.content there inside)
