use Rattle.std.proofs.Common.{◌≤◌, ◌+◌, ◌++◌, ℕ, List, Option, refl, sym, ap, subst, ◌∙◌}
use Rattle.host_port.specs.Calls.{plain_option}
use Rattle.reference_step.specs.Atoms.{renumbered_result, result_atoms}
use Rattle.ref_guards.specs.declared.standing.Standing.TheVariants.{Made}
use Rattle.ref_guards.specs.Entering.{IsInside, numbers_for, with_handles}
use Rattle.ref_guards.specs.declared.atoms.Atom.{Atom}
use Rattle.ref_guards.specs.Noted.{shown_all}
use Rattle.ref_host_calls.specs.Requests.{call_of, handles_in, listed_of}
use Rattle.ref_rules.specs.declared.content.Handle.{Handle}
use Rattle.ref_rules.specs.Lives.{LiveTable, count_of_kind}
use Rattle.ref_guards.specs.RoomEntering.{count_kind}
use Rattle.reference_host.proofs.RowLemmas.{becomes_room, effect_done}
use Rattle.reference_host.proofs.performing.perform.Goals as goal

pub become_content-requires : goal.become_content-requires
become_content-requires g c = c.requires.enters.becomes

pub note_result-requires : goal.note_result-requires
note_result-requires g c = c.requires.noted.small

pub enter_value-requires : goal.enter_value-requires
enter_value-requires g c =
    let ty = (listed_of c.args.request).function.ty.answer in
    let v = plain_option c.args.effect.value in
    let gs = handles_in c.args.request v in
    record {
      noted = ap shown_all c.as_slice.ensures.value ∙ c.in_ok-note_result.ensures ∙ ap (λ (xs : List Atom). shown_all xs ++ result_atoms ty v) c.new-noted.ensures.items;
      kinds = c.requires.enters.kinds;
      room = subst (λ (l : LiveTable). (kind : ℕ) → count_kind kind gs + count_of_kind kind l.handles ≤ l.slots) (sym c.become_content.ensures)
          (λ kind. becomes_room (call_of c.args.request).args c.args.effect.becomes kind (count_kind kind gs) c.args.live.now.slots c.args.live.now.handles _ refl (c.requires.enters.room kind));
      inside = subst (λ (l : LiveTable). IsInside l.files (Made c.args.effect.makes)) (sym c.become_content.ensures) c.requires.enters.makes;
    }

pub returns-clause-does : goal.returns-clause-does
returns-clause-does g c = λ f r m.
    let ty = (listed_of c.args.request).function.ty.answer in
    let v = plain_option c.args.effect.value in
    let gs = handles_in c.args.request v in
    let became = ap (λ (l : LiveTable). l.handles) c.become_content.ensures in
    effect_done g.H.Host.step (listed_of c.args.request) (call_of c.args.request) f r m c.args.effect c.args.live.now.handles c.enter_value.new.live.handles (plain_option c.in_ok-given.given)
    (c.in_ok-given.ensures.value ∙ ap (λ (hs : List (Option Handle)). renumbered_result ty v (numbers_for (Made c.args.effect.makes) hs gs)) became)
    (ap (λ (l : LiveTable). l.handles) c.in_ok-given.ensures.entered ∙ ap (λ (hs : List (Option Handle)). with_handles (Made c.args.effect.makes) hs gs) became)

pub returns-clause-entered : goal.returns-clause-entered
returns-clause-entered g c =
    let gs = handles_in c.args.request (plain_option c.args.effect.value) in
    c.in_ok-given.ensures.entered ∙ ap (λ (l : LiveTable). record l { handles = with_handles (Made c.args.effect.makes) l.handles gs }) c.become_content.ensures
