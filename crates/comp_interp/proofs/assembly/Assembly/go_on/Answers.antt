use Rattle.std.proofs.Common.{◌≡◌, ◌∙◌, ap, sym, subst, refl, length, slice_get, Ok, Some, None, ◌++◌, ◌∷◌, []}
use Rattle.std.proofs.lemmas.Option.{slice_get_past, slice_get_read}
use Rattle.comp_calls.specs.Moments.{at}
use Rattle.comp_interp.specs.Parts.{part_items, part_limit, IsSoundPart}
use Rattle.comp_interp.specs.Levels.{AreSound, BegunIf}
use Rattle.comp_interp.proofs.Sounding.{item_sound, begun_sound, sound_push}
use Rattle.comp_interp.specs.Going.{ItemComes}
use Rattle.comp_interp.proofs.Ended.{level_comes}
use Rattle.comp_interp.proofs.Onward.{item_ends, item_on, item_in}
use Rattle.comp_interp.proofs.Working.{goes, goes_in}
use Rattle.comp_interp.proofs.assembly.Assembly.go_on.Goals as goal
use Rattle.comp_interp.proofs.assembly.Assembly.go_on.Goals.{in-None+in_ok-push-in-None, in-Some-2+in_ok-push-in-Some-2+in_ok-push-in-Some-2-2}

pub make_item-requires : goal.make_item-requires
make_item-requires g c =
    let here : slice_get (part_items c.args.linked.now c.args.level.part) c.args.level.at ≡ Some c.in-Some.item.now =
    subst (λ xs. slice_get xs c.args.level.at ≡ Some c.in-Some.item.now) c.items.ensures (slice_get_read c.items.result.now (length c.items.result.now) c.args.level.at c.in-Some.item.now refl c.in-Some.ensures.lookup.3.0 c.in-Some.ensures.lookup.1) in
    record { sound = item_sound c.args.linked.now c.args.level.part c.args.level.at c.in-Some.item.now c.requires.level here }

pub returns-clause-sound : goal.returns-clause-sound
returns-clause-sound g c =
    let linked = c.args.linked.now in
    let here : slice_get (part_items linked c.args.level.part) c.args.level.at ≡ Some c.in-Some.item.now =
    subst (λ xs. slice_get xs c.args.level.at ≡ Some c.in-Some.item.now) c.items.ensures (slice_get_read c.items.result.now (length c.items.result.now) c.args.level.at c.in-Some.item.now refl c.in-Some.ensures.lookup.3.0 c.in-Some.ensures.lookup.1) in
    let follows = c.in_ok-make_item.ensures.follows in
    let goes_on : IsSoundPart linked c.make_item.new.level.part = subst (IsSoundPart linked) (sym follows.part) c.requires.level in
    elim c.match-branch-2.branch [
      | in-None+in_ok-push-in-None w ↦
          subst (AreSound linked) (sym (ap (λ v. v.items) w.levels-is ∙ w.in_ok-push-in-None.ensures.items)) (sound_push linked c.args.levels.now.items c.make_item.new.level c.requires.levels goes_on)
      | in-Some-2+in_ok-push-in-Some-2+in_ok-push-in-Some-2-2 w ↦
          let mid : AreSound linked w.push-in-Some-2.new.self.items = subst (AreSound linked) (sym w.in_ok-push-in-Some-2.ensures.items) (sound_push linked c.args.levels.now.items c.make_item.new.level c.requires.levels goes_on) in
          let begun : BegunIf linked (part_limit linked c.args.level.part) c.in-Some.item.now (Some w.in-Some-2.inner) = subst (BegunIf linked (part_limit linked c.args.level.part) c.in-Some.item.now) w.in-Some-2.is follows.begun in
          let sound = item_sound linked c.args.level.part c.args.level.at c.in-Some.item.now c.requires.level here in
          subst (AreSound linked) (sym (ap (λ v. v.items) w.levels-is ∙ w.in_ok-push-in-Some-2-2.ensures.items))
          (sound_push linked w.push-in-Some-2.new.self.items w.in-Some-2.inner mid (begun_sound linked (part_limit linked c.args.level.part) c.in-Some.item.now w.in-Some-2.inner sound begun))
    ]

pub returns-clause-less : goal.returns-clause-less
returns-clause-less g c = λ none.
    let linked = c.args.linked.now in
    let here : slice_get (part_items linked c.args.level.part) c.args.level.at ≡ Some c.in-Some.item.now =
    subst (λ xs. slice_get xs c.args.level.at ≡ Some c.in-Some.item.now) c.items.ensures (slice_get_read c.items.result.now (length c.items.result.now) c.args.level.at c.in-Some.item.now refl c.in-Some.ensures.lookup.3.0 c.in-Some.ensures.lookup.1) in
    let follows = c.in_ok-make_item.ensures.follows in
    elim c.match-branch-2.branch [
      | in-None+in_ok-push-in-None w ↦
          goes linked c.args.levels.now.items c.match-branch-2.levels.items c.args.level c.make_item.new.level c.in-Some.item.now here (ap (λ v. v.items) w.levels-is ∙ w.in_ok-push-in-None.ensures.items) follows.part follows.at
      | in-Some-2+in_ok-push-in-Some-2+in_ok-push-in-Some-2-2 w ↦
          let begun : BegunIf linked (part_limit linked c.args.level.part) c.in-Some.item.now (Some w.in-Some-2.inner) = subst (BegunIf linked (part_limit linked c.args.level.part) c.in-Some.item.now) w.in-Some-2.is follows.begun in
          goes_in linked c.args.levels.now.items w.push-in-Some-2.new.self.items c.match-branch-2.levels.items c.args.level c.make_item.new.level w.in-Some-2.inner c.in-Some.item.now here w.in_ok-push-in-Some-2.ensures.items
          (ap (λ v. v.items) w.levels-is ∙ w.in_ok-push-in-Some-2-2.ensures.items) follows.part follows.at begun
    ]

pub returns-in_default-clause-goes : goal.returns-in_default-clause-goes
returns-in_default-clause-goes g c = λ first s.
    let linked = c.args.linked.now in
    let m = at g.H.Host.kept c.args.self.now.world in
    level_comes g.H.Host.step linked first c.args.self.now.made.items c.args.levels.now.items c.args.level m s
    (subst (λ xs. slice_get xs c.args.level.at ≡ None) c.items.ensures (slice_get_past c.items.result.now c.args.level.at c.in_default.ensures.lookup.3)) c.end.result c.end.new.self.made.items c.end.new.levels.items (at g.H.Host.kept c.end.new.self.world) (ap (at g.H.Host.kept) c.end.ensures.world) c.end.ensures.held

pub returns-in_err-make_item-clause-goes : goal.returns-in_err-make_item-clause-goes
returns-in_err-make_item-clause-goes g c = λ first s.
    let linked = c.args.linked.now in
    let here : slice_get (part_items linked c.args.level.part) c.args.level.at ≡ Some c.in-Some.item.now =
    subst (λ xs. slice_get xs c.args.level.at ≡ Some c.in-Some.item.now) c.items.ensures (slice_get_read c.items.result.now (length c.items.result.now) c.args.level.at c.in-Some.item.now refl c.in-Some.ensures.lookup.3.0 c.in-Some.ensures.lookup.1) in
    item_ends g.H.Host.step linked first c.args.self.now.made.items c.args.levels.now.items c.args.level (at g.H.Host.kept c.args.self.now.world) s c.in-Some.item.now here c.make_item.new.self.made.items c.args.levels.now.items (at g.H.Host.kept c.make_item.new.self.world)
    c.make_item.new.level.making c.in_err-make_item.field-0.0 c.from_residual.result c.from_residual.ensures.1 c.in_err-make_item.ensures.comes

pub returns-clause-goes : goal.returns-clause-goes
returns-clause-goes g c = λ first s.
    let linked = c.args.linked.now in
    let here : slice_get (part_items linked c.args.level.part) c.args.level.at ≡ Some c.in-Some.item.now =
    subst (λ xs. slice_get xs c.args.level.at ≡ Some c.in-Some.item.now) c.items.ensures (slice_get_read c.items.result.now (length c.items.result.now) c.args.level.at c.in-Some.item.now refl c.in-Some.ensures.lookup.3.0 c.in-Some.ensures.lookup.1) in
    let old = at g.H.Host.kept c.args.self.now.world in
    let new = at g.H.Host.kept c.make_item.new.self.world in
    let made = c.args.self.now.made.items in
    let made' = c.make_item.new.self.made.items in
    let l' = c.make_item.new.level in
    let follows = c.in_ok-make_item.ensures.follows in
    let comes = c.in_ok-make_item.ensures.comes in
    elim c.match-branch-2.branch [
      | in-None+in_ok-push-in-None w ↦
          item_on g.H.Host.step linked first made c.args.levels.now.items c.args.level old s l' follows.part follows.at follows.first made' c.match-branch-2.levels.items new c.in-Some.item.now here (ap (λ v. v.items) w.levels-is ∙ w.in_ok-push-in-None.ensures.items)
          (subst (λ o. ItemComes g.H.Host.step (part_limit linked c.args.level.part) linked c.in-Some.item.now made old c.args.level.making (Ok o) made' new l'.making) w.in-None.is comes)
      | in-Some-2+in_ok-push-in-Some-2+in_ok-push-in-Some-2-2 w ↦
          item_in g.H.Host.step linked first made c.args.levels.now.items c.args.level old s l' follows.part follows.at follows.first made' c.match-branch-2.levels.items new c.in-Some.item.now here w.in-Some-2.inner
          (ap (λ v. v.items) w.levels-is ∙ w.in_ok-push-in-Some-2-2.ensures.items ∙ ap (λ xs. xs ++ w.in-Some-2.inner ∷ []) w.in_ok-push-in-Some-2.ensures.items)
          (subst (λ o. ItemComes g.H.Host.step (part_limit linked c.args.level.part) linked c.in-Some.item.now made old c.args.level.making (Ok o) made' new l'.making) w.in-Some-2.is comes)
    ]
