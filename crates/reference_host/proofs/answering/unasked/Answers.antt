use Rattle.std.proofs.Common.{◌≡◌, true, false, length, rules, refl, sym, ◌∙◌}
use Rattle.ref_host_calls.specs.Offers.{HoldsOfFolders}
use Rattle.reference_host.specs.Kept.{reference_at}
use Rattle.reference_host.proofs.KeepLemmas.{folders_inside, folders_there, holding_kept}
use Rattle.reference_host.proofs.StepLemmas.{ends_as, goes_as, if_false, if_true, ok_map, on_two}
use Rattle.reference_host.proofs.answering.unasked.Goals as goal

pub own_folders-requires : goal.own_folders-requires
own_folders-requires g c = record { slots = c.requires.holding.slots; trees = c.requires.setting.trees }

pub by_row-requires : goal.by_row-requires
by_row-requires g c =
    let no : c.is_folders.result ≡ false = search rules in
    record { setting = c.requires.setting; holding = c.requires.holding; asked = c.requires.asked; room = c.requires.room; others = sym c.is_folders.ensures ∙ no }

pub returns-then-is_folders-clause-reaction : goal.returns-then-is_folders-clause-reaction
returns-then-is_folders-clause-reaction g c = ok_map c.own_folders.result _ _ (λ a e.
    let yes : c.is_folders.result ≡ true = search rules in
    goes_as _ _ _ _ _ _ (if_true _ _ _ (sym c.is_folders.ensures ∙ yes)) (e c.args.setting.now.table (reference_at c.args.setting.now c.args.holding.now (g.H.Host.kept c.args.inner.now).state) c.requires.setting.holds)) c.own_folders.ensures.reaction

pub returns-then-is_folders-clause-keeps : goal.returns-then-is_folders-clause-keeps
returns-then-is_folders-clause-keeps g c = on_two c.own_folders.result _ _ _ (λ keeps limits.
    holding_kept c.args.setting.now c.args.holding.now (record { live = c.own_folders.new.live; folder = c.args.holding.now.folder }) (HoldsOfFolders (length c.args.setting.now.trees)) refl limits keeps (folders_inside c.args.setting.now c.requires.setting) (folders_there (length c.args.setting.now.trees) c.args.holding.now.folder) c.requires.holding) c.own_folders.ensures.keeps c.own_folders.ensures.limits

pub returns-else-is_folders-clause-reaction : goal.returns-else-is_folders-clause-reaction
returns-else-is_folders-clause-reaction g c = ok_map c.by_row.result _ _ (λ a e.
    let no : c.is_folders.result ≡ false = search rules in
    ends_as _ _ _ _ (if_false _ _ _ (sym c.is_folders.ensures ∙ no) ∙ e (g.H.Host.kept c.args.inner.now).state)) c.by_row.ensures.answer
