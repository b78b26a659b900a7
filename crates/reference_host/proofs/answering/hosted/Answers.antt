use Rattle.std.proofs.Common.{◌≡◌, true, false, length, rules, refl, sym, subst, ◌∙◌}
use Rattle.policy_data.specs.declared.policy.Policy.{Policy}
use Rattle.host_port.specs.Calls.{plain_answer}
use Rattle.reference_step.specs.Steps.{asks, environment_gave, host_gave}
use Rattle.ref_guards.specs.Contents.{Hosts}
use Rattle.ref_guards.proofs.KeepLaws.{on_always}
use Rattle.ref_host_calls.specs.Offers.{HoldsOfFolders}
use Rattle.ref_host_calls.specs.Reactions.{IsReaction, state_at}
use Rattle.ref_host_calls.specs.Requests.{call_of, listed_of}
use Rattle.reference_host.specs.Kept.{reference_at}
use Rattle.reference_host.proofs.KeepLemmas.{folders_inside, folders_there, holding_kept}
use Rattle.reference_host.proofs.RoomLemmas.{enters_kinds, enters_room}
use Rattle.reference_host.proofs.StepLemmas.{goes_as, if_false, if_true, ok_map, on_map, on_two}
use Rattle.reference_host.proofs.answering.hosted.Goals as goal

pub ask_variables-requires : goal.ask_variables-requires
ask_variables-requires g c = c.requires.asked.noted

pub ask_folders-requires : goal.ask_folders-requires
ask_folders-requires g c = record { noted = c.requires.asked.noted; policy = c.requires.asked.policy; slots = c.requires.holding.slots; trees = c.requires.setting.trees }

pub ask_host-requires : goal.ask_host-requires
ask_host-requires g c =
    let no : c.is_folders.result ≡ false = search rules in
    let other = sym c.is_folders.ensures ∙ no in
    record {
      noted = c.requires.asked.noted;
      kinds = enters_kinds c.args.setting.now c.args.holding.now c.args.request c.requires.holding c.requires.asked c.requires.room other;
      room = enters_room c.args.setting.now c.args.holding.now c.args.request c.requires.holding c.requires.asked c.requires.room other;
    }

pub returns-then-is_environment-clause-reaction : goal.returns-then-is_environment-clause-reaction
returns-then-is_environment-clause-reaction g c = ok_map c.ask_variables.result _ _ (λ a e.
    let yes : c.is_environment.result ≡ true = search rules in
    let h = g.H.Host.step in
    let k = g.H.Host.kept c.args.inner.now in
    let new = g.H.Host.kept c.ask_variables.new.inner in
    let r = reference_at c.args.setting.now c.args.holding.now k.state in
    let f = listed_of c.args.request in
    let q = call_of c.args.request in
    let table = c.args.setting.now.table in
    let live = c.args.holding.now.live in
    goes_as _ _ _ _ _ _ (if_true _ _ _ (sym c.is_environment.ensures ∙ yes))
    (subst (λ (p : Policy). IsReaction (asks h (state_at r table p live k.state) f q (λ s seen v. environment_gave h s seen f q v)) (plain_answer a) (state_at r table p live new.state) k.seen new.seen) c.requires.asked.policy (e table r))) c.ask_variables.ensures.reaction

pub returns-then-is_environment-clause-keeps : goal.returns-then-is_environment-clause-keeps
returns-then-is_environment-clause-keeps g c = on_always c.ask_variables.result _ c.requires.holding

pub returns-then-is_folders-clause-reaction : goal.returns-then-is_folders-clause-reaction
returns-then-is_folders-clause-reaction g c = ok_map c.ask_folders.result _ _ (λ a e.
    let no : c.is_environment.result ≡ false = search rules in
    let yes : c.is_folders.result ≡ true = search rules in
    let r = reference_at c.args.setting.now c.args.holding.now (g.H.Host.kept c.args.inner.now).state in
    goes_as _ _ _ _ _ _ (if_false _ _ _ (sym c.is_environment.ensures ∙ no) ∙ if_true _ _ _ (sym c.is_folders.ensures ∙ yes)) (e c.args.setting.now.table r c.requires.setting.holds)) c.ask_folders.ensures.reaction

pub returns-then-is_folders-clause-keeps : goal.returns-then-is_folders-clause-keeps
returns-then-is_folders-clause-keeps g c = on_two c.ask_folders.result _ _ _ (λ keeps limits.
    holding_kept c.args.setting.now c.args.holding.now (record { live = c.ask_folders.new.live; folder = c.args.holding.now.folder }) (HoldsOfFolders (length c.args.setting.now.trees)) refl limits keeps (folders_inside c.args.setting.now c.requires.setting) (folders_there (length c.args.setting.now.trees) c.args.holding.now.folder) c.requires.holding) c.ask_folders.ensures.keeps c.ask_folders.ensures.limits

pub returns-else-is_folders-clause-reaction : goal.returns-else-is_folders-clause-reaction
returns-else-is_folders-clause-reaction g c = ok_map c.ask_host.result _ _ (λ a e.
    let never : c.is_environment.result ≡ false = search rules in
    let no : c.is_folders.result ≡ false = search rules in
    let h = g.H.Host.step in
    let k = g.H.Host.kept c.args.inner.now in
    let new = g.H.Host.kept c.ask_host.new.inner in
    let r = reference_at c.args.setting.now c.args.holding.now k.state in
    let f = listed_of c.args.request in
    let q = call_of c.args.request in
    let table = c.args.setting.now.table in
    goes_as _ _ _ _ _ _ (if_false _ _ _ (sym c.is_environment.ensures ∙ never) ∙ if_false _ _ _ (sym c.is_folders.ensures ∙ no))
    (subst (λ (p : Policy). IsReaction (asks h (state_at r table p c.args.holding.now.live k.state) f q (λ s seen v. host_gave h s seen f q v)) (plain_answer a) (state_at r table p c.ask_host.new.live new.state) k.seen new.seen) c.requires.asked.policy (e table r))) c.ask_host.ensures.reaction

pub returns-else-is_folders-clause-keeps : goal.returns-else-is_folders-clause-keeps
returns-else-is_folders-clause-keeps g c = on_two c.ask_host.result _ _ _ (λ keeps limits.
    holding_kept c.args.setting.now c.args.holding.now (record { live = c.ask_host.new.live; folder = c.args.holding.now.folder }) Hosts refl limits keeps (λ id. refl) (λ id. refl) c.requires.holding) c.ask_host.ensures.keeps c.ask_host.ensures.limits

pub returns-then-is_environment-clause-typed : goal.returns-then-is_environment-clause-typed
returns-then-is_environment-clause-typed g c = on_map c.ask_variables.result _ _ (λ e. e c.args.setting.now.table (reference_at c.args.setting.now c.args.holding.now (g.H.Host.kept c.args.inner.now).state)) c.ask_variables.ensures.typed

pub returns-then-is_folders-clause-typed : goal.returns-then-is_folders-clause-typed
returns-then-is_folders-clause-typed g c = on_map c.ask_folders.result _ _ (λ e. e c.args.setting.now.table (reference_at c.args.setting.now c.args.holding.now (g.H.Host.kept c.args.inner.now).state)) c.ask_folders.ensures.typed

pub returns-else-is_folders-clause-typed : goal.returns-else-is_folders-clause-typed
returns-else-is_folders-clause-typed g c = on_map c.ask_host.result _ _ (λ e. e c.args.setting.now.table (reference_at c.args.setting.now c.args.holding.now (g.H.Host.kept c.args.inner.now).state)) c.ask_host.ensures.typed
