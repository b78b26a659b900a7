use Rattle.std.proofs.Common.{◌++◌, ◌<◌, ℕ, List, [], ◌∷◌, map, ap, ◌∙◌, arith}
use Rattle.std.proofs.lemmas.List.{map-append}
use Rattle.wit_types.specs.declared.value.Value.TheVariants.{Str}
use Rattle.wit_types.specs.PlainValue.{PlainValue, HandleValue, plain_value}
use Rattle.wit_types.proofs.ValueLemmas.{plain_value-Handle, plain_value-Str}
use Rattle.reference_step.specs.Handles.{first_free}
use Rattle.reference_step.specs.Steps.{folder_value}
use Rattle.reference_step.specs.Values.{record_of}
use Rattle.ref_rules.specs.Lives.{count_of_kind}
use Rattle.ref_guards.proofs.KeepLaws.{keeps-entry}
use Rattle.ref_host_calls.specs.Offers.{HoldsOfFolders}
use Rattle.ref_host_calls.proofs.OfferLemmas.{folder_holds}
use Rattle.ref_host_calls.proofs.offering.give_folder.Goals as goal

pub returns-clause-value : goal.returns-clause-value
returns-clause-value g c = λ so.
    ap (map plain_value) c.in_ok-push.ensures.items
    ∙ map-append plain_value c.args.values.now.items (c.in_ok-pair.field-0 ∷ [])
    ∙ ap (λ (v : PlainValue). map plain_value c.args.values.now.items ++ v ∷ [])
    (c.in_ok-pair.ensures
    ∙ ap (λ (v : PlainValue). record_of (v ∷ plain_value (Str c.in_ok-name.name) ∷ [])) (plain_value-Handle _)
    ∙ ap (λ (v : PlainValue). record_of (HandleValue c.add-id.result ∷ v ∷ [])) (plain_value-Str _)
    ∙ ap (λ (n : ℕ). folder_value g.H.Host.step n c.in_ok-name.name) c.add-id.ensures.number
    ∙ ap (λ (text : List ℕ). folder_value g.H.Host.step (first_free c.args.live.now.handles) text) c.in_ok-name.ensures)

pub returns-clause-keeps : goal.returns-clause-keeps
returns-clause-keeps g c = λ trees inside.
    let some = c.if-room-eq0.false in
    let rest = c.room.ensures in
    let room : count_of_kind 6 c.args.live.now.handles < c.args.live.now.slots = omega arith in
    keeps-entry (HoldsOfFolders trees) c.args.live.now c.add-id.new.self (record { kind = 6; content = c.content.result }) (λ P may. ap P c.content.ensures ∙ folder_holds trees P c.args.folder may inside) room c.add-id.ensures.added
