use Rattle.std.proofs.Common.{◌≡◌, ◌∙◌, ◌∷◌, ◌++◌, [], ap, rules}
use Rattle.std.specs.Prelude.{string_bytes}
use Rattle.comp_types.specs.Items.{and_entry}
use Rattle.comp_types.specs.Views.{item_of, entries_of}
use Rattle.comp_types.proofs.EntryLemmas.{entries_of-push, kept-and}
use Rattle.comp_types.proofs.PlaceLemmas.{placed-and}
use Rattle.comp_types.proofs.types.InstanceEntries.push.Goals as goal

pub invariant_of-self-2 : goal.invariant_of-self-2
invariant_of-self-2 c =
    let es = c.self.inside.items.items in
    let name = c.from_string-name.ensures ∙ c.into_string-name.ensures in
    let items = c.push_reserved.ensures.items ∙ ap (λ l. l ++ record { name = c.from_string-name.result; ty = c.args.ty } ∷ []) c.reserve.ensures.items in
    let made = ap entries_of items ∙ (entries_of-push es (record { name = c.from_string-name.result; ty = c.args.ty }) ∙ ap (λ n. and_entry (entries_of es) n (item_of c.args.ty)) name) in
    let key : string_bytes c.in_ok-key.key ≡ c.args.name = search (rules, c.in_ok-key.ensures, c.into_string-name.ensures) in
    rw made (
      placed-and es c.self.inside.places c.add.new.self c.args.name (string_bytes c.in_ok-key.key) (item_of c.args.ty) c.len.result c.self.invariant.0 key (search (rules, c.len.ensures, c.reserve.ensures.items)) c.in_ok-add.ensures.ok,
      kept-and _ _ _ _ _ _ _ _ _ _ _ c.self.invariant.1 c.max-depth.ensures c.depth.ensures c.min-parts.ensures c.parts.ensures c.has_resource.ensures,
    )

pub returns-clause-ok : goal.returns-clause-ok
returns-clause-ok c =
    let es = c.self.inside.items.items in
    let name = c.from_string-name.ensures ∙ c.into_string-name.ensures in
    let items = c.push_reserved.ensures.items ∙ ap (λ l. l ++ record { name = c.from_string-name.result; ty = c.args.ty } ∷ []) c.reserve.ensures.items in
    ap entries_of items ∙ (entries_of-push es (record { name = c.from_string-name.result; ty = c.args.ty })
    ∙ (ap (λ n. and_entry (entries_of es) n (item_of c.args.ty)) name ∙ ap (λ x. and_entry x c.args.name (item_of c.args.ty)) c.self.view_is))
