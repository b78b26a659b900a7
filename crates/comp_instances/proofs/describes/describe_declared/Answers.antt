use Rattle.std.proofs.Common.{◌≡◌, ◌∙◌, ◌+◌, ◌++◌, [], ℕ, List, ap, sym, subst, length, rules, arith}
use Rattle.std.proofs.lemmas.Bool.Decides.{Decides-eqb}
use Rattle.std.proofs.lemmas.Grind.{common_steps}
use Rattle.std.proofs.lemmas.List.{nil_from_length}
use Rattle.comp_types.specs.Items.{InstanceItem}
use Rattle.comp_types.specs.declared.types.InstanceType.{InstanceType}
use Rattle.type_table.specs.Tables.{HasEntries}
use Rattle.comp_types.specs.Substitution.{partner_in, entries_with}
use Rattle.comp_types.specs.Added.{new_numbers}
use Rattle.comp_types.specs.GivenResources.{numbered, renamed}
use Rattle.comp_instances.specs.Pairs.{FindAlike}
use Rattle.comp_instances.proofs.AlikeLemmas.{alike-renamed, alike-same, alike-then}
use Rattle.comp_instances.proofs.SameLemmas.{nothing_renamed}
use Rattle.comp_instances.proofs.MakesLemmas.{makes_same}
use Rattle.comp_instances.proofs.describes.describe_declared.Goals as goal

pub returns-then-is_empty : goal.returns-then-is_empty
returns-then-is_empty c =
    let own = c.args.ty.now.own in
    let next = c.args.next in
    let es = c.args.ty.now.instance.value.entries in
    let none : own ≡ [] = nil_from_length own ((Decides-eqb (length own) 0).0 (sym c.if-is_empty.ensures)) in
    let same : c.in_ok-same.same.value.entries ≡ es = first_of (search rules, grind (arith, common_steps)) in
    let few : length (numbered own next) ≡ 0 = ap (λ (o : List ℕ). length (numbered o next)) none in
    λ has. makes_same c.args.types.now own es next _ none has
    (record {
      item = ap InstanceItem (same ∙ (sym (nothing_renamed es) ∙ ap (λ (o : List ℕ). renamed (numbered o next) es) (sym none)));
      numbers = c.empty.ensures ∙ ap (λ (o : List ℕ). new_numbers (numbered o next)) (sym none);
      next = omega arith;
    })

pub returns : goal.returns
returns c =
    let own = c.args.ty.now.own in
    let next = c.args.next in
    let es = c.args.ty.now.instance.value.entries in
    let fresh = c.in_ok-fresh.fresh in
    let gives = c.in_ok-fresh.ensures in
    let alike : FindAlike fresh.by (numbered own next) =
    alike-then fresh.by (c.empty-2.result ++ numbered c.as_slice.result.now next) (numbered own next) gives.by
    (alike-same (c.empty-2.result ++ numbered c.as_slice.result.now next) (numbered own next)
    (ap (λ ps. ps ++ numbered c.as_slice.result.now next) c.empty-2.ensures ∙ ap (λ (o : List ℕ). numbered o next) c.as_slice.ensures)) in
    let renames = alike-renamed fresh.by (numbered own next) es alike in
    let types = c.args.types.now in
    let kept : c.in_ok-new.field-0.value.entries ≡ c.in_ok-entries.entries = first_of (search rules, grind (arith, common_steps)) in
    let same : c.deref.result.now ≡ c.args.ty.now.instance.value = first_of (search rules, grind (arith, common_steps)) in
    λ has.
    let from = subst (λ (x : InstanceType). HasEntries types x.entries) (sym same) has in
    let made = c.in_ok-entries.ensures.made from in
    let is = made.0 ∙ (ap (λ (x : InstanceType). entries_with (partner_in fresh.by) x.entries) same ∙ renames) in
    record {
      made = record {
        item = ap InstanceItem (kept ∙ is);
        numbers = gives.numbers ∙ ap (λ (o : List ℕ). new_numbers (numbered o next)) c.as_slice.ensures;
        next = gives.next ∙ ap (λ (o : List ℕ). next + length (numbered o next)) c.as_slice.ensures;
      };
      grew = c.in_ok-entries.ensures.grew from;
      has = subst (HasEntries _) is made.1;
    }
