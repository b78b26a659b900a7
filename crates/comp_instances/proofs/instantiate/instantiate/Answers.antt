use Rattle.std.proofs.Common.{◌≡◌, ◌∙◌, ◌+◌, ◌++◌, [], ℕ, List, ap, subst, sym, length, rules, arith}
use Rattle.std.proofs.lemmas.Grind.{common_steps}
use Rattle.comp_types.specs.Items.{Entries}
use Rattle.comp_types.specs.Substitution.{partner_in, entries_with}
use Rattle.comp_types.specs.GivenResources.{given_by, numbered, renamed}
use Rattle.type_table.specs.Tables.{HasEntries}
use Rattle.comp_instances.specs.Pairs.{FindAlike}
use Rattle.comp_instances.proofs.AlikeLemmas.{alike-append, alike-renamed, alike-same, alike-then}
use Rattle.comp_instances.specs.Given.{and_pairs}
use Rattle.comp_instances.proofs.GivenLemmas.{alike-pairs, length-numbered}
use Rattle.comp_instances.proofs.instantiate.instantiate.Goals as goal

pub returns : goal.returns
returns c = λ k h nested.
    let fresh = c.in_ok-fresh.fresh in
    let component = c.args.component.now in
    let args = c.args.args.now in
    let given = given_by args component.imports in
    let by = c.add_given.new.by in
    let added : by ≡ and_pairs [] given = first_of (search rules, grind (arith, common_steps)) in
    let pairs : FindAlike fresh.by (by ++ numbered component.own c.args.next) = first_of (search rules, grind (arith, common_steps)) in
    let numbers : fresh.next ≡ c.args.next + length (numbered component.own c.args.next) = first_of (search rules, grind (arith, common_steps)) in
    let types = c.args.types.now in
    let from : HasEntries types component.exports = subst (HasEntries types) (sym h.exports) nested.exports in
    let renames = c.in_ok-entries.ensures.made from in
    let kept : c.in_ok-instance.instance.value.entries ≡ c.in_ok-entries.entries = first_of (search rules, grind (arith, common_steps)) in
    let made : c.in_ok-instance.instance.value.entries ≡ entries_with (partner_in fresh.by) component.exports = kept ∙ renames.0 in
    let own = numbered component.own c.args.next in
    let alike : FindAlike fresh.by (given ++ own) =
    alike-then fresh.by (by ++ own) (given ++ own) pairs
    (alike-append by given own (alike-then by (and_pairs [] given) given (alike-same by (and_pairs [] given) added) (alike-pairs [] given))) in (
      record {
        exports =
            made
            ∙ (alike-renamed fresh.by (given ++ own) component.exports alike
            ∙ (ap (λ (es : Entries). renamed (given_by args es ++ own) component.exports) h.imports
            ∙ (ap (λ (rs : List ℕ). renamed (given_by args k.signature.imports ++ numbered rs c.args.next) component.exports) h.own
            ∙ ap (renamed (given_by args k.signature.imports ++ numbered k.own c.args.next)) h.exports)));
        next = numbers ∙ (ap (λ n. c.args.next + n) (length-numbered component.own c.args.next) ∙ ap (λ (rs : List ℕ). c.args.next + length rs) h.own);
      },
      record {
        grew = c.in_ok-entries.ensures.grew from;
        has = subst (HasEntries c.entries_with.new.types) (sym kept) renames.1;
      },
    )
