-- What is written of two components made one is an output of theirs.
use Rattle.std.proofs.Common.{◌≡◌, ◌∙◌, refl, sym, ap, subst, inl, inr, ℕ, List}
use Rattle.std.specs.Prelude.{map}
use Rattle.policy_data.specs.declared.policy.Policy.{Policy}
use Rattle.comp_grammar.specs.Trees.{Tree, plain, Nested, Instances, More as Section}
use Rattle.comp_grammar.specs.Components.{no_span}
use Rattle.comp_write.specs.Copying.{bare, bare_part}
use Rattle.comp_types.specs.Added.{type_of}
use Rattle.comp_types.specs.Items.{Entries, Signature, End}
use Rattle.comp_link.proofs.Spelled.{spelled_define}
use Rattle.comp_joined.proofs.Placed.{joins_placed}
use Rattle.output_same.specs.Holding.{components_in}
use Rattle.output_same.specs.Strategies.{DoesTheSame}
use Rattle.output_same.proofs.Bare.{same_valid, same_type}
use Rattle.output_same.proofs.Same.{outputs_same}
use Rattle.virt_output.specs.Output.{output_tree, exporting, one_instance}
use Rattle.wasi_match.specs.Listed.{IsListed}
use Rattle.component_judge.specs.declared.inputs.Fetched.{Fetched}
use Rattle.virt_engine.specs.declared.plan.Ready.{Ready}
use Rattle.virt_engine.specs.Output.{IsWrappedAlone, IsWrappedBeside, IsWrappedOf, wrapped_count}
use Rattle.virt_engine.specs.Pairs.{Pair, IsPair, IsPluggedOf, BehavesSo, IsPluggedOutput, plugged_count}
use Rattle.virt_engine.specs.Parted.{IsMadeOf}
use Rattle.virt_engine.specs.Parts.{Prepares, written_by}
use Rattle.virt_engine.proofs.Outputs.{CanBeWrapped, alone, beside, bare_components, count_alone, count_beside, entries_end}

-- ---- what is made, with the places where its bytes say

module _ (pair : Pair) (a b : List ℕ) (f : Fetched) (m : IsMadeOf pair a b f) where
  abbrev made : Tree
  made = plain f.application.judged.component

  abbrev whole : Tree
  whole = m.spelled.0

  same : bare whole ≡ bare made
  same = m.spelled.2

  types : type_of made ≡ type_of whole
  types = same_type made whole (sym same)

  pub is_plugged_of : IsPluggedOf pair a b f.bytes.items whole f.application.listed.uses
  is_plugged_of = record {
    spelled = m.spelled.1;
    valid = same_valid made whole (sym same) m.valid;
    listed = subst (λ (s : Signature). IsListed s f.application.listed.uses) types m.listed;
    imports = m.imports;
    exports = ap (λ (s : Signature). s.exports) (sym types) ∙ m.exports;
    components = sym (bare_components whole) ∙ ap components_in same ∙ bare_components made ∙ ap (λ (xs : List Tree). map bare xs) m.components;
    joined = joins_placed whole made pair.first pair.second same m.joins;
    held_first = m.held_first;
    held_second = m.held_second;
  }

  -- ---- the output

  can : CanBeWrapped made f.bytes.items
  can = record { valid = m.valid; free = m.listed.exports; spelled = m.spelled }

  -- an output of the one is an output of the other, as they are one but for places
  same_outputs : (es fs : Entries) → es ≡ fs → bare (output_tree made es) ≡ bare (output_tree whole fs)
  unfolding bare bare_part
  same_outputs es fs is =
      ap (λ (xs : Entries). bare (output_tree made xs)) is
      ∙ ap (λ (t : Tree). Section (Nested no_span t) (Section (Instances one_instance) (bare (exporting fs)))) (sym same)

  exports_so : (type_of made).exports ≡ (type_of whole).exports
  exports_so = ap (λ (s : Signature). s.exports) types

  imports_so : (type_of made).imports ≡ (type_of whole).imports
  imports_so = ap (λ (s : Signature). s.imports) types

  module _ (policy : Policy) (out : List ℕ) (p : Ready) (q : Prepares policy f out p) where
    alone_whole : (type_of made).imports ≡ End → (w : IsWrappedAlone whole f.bytes.items (written_by p)) × DoesTheSame w.output whole
    alone_whole none =
        let w = alone policy f m.typed can out p q none in
        let bare_so : bare w.0.output ≡ bare (output_tree whole (type_of whole).exports) = w.1 ∙ same_outputs (type_of made).exports (type_of whole).exports exports_so in (
          record {
            output = w.0.output;
            spelled = w.0.spelled;
            valid = w.0.valid;
            imports = w.0.imports;
            exports = w.0.exports ∙ exports_so;
            unchanged = w.0.unchanged;
          },
          outputs_same whole w.0.output (record { valid = is_plugged_of.valid; imports = sym imports_so ∙ none }) (spelled_define whole f.bytes.items m.spelled.1) bare_so,
        )

    beside_whole : ((type_of made).imports ≡ End → ⊥) → IsWrappedBeside policy f.application.listed.uses whole f.bytes.items (written_by p)
    beside_whole some =
        let w = beside policy f m.typed can out p q some in
        record {
          output = w.output;
          spelled = w.spelled;
          valid = w.valid;
          imports = w.imports;
          exports = w.exports ∙ exports_so;
          unchanged = record {
            adapter = w.unchanged.adapter;
            inner = w.unchanged.inner;
            both = w.unchanged.both;
            joins = w.unchanged.joins;
            same = w.unchanged.same ∙ sym same;
            before = w.unchanged.before;
            behind = w.unchanged.behind;
            unchanged = w.unchanged.unchanged;
          };
        }

    abbrev IsOutput : Type 0
    IsOutput = (w : IsWrappedOf policy f.application.listed.uses whole f.bytes.items (written_by p)) × BehavesSo policy f.application.listed.uses whole f.bytes.items (written_by p) w
        × (q.parts.needed ≡ wrapped_count policy f.application.listed.uses whole f.bytes.items (written_by p) w)

    is_output : IsOutput
    is_output = elim (entries_end (type_of made).imports) [
      | inl none ↦ let w = alone_whole none in (inl (sym imports_so ∙ none, w.0), w.1, count_alone policy f m.typed can out p q none)
      | inr some ↦ (inr (beside_whole some), tt, count_beside policy f m.typed can out p q some)
    ]

    -- it is an output, and imports that many functions
    pub plugged_output : IsPair a b pair → (o : IsPluggedOutput policy a b (written_by p)) × (q.parts.needed ≡ plugged_count policy a b (written_by p) o) × (o.plugged ≡ f.bytes.items)
    plugged_output is = (
      record {
        pair = pair;
        is_pair = is;
        plugged = f.bytes.items;
        whole = whole;
        uses = f.application.listed.uses;
        made = is_plugged_of;
        wrapped = is_output.0;
        behaves = is_output.1;
      },
      is_output.2,
      refl,
    )
