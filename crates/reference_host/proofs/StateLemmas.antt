-- A new state.
use Rattle.std.proofs.Common.{◌≡◌, ℕ, ◌<◌, ◌^◌, None, List, [], length, replicate, refl, sym, ap, ◌∙◌, arith}
use Rattle.std.proofs.lemmas.List.{length-replicate}
use Rattle.policy_data.specs.declared.policy.Policy.{Policy}
use Rattle.policy_data.specs.Limits.{KeepsLimits}
use Rattle.tree_table.specs.declared.entries.NamedTree.{NamedTree}
use Rattle.tree_table.specs.Scratches.{ScratchMap}
use Rattle.tree_table.specs.Tables.{Forest, Holds, place_of, tree_of}
use Rattle.ref_virtual.specs.Views.{AreTexts}
use Rattle.ref_rules.specs.Lives.{LiveTable}
use Rattle.reference_host.specs.declared.state_kept.Setting.{Setting}
use Rattle.reference_host.specs.declared.state_kept.Holding.{Holding}
use Rattle.reference_host.specs.Kept.{IsHolding, LeadToTexts, file_limit}

pub few_slots : (policy : Policy) → KeepsLimits policy → policy.slots < 2 ^ 16
few_slots policy keeps = let few = keeps.slots.1 in omega (arith, few)

-- what links of a table lead to is text, where it is text in the trees
pub table_texts : (trees : List NamedTree) (f : Forest) → Holds trees f → LeadToTexts trees → AreTexts f
table_texts trees f holds texts i target lt is =
    let there = holds.entries i lt in
    texts (tree_of f i) (place_of f i) there.entry target there.there (sym there.node ∙ is)

-- nothing is held
pub holding_new : (policy : Policy) (h : Holding) (blocks files : ℕ) → h.live ≡ record { slots = policy.slots; files = files; handles = [] } → h.folder ≡ record { blocks = blocks; files = replicate files None } → files ≡ file_limit policy.fs_scratch
    → (g : Setting) → g.policy ≡ policy → IsHolding g h
holding_new policy h blocks files live folder limit g same =
    let many : length h.folder.files ≡ files = ap (λ (m : ScratchMap). length m.files) folder ∙ length-replicate files None in
    let empty = ap (λ (l : LiveTable). l.handles) live in
    record {
      slots = ap (λ (l : LiveTable). l.slots) live ∙ sym (ap (λ (p : Policy). p.slots) same);
      files = many ∙ limit ∙ sym (ap (λ (p : Policy). file_limit p.fs_scratch) same);
      held_files = many ∙ sym (ap (λ (l : LiveTable). l.files) live);
      fits = λ kind. rw empty (omega arith);
      nodes = λ id. rw empty refl;
      held_there = λ id. rw empty tt;
    }
