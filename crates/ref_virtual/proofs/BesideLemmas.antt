-- What stands beside a descriptor of the scratch folder.
use Rattle.std.proofs.Common.{◌≡◌, ℕ, List, refl}
use Rattle.tree_table.specs.Tables.{Forest}
use Rattle.reference_step.specs.Descriptors as descriptor
use Rattle.reference_step.specs.Descriptors.{with_root, with_file, same_file, link_pair, rename_pair}
use Rattle.reference_step.specs.State.{View}
use Rattle.ref_rules.specs.declared.content.Content.{Content}
use Rattle.ref_rules.specs.declared.content.Content.TheVariants.{Host, Node, FileAt, EmptyIn, Discard, Always, Entries, ScratchRoot, ScratchEntries, ScratchFile, ScratchIn, ScratchOut}
use Rattle.ref_answers.specs.Seen.{content_in}
use Rattle.ref_virtual.specs.declared.beside.Beside.{Beside}
use Rattle.ref_virtual.specs.declared.beside.Beside.TheVariants.{Root, File, Elsewhere}
use Rattle.ref_virtual.specs.Besides.{beside_of, is_root, is_file, root_pair, file_pair}

module _ (f : Forest) where
  pub root_with : (c : Content) → root_pair (beside_of c) ≡ with_root (content_in f c)
  root_with (Host id) = refl
  root_with (Node node) = refl
  root_with (FileAt node place) = refl
  root_with EmptyIn = refl
  root_with Discard = refl
  root_with Always = refl
  root_with (Entries node place) = refl
  root_with ScratchRoot = refl
  root_with (ScratchEntries number) = refl
  root_with (ScratchFile number may_write) = refl
  root_with (ScratchIn number place) = refl
  root_with (ScratchOut number place) = refl

  pub file_with : (c : Content) → file_pair (beside_of c) ≡ with_file (content_in f c)
  file_with (Host id) = refl
  file_with (Node node) = refl
  file_with (FileAt node place) = refl
  file_with EmptyIn = refl
  file_with Discard = refl
  file_with Always = refl
  file_with (Entries node place) = refl
  file_with ScratchRoot = refl
  file_with (ScratchEntries number) = refl
  file_with (ScratchFile number may_write) = refl
  file_with (ScratchIn number place) = refl
  file_with (ScratchOut number place) = refl

  pub root_same : (c : Content) → is_root (beside_of c) ≡ descriptor.is_root (content_in f c)
  root_same (Host id) = refl
  root_same (Node node) = refl
  root_same (FileAt node place) = refl
  root_same EmptyIn = refl
  root_same Discard = refl
  root_same Always = refl
  root_same (Entries node place) = refl
  root_same ScratchRoot = refl
  root_same (ScratchEntries number) = refl
  root_same (ScratchFile number may_write) = refl
  root_same (ScratchIn number place) = refl
  root_same (ScratchOut number place) = refl

  pub file_same : (file : ℕ) (c : Content) → is_file (beside_of c) file ≡ same_file file (content_in f c)
  file_same file (Host id) = refl
  file_same file (Node node) = refl
  file_same file (FileAt node place) = refl
  file_same file EmptyIn = refl
  file_same file Discard = refl
  file_same file Always = refl
  file_same file (Entries node place) = refl
  file_same file ScratchRoot = refl
  file_same file (ScratchEntries number) = refl
  file_same file (ScratchFile number may_write) = refl
  file_same file (ScratchIn number place) = refl
  file_same file (ScratchOut number place) = refl

pub rename_file : (v : View) (old new : List ℕ) (b : Beside) → link_pair (file_pair b) ≡ rename_pair v (file_pair b) old new
rename_file v old new Root = refl
rename_file v old new (File number) = refl
rename_file v old new Elsewhere = refl
