-- Offers of the code as the definition has them, by the table of the trees.
use Rattle.std.specs.Prelude.{◌≡◌, ℕ, ◌<◌, nat_lt, All, List, map, true, Bool}
use Rattle.tree_table.specs.Tables.{Forest}
use Rattle.host_port.specs.Hosts.{HostStep}
use Rattle.reference_step.specs.State.{Reference}
use Rattle.reference_step.specs.Steps as reference
use Rattle.ref_answers.specs.Versions.{version_in}
use Rattle.ref_rules.specs.declared.content.Content.{Content}
use Rattle.ref_rules.specs.declared.content.Content.TheVariants.{Host, Node, ScratchRoot}
use Rattle.ref_rules.specs.Lives.{LiveTable}
use Rattle.ref_answers.specs.Seen.{content_in, live_in}
use Rattle.ref_host_calls.specs.Places.{stands_for}
use Rattle.ref_host_calls.specs.declared.offers.Folder.{Folder}
use Rattle.ref_host_calls.specs.declared.offers.Folder.TheVariants.{Theirs, Root, Scratch}
use Rattle.ref_host_calls.specs.declared.offers.Offer.{Offer}
use Rattle.ref_host_calls.specs.declared.offers.Offer.TheVariants.{Given, Lost}
use Rattle.ref_host_calls.specs.declared.offers.Folders.{Folders}

module _ {S : Type 0} (h : HostStep S) (f : Forest) where
  abbrev pub shown : Offer → reference.Offer h
  shown (Given folder name) = reference.Given (content_in f (stands_for folder)) name.now
  shown (Lost id) = reference.Lost id

  abbrev pub shown_all : List Offer → List (reference.Offer h)
  shown_all offers = map shown offers

-- a state of the reference host with these folders, these live handles and this state of the host that is asked
abbrev pub folders_at : {S : Type 0} → Reference S → Forest → Folders → LiveTable → S → Reference S
folders_at r f folders live inner = record r { setup = record { policy = folders.policy.now; trees = folders.trees.now; version = version_in folders.listed.now }; live = live_in f live.handles; inner = inner }

-- whether a folder is none but a root of one of that many trees
abbrev pub folder_inside : ℕ → Folder → Bool
folder_inside trees (Theirs id) = true
folder_inside trees (Root place) = nat_lt place trees
folder_inside trees Scratch = true

abbrev pub offer_inside : ℕ → Offer → Bool
offer_inside trees (Given folder name) = folder_inside trees folder
offer_inside trees (Lost id) = true

-- each root is one of that many trees
abbrev pub AreInside : ℕ → List Offer → Type 0
AreInside trees offers = All (λ o. offer_inside trees o ≡ true) offers

-- what holds of each handle of the host, of the roots of that many trees and of the scratch folder
pub record HoldsOfFolders (trees : ℕ) (P : Content → Bool) : Type 0 where
  pub theirs : (id : ℕ) → P (Host id) ≡ true
  pub roots : (place : ℕ) → place < trees → P (Node place) ≡ true
  pub scratch : P ScratchRoot ≡ true
