-- What the steps of building give, from what their calls gave.
use Rattle.std.proofs.Common.{◌≡◌, sym, ap, subst, ℕ, List, Result, Ok, Err}
use Rattle.outside.specs.Files.{FilesState, Held}
use Rattle.tree_table.specs.declared.entries.Node.{Node}
use Rattle.policy_data.specs.declared.data.Content.{Content}
use Rattle.policy_data.specs.declared.data.Embedded.{Embedded}
use Rattle.policy_data.specs.declared.data.EmbeddedFile.{EmbeddedFile}
use Rattle.policy_data.specs.declared.data.Link.{Link}
use Rattle.policy_data.specs.declared.data.TreeSource.{TreeSource}
use Rattle.mount_tree.specs.declared.forest.Forest.{Forest}
use Rattle.mount_tree.specs.declared.fault.TreeFault.{TreeFault}
use Rattle.mount_tree.specs.declared.fault.TreeFault.TheVariants.{NoMemory}
use Rattle.mount_tree.specs.Runs.{Run, done, and_next, each, Gives, Says}
use Rattle.mount_tree.specs.Making.{Sofar, reached, with_file, with_other, with_tree}
use Rattle.mount_tree.specs.Building.{reach, content_due, content_of, file_step, folder_step, link_step, embedded_due, root_due, tree_step}
use Rattle.mount_tree.proofs.Follows.{Follows, follows_start, follows_step, follows_stop, follows_end, follows_memory, follows_call, says_gives, then_says, then_refused}

-- ---- a file

module _ (s : FilesState) (sofar : Sofar) (path : List ℕ) (content : Content) where
  after_reach : (made : Sofar) → Says (reached sofar path) (Ok made)
      → Follows (file_step s.held sofar path content) (and_next (content_due s.held made.bytes content) (λ bytes. done (with_file made path bytes))) s s
  after_reach made h =
      follows_step (file_step s.held sofar path content) (reach sofar path) (λ m. and_next (content_due s.held m.bytes content) (λ bytes. done (with_file m path bytes))) made s s s
      (follows_start (file_step s.held sofar path content) s) (says_gives (reach sofar path) (Ok made) s h)

  pub file_unreached : (e : TreeFault) → Says (reached sofar path) (Err e) → Gives (file_step s.held sofar path content) s s (Err e)
  file_unreached e h =
      follows_stop (file_step s.held sofar path content) (reach sofar path) (λ m. and_next (content_due s.held m.bytes content) (λ bytes. done (with_file m path bytes))) e s s s
      (follows_start (file_step s.held sofar path content) s) (says_gives (reach sofar path) (Err e) s h)

  pub file_unread : (t : FilesState) (made : Sofar) (e : TreeFault) → Says (reached sofar path) (Ok made) → Gives (content_due s.held made.bytes content) s t (Err e)
      → Gives (file_step s.held sofar path content) s t (Err e)
  file_unread t made e h g =
      follows_stop (file_step s.held sofar path content) (content_due s.held made.bytes content) (λ bytes. done (with_file made path bytes)) e s s t (after_reach made h) g

  after_content : (t : FilesState) (made : Sofar) (bytes : List ℕ) → Says (reached sofar path) (Ok made) → Gives (content_due s.held made.bytes content) s t (Ok bytes)
      → Follows (file_step s.held sofar path content) (done (with_file made path bytes)) s t
  after_content t made bytes h g =
      follows_step (file_step s.held sofar path content) (content_due s.held made.bytes content) (λ b. done (with_file made path b)) bytes s s t (after_reach made h) g

  pub file_added : (t : FilesState) (made : Sofar) (bytes : List ℕ) (now : Sofar) → Says (reached sofar path) (Ok made) → Gives (content_due s.held made.bytes content) s t (Ok bytes)
      → now ≡ with_file made path bytes → Gives (file_step s.held sofar path content) s t (Ok now)
  file_added t made bytes now h g is =
      subst (λ n. Gives (file_step s.held sofar path content) s t (Ok n)) (sym is) (follows_end (file_step s.held sofar path content) (with_file made path bytes) s t (after_content t made bytes h g))

  pub file_memory : (t : FilesState) (made : Sofar) (bytes : List ℕ) → Says (reached sofar path) (Ok made) → Gives (content_due s.held made.bytes content) s t (Ok bytes)
      → Gives (file_step s.held sofar path content) s t (Err NoMemory)
  file_memory t made bytes h g = follows_memory (file_step s.held sofar path content) (done (with_file made path bytes)) s t (after_content t made bytes h g)

-- ---- a folder or a link

pub other_added : (sofar made now : Sofar) (path : List ℕ) (node : Node) → Says (reached sofar path) (Ok made) → now ≡ with_other made path node
    → Says (and_next (reach sofar path) (λ m. done (with_other m path node))).answer (Ok now)
other_added sofar made now path node h is = then_says (reach sofar path) (λ m. done (with_other m path node)) made (Ok now) h (ap Ok (sym is))

pub other_refused : (sofar : Sofar) (path : List ℕ) (node : Node) (e : TreeFault) → Says (reached sofar path) (Err e)
    → Says (and_next (reach sofar path) (λ m. done (with_other m path node))).answer (Err e)
other_refused sofar path node e h = then_refused (reach sofar path) (λ m. done (with_other m path node)) e h

-- ---- what a policy writes out

abbrev file_of : Held → Sofar → EmbeddedFile → Run Sofar
file_of held s file = file_step held s file.path file.content

abbrev link_of : Sofar → Link → Run Sofar
link_of s link = link_step s link.path link.target

module _ (s t : FilesState) (sofar : Sofar) (e : Embedded) where
  abbrev behind_files : Sofar → Run Sofar
  behind_files files = and_next (each folder_step files e.folders) (λ folders. each link_of folders e.links)

  pub files_refused : (fault : TreeFault) → Gives (each (file_of s.held) sofar e.files) s t (Err fault) → Gives (embedded_due s.held sofar e) s t (Err fault)
  files_refused fault g =
      follows_stop (embedded_due s.held sofar e) (each (file_of s.held) sofar e.files) behind_files fault s s t (follows_start (embedded_due s.held sofar e) s) g

  after_files : (files : Sofar) → Gives (each (file_of s.held) sofar e.files) s t (Ok files) → Follows (embedded_due s.held sofar e) (behind_files files) s t
  after_files files g = follows_step (embedded_due s.held sofar e) (each (file_of s.held) sofar e.files) behind_files files s s t (follows_start (embedded_due s.held sofar e) s) g

  pub folders_refused : (files : Sofar) (fault : TreeFault) → Gives (each (file_of s.held) sofar e.files) s t (Ok files) → Says (each folder_step files e.folders).answer (Err fault)
      → Gives (embedded_due s.held sofar e) s t (Err fault)
  folders_refused files fault g h =
      follows_stop (embedded_due s.held sofar e) (each folder_step files e.folders) (λ folders. each link_of folders e.links) fault s t t (after_files files g)
      (says_gives (each folder_step files e.folders) (Err fault) t h)

  pub links_added : (files folders : Sofar) (r : Result Sofar TreeFault) → Gives (each (file_of s.held) sofar e.files) s t (Ok files)
      → Says (each folder_step files e.folders).answer (Ok folders) → Says (each link_of folders e.links).answer r → Gives (embedded_due s.held sofar e) s t r
  links_added files folders r g h k =
      follows_call (embedded_due s.held sofar e) (each link_of folders e.links) r s t t
      (follows_step (embedded_due s.held sofar e) (each folder_step files e.folders) (λ fs. each link_of fs e.links) folders s t t (after_files files g)
      (says_gives (each folder_step files e.folders) (Ok folders) t h)) (says_gives (each link_of folders e.links) r t k)

-- ---- a tree

pub tree_stopped : (s t : FilesState) (forest : Forest) (source : TreeSource) (made : Sofar) (fault : TreeFault) → Says (root_due forest).answer (Ok made)
    → Gives (content_of s.held made source.content) s t (Err fault) → Gives (tree_step s.held forest source) s t (Err fault)
tree_stopped s t forest source made fault h g =
    let due = tree_step s.held forest source in
    follows_stop due (content_of s.held made source.content) (λ m. done (with_tree m source.name)) fault s s t
    (follows_step due (root_due forest) (λ m. and_next (content_of s.held m source.content) (λ n. done (with_tree n source.name))) made s s s (follows_start due s)
    (says_gives (root_due forest) (Ok made) s h)) g
