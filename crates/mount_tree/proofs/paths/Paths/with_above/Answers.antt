use Rattle.std.proofs.Common.{rules, ◌≡◌, ◌∙◌, ◌++◌, ◌∷◌, ◌<◌, ℕ, List, [], Option, Some, None, length, sym, ap, subst, refl}
use Rattle.std.specs.Prelude.{IfSome}
use Rattle.std.proofs.Math.Seq.{append_snoc}
use Rattle.path_names.specs.Paths.{names_of}
use Rattle.tree_table.specs.declared.entries.Entry.{Entry}
use Rattle.tree_table.specs.declared.entries.Node.TheVariants.{Folder}
use Rattle.tree_table.specs.Stored.{node_at}
use Rattle.mount_tree.specs.Growing.{IsAt, with_folders, with_node}
use Rattle.mount_tree.proofs.PathLemmas.{first_by, only_by, some_parts}
use Rattle.mount_tree.proofs.GrowLemmas.{at-stays, folders-step}
use Rattle.mount_tree.proofs.paths.Paths.with_above.Goals as goal

there-folder : (there : List Entry) (above : List (List ℕ)) (folder : Option ℕ) → IsAt there above folder → IfSome folder (λ f. (f < length there) × (node_at there f ≡ Folder))
there-folder there above None at = tt
there-folder there above (Some f) at = (at.0, at.2)

pub loop-name-init : goal.loop-name-init
loop-name-init c = (c.utf8.path, ([], refl, c.root_folder-folder.ensures, refl))

pub with_node-requires : goal.with_node-requires
with_node-requires c = let inv = c.loop-name.invariant.1 in there-folder c.loop-name.paths inv.0 c.loop-name.folder inv.2

pub loop-name-preserved : goal.loop-name-preserved
loop-name-preserved c =
    let inv = c.loop-name.invariant.1 in
    let above = inv.0 in
    let name = c.in-Some.name.now in
    let more = c.in-Some.more.now in
    let rest : names_of c.loop-name.rest.now ≡ name ∷ names_of more = first_by c.loop-name.rest.now c.split_once.result c.in-Some.name c.in-Some.more c.split_once.ensures.cases c.in-Some.is in
    let now : c.in_ok-paths.paths ≡ with_node c.loop-name.paths above name Folder = c.in_ok-paths.ensures above inv.2 in
    let here : IsAt c.in_ok-paths.paths above c.loop-name.folder = subst (λ (es : List Entry). IsAt es above c.loop-name.folder) (sym now) (at-stays c.loop-name.paths above c.loop-name.folder name Folder inv.2) in (
      search rules,
      (
        above ++ name ∷ [],
        inv.1 ∙ ap (λ ns. above ++ ns) rest ∙ sym (append_snoc above name (names_of more)),
        c.folder_in-folder.ensures above here,
        inv.3 ∙ ap (with_folders c.loop-name.paths above) rest ∙ folders-step c.loop-name.paths above name (names_of more) (some_parts 47 more) ∙ ap (λ (es : List Entry). with_folders es (above ++ name ∷ []) (names_of more)) (sym now),
      ),
    )

pub returns-clause-paths : goal.returns-clause-paths
returns-clause-paths c =
    let inv = c.loop-name.invariant.1 in
    let rest = only_by c.loop-name.rest.now c.split_once.result c.split_once.ensures.cases c.in_default.is in
    sym (inv.3 ∙ ap (with_folders c.loop-name.paths inv.0) rest)

pub returns-clause-spot : goal.returns-clause-spot
returns-clause-spot c =
    let inv = c.loop-name.invariant.1 in
    let rest = only_by c.loop-name.rest.now c.split_once.result c.split_once.ensures.cases c.in_default.is in
    record { above = inv.0; names = inv.1 ∙ ap (λ ns. inv.0 ++ ns) rest; at = inv.2 }
