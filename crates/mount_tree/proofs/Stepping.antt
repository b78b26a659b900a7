-- Each step of a walk leads where the walk leads, and steps come to an end.
use Rattle.std.proofs.Common.{◌≡◌, ◌≢◌, ◌∙◌, refl, sym, ap, subst, ℕ, zero, suc, ◌+◌, ◌-◌, ◌*◌, ◌^◌, ◌<◌, ◌≤◌, Bool, true, false, not, ◌&&◌, cond, List, [], ◌∷◌, ◌++◌, Option, Some, None, IsSome, Result, Ok, Err, nat_eq, length, length-append, slice_get, get_or, arith, suc-mul}
use Rattle.std.proofs.lemmas.Option.{slice_get-get_or}
use Rattle.tree_table.specs.declared.entries.Node.{Node}
use Rattle.tree_table.specs.declared.entries.Node.TheVariants.{Folder, File, Link}
use Rattle.tree_table.specs.Paths.{Answer, At, Fails, Part, Stay, Up, Named, part_of, parts_of, is_file, is_rooted, is_empty, loop, no_entry, not_directory, not_permitted, resolve_parts, follow_link, resolve}
use Rattle.tree_table.specs.Tables.{Forest, Row, IsSound, HasChildren, count_of, tree_of, name_of, parent_of, from_of, to_of, node_of, path_of, map_of, longest_of, target_parts}
use Rattle.tree_table.proofs.ForestLemmas.{children, one_path, folder_of, is_map, IsMapOf, eq-is, eq-self}
use Rattle.tree_table.proofs.RowLemmas.{Reads, reads}
use Rattle.tree_table.proofs.Resolve.{at-file, stays, at-top, resolve-up, no-child, to-child, at-link, follows}
use Rattle.mount_tree.specs.Halves.{child_of, LeadsTo}
use Rattle.mount_tree.specs.Steps.{Walk, On, Ended, Failed, along, into, into_found, upward, by_kind, step, steps, begins, IsHome, Leads, left, enough, HasEnded, ended_by, IsWalked}
use Rattle.mount_tree.proofs.Searching as searching

not_folder_link : (o : Option Node) → o ≡ Some Folder → (target : List ℕ) → o ≢ Some (Link target)
not_folder_link o is target link = let both : Some Folder ≡ Some (Link target) = sym is ∙ link in cc

not_file_link : (o : Option Node) (content : List ℕ) → o ≡ Some (File content) → (target : List ℕ) → o ≢ Some (Link target)
not_file_link o content is target link = let both : Some (File content) ≡ Some (Link target) = sym is ∙ link in cc

abbrev no_row : Row
no_row = record { tree = 0; place = 0; name = []; parent = 0; from = 0; to = 0; node = Folder }

module _ (f : Forest) (sound : IsSound f) where
  abbrev row_at : ℕ → Row
  row_at i = get_or f.rows i no_row

  read : (i : ℕ) → i < count_of f → Reads f i (row_at i)
  read i w = reads f sound i (row_at i) (slice_get-get_or f.rows i no_row w)

  maps : IsMapOf (count_of f) f.roots (tree_of f) (name_of f) (parent_of f) (from_of f) (to_of f) (map_of f) (node_of f)
  maps = is_map (count_of f) f.roots (tree_of f) (name_of f) (parent_of f) (from_of f) (to_of f) (node_of f) sound

  -- a target has no more parts than the longest
  target-parts : (i : ℕ) (target : List ℕ) → i < count_of f → node_of f i ≡ Link target → length (parts_of target) ≤ longest_of f
  target-parts i target w is =
      let r = read i w in
      subst (λ (n : Node). target_parts n ≤ longest_of f) (sym r.node ∙ is) r.parts

  pub alone : (i j : ℕ) → i < count_of f → j < count_of f → tree_of f i ≡ tree_of f j → path_of f i ≡ path_of f j → i ≡ j
  alone = one_path (count_of f) f.roots (tree_of f) (name_of f) (parent_of f) (from_of f) (to_of f) sound

  -- the walk began at `start`
  module _ (digits start : ℕ) (follow : Bool) (within : start < count_of f) (many : count_of f < 2 ^ digits) where
    abbrev home : List (List ℕ) → Option Node
    home = map_of f (tree_of f start)

    abbrev top : List (List ℕ)
    top = path_of f start

    abbrev On-way : ℕ → List (List ℕ) → List (List ℕ) → Answer → Type 0
    On-way more below parts answer = resolve_parts home top follow (follow_link home top follow more) below parts ≡ answer

    -- what a step gives: it leads to the same, and fewer steps are left
    abbrev Goes : ℕ → List (List ℕ) → Answer → Walk → Type 0
    Goes more parts answer w = Leads f digits start follow w answer × (left f digits start follow w ≤ suc (length parts + more * longest_of f))

    here : (node : ℕ) → IsHome f digits start follow node → home (path_of f node) ≡ Some (node_of f node)
    here node h = subst (λ t. map_of f t (path_of f node) ≡ Some (node_of f node)) h.1 (maps.here node h.0)

    module _ (node more : ℕ) (part : List ℕ) (parts below : List (List ℕ)) (answer : Answer) (at : IsHome f digits start follow node) (is : path_of f node ≡ below ++ top) (says : On-way more below (part ∷ parts) answer) where
      file-stops : is_file (Some (node_of f node)) ≡ true → answer ≡ Fails not_directory
      file-stops file =
          let there : is_file (home (path_of f node)) ≡ true = ap is_file (here node at) ∙ file in
          sym says ∙ at-file home top follow (is_empty parts) (path_of f node) part there below is (follow_link home top follow more) parts refl

      module _ (folder : is_file (home (path_of f node)) ≡ false) where
        -- to the folder's folder
        up-from : part_of part ≡ Up → node ≢ start → (b : List (List ℕ)) → path_of f node ≡ b ++ top → On-way more b (part ∷ parts) answer → Goes more parts answer (On (parent_of f node) more parts)
        up-from up other [] same leads = absurd (other (alone node start at.0 within at.1 same))
        up-from up other (name ∷ above) same leads =
            let there = folder_of (count_of f) f.roots (tree_of f) (name_of f) (parent_of f) (from_of f) (to_of f) sound node at.0 name (above ++ top) same in
            let before = sound.up node there.0 at.0 in
            let plain : is_file (home ((name ∷ above) ++ top)) ≡ false = ap (λ p. is_file (home p)) (sym same) ∙ folder in (
              (
                (omega (arith, before, at.0), sound.home node there.0 at.0 ∙ at.1),
                (above, there.1, sym (resolve-up home top follow (follow_link home top follow more) name above part parts plain up) ∙ leads),
              ),
              omega arith,
            )

        goes-up : part_of part ≡ Up → (b : Bool) → nat_eq node start ≡ b → Goes more parts answer (cond b (Failed not_permitted) (On (parent_of f node) more parts))
        goes-up up true same =
            let one : node ≡ start = eq-is node start same in
            (sym says ∙ at-top home top follow (is_empty parts) (path_of f node) part folder up (ap (path_of f) one) below is (follow_link home top follow more) parts refl, omega arith)
        goes-up up false differs = up-from up (λ one. not-same (sym differs ∙ ap (λ n. nat_eq n start) one ∙ eq-self start)) below is says
          where
            not-same : false ≡ true → ⊥
            not-same e = cc

        -- along a link
        goes-along : (target : List ℕ) (m : ℕ) → length (parts_of target) ≤ longest_of f → follow_link home top follow m below target parts ≡ answer → Goes m parts answer (along f digits start follow node target m parts)
        goes-along target zero short leads = (sym leads, omega arith)
        goes-along target (suc m) short leads = by (is_rooted target) leads
          where
            by : (b : Bool) → cond b (Fails not_permitted) (resolve_parts home top follow (follow_link home top follow m) below (parts_of target ++ parts)) ≡ answer
                → Goes (suc m) parts answer (cond b (Failed not_permitted) (On node m (parts_of target ++ parts)))
            by true rooted = (sym rooted, omega arith)
            by false onward =
                let size = length-append (parts_of target) parts in
                let times = suc-mul m (longest_of f) in
                ((at, (below, is, onward)), omega (arith, size, times, short))

        -- into the child of the part's name
        module _ (named : part_of part ≡ Named) (child : ℕ) (inside : child < count_of f) (tree : tree_of f child ≡ tree_of f node) (path : path_of f child ≡ part ∷ path_of f node) where
          child-home : IsHome f digits start follow child
          child-home = (inside, tree ∙ at.1)

          there : home (part ∷ path_of f node) ≡ Some (node_of f child)
          there = subst (λ p. home p ≡ Some (node_of f child)) path (here child child-home)

          enters : ((target : List ℕ) → home (part ∷ path_of f node) ≢ Some (Link target)) → Goes more parts answer (On child more parts)
          enters plain =
              let some : IsSome (home (part ∷ path_of f node)) = subst IsSome (sym there) refl in
              let leads = to-child home top follow (is_empty parts) (path_of f node) part folder named some plain below is (follow_link home top follow more) parts refl in (
                (child-home, (part ∷ below, path ∙ ap (λ p. part ∷ p) is, sym leads ∙ says)),
                omega arith,
              )

          goes-link : (target : List ℕ) → node_of f child ≡ Link target → (b : Bool) → (is_empty parts && not follow) ≡ b
              → Goes more parts answer (cond b (Ended child) (along f digits start follow node target more parts))
          goes-link target link true stop =
              let leads = at-link home top follow (is_empty parts) (path_of f node) part target folder named (there ∙ ap Some link) stop below is (follow_link home top follow more) parts refl in
              ((child-home, sym says ∙ leads ∙ ap At (sym path)), omega arith)
          goes-link target link false go =
              let leads = follows home top follow (is_empty parts) (path_of f node) part target folder named (there ∙ ap Some link) go below is (follow_link home top follow more) parts refl in
              goes-along target more (target-parts child target inside link) (sym leads ∙ says)

          goes-into : (n : Node) → node_of f child ≡ n → Goes more parts answer (into f digits start follow n node child more parts)
          goes-into Folder kind = enters (not_folder_link (home (part ∷ path_of f node)) (there ∙ ap Some kind))
          goes-into (File content) kind = enters (not_file_link (home (part ∷ path_of f node)) content (there ∙ ap Some kind))
          goes-into (Link target) kind = goes-link target kind (is_empty parts && not follow) refl

        goes-found : part_of part ≡ Named → (o : Option ℕ) → LeadsTo (map_of f) (tree_of f) (path_of f) (count_of f) node part o → Goes more parts answer (into_found f digits start follow o node more parts)
        goes-found named None none =
            let missing : home (part ∷ path_of f node) ≡ None = subst (λ t. map_of f t (part ∷ path_of f node) ≡ None) at.1 none in
            (sym says ∙ no-child home top follow (is_empty parts) (path_of f node) part folder named missing below is (follow_link home top follow more) parts refl, omega arith)
        goes-found named (Some child) found = goes-into named child found.0 found.1 found.2 (node_of f child) refl

        its-children : HasChildren f node (from_of f node) (to_of f node)
        its-children = children (count_of f) f.roots (tree_of f) (name_of f) (parent_of f) (from_of f) (to_of f) (map_of f) (node_of f) sound maps node at.0

        goes-by : (k : Part) → part_of part ≡ k → Goes more parts answer (by_kind f digits start follow k node part more parts)
        goes-by Stay kind = (
          (at, (below, is, sym (stays home top follow (is_empty parts) (path_of f node) part folder kind below is (follow_link home top follow more) parts refl) ∙ says)),
          omega arith,
        )
        goes-by Up kind = goes-up kind (nat_eq node start) refl
        goes-by Named kind =
            let few : to_of f node - from_of f node < 2 ^ digits = omega (arith, its-children.inside, many) in
            goes-found kind (child_of (name_of f) digits (from_of f node) (to_of f node) part)
            (searching.leads (map_of f) (tree_of f) (path_of f) (name_of f) (count_of f) node digits (from_of f node) (to_of f node) part its-children few)

      goes : (b : Bool) → is_file (Some (node_of f node)) ≡ b → Goes more parts answer (cond b (Failed not_directory) (by_kind f digits start follow (part_of part) node part more parts))
      goes true file = (file-stops file, omega arith)
      goes false folder = goes-by (ap is_file (here node at) ∙ folder) (part_of part) refl

    -- a step leads where the walk leads, and leaves fewer steps
    pub steps_on : (w : Walk) (answer : Answer) → Leads f digits start follow w answer → Leads f digits start follow (step f digits start follow w) answer × (left f digits start follow (step f digits start follow w) ≤ left f digits start follow w - 1)
    steps_on (On node more []) answer (at, (below, is, says)) = ((at, sym says ∙ ap At (sym is)), omega arith)
    steps_on (On node more (part ∷ parts)) answer (at, (below, is, says)) =
        let on = goes node more part parts below answer at is says (is_file (Some (node_of f node))) refl in (on.0, omega (arith, on.1))
    steps_on (Ended node) answer h = (h, omega arith)
    steps_on (Failed code) answer h = (h, omega arith)

    over : (w : Walk) (answer : Answer) → Leads f digits start follow w answer → left f digits start follow w ≤ 0 → HasEnded f digits start follow w answer
    over (On node more parts) answer h none = absurd (omega (arith, none))
    over (Ended node) answer h none = h
    over (Failed code) answer h none = h

    pub come_to_an_end : (n : ℕ) (w : Walk) (answer : Answer) → Leads f digits start follow w answer → left f digits start follow w ≤ n → HasEnded f digits start follow (steps f digits start follow n w) answer
    unfolding steps
    come_to_an_end zero w answer h few = over w answer h few
    come_to_an_end (suc n) w answer h few =
        let on = steps_on w answer h in
        come_to_an_end n (step f digits start follow w) answer on.0 (omega (arith, on.1, few))

    -- what a walk that begins leads to
    begun : (path : List ℕ) (a b c : Bool) → is_file (Some (node_of f start)) ≡ a → is_empty path ≡ b → is_rooted path ≡ c
        → Leads f digits start follow (cond a (Failed not_directory) (cond b (Failed no_entry) (cond c (Failed not_permitted) (On start 40 (parts_of path)))))
        (cond a (Fails not_directory) (cond b (Fails no_entry) (cond c (Fails not_permitted) (resolve_parts home top follow (follow_link home top follow 40) [] (parts_of path)))))
    begun path true b c file empty rooted = refl
    begun path false true c file empty rooted = refl
    begun path false false true file empty rooted = refl
    begun path false false false file empty rooted = ((within, refl), ([], refl, refl))

    pub begins_to : (path : List ℕ) → Leads f digits start follow (begins f digits start follow path) (resolve home top path follow)
    begins_to path =
        let same : is_file (home top) ≡ is_file (Some (node_of f start)) = ap is_file (here start (within, refl)) in
        subst (λ b. Leads f digits start follow (begins f digits start follow path) (cond b (Fails not_directory) (cond (is_empty path) (Fails no_entry) (cond (is_rooted path) (Fails not_permitted) (resolve_parts home top follow (follow_link home top follow 40) [] (parts_of path))))))
        (sym same) (begun path (is_file (Some (node_of f start))) (is_empty path) (is_rooted path) refl refl refl)

    begins-left : (path : List ℕ) (a b c : Bool) → left f digits start follow (cond a (Failed not_directory) (cond b (Failed no_entry) (cond c (Failed not_permitted) (On start 40 (parts_of path))))) ≤ enough f digits start follow path
    begins-left path true b c = omega arith
    begins-left path false true c = omega arith
    begins-left path false false true = omega arith
    begins-left path false false false = omega arith

    pub ends : (path : List ℕ) (n : ℕ) → enough f digits start follow path ≤ n → HasEnded f digits start follow (steps f digits start follow n (begins f digits start follow path)) (resolve home top path follow)
    ends path n few =
        let size = begins-left path (is_file (Some (node_of f start))) (is_empty path) (is_rooted path) in
        come_to_an_end n (begins f digits start follow path) (resolve home top path follow) (begins_to path) (omega (arith, size, few))

    -- a walk that has ended, and an answer that `walk` gives
    agree : (w : Walk) (answer : Answer) (r : Result ℕ ℕ) → HasEnded f digits start follow w answer → IsWalked f start answer r → w ≡ ended_by r
    agree (On node more parts) answer r h walked = absurd h
    agree (Ended node) answer (Ok at) h walked =
        let paths : At (path_of f node) ≡ At (path_of f at) = sym h.1 ∙ walked.2 in
        let same : path_of f node ≡ path_of f at = cc in
        ap Ended (alone node at h.0.0 walked.0 (h.0.1 ∙ sym walked.1) same)
    agree (Ended node) answer (Err code) h walked = let both : At (path_of f node) ≡ Fails code = sym h.1 ∙ walked in cc
    agree (Failed code) answer (Ok at) h walked = let both : Fails code ≡ At (path_of f at) = sym h ∙ walked.2 in cc
    agree (Failed code) answer (Err other) h walked =
        let both : Fails code ≡ Fails other = sym h ∙ walked in
        let same : code ≡ other = cc in
        ap Failed same

    pub walks_by_steps : (path : List ℕ) (n : ℕ) (r : Result ℕ ℕ) → enough f digits start follow path ≤ n → IsWalked f start (resolve home top path follow) r → steps f digits start follow n (begins f digits start follow path) ≡ ended_by r
    walks_by_steps path n r few walked = agree (steps f digits start follow n (begins f digits start follow path)) (resolve home top path follow) r (ends path n few) walked
