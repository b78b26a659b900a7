-- How one part is resolved.
use Rattle.std.proofs.Common.{◌≡◌, ◌≢◌, ℕ, Bool, true, false, not, ◌&&◌, List, [], ◌∷◌, ◌++◌, Option, Some, None, IsSome, refl, sym, ap, ◌∙◌, true≢false, arith, length, length-append}
use Rattle.tree_table.specs.declared.entries.Node.{Node}
use Rattle.tree_table.specs.declared.entries.Node.TheVariants.{Folder, File, Link}
use Rattle.tree_table.specs.Paths.{Answer, At, Fails, Stay, Up, Named, part_of, is_file, is_empty, at_child, resolve_parts, no_entry, not_directory, not_permitted}

pub nil_of_append : (xs ys : List (List ℕ)) → xs ++ ys ≡ [] → ys ≡ []
nil_of_append [] ys e = e
nil_of_append (x ∷ xs) ys e = cc

pub taken-child : (o : Option Node) (stops : Bool) (followed : List ℕ → Answer) (link taken : Answer) → IsSome o → ((target : List ℕ) → o ≢ Some (Link target)) → at_child o stops followed link taken ≡ taken
taken-child None stops followed link taken some other = absurd (true≢false (sym some))
taken-child (Some Folder) stops followed link taken some other = refl
taken-child (Some (File content)) stops followed link taken some other = refl
taken-child (Some (Link target)) stops followed link taken some other = absurd (other target refl)

-- a path under the start is longer
longer : (name : List ℕ) (above start : List (List ℕ)) → (name ∷ above) ++ start ≡ start → ⊥
longer name above start e = let lengths = ap length e in omega (arith, lengths, length-append above start)

module _ (look : List (List ℕ) → Option Node) (start : List (List ℕ)) (follow : Bool) (after : List (List ℕ) → List ℕ → List (List ℕ) → Answer) where
  pub resolve-up : (name : List ℕ) (above : List (List ℕ)) (part : List ℕ) (parts : List (List ℕ)) → is_file (look ((name ∷ above) ++ start)) ≡ false → part_of part ≡ Up
      → resolve_parts look start follow after (name ∷ above) (part ∷ parts) ≡ resolve_parts look start follow after above parts
  resolve-up name above part parts folder up = rw (folder, up) refl

  pub resolve-child : (below : List (List ℕ)) (part : List ℕ) (parts : List (List ℕ)) → is_file (look (below ++ start)) ≡ false → part_of part ≡ Named → IsSome (look (part ∷ (below ++ start))) → ((target : List ℕ) → look (part ∷ (below ++ start)) ≢ Some (Link target))
      → resolve_parts look start follow after below (part ∷ parts) ≡ resolve_parts look start follow after (part ∷ below) parts
  resolve-child below part parts folder named some other =
      rw (folder, named) (taken-child (look (part ∷ (below ++ start))) (is_empty parts && not follow) (λ target. after below target parts) (At (part ∷ (below ++ start))) (resolve_parts look start follow after (part ∷ below) parts) some other)

-- at the node `here`, which is at the names `below` the start
module _ (look : List (List ℕ) → Option Node) (start : List (List ℕ)) (follow last : Bool) (here : List (List ℕ)) (part : List ℕ) where
  abbrev pub Leads : List (List ℕ) → ((List (List ℕ) → List ℕ → List (List ℕ) → Answer) → List (List ℕ) → Answer) → Type 0
  Leads below to = (after : List (List ℕ) → List ℕ → List (List ℕ) → Answer) → (parts : List (List ℕ)) → is_empty parts ≡ last → resolve_parts look start follow after below (part ∷ parts) ≡ to after parts

  pub at-file : is_file (look here) ≡ true → (below : List (List ℕ)) → here ≡ below ++ start → Leads below (λ after parts. Fails not_directory)
  at-file file below is = λ after parts e. rw (← is, file) refl

  pub stays : is_file (look here) ≡ false → part_of part ≡ Stay → (below : List (List ℕ)) → here ≡ below ++ start → Leads below (λ after parts. resolve_parts look start follow after below parts)
  stays folder stay below is = λ after parts e. rw (← is, folder, stay) refl

  pub at-top : is_file (look here) ≡ false → part_of part ≡ Up → here ≡ start → (below : List (List ℕ)) → here ≡ below ++ start → Leads below (λ after parts. Fails not_permitted)
  at-top folder up top [] is = λ after parts e. rw (← is, folder, up) refl
  at-top folder up top (name ∷ above) is = absurd (longer name above start (sym is ∙ top))

  pub goes-up : (there : List (List ℕ)) → ((name : List ℕ) → (above : List (List ℕ)) → here ≡ name ∷ above → there ≡ above) → here ≢ start → is_file (look here) ≡ false → part_of part ≡ Up → (below : List (List ℕ)) → here ≡ below ++ start
      → (next : List (List ℕ)) × (there ≡ next ++ start) × Leads below (λ after parts. resolve_parts look start follow after next parts)
  goes-up there parent other folder up [] is = absurd (other is)
  goes-up there parent other folder up (name ∷ above) is =
      (above, parent name (above ++ start) is, λ after parts e. resolve-up look start follow after name above part parts (ap (λ p. is_file (look p)) (sym is) ∙ folder) up)

  pub no-child : is_file (look here) ≡ false → part_of part ≡ Named → look (part ∷ here) ≡ None → (below : List (List ℕ)) → here ≡ below ++ start → Leads below (λ after parts. Fails no_entry)
  no-child folder named none below is = λ after parts e. rw (← is, folder, named, none) refl

  pub to-child : is_file (look here) ≡ false → part_of part ≡ Named → IsSome (look (part ∷ here)) → ((target : List ℕ) → look (part ∷ here) ≢ Some (Link target)) → (below : List (List ℕ)) → here ≡ below ++ start → Leads below (λ after parts. resolve_parts look start follow after (part ∷ below) parts)
  to-child folder named some other below is = λ after parts e.
      rw (← is, folder, named) (taken-child (look (part ∷ here)) (is_empty parts && not follow) (λ target. after below target parts) (At (part ∷ here)) (resolve_parts look start follow after (part ∷ below) parts) some other)

  pub at-link : (target : List ℕ) → is_file (look here) ≡ false → part_of part ≡ Named → look (part ∷ here) ≡ Some (Link target) → (last && not follow) ≡ true → (below : List (List ℕ)) → here ≡ below ++ start → Leads below (λ after parts. At (part ∷ here))
  at-link target folder named link stop below is = λ after parts e. rw (← is, folder, named, link, e, stop) refl

  pub follows : (target : List ℕ) → is_file (look here) ≡ false → part_of part ≡ Named → look (part ∷ here) ≡ Some (Link target) → (last && not follow) ≡ false → (below : List (List ℕ)) → here ≡ below ++ start → Leads below (λ after parts. after below target parts)
  follows target folder named link go below is = λ after parts e. rw (← is, folder, named, link, e, go) refl
