-- Where parts lead from the root of the scratch folder, one by one.
use Rattle.std.proofs.Common.{◌≡◌, ℕ, ◌<◌, true, false, List, [], ◌∷◌, length, Option, Some, None, IsSome, refl, ap, sym, ◌∙◌}
use Rattle.std.specs.Prelude.{is_some, option_map, IfSome}
use Rattle.std.specs.Borrow.{Bor}
use Rattle.std.proofs.lemmas.List.Quantifiers.{position-Some}
use Rattle.tree_table.specs.Paths.{Stay, Up, Named, part_of, parts_of, is_rooted, is_empty, no_entry, not_permitted}
use Rattle.tree_table.specs.Scratches.{ScratchMap, ScratchFile, find_file, has_name, file_at, name_at}
use Rattle.reference_step.specs.Nodes.{TheFile, Missing, found_file, lead_in}
use Rattle.ref_scratch.specs.Leads.{lead_parts, inner}
use Rattle.ref_scratch.proofs.PartLemmas.{some_part}

module _ (m : ScratchMap) (part : List ℕ) where
  pub stays : (rest : List (List ℕ)) → part_of part ≡ Stay → lead_parts m (part ∷ rest) ≡ lead_parts m rest
  stays rest is = rw is refl

  pub goes_up : (rest : List (List ℕ)) → part_of part ≡ Up → lead_parts m (part ∷ rest) ≡ Missing not_permitted
  goes_up rest is = rw is refl

  missing_name : (rest : List (List ℕ)) → part_of part ≡ Named → find_file m part ≡ None → lead_parts m (part ∷ rest) ≡ Missing no_entry
  missing_name rest is none = rw (is, none) refl

  inner_file : (next : List ℕ) (rest : List (List ℕ)) (n : ℕ) → part_of part ≡ Named → find_file m part ≡ Some n → lead_parts m (part ∷ next ∷ rest) ≡ inner (Some n)
  inner_file next rest n is some = rw (is, some) refl

  last_file : (n : ℕ) → part_of part ≡ Named → find_file m part ≡ Some n → lead_parts m (part ∷ []) ≡ TheFile n
  last_file n is some = rw (is, some, some) refl

  -- a name after which a part stands
  pub inner_name : (more : List ℕ) → part_of part ≡ Named → lead_parts m (part ∷ parts_of more) ≡ inner (find_file m part)
  inner_name more is = let some = some_part more in ap (λ ps. lead_parts m (part ∷ ps)) some.2 ∙ by some.0 some.1 (find_file m part) refl
    where
      by : (next : List ℕ) (rest : List (List ℕ)) (o : Option ℕ) → find_file m part ≡ o → lead_parts m (part ∷ next ∷ rest) ≡ inner (find_file m part)
      by next rest None e = missing_name (next ∷ rest) is e ∙ ap inner (sym e)
      by next rest (Some n) e = inner_file next rest n is e ∙ ap inner (sym e)

  -- a name that is the last part
  pub last_name : part_of part ≡ Named → lead_parts m (part ∷ []) ≡ found_file (find_file m part)
  last_name is = by (find_file m part) refl
    where
      by : (o : Option ℕ) → find_file m part ≡ o → lead_parts m (part ∷ []) ≡ found_file (find_file m part)
      by None e = missing_name [] is e ∙ ap found_file (sym e)
      by (Some n) e = last_file n is e ∙ ap found_file (sym e)

-- a text that is neither empty nor begins with a slash
pub lead_text : (m : ScratchMap) (text : List ℕ) → is_empty text ≡ false → is_rooted text ≡ false → lead_in m text ≡ lead_parts m (parts_of text)
lead_text m text some inside = rw (some, inside) refl

pub lead_rooted : (m : ScratchMap) (text : List ℕ) → is_empty text ≡ false → is_rooted text ≡ true → lead_in m text ≡ Missing not_permitted
lead_rooted m text some rooted = rw (some, rooted) refl

-- a file that has a name is there
is_some_file : (name : List ℕ) (o : Option ScratchFile) → has_name name o ≡ true → IsSome o
is_some_file name None e = cc
is_some_file name (Some file) e = search

pub found_there : (m : ScratchMap) (name : List ℕ) (n : ℕ) → find_file m name ≡ Some n → (n < length m.files) × IsSome (file_at m n)
found_there m name n e =
    let at = position-Some (has_name name) m.files n None e in
    (at.0, is_some_file name (file_at m n) at.1)

-- what is found, as the code has it
pub found_inside : (m : ScratchMap) (name : List ℕ) (r : Option ℕ) → r ≡ find_file m name → IfSome r (λ n. n < length m.files)
found_inside m name None e = search
found_inside m name (Some n) e = (found_there m name n (sym e)).0

pub found_file_there : (m : ScratchMap) (name : List ℕ) (r : Option ℕ) → r ≡ find_file m name → IfSome r (λ n. IsSome (file_at m n))
found_file_there m name None e = search
found_file_there m name (Some n) e = (found_there m name n (sym e)).1

-- whether a number has a file, by its name
is_some_map : {A B : Type 0} (g : A → B) (o : Option A) → is_some (option_map g o) ≡ is_some o
is_some_map g None = refl
is_some_map g (Some x) = refl

pub named_there : (m : ScratchMap) (n : ℕ) (r : Option (Bor (List ℕ))) → option_map (λ name. name.now) r ≡ name_at m n → is_some r ≡ is_some (file_at m n)
named_there m n r e = sym (is_some_map (λ (name : Bor (List ℕ)). name.now) r) ∙ ap is_some e ∙ is_some_map (λ (f : ScratchFile). f.name) (file_at m n)

pub ruleset leads = (stays, goes_up, inner_name, last_name, lead_text, lead_rooted, found_there)
