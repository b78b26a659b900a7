-- New names, part by part.
use Rattle.std.proofs.Common.{◌≡◌, ℕ, ◌≤◌, Bool, true, false, not, List, [], ◌∷◌, length, filter, Option, Some, None, nat_lt, refl, ap, sym, subst, ◌∙◌}
use Rattle.std.specs.Prelude.{◌==◌}
use Rattle.std.proofs.lemmas.Bool.{ltb-false}
use Rattle.std.specs.List.{list_any}
use Rattle.tree_table.specs.Paths.{Part, Stay, Up, Named, part_of, parts_of, is_rooted, is_empty, no_entry}
use Rattle.tree_table.specs.Scratches.{ScratchMap, find_file}
use Rattle.tree_table.specs.Trees.{IsShort}
use Rattle.reference_step.specs.Codes as code
use Rattle.reference_step.specs.Nodes.{Missing, found_file, lead_in, Named as NewNamed, Unnamed, is_stay, last_stays, legal, only_name, new_name}
use Rattle.ref_scratch.specs.Leads.{lead_parts}
use Rattle.ref_scratch.specs.Names.{new_of}
use Rattle.ref_scratch.proofs.PartLemmas.{some_part}
use Rattle.ref_scratch.proofs.FindLemmas.{stays, last_name, lead_text}

abbrev no_stay : List ℕ → Bool
no_stay part = not (is_stay (part_of part))

-- a part that stays, in front of others
pub stay_first : (part next : List ℕ) (rest : List (List ℕ)) → is_stay (part_of part) ≡ true → new_of (part ∷ next ∷ rest) ≡ new_of (next ∷ rest)
stay_first part next rest is = rw is refl

-- of parts of which the last does not stay, one is left
some_left : (next : List ℕ) (rest : List (List ℕ)) → last_stays (next ∷ rest) ≡ false → (first : List ℕ) × (more : List (List ℕ)) × (filter no_stay (next ∷ rest) ≡ first ∷ more)
some_left next [] e = (next, [], rw e refl)
some_left next (other ∷ rest) e = by (is_stay (part_of next)) refl (some_left other rest e)
  where
    by : (b : Bool) → is_stay (part_of next) ≡ b → (first : List ℕ) × (more : List (List ℕ)) × (filter no_stay (other ∷ rest) ≡ first ∷ more) → (first : List ℕ) × (more : List (List ℕ)) × (filter no_stay (next ∷ other ∷ rest) ≡ first ∷ more)
    by true is deeper = (deeper.0, deeper.1, rw is deeper.2)
    by false is deeper = (next, filter no_stay (other ∷ rest), rw is refl)

-- a name in front of others
pub name_first : (part next : List ℕ) (rest : List (List ℕ)) → is_stay (part_of part) ≡ false → new_of (part ∷ next ∷ rest) ≡ Unnamed code.no_entry
name_first part next rest is = by (last_stays (next ∷ rest)) refl
  where
    by : (b : Bool) → last_stays (next ∷ rest) ≡ b → new_of (part ∷ next ∷ rest) ≡ Unnamed code.no_entry
    by true last = rw last refl
    by false last =
        let left = some_left next rest last in
        rw (last, is) (ap (λ parts. only_name (part ∷ parts)) left.2)

-- the same of the parts of a text
pub stay_front : (part more : List ℕ) → is_stay (part_of part) ≡ true → new_of (part ∷ parts_of more) ≡ new_of (parts_of more)
stay_front part more is =
    let some = some_part more in
    ap (λ ps. new_of (part ∷ ps)) some.2 ∙ stay_first part some.0 some.1 is ∙ ap new_of (sym some.2)

pub name_front : (part more : List ℕ) → is_stay (part_of part) ≡ false → new_of (part ∷ parts_of more) ≡ Unnamed code.no_entry
name_front part more is = let some = some_part more in ap (λ ps. new_of (part ∷ ps)) some.2 ∙ name_first part some.0 some.1 is

pub last_stay : (part : List ℕ) → part_of part ≡ Stay → new_of (part ∷ []) ≡ Unnamed code.no_entry
last_stay part is = rw is refl

pub last_up : (part : List ℕ) → part_of part ≡ Up → new_of (part ∷ []) ≡ Unnamed code.no_entry
last_up part is = rw (is, is) refl

pub last_named : (part : List ℕ) → part_of part ≡ Named → new_of (part ∷ []) ≡ legal part
last_named part is = rw (is, is) refl

pub ruleset naming = (stay_front, name_front, last_stay, last_up, last_named)

-- ---- a new name is legal, and no file has it where its text leads nowhere

module _ (part name : List ℕ) (e : legal part ≡ NewNamed name) where
  short_name : nat_lt 255 (length part) ≡ false → list_any (λ b. b == 0) part ≡ false → (part ≡ name) × IsShort name
  short_name few clean =
      let named : NewNamed part ≡ NewNamed name = rw (few, clean) at e in
      let same : part ≡ name = cc in
      let less : length part ≤ 255 = ltb-false _ _ few in
      (same, subst IsShort same less)

  clean_name : (b : Bool) → nat_lt 255 (length part) ≡ false → list_any (λ b. b == 0) part ≡ b → (part ≡ name) × IsShort name
  clean_name true few is = let clash : Unnamed code.illegal_byte_sequence ≡ NewNamed name = rw (few, is) at e in cc
  clean_name false few is = short_name few is

  legal_by : (b : Bool) → nat_lt 255 (length part) ≡ b → (part ≡ name) × IsShort name
  legal_by true is = let clash : Unnamed code.name_too_long ≡ NewNamed name = rw is at e in cc
  legal_by false is = clean_name (list_any (λ b. b == 0) part) is refl

  pub legal_is : (part ≡ name) × IsShort name
  legal_is = legal_by (nat_lt 255 (length part)) refl

module _ (m : ScratchMap) (name : List ℕ) where
  abbrev Leads : List (List ℕ) → Type 0
  Leads parts = (lead_parts m parts ≡ found_file (find_file m name)) × IsShort name

  last_leads : (part : List ℕ) (kind : Part) → part_of part ≡ kind → new_of (part ∷ []) ≡ NewNamed name → Leads (part ∷ [])
  last_leads part Stay is e = let clash : Unnamed code.no_entry ≡ NewNamed name = sym (last_stay part is) ∙ e in cc
  last_leads part Up is e = let clash : Unnamed code.no_entry ≡ NewNamed name = sym (last_up part is) ∙ e in cc
  last_leads part Named is e =
      let same = legal_is part name (sym (last_named part is) ∙ e) in
      (last_name m part is ∙ ap (λ n. found_file (find_file m n)) same.0, same.1)

  stay_is : (kind : Part) → is_stay kind ≡ true → kind ≡ Stay
  stay_is Stay e = refl
  stay_is Up e = cc
  stay_is Named e = cc

  parts_lead : (parts : List (List ℕ)) → new_of parts ≡ NewNamed name → Leads parts
  parts_lead [] e = let clash : Unnamed code.no_entry ≡ NewNamed name = e in cc
  parts_lead (part ∷ []) e = last_leads part (part_of part) refl e
  parts_lead (part ∷ next ∷ rest) e = by (is_stay (part_of part)) refl (λ d. parts_lead (next ∷ rest) d)
    where
      by : (b : Bool) → is_stay (part_of part) ≡ b → (new_of (next ∷ rest) ≡ NewNamed name → Leads (next ∷ rest)) → Leads (part ∷ next ∷ rest)
      by true is deeper =
          let later = deeper (sym (stay_first part next rest is) ∙ e) in
          (stays m part (next ∷ rest) (stay_is (part_of part) is) ∙ later.0, later.1)
      by false is deeper = let clash : Unnamed code.no_entry ≡ NewNamed name = sym (name_first part next rest is) ∙ e in cc

  inside_new : (text : List ℕ) → is_rooted text ≡ false → new_name text ≡ NewNamed name → new_of (parts_of text) ≡ NewNamed name
  inside_new text inside e = let same : new_name text ≡ new_of (parts_of text) = rw inside refl in sym same ∙ e

  missing_is : (o : Option ℕ) → Missing no_entry ≡ found_file o → o ≡ None
  missing_is None e = refl
  missing_is (Some n) e = cc

  new_missing : (text : List ℕ) → is_empty text ≡ false → is_rooted text ≡ false → new_name text ≡ NewNamed name → lead_in m text ≡ Missing no_entry → (find_file m name ≡ None) × IsShort name
  new_missing text some inside new leads =
      let all = parts_lead (parts_of text) (inside_new text inside new) in
      (missing_is (find_file m name) (sym leads ∙ lead_text m text some inside ∙ all.0), all.1)

  by_root : (text : List ℕ) (b : Bool) → is_empty text ≡ false → is_rooted text ≡ b → new_name text ≡ NewNamed name → lead_in m text ≡ Missing no_entry → (find_file m name ≡ None) × IsShort name
  by_root text true some is new leads = let clash : Unnamed code.no_entry ≡ NewNamed name = rw is at new in cc
  by_root text false some is new leads = new_missing text some is new leads

  -- a new name whose text leads nowhere
  pub new_is : (text : List ℕ) → new_name text ≡ NewNamed name → lead_in m text ≡ Missing no_entry → (find_file m name ≡ None) × IsShort name
  new_is [] new leads = let clash : Unnamed code.no_entry ≡ NewNamed name = new in cc
  new_is (b ∷ text) new leads = by_root (b ∷ text) (is_rooted (b ∷ text)) refl refl new leads

  by_inside : (text : List ℕ) (b : Bool) → is_rooted text ≡ b → new_name text ≡ NewNamed name → IsShort name
  by_inside text true is new = let clash : Unnamed code.no_entry ≡ NewNamed name = rw is at new in cc
  by_inside text false is new = (parts_lead (parts_of text) (inside_new text is new)).1

  -- a new name is short
  pub new_short : (text : List ℕ) → new_name text ≡ NewNamed name → IsShort name
  new_short text new = by_inside text (is_rooted text) refl new
