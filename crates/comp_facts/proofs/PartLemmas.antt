-- What one part more adds to the facts of parts.
use Rattle.std.proofs.Common.{◌≡◌, ◌∙◌, ap, sym, refl, ◌+◌, List, [], ◌∷◌, ◌++◌, Bool, true, false, Option, Some, max, append_assoc, append-nil, arith}
use Rattle.std.specs.Prelude.{◌||◌}
use Rattle.virt_base.specs.declared.core_type.CoreType.{CoreType}
use Rattle.virt_base.specs.declared.core_type.CoreType.TheVariants.{I32}
use Rattle.wit_types.specs.Plain.{Name, Plain, Parts, End, More, Bare}
use Rattle.wit_types.specs.Layout.{join, flat, flat_fields, flat_cases}
use Rattle.wit_types.specs.Limits.{depth, greatest_depth, parts, all_parts}
use Rattle.abi_layout.specs.Flat.{within, add_within, append_within, join_within}
use Rattle.abi_layout.proofs.FlatLemmas.{append_within-within, add_within-twice, join_within-within, join_assoc}
use Rattle.comp_facts.specs.Handles.{has_borrow, has_borrow_in, has_handle, has_handle_in}
use Rattle.comp_facts.specs.Needs.{is_pointed, is_pointed_in}
use Rattle.comp_facts.specs.Facts.{and_part, and_bare}

pub depth-and : (ps : Parts) (n : Name) (t : Plain) → greatest_depth (and_part ps n t) ≡ max (greatest_depth ps) (depth t)
depth-and End n t = omega arith
depth-and (More m u rest) n t = omega (arith, depth-and rest n t)
depth-and (Bare m rest) n t = depth-and rest n t

pub parts-and : (ps : Parts) (n : Name) (t : Plain) → all_parts (and_part ps n t) ≡ all_parts ps + parts t
parts-and End n t = omega arith
parts-and (More m u rest) n t = omega (arith, parts-and rest n t)
parts-and (Bare m rest) n t = parts-and rest n t

or_false : (b : Bool) → (b || false) ≡ b
or_false true = refl
or_false false = refl

or_assoc : (a b c : Bool) → ((a || b) || c) ≡ (a || (b || c))
or_assoc true b c = refl
or_assoc false b c = refl

pub borrows-and : (ps : Parts) (n : Name) (t : Plain) → has_borrow_in (and_part ps n t) ≡ (has_borrow_in ps || has_borrow t)
borrows-and End n t = or_false (has_borrow t)
borrows-and (More m u rest) n t = ap (λ b. has_borrow u || b) (borrows-and rest n t) ∙ sym (or_assoc (has_borrow u) (has_borrow_in rest) (has_borrow t))
borrows-and (Bare m rest) n t = borrows-and rest n t

pub handles-and : (ps : Parts) (n : Name) (t : Plain) → has_handle_in (and_part ps n t) ≡ (has_handle_in ps || has_handle t)
handles-and End n t = or_false (has_handle t)
handles-and (More m u rest) n t = ap (λ b. has_handle u || b) (handles-and rest n t) ∙ sym (or_assoc (has_handle u) (has_handle_in rest) (has_handle t))
handles-and (Bare m rest) n t = handles-and rest n t

pub pointed-and : (ps : Parts) (n : Name) (t : Plain) → is_pointed_in (and_part ps n t) ≡ (is_pointed_in ps || is_pointed t)
pointed-and End n t = or_false (is_pointed t)
pointed-and (More m u rest) n t = ap (λ b. is_pointed u || b) (pointed-and rest n t) ∙ sym (or_assoc (is_pointed u) (is_pointed_in rest) (is_pointed t))
pointed-and (Bare m rest) n t = pointed-and rest n t

fields-and : (ps : Parts) (n : Name) (t : Plain) → flat_fields (and_part ps n t) ≡ flat_fields ps ++ flat t
fields-and End n t = append-nil (flat t)
fields-and (More m u rest) n t = ap (λ xs. flat u ++ xs) (fields-and rest n t) ∙ sym (append_assoc (flat u) (flat_fields rest) (flat t))
fields-and (Bare m rest) n t = fields-and rest n t

join-nil : (xs : List CoreType) → join xs [] ≡ xs
join-nil [] = refl
join-nil (x ∷ xs) = refl

cases-and : (ps : Parts) (n : Name) (t : Plain) → flat_cases (and_part ps n t) ≡ join (flat_cases ps) (flat t)
cases-and End n t = join-nil (flat t)
cases-and (More m u rest) n t = ap (join (flat u)) (cases-and rest n t) ∙ sym (join_assoc (flat u) (flat_cases rest) (flat t))
cases-and (Bare m rest) n t = cases-and rest n t

-- the same within 16 types
behind : (xs ys : List CoreType) → append_within (within xs) (within ys) ≡ within (xs ++ ys)
unfolding add_within
behind xs ys = append_within-within (within xs) ys ∙ add_within-twice (Some []) xs ys

pub fields-flat : (ps : Parts) (n : Name) (t : Plain) (f g h : Option (List CoreType)) → h ≡ append_within f g → f ≡ within (flat_fields ps) → g ≡ within (flat t) → h ≡ within (flat_fields (and_part ps n t))
fields-flat ps n t f g h made p q = made ∙ (ap (λ o. append_within o g) p ∙ (ap (append_within (within (flat_fields ps))) q ∙ (behind (flat_fields ps) (flat t) ∙ ap within (sym (fields-and ps n t)))))

pub cases-flat : (ps : Parts) (n : Name) (t : Plain) (f g h : Option (List CoreType)) → h ≡ join_within f g → f ≡ within (flat_cases ps) → g ≡ within (flat t) → h ≡ within (flat_cases (and_part ps n t))
cases-flat ps n t f g h made p q = made ∙ (ap (λ o. join_within o g) p ∙ (ap (join_within (within (flat_cases ps))) q ∙ (join_within-within (flat_cases ps) (flat t) ∙ ap within (sym (cases-and ps n t)))))

-- the number of a case in front
pub numbered : (xs : List CoreType) (f h : Option (List CoreType)) → h ≡ append_within (Some (I32 ∷ [])) f → f ≡ within xs → h ≡ within (I32 ∷ xs)
unfolding add_within
numbered xs f h made p = made ∙ (ap (append_within (Some (I32 ∷ []))) p ∙ append_within-within (Some (I32 ∷ [])) xs)

-- a case without a payload adds nothing
pub depth-bare : (ps : Parts) (n : Name) → greatest_depth (and_bare ps n) ≡ greatest_depth ps
depth-bare End n = refl
depth-bare (More m u rest) n = ap (λ k. max (depth u) k) (depth-bare rest n)
depth-bare (Bare m rest) n = depth-bare rest n

pub parts-bare : (ps : Parts) (n : Name) → all_parts (and_bare ps n) ≡ all_parts ps
parts-bare End n = refl
parts-bare (More m u rest) n = ap (λ k. parts u + k) (parts-bare rest n)
parts-bare (Bare m rest) n = parts-bare rest n

pub borrows-bare : (ps : Parts) (n : Name) → has_borrow_in (and_bare ps n) ≡ has_borrow_in ps
borrows-bare End n = refl
borrows-bare (More m u rest) n = ap (λ b. has_borrow u || b) (borrows-bare rest n)
borrows-bare (Bare m rest) n = borrows-bare rest n

pub handles-bare : (ps : Parts) (n : Name) → has_handle_in (and_bare ps n) ≡ has_handle_in ps
handles-bare End n = refl
handles-bare (More m u rest) n = ap (λ b. has_handle u || b) (handles-bare rest n)
handles-bare (Bare m rest) n = handles-bare rest n

pub pointed-bare : (ps : Parts) (n : Name) → is_pointed_in (and_bare ps n) ≡ is_pointed_in ps
pointed-bare End n = refl
pointed-bare (More m u rest) n = ap (λ b. is_pointed u || b) (pointed-bare rest n)
pointed-bare (Bare m rest) n = pointed-bare rest n

pub fields-bare : (ps : Parts) (n : Name) → flat_fields (and_bare ps n) ≡ flat_fields ps
fields-bare End n = refl
fields-bare (More m u rest) n = ap (λ xs. flat u ++ xs) (fields-bare rest n)
fields-bare (Bare m rest) n = fields-bare rest n

pub cases-bare : (ps : Parts) (n : Name) → flat_cases (and_bare ps n) ≡ flat_cases ps
cases-bare End n = refl
cases-bare (More m u rest) n = ap (join (flat u)) (cases-bare rest n)
cases-bare (Bare m rest) n = cases-bare rest n
