-- What one part more adds to the keys of parts.
use Rattle.std.proofs.Common.{◌≡◌, ap, refl, ℕ, List, [], ◌∷◌, ◌++◌}
use Rattle.wit_types.specs.Plain.{Name, Plain, Parts, End, More, Bare}
use Rattle.comp_facts.specs.Facts.{and_part, and_bare}
use Rattle.comp_facts.specs.Keys.{and_number, and_bytes, and_name, and_names, key_of, and_parts, keys_in}

pub key-and : (k : ℕ) (ps : Parts) (n : Name) (t : Plain) → and_parts k (and_part ps n t) ≡ and_number (and_name (and_parts k ps) n) (key_of t)
key-and k End n t = refl
key-and k (More m u rest) n t = key-and (and_number (and_name k m) (key_of u)) rest n t
key-and k (Bare m rest) n t = key-and (and_number (and_name k m) 0) rest n t

pub key-bare : (k : ℕ) (ps : Parts) (n : Name) → and_parts k (and_bare ps n) ≡ and_number (and_name (and_parts k ps) n) 0
key-bare k End n = refl
key-bare k (More m u rest) n = key-bare (and_number (and_name k m) (key_of u)) rest n
key-bare k (Bare m rest) n = key-bare (and_number (and_name k m) 0) rest n

-- the keys of the parts themselves
pub keys-and : (ps : Parts) (n : Name) (t : Plain) → keys_in (and_part ps n t) ≡ keys_in ps ++ key_of t ∷ []
keys-and End n t = refl
keys-and (More m u rest) n t = ap (λ ks. key_of u ∷ ks) (keys-and rest n t)
keys-and (Bare m rest) n t = keys-and rest n t

pub keys-bare : (ps : Parts) (n : Name) → keys_in (and_bare ps n) ≡ keys_in ps
keys-bare End n = refl
keys-bare (More m u rest) n = ap (λ ks. key_of u ∷ ks) (keys-bare rest n)
keys-bare (Bare m rest) n = keys-bare rest n

-- ---- names, an item at a time

pub bytes-more : (k : ℕ) (bs : Name) (b : ℕ) → and_bytes k (bs ++ b ∷ []) ≡ and_number (and_bytes k bs) b
bytes-more k [] b = refl
bytes-more k (c ∷ bs) b = bytes-more (and_number k c) bs b

pub names-more : (k : ℕ) (ns : List Name) (n : Name) → and_names k (ns ++ n ∷ []) ≡ and_name (and_names k ns) n
names-more k [] n = refl
names-more k (m ∷ ns) n = names-more (and_name k m) ns n
