-- Steps one after the other, and where they lead.
use Rattle.std.proofs.Common.{◌≡◌, ℕ, ◌+◌, ap, refl, sym, ◌∙◌, List, [], ◌∷◌, ◌++◌, arith, append_assoc}
use Rattle.core_memory.specs.Linear.{Linear}
use Rattle.abi_layout.specs.Storing.{Step, Ask, Write, Place, Refuse, Lowered, both, requests}
use Rattle.abi_store.specs.Flows.{Leads, chain, stored, none_left, refused, led}

pub requests-append : (xs ys : List Step) → requests (xs ++ ys) ≡ requests xs + requests ys
requests-append [] ys = omega arith
requests-append (Ask align len ∷ xs) ys = let e = requests-append xs ys in omega arith
requests-append (Write base at bytes ∷ xs) ys = requests-append xs ys
requests-append (Place base at k ∷ xs) ys = requests-append xs ys
requests-append (Refuse ∷ xs) ys = requests-append xs ys

pub both-assoc : (x y z : Lowered) → both (both x y) z ≡ both x (both y z)
both-assoc x y z = rw (append_assoc x.steps y.steps z.steps, append_assoc x.flats y.flats z.flats) refl

pub chain-assoc : (a b c : ℕ → Lowered) (k : ℕ) → chain (chain a b) c k ≡ chain a (chain b c) k
chain-assoc a b c k =
    let x = a k in
    let y = b (k + requests x.steps) in
    let place : k + requests (x.steps ++ y.steps) ≡ k + requests x.steps + requests y.steps = let e = requests-append x.steps y.steps in omega arith in
    ap (λ j. both (both x y) (c j)) place ∙ both-assoc x y (c (k + requests x.steps + requests y.steps))

pub leads_then : (m n o : Linear) (a b c : ℕ → Lowered) → Leads m a n b → Leads n b o c → Leads m a o c
leads_then m n o a b c s t = record { on = λ before rest. s.on before rest ∙ t.on before rest }

-- with others after them
pub leads_behind : (m n : Linear) (a b s : ℕ → Lowered) → Leads m a n b → Leads m (chain a s) n (chain b s)
leads_behind m n a b s t = record {
  on = λ before rest.
      ap (λ l. led before l m) (chain-assoc a s rest 0) ∙ t.on before (chain s rest) ∙ ap (λ l. led before l n) (sym (chain-assoc b s rest 0));
}

-- only the steps that are counted from 0 matter
pub leads_same : (m n : Linear) (a b c d : ℕ → Lowered) → a 0 ≡ c 0 → b 0 ≡ d 0 → Leads m c n d → Leads m a n b
leads_same m n a b c d p q t = record {
  on = λ before rest.
      ap (λ l. led before (both l (rest (0 + requests l.steps))) m) p ∙ t.on before rest ∙ ap (λ l. led before (both l (rest (0 + requests l.steps))) n) (sym q);
}

-- a write, and others after it
pub leads_write : (m n : Linear) (at : ℕ) (bytes : List ℕ) (s : ℕ → List Step) (base : _) → Leads m (λ k. record { steps = Write base at bytes ∷ []; flats = [] }) n none_left →
    Leads m (λ k. record { steps = Write base at bytes ∷ s k; flats = [] }) n (stored s)
leads_write m n at bytes s base t = record { on = λ before rest. t.on before (chain (stored s) rest) }

pub refused_write : (m n : Linear) (at : ℕ) (bytes : List ℕ) (s : ℕ → List Step) (base : _) → Leads m (λ k. record { steps = Write base at bytes ∷ []; flats = [] }) n refused →
    Leads m (λ k. record { steps = Write base at bytes ∷ s k; flats = [] }) n refused
refused_write m n at bytes s base t = record { on = λ before rest. t.on before (chain (stored s) rest) }
