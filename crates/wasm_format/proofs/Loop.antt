-- Reading items one after the other, as a loop does.
use Rattle.std.proofs.Common.{◌≡◌, ℕ, suc, ◌-◌, ◌+◌, ◌≤◌, ◌<◌, List, [], ◌∷◌, ◌++◌, Result, Ok, Err, refl, sym, ap, ◌∙◌, append_assoc, arith}
use Rattle.std.proofs.lemmas.List.{append-nil}
use Rattle.wasm_format.specs.declared.stop.Stop.{Stop}
use Rattle.wasm_format.specs.declared.stop.Stop.TheVariants.{NoMemory, Malformed, Unsupported, TooNested}
use Rattle.virt_base.specs.Place.{Place}
use Rattle.wasm_format.specs.Format.{Format, ◌>>=◌, read_items}
use Rattle.wasm_format.specs.Reads.{Fails}

-- what was read before, and what is still read
abbrev pub with_front : {A : Type 0} → List A → Result (List A × Place) Stop → Result (List A × Place) Stop
with_front front read = read >>= λ x. Ok (front ++ x.0, x.1)

pub regroup : {A : Type 0} (front : List A) (a : A) (read : Result (List A × Place) Stop) → with_front front (read >>= λ x. Ok (a ∷ x.0, x.1)) ≡ with_front (front ++ a ∷ []) read
regroup {A} front a (Ok x) = ap (λ (items : List A). Ok (items, x.1)) (simp append_assoc)
regroup front a (Err f) = refl

pub goes_on : {A : Type 0} (F : Format A) (front : List A) (count i : ℕ) (p : Place) (a : A) (q : Place) (total : Result (List A × Place) Stop) → i < count → F.read p ≡ Ok (a, q)
    → with_front front (read_items F (count - i) p) ≡ total → with_front (front ++ a ∷ []) (read_items F (count - (i + 1)) q) ≡ total
unfolding read_items
goes_on F front count i p a q total lt h so_far =
    let k : count - i ≡ suc (count - (i + 1)) = omega arith in
    let one : with_front front (read_items F (count - i) p) ≡ with_front (front ++ a ∷ []) (read_items F (count - (i + 1)) q) = rw (k, h) (regroup front a (read_items F (count - (i + 1)) q)) in
    sym one ∙ so_far

stops_so : {A : Type 0} (F : Format A) (front : List A) (count i : ℕ) (p : Place) (e : Stop) (total : Result (List A × Place) Stop) → i < count → F.read p ≡ Err e
    → with_front front (read_items F (count - i) p) ≡ total → total ≡ Err e
unfolding read_items
stops_so F front count i p e total lt h so_far =
    let k : count - i ≡ suc (count - (i + 1)) = omega arith in
    let one : with_front front (read_items F (count - i) p) ≡ Err e = rw (k, h) refl in
    sym so_far ∙ one

pub stops : {A : Type 0} (F : Format A) (e : Stop) (front : List A) (count i : ℕ) (p : Place) (total : Result (List A × Place) Stop) → i < count → Fails e (F.read p)
    → with_front front (read_items F (count - i) p) ≡ total → Fails e total
stops F NoMemory front count i p total lt h so_far = tt
stops F Malformed front count i p total lt h so_far = stops_so F front count i p Malformed total lt h so_far
stops F (Unsupported at b) front count i p total lt h so_far = stops_so F front count i p (Unsupported at b) total lt h so_far
stops F TooNested front count i p total lt h so_far = stops_so F front count i p TooNested total lt h so_far

pub is_done : {A : Type 0} (F : Format A) (front : List A) (count i : ℕ) (p : Place) (total : Result (List A × Place) Stop) → count ≤ i → with_front front (read_items F (count - i) p) ≡ total → total ≡ Ok (front, p)
unfolding read_items
is_done {A} F front count i p total le so_far =
    let k : count - i ≡ 0 = omega arith in
    let one : with_front front (read_items F (count - i) p) ≡ Ok (front, p) = rw k (ap (λ (items : List A). Ok (items, p)) (append-nil front)) in
    sym so_far ∙ one
