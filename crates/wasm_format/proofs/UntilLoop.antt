-- Reading items up to the end, as a loop does.
use Rattle.std.proofs.Common.{◌≡◌, ℕ, zero, suc, ◌-◌, ◌+◌, ◌<◌, true, false, List, [], ◌∷◌, ◌++◌, Result, Ok, Err, refl, sym, ap, ◌∙◌, arith}
use Rattle.std.proofs.lemmas.List.{append-nil}
use Rattle.wasm_format.specs.declared.stop.Stop.{Stop}
use Rattle.wasm_format.specs.declared.stop.Stop.TheVariants.{NoMemory, Malformed, Unsupported, TooNested}
use Rattle.virt_base.specs.Place.{Place}
use Rattle.wasm_format.specs.Reads.{Fails}
use Rattle.wasm_format.specs.Sections.{Sections}
use Rattle.wasm_format.proofs.Loop.{with_front, regroup}
use Rattle.wasm_format.specs.Until.{read_until}

pub stands_closed : {S P : Type 0} (G : Sections S P) (front : List P) (left : ℕ) (s : S) (p : Place) (total : Result (List P × Place) Stop) → G.can_end s ≡ true → with_front front (read_until G left s p) ≡ total → total ≡ Ok (front, p)
unfolding read_until
stands_closed {S} {P} G front zero s p total e so_far =
    let one : with_front front (read_until G zero s p) ≡ Ok (front, p) = rw e (ap (λ (items : List P). Ok (items, p)) (append-nil front)) in
    sym so_far ∙ one
stands_closed {S} {P} G front (suc left) s p total e so_far =
    let one : with_front front (read_until G (suc left) s p) ≡ Ok (front, p) = rw e (ap (λ (items : List P). Ok (items, p)) (append-nil front)) in
    sym so_far ∙ one

pub never_closed : {S P : Type 0} (G : Sections S P) (front : List P) (left : ℕ) (s : S) (p : Place) (total : Result (List P × Place) Stop) → left ≡ 0 → G.can_end s ≡ false → with_front front (read_until G left s p) ≡ total → total ≡ Err Malformed
unfolding read_until
never_closed G front left s p total z e so_far =
    let one : with_front front (read_until G left s p) ≡ Err Malformed = rw (z, e) refl in
    sym so_far ∙ one

pub goes_on : {S P : Type 0} (G : Sections S P) (front : List P) (count i : ℕ) (s : S) (p : Place) (part : P) (q : Place) (total : Result (List P × Place) Stop) → i < count → G.can_end s ≡ false → (G.form s).read p ≡ Ok (part, q)
    → with_front front (read_until G (count - i) s p) ≡ total → with_front (front ++ part ∷ []) (read_until G (count - (i + 1)) (G.next s part) q) ≡ total
unfolding read_until
goes_on G front count i s p part q total lt wide h so_far =
    let k : count - i ≡ suc (count - (i + 1)) = omega arith in
    let one : with_front front (read_until G (count - i) s p) ≡ with_front (front ++ part ∷ []) (read_until G (count - (i + 1)) (G.next s part) q) = rw (k, wide, h) (regroup front part (read_until G (count - (i + 1)) (G.next s part) q)) in
    sym one ∙ so_far

stops_so : {S P : Type 0} (G : Sections S P) (front : List P) (count i : ℕ) (s : S) (p : Place) (e : Stop) (total : Result (List P × Place) Stop) → i < count → G.can_end s ≡ false → (G.form s).read p ≡ Err e → with_front front (read_until G (count - i) s p) ≡ total → total ≡ Err e
unfolding read_until
stops_so G front count i s p e total lt wide h so_far =
    let k : count - i ≡ suc (count - (i + 1)) = omega arith in
    let one : with_front front (read_until G (count - i) s p) ≡ Err e = rw (k, wide, h) refl in
    sym so_far ∙ one

pub stops : {S P : Type 0} (G : Sections S P) (e : Stop) (front : List P) (count i : ℕ) (s : S) (p : Place) (total : Result (List P × Place) Stop) → i < count → G.can_end s ≡ false → Fails e ((G.form s).read p) → with_front front (read_until G (count - i) s p) ≡ total → Fails e total
stops G NoMemory front count i s p total lt wide h so_far = tt
stops G Malformed front count i s p total lt wide h so_far = stops_so G front count i s p Malformed total lt wide h so_far
stops G TooNested front count i s p total lt wide h so_far = stops_so G front count i s p TooNested total lt wide h so_far
stops G (Unsupported a b) front count i s p total lt wide h so_far = stops_so G front count i s p (Unsupported a b) total lt wide h so_far
