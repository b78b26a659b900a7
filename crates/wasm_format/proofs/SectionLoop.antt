-- Reading sections one after the other, as a loop does.
use Rattle.std.proofs.Common.{◌≡◌, ℕ, suc, ◌-◌, ◌+◌, ◌≤◌, ◌<◌, true, false, List, [], ◌∷◌, length, Ok, Err, refl, sym, ap, ◌∙◌, arith}
use Rattle.wasm_format.specs.declared.stop.Stop.{Stop}
use Rattle.wasm_format.specs.declared.stop.Stop.TheVariants.{NoMemory, Malformed, Unsupported, TooNested}
use Rattle.virt_base.specs.Place.{Place}
use Rattle.wasm_format.specs.Reads.{Fails}
use Rattle.wasm_format.specs.Sections.{Sections, Run, good_at, run, Ran}

pub not_here : {S P : Type 0} (G : Sections S P) (s : S) (good at : ℕ) (rest : List ℕ) → G.can_end s ≡ false → run G 0 s good at rest ≡ record { good = good; outcome = Err Malformed }
unfolding run
not_here G s good at [] e = rw e refl
not_here G s good at (b ∷ rest) e = rw e refl

pub not_yet : {S P : Type 0} (G : Sections S P) (s : S) (good at : ℕ) (rest : List ℕ) → G.can_end s ≡ true → 0 < length rest → run G 0 s good at rest ≡ record { good = at; outcome = Err Malformed }
unfolding run
not_yet G s good at [] e h = absurd (omega (arith, h))
not_yet G s good at (b ∷ rest) e h = rw e refl

pub here : {S P : Type 0} (G : Sections S P) (s : S) (good at : ℕ) (rest : List ℕ) → G.can_end s ≡ true → length rest ≡ 0 → run G 0 s good at rest ≡ record { good = at; outcome = Ok s }
unfolding run
here G s good at [] e h = rw e refl
here G s good at (b ∷ rest) e h = absurd (omega (arith, h))

-- at the end of the bytes it doesn't matter how many sections may follow
pub any_count : {S P : Type 0} (G : Sections S P) (n : ℕ) (s : S) (good at : ℕ) (rest : List ℕ) → length rest ≡ 0 → run G 0 s good at rest ≡ run G n s good at rest
unfolding run
any_count G n s good at [] h = refl
any_count G n s good at (b ∷ rest) h = absurd (omega (arith, h))

-- after the last turn no more sections may follow
pub last_count : {S P : Type 0} (G : Sections S P) (count i : ℕ) (s : S) (good at : ℕ) (rest : List ℕ) → count ≤ i → run G 0 s good at rest ≡ run G (count - i) s good at rest
last_count G count i s good at rest le =
    let none : 0 ≡ count - i = omega arith in
    ap (λ (n : ℕ). run G n s good at rest) none

pub goes_on : {S P : Type 0} (G : Sections S P) (count i : ℕ) (s : S) (good at : ℕ) (rest : List ℕ) (part : P) (q : Place) (total : Run S) → i < count → 0 < length rest → (G.form s).read (record { at = at; rest = rest }) ≡ Ok (part, q)
    → run G (count - i) s good at rest ≡ total → run G (count - (i + 1)) (G.next s part) (good_at G s good at) q.at q.rest ≡ total
unfolding run
goes_on G count i s good at [] part q total lt h e so_far = absurd (omega (arith, h))
goes_on G count i s good at (b ∷ rest) part q total lt h e so_far =
    let k : count - i ≡ suc (count - (i + 1)) = omega arith in
    let one : run G (count - i) s good at (b ∷ rest) ≡ run G (count - (i + 1)) (G.next s part) (good_at G s good at) q.at q.rest = rw (k, e) refl in
    sym one ∙ so_far

stops_so : {S P : Type 0} (G : Sections S P) (count i : ℕ) (s : S) (good at : ℕ) (rest : List ℕ) (e : Stop) (total : Run S) → i < count → 0 < length rest → (G.form s).read (record { at = at; rest = rest }) ≡ Err e
    → run G (count - i) s good at rest ≡ total → total ≡ record { good = good_at G s good at; outcome = Err e }
unfolding run
stops_so G count i s good at [] d total lt h e so_far = absurd (omega (arith, h))
stops_so G count i s good at (b ∷ rest) d total lt h e so_far =
    let k : count - i ≡ suc (count - (i + 1)) = omega arith in
    let one : run G (count - i) s good at (b ∷ rest) ≡ record { good = good_at G s good at; outcome = Err d } = rw (k, e) refl in
    sym so_far ∙ one

pub stops : {S P : Type 0} (G : Sections S P) (e : Stop) (count i : ℕ) (s : S) (good at : ℕ) (rest : List ℕ) (n : ℕ) (total : Run S) → i < count → 0 < length rest → Fails e ((G.form s).read (record { at = at; rest = rest }))
    → run G (count - i) s good at rest ≡ total → n ≡ good_at G s good at → Ran (Err e) n total
stops G NoMemory count i s good at rest n total lt h e so_far n-is = tt
stops {S} G Malformed count i s good at rest n total lt h e so_far n-is = stops_so G count i s good at rest Malformed total lt h e so_far ∙ ap (λ (k : ℕ). record { good = k; outcome = Err Malformed }) (sym n-is)
stops {S} G TooNested count i s good at rest n total lt h e so_far n-is = stops_so G count i s good at rest TooNested total lt h e so_far ∙ ap (λ (k : ℕ). record { good = k; outcome = Err TooNested }) (sym n-is)
stops {S} G (Unsupported a b) count i s good at rest n total lt h e so_far n-is = stops_so G count i s good at rest (Unsupported a b) total lt h e so_far ∙ ap (λ (k : ℕ). record { good = k; outcome = Err (Unsupported a b) }) (sym n-is)
