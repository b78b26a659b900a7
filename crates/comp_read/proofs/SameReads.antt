-- Reading with more components in one another is the same, unless it was too nested.
use Rattle.std.proofs.Common.{◌≡◌, ℕ, zero, suc, ◌+◌, ◌≤◌, Bool, true, false, cond, eqb, ltb, List, [], ◌∷◌, length, take, drop, Result, Ok, Err, ◌⊎◌, refl, ap, subst, arith, inl, inr}
use Rattle.virt_base.specs.Place.{Place}
use Rattle.wasm_format.specs.declared.stop.Stop.{Stop}
use Rattle.wasm_format.specs.declared.stop.Stop.TheVariants.{Malformed, TooNested}
use Rattle.wasm_format.specs.Format.{Format, ◌>>=◌, choose, read_tagged, both, spanned, fixed, u32_format, whole, read_within, sized}
use Rattle.wasm_format.specs.Sections.{Run, after_part, run, ended}
use Rattle.comp_grammar.specs.Trees.{Part, Tree, End, Nested}
use Rattle.comp_grammar.specs.Components.{beside, placed, nested_section, low_section, high_section, section, add, sections, preamble, all_sections, component_over, component}

-- the second is what the first is, unless that is too nested
abbrev pub SameUnlessDeep : {A : Type 0} → Result A Stop → Result A Stop → Type 0
SameUnlessDeep r s = (r ≡ Err TooNested) ⊎ (r ≡ s)

abbrev pub ReadsSame : {A : Type 0} → Format A → Format A → Type 0
ReadsSame F G = (p : Place) → SameUnlessDeep (F.read p) (G.read p)

bind_same : {A B : Type 0} (r : Result A Stop) (f g : A → Result B Stop) → ((x : A) → SameUnlessDeep (f x) (g x)) → SameUnlessDeep (r >>= f) (r >>= g)
bind_same (Ok x) f g h = h x
bind_same (Err e) f g h = inr refl

then_same : {A B : Type 0} (r s : Result A Stop) (f : A → Result B Stop) → SameUnlessDeep r s → SameUnlessDeep (r >>= f) (s >>= f)
then_same r s f (inl e) = inl (rw e refl)
then_same r s f (inr e) = inr (ap (λ (z : Result _ Stop). z >>= f) e)

cond_same : {A : Type 0} (b : Bool) (x r s : Result A Stop) → SameUnlessDeep r s → SameUnlessDeep (cond b x r) (cond b x s)
cond_same true x r s h = inr refl
cond_same false x r s h = h

same_within : (F G : Format Tree) → ReadsSame F G → (size : ℕ) (p : Place) → SameUnlessDeep (read_within (spanned beside F) size p) (read_within (spanned beside G) size p)
same_within F G f size p =
    let inside : Place = record { at = p.at; rest = take size p.rest } in
    let rest = drop size p.rest in
    cond_same (ltb (length p.rest) size) (Err Malformed) ((spanned beside F).read inside >>= λ a. whole (p.at + size) rest a) ((spanned beside G).read inside >>= λ a. whole (p.at + size) rest a)
    (then_same ((spanned beside F).read inside) ((spanned beside G).read inside) (λ a. whole (p.at + size) rest a)
    (then_same (F.read inside) (G.read inside) (λ a. Ok (beside inside.at a.1.at a.0, a.1)) (f inside)))

same_nested : (F G : Format Tree) → ReadsSame F G → ReadsSame (nested_section F) (nested_section G)
unfolding nested_section placed
same_nested F G f p =
    then_same ((sized (spanned beside F)).read p) ((sized (spanned beside G)).read p) (λ a. Ok (Nested a.0.0 a.0.1, a.1))
    (bind_same (u32_format.read p) (λ n. read_within (spanned beside F) n.0 n.1) (λ n. read_within (spanned beside G) n.0 n.1) (λ n. same_within F G f n.0 n.1))

same_choice : (b : Bool) (F G H : Format Part) → ReadsSame F G → ReadsSame (choose b F H) (choose b G H)
same_choice true F G H f p = f p
same_choice false F G H f p = inr refl

same_tagged : (form other : ℕ → Format Part) → ((b : ℕ) → ReadsSame (form b) (other b)) → (at : ℕ) (rest : List ℕ) → SameUnlessDeep (read_tagged form at rest) (read_tagged other at rest)
same_tagged form other f at [] = inr refl
same_tagged form other f at (b ∷ rest) = f b (record { at = at + 1; rest = rest })

same_section : (F G : Format Tree) → ReadsSame F G → ReadsSame (section F) (section G)
unfolding section
same_section F G f p =
    let flat : ℕ → Format Part = λ b. choose (ltb b 5) (low_section b) (high_section b) in
    same_tagged (λ b. choose (eqb b 4) (nested_section F) (flat b)) (λ b. choose (eqb b 4) (nested_section G) (flat b))
    (λ b. same_choice (eqb b 4) (nested_section F) (nested_section G) (flat b) (same_nested F G f)) p.at p.rest

one_part : (good : ℕ) (r : Result (Part × Place) Stop) (f g : Part × Place → Run Tree) → ((x : Part × Place) → SameUnlessDeep (f x).outcome (g x).outcome) → SameUnlessDeep (after_part good r f).outcome (after_part good r g).outcome
one_part good (Ok x) f g h = h x
one_part good (Err e) f g h = inr refl

subst_part : (good : ℕ) (r s : Result (Part × Place) Stop) (f g : Part × Place → Run Tree) → r ≡ s → ((x : Part × Place) → SameUnlessDeep (f x).outcome (g x).outcome) → SameUnlessDeep (after_part good r f).outcome (after_part good s g).outcome
subst_part good r s f g e h = subst (λ (z : Result (Part × Place) Stop). SameUnlessDeep (after_part good r f).outcome (after_part good z g).outcome) e (one_part good r f g h)

same_part : (good : ℕ) (r s : Result (Part × Place) Stop) (f g : Part × Place → Run Tree) → SameUnlessDeep r s → ((x : Part × Place) → SameUnlessDeep (f x).outcome (g x).outcome) → SameUnlessDeep (after_part good r f).outcome (after_part good s g).outcome
same_part good r s f g (inl e) h = inl (rw e refl)
same_part good r s f g (inr e) h = subst_part good r s f g e h

same_run : (F G : Format Tree) → ReadsSame F G → (fuel : ℕ) (s : Tree) (good at : ℕ) (rest : List ℕ) → SameUnlessDeep (run (sections F) fuel s good at rest).outcome (run (sections G) fuel s good at rest).outcome
unfolding run sections
same_run F G f fuel s good at [] = inr refl
same_run F G f zero s good at (b ∷ rest) = inr refl
same_run F G f (suc fuel) s good at (b ∷ rest) =
    let here : Place = record { at = at; rest = b ∷ rest } in
    same_part at ((section F).read here) ((section G).read here) (λ x. run (sections F) fuel (add s x.0) at x.1.at x.1.rest) (λ x. run (sections G) fuel (add s x.0) at x.1.at x.1.rest)
    (same_section F G f here) (λ x. same_run F G f fuel (add s x.0) at x.1.at x.1.rest)

same_end : (p : Place) (r s : Result Tree Stop) → SameUnlessDeep r s → SameUnlessDeep (ended p r) (ended p s)
same_end p r s (inl e) = inl (rw e refl)
same_end p r s (inr e) = inr (ap (ended p) e)

same_over : (F G : Format Tree) → ReadsSame F G → ReadsSame (component_over F) (component_over G)
unfolding all_sections
same_over F G f p =
    let front = fixed {A = Unit {0}} preamble tt in
    then_same ((both front (all_sections F)).read p) ((both front (all_sections G)).read p) (λ a. Ok (a.0.1, a.1))
    (bind_same (front.read p) (λ a. (all_sections F).read a.1 >>= λ b. Ok ((a.0, b.0), b.1)) (λ a. (all_sections G).read a.1 >>= λ b. Ok ((a.0, b.0), b.1))
    (λ a. then_same ((all_sections F).read a.1) ((all_sections G).read a.1) (λ b. Ok ((a.0, b.0), b.1))
    (same_end a.1 (run (sections F) (length a.1.rest) End 0 a.1.at a.1.rest).outcome (run (sections G) (length a.1.rest) End 0 a.1.at a.1.rest).outcome (same_run F G f (length a.1.rest) End 0 a.1.at a.1.rest))))

pub same_deeper : (n m : ℕ) → n ≤ m → ReadsSame (component n) (component m)
unfolding component
same_deeper zero m h p = inl refl
same_deeper (suc n) zero h p = absurd (omega (arith, h))
same_deeper (suc n) (suc m) h p = same_over (component n) (component m) (same_deeper n m (omega (arith, h))) p
