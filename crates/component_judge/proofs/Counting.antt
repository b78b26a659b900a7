-- Code that is counted section by section.
use Rattle.std.proofs.Common.{◌≡◌, ◌∙◌, ℕ, zero, suc, ◌+◌, ◌-◌, ◌<◌, ◌≤◌, refl, sym, ap, List, [], ◌∷◌, length, drop, get_or, arith}
use Rattle.std.specs.Prelude.{Some, None}
use Rattle.std.proofs.lemmas.List.{drop_more, drop_all}
use Rattle.std.proofs.lemmas.Bool.{lt-ltb, le-ltb}
use Rattle.virt_base.specs.Place.{Place}
use Rattle.wasm_ast.specs.declared.component.Span.{Span}
use Rattle.wasm_ast.specs.declared.component.Section.{Section}
use Rattle.comp_grammar.specs.Trees.{plain_section, plain_sections}
use Rattle.component_judge.specs.Sizes.{section_at, head_at, counted, code_size, code_behind, module_code, cut, part_code, tree_code, capped}

-- ---- one section more of a module

none_left : (m : ℕ) (p : Place) → section_at p ≡ None → code_behind m p ≡ 0
unfolding code_behind
none_left zero p h = refl
none_left (suc m) p h = ap (λ o. counted o (λ q. code_behind m q)) h

one_more : (m : ℕ) (p q : Place) (id size : ℕ) → section_at p ≡ Some (id, size, q) → code_behind (suc m) p ≡ code_size id size + code_behind m q
unfolding code_behind
one_more m p q id size h = ap (λ o. counted o (λ r. code_behind m r)) h

pub goes_on : (n k : ℕ) (p q : Place) (id size code whole : ℕ) → k < n → section_at p ≡ Some (id, size, q) → code + code_behind (n - k) p ≡ whole
    → code + code_size id size + code_behind (n - (k + 1)) q ≡ whole
goes_on n k p q id size code whole h is so_far =
    let e : n - k ≡ suc (n - (k + 1)) = omega arith in
    let step : code_behind (n - k) p ≡ code_size id size + code_behind (n - (k + 1)) q = ap (λ m. code_behind m p) e ∙ one_more (n - (k + 1)) p q id size is in
    omega (arith, step, so_far)

pub ends : (m : ℕ) (p : Place) (code whole : ℕ) → section_at p ≡ None → code + code_behind m p ≡ whole → code ≡ whole
ends m p code whole h so_far = let none = none_left m p h in omega (arith, none, so_far)

no_turn : (p : Place) → code_behind 0 p ≡ 0
unfolding code_behind
no_turn p = refl

pub ends_last : (n k : ℕ) (p : Place) (code whole : ℕ) → n ≤ k → code + code_behind (n - k) p ≡ whole → code ≡ whole
ends_last n k p code whole h so_far =
    let e : n - k ≡ 0 = omega arith in
    let none : code_behind (n - k) p ≡ 0 = ap (λ m. code_behind m p) e ∙ no_turn p in
    omega (arith, none, so_far)

pub too_short : (bytes : List ℕ) → length bytes < 8 → 0 ≡ module_code bytes
too_short bytes h = sym (none_left (length bytes) (record { at = 8; rest = drop 8 bytes }) (ap (λ r. head_at 8 r) (drop_all 8 bytes (omega arith))))

-- ---- a part of the input

no_code : module_code [] ≡ 0
unfolding code_behind
no_code = refl

pub backwards : (span : Span) (source : List ℕ) → span.to < span.from → 0 ≡ capped (module_code (cut span source))
backwards span source h = rw (lt-ltb span.to span.from h, no_code) refl

pub past_end : (span : Span) (source : List ℕ) → span.from ≤ span.to → length source < span.to → 0 ≡ capped (module_code (cut span source))
past_end span source h k = rw (le-ltb span.to span.from h, lt-ltb (length source) span.to k, no_code) refl

-- ---- one section more of a component

pub tree_cut : (source : List ℕ) (sections : List Section) (i : ℕ) (s : Section) → i < length sections → s ≡ get_or sections i s
    → tree_code source (plain_sections (drop i sections)) ≡ part_code source (plain_section s) + tree_code source (plain_sections (drop (i + 1) sections))
tree_cut source sections i s h is = ap (λ xs. tree_code source (plain_sections xs)) (drop_more sections i s h ∙ ap (λ y. y ∷ drop (i + 1) sections) (sym is))

pub tree_end : (source : List ℕ) (sections : List Section) (i : ℕ) → length sections ≤ i → tree_code source (plain_sections (drop i sections)) ≡ 0
tree_end source sections i h = ap (λ xs. tree_code source (plain_sections xs)) (drop_all i sections h)
