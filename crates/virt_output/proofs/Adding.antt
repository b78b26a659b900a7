-- A component with one section more, at its end.
use Rattle.std.proofs.Common.{◌≡◌, ℕ, zero, suc, ◌+◌, ◌≤◌, List, [], ◌∷◌, ◌++◌, length, refl, sym, ap, subst, ◌∙◌, append_assoc, arith}
use Rattle.std.proofs.lemmas.List.{length-append, append-nil}
use Rattle.wasm_format.specs.Format.{Format}
use Rattle.wasm_format.specs.Sections.{SectionsSpell, built}
use Rattle.comp_grammar.specs.Trees.{Part, Tree, End, More}
use Rattle.comp_grammar.specs.Components.{add, section, sections, preamble, all_sections, component}
use Rattle.comp_grammar.proofs.DepthLaws.{deeper}
use Rattle.comp_write.specs.Copying.{bare_part, bare, SpellsBare}
use Rattle.comp_write.proofs.SectionFloats.{Floated}

bare_add : (t : Tree) (part : Part) → bare (add t part) ≡ add (bare t) (bare_part part)
unfolding bare
bare_add End part = refl
bare_add (More first rest) part = ap (More (bare_part first)) (bare_add rest part)

one_more : (inner : Format Tree) (parts : List Part) (q : Part) (s : Tree) (at : ℕ) (body piece : List ℕ) → SectionsSpell (sections inner) s at parts body → (section inner).Spells (at + length body) q piece
    → SectionsSpell (sections inner) s at (parts ++ q ∷ []) (body ++ piece)
unfolding sections
one_more inner [] q s at body piece w h =
    let here : at + length body ≡ at = omega (arith, ap length w) in
    (piece, [], subst (λ (k : ℕ). (section inner).Spells k q piece) here h, refl, ap (λ (z : List ℕ). z ++ piece) w ∙ sym (append-nil piece))
one_more inner (p ∷ parts) q s at body piece w h =
    let far : at + length body ≡ at + length w.0 + length w.1 = omega (arith, ap length w.4, length-append w.0 w.1) in
    let rest = one_more inner parts q (add s p) (at + length w.0) w.1 piece w.3 (subst (λ (k : ℕ). (section inner).Spells k q piece) far h) in
    (w.0, w.1 ++ piece, w.2, rest, ap (λ (z : List ℕ). z ++ piece) w.4 ∙ append_assoc w.0 w.1 piece)

built_more : (inner : Format Tree) (parts : List Part) (q : Part) (s : Tree) → built (sections inner) s (parts ++ q ∷ []) ≡ add (built (sections inner) s parts) q
unfolding sections
built_more inner [] q s = refl
built_more inner (p ∷ parts) q s = built_more inner parts q (add s p)

-- The bytes spell the section at every offset, up to places; components in it are at most so deep.
abbrev pub SpellsSection : ℕ → Part → List ℕ → Type 0
SpellsSection depth part text = (at : ℕ) → Floated (section (component depth)) at part text

add_within : (depth : ℕ) (t u : Tree) (part : Part) (out piece : List ℕ) → SpellsSection depth part piece → (component (suc depth)).Spells 0 u out → bare u ≡ bare t → SpellsBare 0 (add t part) (out ++ piece)
unfolding component all_sections sections
add_within depth t u part out piece p s same =
    let inner : Format Tree = component depth in
    let pair = s.2 in
    let parts : List Part = pair.3.0 in
    let one = p (0 + length pair.0 + length pair.1) in
    let all : List Part = parts ++ one.0 ∷ [] in
    let v : Tree = built (sections inner) End all in
    let so_far : bare (built (sections inner) End parts) ≡ bare t = ap bare (pair.3.2 ∙ sym s.1) ∙ same in (
      v,
      (
        suc depth,
        (
          (tt, v),
          refl {a = v},
          (
            pair.0,
            pair.1 ++ piece,
            (refl {a = tt}, pair.2.1),
            (all, one_more inner parts one.0 End (0 + length pair.0) pair.1 piece pair.3.1 one.1, refl {a = v}, refl),
            ap (λ (z : List ℕ). z ++ piece) pair.4 ∙ append_assoc pair.0 pair.1 piece,
          ),
        ),
      ),
      ap bare (built_more inner parts one.0 End) ∙ bare_add (built (sections inner) End parts) one.0 ∙ ap (λ (z : Tree). add z (bare_part one.0)) so_far ∙ ap (add (bare t)) one.2 ∙ sym (bare_add t part),
    )

-- a bound on the depth of what was written
at_depth : (d : ℕ) (u : Tree) (out : List ℕ) → (component d).Spells 0 u out → (least : ℕ) × ((depth : ℕ) → least ≤ depth → (component (suc depth)).Spells 0 u out)
unfolding component
at_depth zero u out s = absurd s
at_depth (suc d) u out s = (d, λ depth h. deeper (suc d) (suc depth) 0 u out (omega (arith, h)) s)

-- where the bytes so far spell a component, and those of a section may hold components of any greater depth
pub added : (t : Tree) (part : Part) (out piece : List ℕ) → ((least : ℕ) → (depth : ℕ) × (least ≤ depth) × SpellsSection depth part piece) → SpellsBare 0 t out → SpellsBare 0 (add t part) (out ++ piece)
added t part out piece p s =
    let low = at_depth s.1.0 s.0 out s.1.1 in
    let w = p low.0 in
    add_within w.0 t s.0 part out piece w.2 (low.1 w.0 w.1) s.2

pub begun : (out : List ℕ) → out ≡ preamble → SpellsBare 0 End out
unfolding component all_sections sections bare
begun out e = (End, (suc zero, ((tt, End), refl {a = End}, (preamble, [], (refl {a = tt}, refl {a = preamble}), ([], refl, refl, refl), e))), refl)
