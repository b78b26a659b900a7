-- Bytes that begin as those at which reading stopped spell no component, however deep.
use Rattle.std.proofs.Common.{◌≡◌, ℕ, List, ◌∷◌, ◌++◌, length, take, Result, Err, refl, sym, ap, subst, ◌∙◌, arith, inl, inr}
use Rattle.std.specs.Prelude.{max}
use Rattle.std.proofs.Math.Nat.{le-max_left, le-max_right}
use Rattle.std.proofs.lemmas.List.{take_at}
use Rattle.virt_base.specs.Place.{Place}
use Rattle.wasm_format.specs.declared.stop.Stop.{Stop}
use Rattle.wasm_format.specs.declared.stop.Stop.TheVariants.{Unsupported, TooNested}
use Rattle.comp_grammar.specs.Trees.{Tree}
use Rattle.comp_grammar.specs.Components.{component}
use Rattle.comp_grammar.proofs.DepthLaws.{deeper}
use Rattle.format_causes.specs.Causes.{Cause}
use Rattle.comp_read.specs.Causes.{CauseAtAnyDepth}
use Rattle.comp_read.proofs.ComponentCauses.{caused_component}
use Rattle.comp_read.proofs.SameReads.{SameUnlessDeep, same_deeper}

tag_is_not_depth : {A : Type 0} (r : Result A Stop) (at byte : ℕ) → r ≡ Err TooNested → r ≡ Err (Unsupported at byte) → ⊥
tag_is_not_depth r at byte e h = cc

stops_same : {A : Type 0} (r s : Result A Stop) (at byte : ℕ) → SameUnlessDeep r s → r ≡ Err (Unsupported at byte) → s ≡ Err (Unsupported at byte)
stops_same r s at byte (inl e) h = absurd (tag_is_not_depth r at byte e h)
stops_same r s at byte (inr e) h = sym e ∙ h

same_front : (x y u v all : List ℕ) → all ≡ x ++ u → all ≡ y ++ v → length x ≡ length y → x ≡ y
same_front x y u v all e h n = sym (take_at x u (length x) refl) ∙ ap (take (length x)) (sym e ∙ h) ∙ ap (λ (k : ℕ). take k (y ++ v)) n ∙ take_at y v (length y) refl

-- what is caused at one depth is at another, and of the same bytes
none_begins_so : (d e : ℕ) (p : Place) (at byte : ℕ) → (component d).read p ≡ Err (Unsupported at byte) → (c : Cause (component d) p at byte) → (t : Tree) (other : List ℕ) → (component e).Spells p.at t (c.0 ++ byte ∷ other) → ⊥
none_begins_so d e p at byte h c t other s =
    let m : ℕ = max d e in
    let stopped = stops_same ((component d).read p) ((component m).read p) at byte (same_deeper d m (le-max_left d e) p) h in
    let w = (caused_component m).caused p at byte stopped in
    let long : length c.0 ≡ length w.0 = omega (arith, c.3, w.3) in
    let same : c.0 ≡ w.0 = same_front c.0 w.0 (byte ∷ c.1) (byte ∷ w.1) p.rest c.2 w.2 long in
    let deep = deeper e m p.at t (c.0 ++ byte ∷ other) (le-max_right d e) s in
    w.4 t other (subst (λ (z : List ℕ). (component m).Spells p.at t (z ++ byte ∷ other)) same deep)

pub at_any_depth : (depth : ℕ) (p : Place) (at byte : ℕ) → (component depth).read p ≡ Err (Unsupported at byte) → CauseAtAnyDepth p at byte
at_any_depth depth p at byte h =
    let c = (caused_component depth).caused p at byte h in
    (c.0, c.1, c.2, c.3, λ t other s. none_begins_so depth s.0 p at byte h c t other s.1)
