-- Two that come to the same end after finitely many steps show the same.
use Rattle.std.proofs.Common.{◌≡◌, ℕ, ◌+◌, ◌-◌, Bool, sym, subst, arith}
use native.Mathlib.Decide.{dec_le}
use Rattle.comp_worlds.specs.Acts.{Out, Next, Over, Spent, seen_of, IsPrefixOf, Extends}
use Rattle.comp_worlds.specs.Groups.{Endless, Group, Due, Ports}
use Rattle.comp_worlds.specs.Laws.{PortsGrow}
use Rattle.comp_worlds.specs.Related.{Both, one_of, two_of, passed_over, Alike, Meet, Related}
use Rattle.comp_worlds.proofs.Similar.{Matches, Flip, Follows, Similar}
use Rattle.comp_worlds.proofs.Answering.{Simulates}

abbrev pub Growing : {W A : Type 0} → (ℕ → Out W A) → Type 0
Growing x = (n k : ℕ) → Extends k (x n) (x (k + n))

module _ {W A V B : Type 0} (P : W → A → V → B → Type 0) where
  alike_seen : (x : Out W A) (y : Out V B) → Alike P x y → seen_of x ≡ seen_of y
  alike_seen (Next o l w a) (Next o' l' v b) h = h.0
  alike_seen (Over o e) (Over o' e') h = cc (h.0, h.1)
  alike_seen (Next o l w a) (Over o' e) h = absurd h
  alike_seen (Next o l w a) (Spent o') h = absurd h
  alike_seen (Over o e) (Next o' l w a) h = absurd h
  alike_seen (Over o e) (Spent o') h = absurd h
  alike_seen (Spent o) y h = absurd h

  -- with fewer steps
  before_alike : (k : ℕ) (x x' : Out W A) (y : Out V B) → Extends k x x' → Alike P x' y → Matches P x y
  before_alike k (Next o l w a) x' y e h = at y (subst (λ z. Alike P z y) e h)
    where
      at : (y' : Out V B) → Alike P (Next o (k + l) w a) y' → Matches P (Next o l w a) y'
      at (Next o' l' v b) h' = h'
      at (Over o' e') h' = h'
      at (Spent o') h' = h'
  before_alike k (Over o e') x' y e h = at y (subst (λ z. Alike P z y) e h)
    where
      at : (y' : Out V B) → Alike P (Over o e') y' → Matches P (Over o e') y'
      at (Next o' l' v b) h' = h'
      at (Over o' e'') h' = h'
      at (Spent o') h' = h'
  before_alike k (Spent o) x' y e h = subst (IsPrefixOf o) (alike_seen x' y h) e

  -- with more
  after_alike : (k : ℕ) (x x' : Out W A) (y : Out V B) → Extends k x x' → Alike P x y → Matches P x' y
  after_alike k (Next o l w a) x' (Next o' l' v b) e h = subst (λ z. Matches P z (Next o' l' v b)) (sym e) h
  after_alike k (Over o e') x' (Over o' e'') e h = subst (λ z. Matches P z (Over o' e'')) (sym e) h
  after_alike k (Next o l w a) x' (Over o' e') e h = absurd h
  after_alike k (Next o l w a) x' (Spent o') e h = absurd h
  after_alike k (Over o e') x' (Next o' l w a) e h = absurd h
  after_alike k (Over o e') x' (Spent o') e h = absurd h
  after_alike k (Spent o) x' y e h = absurd h

  meet_follows : (x : ℕ → Out W A) (y : ℕ → Out V B) → Growing x → Meet P x y → Follows P x y
  meet_follows x y g h n = elim (dec_le n h.0) [
    | yes le ↦ (h.1, before_alike (h.0 - n) (x n) (x h.0) (y h.1) (subst (λ i. Extends (h.0 - n) (x n) (x i)) (omega arith) (g n (h.0 - n))) h.2)
    | no more ↦ (h.1, after_alike (n - h.0) (x h.0) (x n) (y h.1) (subst (λ i. Extends (n - h.0) (x h.0) (x i)) (omega arith) (g h.0 (n - h.0))) h.2)
  ]

alike_flip : {W A V B : Type 0} → (P : W → A → V → B → Type 0) (x : Out W A) (y : Out V B) → Alike P x y → Alike (Flip P) y x
alike_flip P (Next o l w a) (Next o' l' v b) h = (sym h.0, h.1)
alike_flip P (Over o e) (Over o' e') h = (sym h.0, sym h.1)
alike_flip P (Next o l w a) (Over o' e) h = absurd h
alike_flip P (Next o l w a) (Spent o') h = absurd h
alike_flip P (Over o e) (Next o' l w a) h = absurd h
alike_flip P (Over o e) (Spent o') h = absurd h
alike_flip P (Spent o) y h = absurd h

pub meet_similar : {W A V B : Type 0} → (D : ℕ) (P : W → A → V → B → Type 0) (x : ℕ → Out W A) (y : ℕ → Out V B) → Growing x → Growing y → Meet P x y → Similar D P (λ d. x) (λ d. y)
meet_similar D P x y g g' h = record {
  first = meet_follows P x y g h;
  second = meet_follows (Flip P) y x g' (h.1, h.0, alike_flip P (x h.0) (y h.1) h.2);
  grows = λ D' n k le. g n k;
  grows' = λ D' n k le. g' n k;
}

pub related_simulates : {S T : Type 0} → (G : Group) (host : ℕ → Bool) (p : Ports S) (q : Ports T) (idle : S → T → Type 0) (answered : S → Due → T → Due → Type 0) (live : S → T → ℕ → Both → Type 0) → PortsGrow p → PortsGrow q → Related G host p q idle answered live → Simulates G host p q idle answered live
related_simulates G host p q idle answered live g g' rel = record {
  asks = λ D from s t import passed asked st typed all each once apart. meet_similar D _ _ _ (g.ask Endless from import (passed_over one_of passed) s) (g'.ask Endless from import (passed_over two_of passed) t) (rel.asks from s t import passed asked st typed all each once apart);
  leaves = λ D s due t due' st. meet_similar D _ _ _ (g.leave Endless due s) (g'.leave Endless due' t) (rel.leaves s due t due' st);
  drops = λ D s t r x dropped none st good. meet_similar D _ _ _ (g.drop Endless (G.imported r) x.one s) (g'.drop Endless (G.imported r) x.two t) (rel.drops s t r x dropped none st good);
}
