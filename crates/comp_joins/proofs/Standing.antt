-- What stands in a group is settled.
use Rattle.std.proofs.Common.{◌≡◌, ℕ, ◌+◌, ◌<◌, cond, List, [], ◌∷◌, Some, None, refl, sym, ◌∙◌, ap, arith}
use Rattle.comp_worlds.specs.Groups.{Target, Mine, Theirs, Func, LoweredFunc, ResourceNew, ResourceDrop, ResourceRep}
use Rattle.comp_types.specs.GivenResources.{named_in_func}
use Rattle.comp_link.specs.Linking.{Owned, Whole, canon_in, owner_in}
use Rattle.comp_joins.proofs.Names.{each_then}
use Rattle.comp_joins.specs.Joining.{or_else}
use Rattle.comp_joins.specs.Holding.{Holds}
use Rattle.comp_joins.proofs.Held.{canon_held}
use Rattle.comp_joins.proofs.Lists.{or_none, canon_append, owner_append, unlike}
use Rattle.comp_joins.specs.Growing.{AreFrom, Grows}
use Rattle.comp_joins.specs.Settled.{TargetNames, FuncNames, IsOwnedAlike}
use Rattle.comp_joins.specs.SettledLaws.{WhatStandsIsSettled}

-- none of these is in front of the first
later : (first next : ℕ) (os : List Owned) (r : ℕ) → AreFrom first os next → r < first → owner_in os r ≡ None
later first next [] r h less = refl
later first next (o ∷ os) r h less =
    let at : o.resource ≡ first = h.0 in
    ap (λ b. cond b (Some o.owner) (owner_in os r)) (unlike o.resource r (λ same. let e : o.resource ≡ r = same in absurd (omega (arith, at, less, e))))
    ∙ later (first + 1) next os r h.1 (omega (arith, less))

owned_alike : (w whole : Whole) → Grows w whole → (r : ℕ) → r < w.next_resource → IsOwnedAlike w whole r
owned_alike w whole g r less =
    sym (ap (λ os. owner_in os r) g.owners_behind
    ∙ owner_append w.owners g.owners r
    ∙ ap (or_else (owner_in w.owners r)) (later w.next_resource whole.next_resource g.owners r g.numbers less)
    ∙ or_none (owner_in w.owners r))

there : (w whole : Whole) → Grows w whole → (k n : ℕ) (f : Func) → canon_in w.canons k n ≡ Some f → canon_in whole.canons k n ≡ Some f
there w whole g k n f is =
    ap (λ ps. canon_in ps k n) g.canons_behind
    ∙ canon_append w.canons g.canons k n
    ∙ ap (λ o. or_else o (canon_in g.canons k n)) is

target_then : (P Q : ℕ → Type 0) → ((r : ℕ) → P r → Q r) → (t : Target) → TargetNames P t → TargetNames Q t
target_then P Q by (Mine k lifting) h = each_then P Q by (named_in_func lifting.ty) h
target_then P Q by (Theirs import) h = tt

func_then : (P Q : ℕ → Type 0) → ((r : ℕ) → P r → Q r) → (f : Func) → FuncNames P f → FuncNames Q f
func_then P Q by (LoweredFunc target options) h = target_then P Q by target h
func_then P Q by (ResourceNew r) h = by r h
func_then P Q by (ResourceDrop r) h = by r h
func_then P Q by (ResourceRep r) h = by r h

pub settled : WhatStandsIsSettled
settled m whole below grows =
    let P : ℕ → Type 0 = λ r. r < m.whole.next_resource in
    let held : Holds P (TargetNames P) m = below m.whole.next_resource (omega arith) in
    record {
      canons = λ k n f is. (
        there m.whole whole.whole grows k n f is,
        func_then P (IsOwnedAlike m.whole whole.whole) (λ r less. owned_alike m.whole whole.whole grows r less) f (canon_held P (TargetNames P) m.whole.canons k n f held.4 is),
      );
    }
