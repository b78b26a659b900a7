-- A type that is no handle of its kind.
use Rattle.std.proofs.Common.{◌≡◌, ℕ, refl, false, List, Some}
use Rattle.wit_types.specs.declared.types.Fields.{Fields'}
use Rattle.wit_types.specs.declared.types.Cases.{Cases'}
use Rattle.wit_types.specs.declared.types.WitType.{WitType}
use Rattle.wit_types.specs.declared.types.WitType.TheVariants.{Record', Variant', Own, Borrow}
use Rattle.wit_types.specs.Plain.{Parts, More, plain}
use Rattle.comp_types.specs.Rules.{begins_with_borrow_of, is_own_of}

pub no_own : (resource : ℕ) (t : WitType) →
    ((x : ℕ) → t ≡ Own x → ⊥) →
    false ≡ is_own_of resource (Some (plain t))
unfolding plain
no_own resource (Own x) a = absurd (a x refl)
no_own resource (Record' p (Fields' s y)) a = refl
no_own resource (Variant' p (Cases' s y)) a = refl
no_own resource _ a = refl

pub no_borrow : (resource : ℕ) (name : List ℕ) (rest : Parts) (t : WitType) →
    ((x : ℕ) → t ≡ Borrow x → ⊥) →
    false ≡ begins_with_borrow_of resource (More name (plain t) rest)
unfolding plain
no_borrow resource name rest (Borrow x) a = absurd (a x refl)
no_borrow resource name rest (Record' p (Fields' s y)) a = refl
no_borrow resource name rest (Variant' p (Cases' s y)) a = refl
no_borrow resource name rest _ a = refl
