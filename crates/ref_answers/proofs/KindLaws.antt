-- Kinds by their numbers, and names among others.
use Rattle.std.proofs.Common.{◌≡◌, ℕ, zero, suc, ◌<◌, List, [], ◌∷◌, Bool, true, false, Some, map, ◌||◌, get_or, cond, option_map, refl, ap, ◌∙◌, arith}
use Rattle.std.proofs.lemmas.List.Quantifiers.{position-Some}
use Rattle.std.specs.Prelude.{position}
use Rattle.std.specs.List.{find, list_any}
use Rattle.std.specs.Str.{bytes_eq}
use Rattle.wit_types.specs.Plain.{Name}
use Rattle.wasi_table.specs.declared.kinds.TheConstants.{KINDS}
use Rattle.wasi_table.specs.declared.interface.Interface.{Interface}
use Rattle.wasi_table.specs.Plain.{plain_named, plain_interface}
use Rattle.wasi_table.specs.Types.{kind_of}
use Rattle.reference_step.specs.Listed.{homes, stands_in}
use Rattle.ref_answers.specs.declared.resources.TheConstants.{HOMES}

pub kind_below : (name : Name) (kind : ℕ) → kind_of name ≡ Some kind → kind < 14
unfolding kind_of
kind_below name kind e = (position-Some (λ w. bytes_eq w name) (map (λ w. w.now) KINDS) kind [] e).0

pub find-map : {X Y : Type 0} (f : X → Y) (p : Y → Bool) (xs : List X) → find p (map f xs) ≡ option_map f (find (λ x. p (f x)) xs)
find-map f p [] = refl
find-map f p (x ∷ xs) = elim (p (f x)) as (λ b. cond b (Some (f x)) (find p (map f xs)) ≡ option_map f (cond b (Some x) (find (λ x. p (f x)) xs))) [ true ↦ refl | false ↦ find-map f p xs ]

pub any-map : {X Y : Type 0} (f : X → Y) (p : Y → Bool) (xs : List X) → list_any p (map f xs) ≡ list_any (λ x. p (f x)) xs
any-map f p [] = refl
any-map f p (x ∷ xs) = ap (λ b. p (f x) || b) (any-map f p xs)

pub home_at : (kind : ℕ) (d : ℕ) → kind < 14 → get_or HOMES kind d ≡ get_or homes kind 0
home_at zero d lt = refl
home_at (suc zero) d lt = refl
home_at (suc (suc zero)) d lt = refl
home_at (suc (suc (suc zero))) d lt = refl
home_at (suc (suc (suc (suc zero)))) d lt = refl
home_at (suc (suc (suc (suc (suc zero))))) d lt = refl
home_at (suc (suc (suc (suc (suc (suc zero)))))) d lt = refl
home_at (suc (suc (suc (suc (suc (suc (suc zero))))))) d lt = refl
home_at (suc (suc (suc (suc (suc (suc (suc (suc zero)))))))) d lt = refl
home_at (suc (suc (suc (suc (suc (suc (suc (suc (suc zero))))))))) d lt = refl
home_at (suc (suc (suc (suc (suc (suc (suc (suc (suc (suc zero)))))))))) d lt = refl
home_at (suc (suc (suc (suc (suc (suc (suc (suc (suc (suc (suc zero))))))))))) d lt = refl
home_at (suc (suc (suc (suc (suc (suc (suc (suc (suc (suc (suc (suc zero)))))))))))) d lt = refl
home_at (suc (suc (suc (suc (suc (suc (suc (suc (suc (suc (suc (suc (suc zero))))))))))))) d lt = refl
home_at (suc (suc (suc (suc (suc (suc (suc (suc (suc (suc (suc (suc (suc (suc n)))))))))))))) d lt = absurd (omega arith)

-- a name in an interface
module _ (name : Name) (i : Interface) where
  abbrev Defines : Bool → Type 0
  Defines b = list_any (λ t. bytes_eq t.name name) i.types ≡ b

  defined : (b : Bool) → Defines b → list_any (λ t. bytes_eq t.name name) (map plain_named i.types) ≡ b
  defined b e = any-map plain_named (λ t. bytes_eq t.name name) i.types ∙ e

  pub stands_own : Defines true → true ≡ stands_in name (plain_interface i)
  stands_own e = let own = defined true e in rw own refl

  pub stands_used : Defines false → list_any (λ u. bytes_eq u.name name) i.uses ≡ stands_in name (plain_interface i)
  stands_used e = let other = defined false e in rw other refl
