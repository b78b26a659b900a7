-- What is judged of the rest of a section of types, with an item in front or an instance type closed.
use Rattle.std.proofs.Common.{◌≡◌, refl, sym, subst, ℕ, zero, suc, List, [], ◌∷◌, Option, Some, None, inl, inr}
use Rattle.std.specs.Prelude.{IsTrue}
use Rattle.wasm_ast.specs.declared.component.TypeDef.{TypeDef}
use Rattle.wasm_ast.specs.declared.component.TypeDef.TheVariants as defs
use Rattle.wasm_ast.specs.declared.component.TypeItem.{TypeItem}
use Rattle.wasm_ast.specs.declared.component.TypeItem.TheVariants as items
use Rattle.wasm_ast.specs.KeptTypes.{declaration_count}
use Rattle.comp_types.specs.Declarations.{Declaration, Declarations, ATypeDef, AnInstanceType, ATypeAlias, ATypeExport, Done, Then, first_of, behind, defined, grouped}
use Rattle.comp_types.specs.Spaces.{Space}
use Rattle.comp_types.specs.Added.{opened, instance_type, after_declaration, after_declarations}
use Rattle.comp_types.specs.Rules.{is_within_limits}
use Rattle.comp_types.specs.Validity.{IsValidDeclaration, BreaksDeclaration}
use Rattle.comp_defining.specs.declared.scopes.Scopes.{Scopes}
use Rattle.comp_validate.specs.Closing.{closed}
use Rattle.comp_validate.specs.Stack.{IsReady, one_less}
use Rattle.comp_validate.specs.Rest.{in_front, alone, item_count, Wholly, Rest}

-- ---- a declaration in front

pub rest_valid : (counts : List ℕ) (around : List Space) (s : Space) (d : Declaration) (ds : Declarations) (x : Scopes) (answer : Option ℕ) → IsReady counts → IsValidDeclaration around s d
    → Rest (one_less counts) around (after_declaration around s d) ds x answer → Rest counts around s (Then d ds) x answer
rest_valid [] around s d ds x None ready v h = ((v, h.0), h.1)
rest_valid [] around s d ds x (Some rule) ready v h = inr (v, h)
rest_valid (zero ∷ counts) around s d ds x answer ready v h = absurd ready
rest_valid (suc n ∷ counts) [] s d ds x answer ready v h = tt
rest_valid (suc n ∷ counts) (t ∷ around) s d ds x None ready v h = (((v, h.0.0), h.0.1), h.1)
rest_valid (suc n ∷ counts) (t ∷ around) s d ds x (Some rule) ready v (inl broken) = inl (inr (v, broken))
rest_valid (suc n ∷ counts) (t ∷ around) s d ds x (Some rule) ready v (inr (inl deep)) = inr (inl ((v, deep.0), deep.1, deep.2))
rest_valid (suc n ∷ counts) (t ∷ around) s d ds x (Some rule) ready v (inr (inr later)) = inr (inr (((v, later.0.0), later.0.1), later.1))

pub rest_broken : (counts : List ℕ) (around : List Space) (s : Space) (d : Declaration) (ds : Declarations) (x : Scopes) (rule : ℕ) → IsReady counts → BreaksDeclaration around s d rule → Rest counts around s (Then d ds) x (Some rule)
rest_broken [] around s d ds x rule ready b = inl b
rest_broken (zero ∷ counts) around s d ds x rule ready b = absurd ready
rest_broken (suc n ∷ counts) [] s d ds x rule ready b = tt
rest_broken (suc n ∷ counts) (t ∷ around) s d ds x rule ready b = inl (inl b)

-- ---- an instance type is opened

pub rest_opened : (n : ℕ) (counts : List ℕ) (around : List Space) (s : Space) (ds : Declarations) (x : Scopes) (answer : Option ℕ) → IsReady counts
    → Rest (n ∷ one_less counts) (s ∷ around) (opened s) ds x answer → Rest counts around s (Then (AnInstanceType (first_of n ds)) (behind n ds)) x answer
rest_opened n counts around s ds x None ready h = rest_valid counts around s (AnInstanceType (first_of n ds)) (behind n ds) x None ready h.0 h.1
rest_opened n counts around s ds x (Some rule) ready (inl broken) = rest_broken counts around s (AnInstanceType (first_of n ds)) (behind n ds) x rule ready (inl broken)
rest_opened n counts around s ds x (Some rule) ready (inr (inl deep)) = rest_broken counts around s (AnInstanceType (first_of n ds)) (behind n ds) x rule ready (inr deep)
rest_opened n counts around s ds x (Some rule) ready (inr (inr later)) = rest_valid counts around s (AnInstanceType (first_of n ds)) (behind n ds) x (Some rule) ready later.0 later.1

-- ---- an instance type is closed

pub wholly_sound : (around : List Space) (s : Space) (later : Option ℕ → Type 0) (answer : Option ℕ) → IsTrue (is_within_limits (instance_type s)) → later answer → Wholly around s Done later answer
wholly_sound around s later None w h = ((tt, w), h)
wholly_sound around s later (Some rule) w h = inr (inr ((tt, w), h))

pub wholly_deep : (around : List Space) (s : Space) (later : Option ℕ → Type 0) (rule : ℕ) → rule ≡ 10 → (IsTrue (is_within_limits (instance_type s)) → ⊥) → Wholly around s Done later (Some rule)
wholly_deep around s later rule e deep = inr (inl (tt, e, deep))

pub rest_closed : (counts : List ℕ) (around : List Space) (t s : Space) (ds : Declarations) (x : Scopes) (answer : Option ℕ) → IsTrue (is_within_limits (instance_type s))
    → Rest counts around (closed t s) ds x answer → Rest (zero ∷ counts) (t ∷ around) s ds x answer
rest_closed counts around t s ds x answer w h = wholly_sound (t ∷ around) s (Rest counts around (closed t s) ds x) answer w h

pub rest_deep : (counts : List ℕ) (around : List Space) (t s : Space) (ds : Declarations) (x : Scopes) (rule : ℕ) → rule ≡ 10 → (IsTrue (is_within_limits (instance_type s)) → ⊥)
    → Rest (zero ∷ counts) (t ∷ around) s ds x (Some rule)
rest_deep counts around t s ds x rule e deep = wholly_deep (t ∷ around) s (Rest counts around (closed t s) ds x) rule e deep

-- where no declarations are left, any count is too large
pub end_closed : (n : ℕ) (counts : List ℕ) (around : List Space) (t s : Space) (x : Scopes) (answer : Option ℕ) → IsTrue (is_within_limits (instance_type s))
    → Rest counts around (closed t s) Done x answer → Rest (n ∷ counts) (t ∷ around) s Done x answer
end_closed zero counts around t s x answer w h = wholly_sound (t ∷ around) s (Rest counts around (closed t s) Done x) answer w h
end_closed (suc n) counts around t s x answer w h = wholly_sound (t ∷ around) s (Rest counts around (closed t s) Done x) answer w h

pub end_deep : (n : ℕ) (counts : List ℕ) (around : List Space) (t s : Space) (x : Scopes) (rule : ℕ) → rule ≡ 10 → (IsTrue (is_within_limits (instance_type s)) → ⊥)
    → Rest (n ∷ counts) (t ∷ around) s Done x (Some rule)
end_deep zero counts around t s x rule e deep = wholly_deep (t ∷ around) s (Rest counts around (closed t s) Done x) rule e deep
end_deep (suc n) counts around t s x rule e deep = wholly_deep (t ∷ around) s (Rest counts around (closed t s) Done x) rule e deep

-- ---- items

plain_defined : (d : TypeDef) (ds : Declarations) → declaration_count d ≡ None → defined d ds ≡ Then (ATypeDef d) ds
plain_defined (defs.Instance n) ds e = (let never : Some n ≡ None = e in absurd (cc))
plain_defined _ ds e = refl

open_defined : (d : TypeDef) (n : ℕ) (ds : Declarations) → declaration_count d ≡ Some n → defined d ds ≡ Then (AnInstanceType (first_of n ds)) (behind n ds)
open_defined (defs.Instance m) n ds e = (let same : m ≡ n = cc in (λ i. Then (AnInstanceType (first_of (same i) ds)) (behind (same i) ds)))
open_defined _ n ds e = (let never : None ≡ Some n = e in absurd (cc))

pub front_alone : (i : TypeItem) (ds : Declarations) → item_count i ≡ None → in_front i ds ≡ Then (alone i) ds
front_alone (items.Define d) ds e = plain_defined d ds e
front_alone (items.Alias a) ds e = refl
front_alone (items.Export name desc) ds e = refl

pub front_open : (i : TypeItem) (n : ℕ) (ds : Declarations) → item_count i ≡ Some n → in_front i ds ≡ Then (AnInstanceType (first_of n ds)) (behind n ds)
front_open (items.Define d) n ds e = open_defined d n ds e
front_open (items.Alias a) n ds e = (let never : None ≡ Some n = e in absurd (cc))
front_open (items.Export name desc) n ds e = (let never : None ≡ Some n = e in absurd (cc))

pub front_grouped : (i : TypeItem) (is : List TypeItem) → grouped (i ∷ is) ≡ in_front i (grouped is)
front_grouped (items.Define d) is = refl
front_grouped (items.Alias a) is = refl
front_grouped (items.Export name desc) is = refl
