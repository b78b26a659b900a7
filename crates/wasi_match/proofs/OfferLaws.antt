-- Look-ups among what an interface offers.
use Rattle.std.proofs.Common.{◌≡◌, ◌∙◌, ap, refl, List, [], ◌∷◌, true, false, Option, Some, None, cond, option_map}
use Rattle.std.specs.List.{find}
use Rattle.std.specs.Str.{bytes_eq}
use Rattle.wit_types.specs.Plain.{Name}
use Rattle.comp_types.specs.Items.{Item, FuncItem, look_up}
use Rattle.wasi_table.specs.Plain.{PlainNamed, PlainNamedFunc}
use Rattle.wasi_match.specs.Offered.{meant, with_functions, with_types}

pub function-found : (name : Name) (fs : List PlainNamedFunc) → look_up name (with_functions fs) ≡ option_map (λ f. FuncItem f.ty) (find (λ f. bytes_eq f.name name) fs)
function-found name [] = refl
function-found name (f ∷ fs) =
    elim (bytes_eq f.name name) as (λ b. cond b (Some (FuncItem f.ty)) (look_up name (with_functions fs)) ≡ option_map (λ g. FuncItem g.ty) (cond b (Some f) (find (λ g. bytes_eq g.name name) fs)))
    [ true ↦ refl | false ↦ function-found name fs ]

abbrev or_function : Option PlainNamed → Option Item → Option Item
or_function None other = other
or_function (Some t) other = Some (meant t.meaning)

type-found : (name : Name) (ts : List PlainNamed) (fs : List PlainNamedFunc) → look_up name (with_types ts fs) ≡ or_function (find (λ t. bytes_eq t.name name) ts) (look_up name (with_functions fs))
type-found name [] fs = refl
type-found name (t ∷ ts) fs =
    elim (bytes_eq t.name name) as (λ b. cond b (Some (meant t.meaning)) (look_up name (with_types ts fs)) ≡ or_function (cond b (Some t) (find (λ u. bytes_eq u.name name) ts)) (look_up name (with_functions fs)))
    [ true ↦ refl | false ↦ type-found name ts fs ]

-- a type is found first
pub found_type : (name : Name) (ts : List PlainNamed) (fs : List PlainNamedFunc) (t : PlainNamed) → find (λ u. bytes_eq u.name name) ts ≡ Some t → look_up name (with_types ts fs) ≡ Some (meant t.meaning)
found_type name ts fs t e = type-found name ts fs ∙ ap (λ o. or_function o (look_up name (with_functions fs))) e

-- and where there is none, a function
pub found_function : (name : Name) (ts : List PlainNamed) (fs : List PlainNamedFunc) (o : Option PlainNamedFunc) → find (λ u. bytes_eq u.name name) ts ≡ None → find (λ f. bytes_eq f.name name) fs ≡ o
    → look_up name (with_types ts fs) ≡ option_map (λ f. FuncItem f.ty) o
found_function name ts fs o e g =
    type-found name ts fs ∙ ap (λ u. or_function u (look_up name (with_functions fs))) e ∙ function-found name fs ∙ ap (option_map (λ (f : PlainNamedFunc). FuncItem f.ty)) g
