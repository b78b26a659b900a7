-- The places of names with one more, and what stands at a place.
use Rattle.std.proofs.Common.{◌≡◌, ◌∙◌, ap, sym, refl, ℕ, ◌<◌, zero, suc, List, [], ◌∷◌, ◌++◌, Bool, true, false, Option, Some, None, cond, length, get_or, arith}
use Rattle.std.specs.Prelude.{is_some, option_map, string_bytes, Result, Ok, Err, OnErr}
use Rattle.std.specs.BTreeMap.{is_at}
use Rattle.std.specs.Cmp.Lexicographic.{slice_cmp}
use Rattle.std.specs.Map.{lookup}
use Rattle.std.specs.Option.{option_or}
use Rattle.std.specs.Ordering.{nat_cmp}
use Rattle.std.specs.Str.{bytes_eq}
use Rattle.std.proofs.lemmas.Bool.{false≢true}
use Rattle.std.proofs.lemmas.Slice.Eq.{bytes_eq-Decides}
use Rattle.wit_types.specs.Plain.{Name, Parts, plain_func}
use Rattle.host_script.specs.Exports.{export_named, place_of, first_place, HasPlaces}
use Rattle.host_script.specs.Script.{params_named, exports_seen}
use Rattle.host_script.specs.declared.places.Places.{Places}
use Rattle.host_script.specs.declared.script.ExportType.{ExportType}

pub on_err : {T E P : Type 0} (r : Result T E) → P → OnErr r P
on_err (Ok x) p = tt
on_err (Err e) p = p

pub same-places : (m n : Places) → m.by_name.entries ≡ n.by_name.entries → (q : Name) → place_of m q ≡ place_of n q
unfolding place_of
same-places m n e q = ap (λ es. lookup (is_at (λ k. slice_cmp nat_cmp q (string_bytes k))) es) e

same_named : (n q : Name) → bytes_eq n q ≡ true → n ≡ q
same_named n q = (bytes_eq-Decides n q).0

-- ---- one name more

or_none : (o : Option ℕ) → o ≡ option_or o None
or_none None = refl
or_none (Some x) = refl

or_some : (o : Option ℕ) (place : ℕ) → is_some o ≡ true → o ≡ option_or o (Some place)
or_some None place h = absurd (false≢true h)
or_some (Some x) place h = refl

not_some : (o : Option ℕ) → is_some o ≡ false → o ≡ None
not_some None h = refl
not_some (Some x) h = absurd (false≢true (sym h))

known : (places : Name → Option ℕ) (n q : Name) (place : ℕ) (same : Bool) → bytes_eq n q ≡ same → is_some (places n) ≡ true → places q ≡ option_or (places q) (cond same (Some place) None)
known places n q place true e h = or_some (places q) place (ap (λ m. is_some (places m)) (sym (same_named n q e)) ∙ h)
known places n q place false e h = or_none (places q)

-- a name that has a place keeps it
pub known-name : (places : Name → Option ℕ) (n q : Name) (place : ℕ) → is_some (places n) ≡ true → places q ≡ option_or (places q) (cond (bytes_eq n q) (Some place) None)
known-name places n q place h = known places n q place (bytes_eq n q) refl h

new_at : (places : Name → Option ℕ) (n q : Name) (place : ℕ) (same : Bool) → bytes_eq n q ≡ same → is_some (places n) ≡ false → cond same (Some place) (places q) ≡ option_or (places q) (cond same (Some place) None)
new_at places n q place true e h = sym (ap (λ o. option_or o (Some place)) (ap places (sym (same_named n q e)) ∙ not_some (places n) h))
new_at places n q place false e h = or_none (places q)

-- a name that has none gets this one
pub new-name : (places : Name → Option ℕ) (n q : Name) (place : ℕ) → is_some (places n) ≡ false → cond (bytes_eq n q) (Some place) (places q) ≡ option_or (places q) (cond (bytes_eq n q) (Some place) None)
new-name places n q place h = new_at places n q place (bytes_eq n q) refl h

-- ---- one function more

or_next : (same : Bool) (o p : Option ℕ) → cond same (Some 0) (option_map suc (option_or o p)) ≡ option_or (cond same (Some 0) (option_map suc o)) (option_map suc p)
or_next true o p = refl
or_next false None p = refl
or_next false (Some x) p = refl

next_if : (same : Bool) (place : ℕ) → option_map suc (cond same (Some place) None) ≡ cond same (Some (suc place)) None
next_if true place = refl
next_if false place = refl

place-and : (es : List ExportType) (e : ExportType) (q : Name) → first_place q (es ++ e ∷ []) ≡ option_or (first_place q es) (cond (bytes_eq e.name q) (Some (length es)) None)
place-and [] e q = refl
place-and (f ∷ es) e q =
    ap (λ o. cond (bytes_eq f.name q) (Some 0) (option_map suc o)) (place-and es e q)
    ∙ (or_next (bytes_eq f.name q) (first_place q es) _
    ∙ ap (option_or (first_place q (f ∷ es))) (next_if (bytes_eq e.name q) (length es)))

pub placed-and : (es : List ExportType) (m new : Places) (e : ExportType) (key : Name) (len : ℕ) → HasPlaces es m → key ≡ e.name → len ≡ length es
    → ((q : Name) → place_of new q ≡ option_or (place_of m q) (cond (bytes_eq key q) (Some len) None)) → HasPlaces (es ++ e ∷ []) new
placed-and es m new e key len has is_key is_len h = λ q.
    h q ∙ (ap (λ o. option_or o (cond (bytes_eq key q) (Some len) None)) (has q)
    ∙ (ap (λ k. option_or (first_place q es) (cond (bytes_eq k q) (Some len) None)) is_key
    ∙ (ap (λ l. option_or (first_place q es) (cond (bytes_eq e.name q) (Some l) None)) is_len ∙ sym (place-and es e q))))

-- ---- what stands at a place

here : (same : Bool) (o : Option ℕ) (e : ExportType) (p : Option ExportType) → (o ≡ None → p ≡ None) → cond same (Some 0) (option_map suc o) ≡ None → cond same (Some e) p ≡ None
here true o e p h eq = cc
here false None e p h eq = h refl
here false (Some x) e p h eq = cc

pub nowhere : (q : Name) (es : List ExportType) → first_place q es ≡ None → export_named q es ≡ None
nowhere q [] eq = refl
nowhere q (e ∷ es) eq = here (bytes_eq e.name q) (first_place q es) e (export_named q es) (nowhere q es) eq

abbrev StandsAt : (q : Name) (es : List ExportType) (place : ℕ) → Type 0
StandsAt q es place = (place < length es) × ((d : ExportType) → export_named q es ≡ Some (get_or es place d))

at : (same : Bool) (q : Name) (e : ExportType) (es : List ExportType) (o : Option ℕ) (place : ℕ) → bytes_eq e.name q ≡ same → ((x : ℕ) → o ≡ Some x → StandsAt q es x)
    → cond same (Some 0) (option_map suc o) ≡ Some place → StandsAt q (e ∷ es) place
at true q e es o place is h eq = let zero_is : zero ≡ place = cc in rw (← zero_is) (omega arith, λ d. ap (λ b. cond b (Some e) (export_named q es)) is)
at false q e es (Some x) place is h eq =
    let next : suc x ≡ place = cc in
    let r = h x refl in
    rw (← next) (omega (arith, r.0), λ d. ap (λ b. cond b (Some e) (export_named q es)) is ∙ r.1 d)
at false q e es None place is h eq = cc

pub stands-at : (q : Name) (es : List ExportType) (place : ℕ) → first_place q es ≡ Some place → StandsAt q es place
stands-at q [] place eq = cc
stands-at q (e ∷ es) place eq = at (bytes_eq e.name q) q e es (first_place q es) place refl (λ x. stands-at q es x) eq

-- ---- the parameters of the first with a name

params_at : (same : Bool) (e : ExportType) (o : Option ExportType) (p : Option Parts) → p ≡ option_map (λ (x : ExportType). (plain_func x.ty).params) o
    → cond same (Some (plain_func e.ty).params) p ≡ option_map (λ (x : ExportType). (plain_func x.ty).params) (cond same (Some e) o)
params_at true e o p h = refl
params_at false e o p h = h

pub params-found : (q : Name) (es : List ExportType) → params_named q (exports_seen es) ≡ option_map (λ (x : ExportType). (plain_func x.ty).params) (export_named q es)
params-found q [] = refl
params-found q (e ∷ es) = params_at (bytes_eq e.name q) e (export_named q es) _ (params-found q es)

pub params-is : (q : Name) (es : List ExportType) (e : ExportType) → Some e ≡ export_named q es → Some (plain_func e.ty).params ≡ params_named q (exports_seen es)
params-is q es e is = ap (option_map (λ (x : ExportType). (plain_func x.ty).params)) is ∙ sym (params-found q es)

pub params-none : (q : Name) (es : List ExportType) → None ≡ export_named q es → None ≡ params_named q (exports_seen es)
params-none q es is = ap (option_map (λ (x : ExportType). (plain_func x.ty).params)) is ∙ sym (params-found q es)
