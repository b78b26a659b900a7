-- What is handed on after the second fits.
use Rattle.std.proofs.Common.{◌≡◌, ℕ, ◌+◌, List, [], ◌∷◌, ◌++◌, map, length, Some, None, refl, sym, ◌∙◌, ap, subst}
use Rattle.std.specs.Prelude.{slice_get}
use Rattle.std.proofs.lemmas.List.{length_push}
use Rattle.wasm_ast.specs.declared.component.Sort.{Sort}
use Rattle.wasm_ast.specs.declared.component.Sort.TheVariants as sorts
use Rattle.wit_types.specs.Plain.{Name}
use Rattle.comp_grammar.specs.Trees.{Aliases}
use Rattle.comp_types.specs.Definitions.{AnExport}
use Rattle.comp_types.specs.Spaces.{Space}
use Rattle.comp_types.specs.Added.{after, after_part}
use Rattle.comp_link.specs.Plans.{Scope, plan_all}
use Rattle.comp_link.specs.Linking.{Givens, Making, link, target_in, exported, linked}
use Rattle.comp_inside.specs.Wrapping.{Handed, alias_at, exports_from}
use Rattle.comp_inside.proofs.Handing.{appended, items_at, aliases_plan, aliases_scope, At, aliased, exports_plan, exports_made, same_targets}
use Rattle.comp_joins.specs.Joining.{AllName, JoinOnly, made_by, joining, behind_second, both_scope, made_between, made_second}
use Rattle.comp_joins.proofs.Front.{with_second_made, linked_joining}
use Rattle.comp_joins.specs.Handing.{handing_behind, HandedOnFits}

aliases_name : (k : ℕ) (es : List Handed) → AllName (items_at k es)
aliases_name k [] = tt
aliases_name k (e ∷ es) = (tt, aliases_name k es)

abbrev export_after : Space → Name → Sort → ℕ → Space
export_after s name sort k = after [] s (AnExport (record { name = name; sort = sort; index = k; desc = None }))

-- exports name alone, and bring no module and no component
abbrev OnlyExports : Scope → Space → ℕ → ℕ → ℕ → List Handed → Type 0
OnlyExports scope s f i t es = AllName (plan_all [] [] s scope (map AnExport (exports_from f i t es))).plan × ((plan_all [] [] s scope (map AnExport (exports_from f i t es))).scope ≡ scope)

module _ (scope : Scope) where
  one_export : (s : Space) (f i t : ℕ) (name : Name) (sort : Sort) (es : List Handed) → ((s' : Space) (f' i' t' : ℕ) → OnlyExports scope s' f' i' t' es) → OnlyExports scope s f i t (record { name = name; sort = sort } ∷ es)
  one_export s f i t name sorts.Func es later = let l : OnlyExports scope (export_after s name sorts.Func f) (f + 1) i t es = later (export_after s name sorts.Func f) (f + 1) i t in ((tt, l.0), l.1)
  one_export s f i t name sorts.Instance es later = let l : OnlyExports scope (export_after s name sorts.Instance i) f (i + 1) t es = later (export_after s name sorts.Instance i) f (i + 1) t in ((tt, l.0), l.1)
  one_export s f i t name sorts.Type es later = let l : OnlyExports scope (export_after s name sorts.Type t) f i (t + 1) es = later (export_after s name sorts.Type t) f i (t + 1) in ((tt, l.0), l.1)

  exports_name : (s : Space) (f i t : ℕ) (es : List Handed) → OnlyExports scope s f i t es
  exports_name s f i t [] = (tt, refl)
  exports_name s f i t (e ∷ es) = one_export s f i t e.name e.sort es (λ s' f' i' t'. exports_name s' f' i' t' es)

  handing_names : (s : Space) (k f i t : ℕ) (es : List Handed) → JoinOnly scope s (handing_behind k f i t es)
  handing_names s k f i t es =
      let x : OnlyExports scope (after_part [] s (Aliases (map (alias_at k) es))) f i t es = exports_name (after_part [] s (Aliases (map (alias_at k) es))) f i t es in
      (subst AllName (sym (aliases_plan k s scope es)) (aliases_name k es), aliases_scope k s scope es, (x.0, x.1, tt))

last_one : {A : Type 0} → (xs : List A) (x : A) → slice_get (xs ++ x ∷ []) (length xs) ≡ Some x
last_one [] x = refl
last_one (y ∷ xs) x = last_one xs x

pub handed_on_fits : HandedOnFits
handed_on_fits j first second t es h =
    let scope : Scope = both_scope j first second in
    let s : Space = behind_second j first second in
    let before : Making = made_between j first second in
    let k : ℕ = length before.instances in
    let f : ℕ = length before.functions in
    let behind : JoinOnly scope s j.behind = subst (JoinOnly scope s) (sym h.behind) (handing_names scope s k f (k + 1) t es) in
    let m : Making = with_second_made j first second h.front h.between behind in
    let X : Givens = (made_second j first second).exports in
    let there : slice_get m.instances k ≡ Some X = last_one before.instances X in
    let a = aliased X k es m there h.are.each in
    let m1 : Making = link (items_at k es) m in
    let s1 : Space = after_part [] s (Aliases (map (alias_at k) es)) in
    let at : At X m1.functions m1.instances es f (k + 1) = subst (At X m1.functions m1.instances es f) (length_push before.instances X) a.1 in
    let x = exports_made X s1 scope f (k + 1) t es m1 at in
    let all : linked (joining j first second) ≡ link (exports_plan X s1 scope f (k + 1) t es) m1 =
    linked_joining j first second h.front h.between behind
    ∙ ap (λ parts. made_by scope s parts m) h.behind
    ∙ ap (λ p. link (exports_plan X s1 scope f (k + 1) t es) (link p m)) (aliases_plan k s scope es) in
    let exports : (linked (joining j first second)).exports ≡ x.0 = ap (λ z. z.exports) all ∙ x.2.exports ∙ ap (λ z. appended z x.0) (a.0.exports ∙ h.nothing) in
    record {
      behind = behind;
      exports = λ interface name. ap (λ z. target_in (exported z interface name)) exports ∙ same_targets X es x.0 x.1 h.are interface name;
    }
