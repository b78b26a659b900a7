-- What stands where the names, the new numbers and the depth of a scope change.
use Rattle.std.proofs.Common.{◌≡◌, ◌∙◌, ap, sym, subst, refl, ℕ, List, Option, Some, None, min, max, arith}
use Rattle.wasm_ast.specs.declared.component.ExternDesc.{ExternDesc}
use Rattle.wasm_ast.specs.declared.component.ExternDesc.TheVariants.{Func, TypeEq, Resource, Instance}
use Rattle.wasm_ast.specs.declared.component.Sort.{Sort}
use Rattle.wasm_ast.specs.declared.component.Sort.TheVariants as sorts
use Rattle.wasm_ast.specs.declared.component.ComponentExport.{ComponentExport}
use Rattle.comp_types.specs.Items.{Item, Entries, FuncItem, InstanceItem, KindItem, and_entry}
use Rattle.comp_types.specs.Spaces.{Space, TypeEntry, and_item, item_at}
use Rattle.comp_types.specs.Added.{and_index, and_again, and_described, and_export, and_export_index, and_some_entry, and_some_type, and_some_item, described, exported}
use Rattle.comp_scopes.specs.declared.named.NamedEntries.{NamedEntries}
use Rattle.comp_scopes.specs.declared.numbers.Numbers.{Numbers}
use Rattle.comp_scopes.specs.declared.scope.Scope.{Scope}
use Rattle.comp_scopes.specs.Named.{HasNamed}
use Rattle.comp_scopes.specs.Numbers.{HasNumbers}
use Rattle.comp_scopes.specs.Stands.{Stands}

pub stands_with : (t : Space) (x : Scope) (im ex : Entries) (imd dfd : List ℕ) (deep next : ℕ) (xim xex : NamedEntries) (ximd xdfd : Numbers) (xdeep xnext : ℕ)
    → Stands t x → HasNamed im xim → HasNamed ex xex → HasNumbers imd ximd → HasNumbers dfd xdfd → xdeep ≡ min deep 101 → xnext ≡ next
    → Stands (record t { imports = im; exports = ex; imported = imd; defined = dfd; deepest = deep; next = next }) (record x { imports = xim; exports = xex; imported = ximd; defined = xdfd; deepest = xdeep; next = xnext })
stands_with t x im ex imd dfd deep next xim xex ximd xdfd xdeep xnext h a b c d e f =
    let k = h.core in
    let r = h.rest in
    record {
      core = record { functions = k.functions; tables = k.tables; memories = k.memories; globals = k.globals; modules = k.modules; instances = k.instances };
      rest = record {
        is_component = r.is_component;
        functions = r.functions;
        types = r.types;
        instances = r.instances;
        components = r.components;
        imports = a;
        exports = b;
        imported = c;
        defined = d;
        deepest = e;
        next = f;
      };
    }

pub deeper : (x t a b : ℕ) → x ≡ min t 101 → a ≡ min b 101 → max x a ≡ min (max t b) 101
deeper x t a b h k = omega arith

-- the names, the numbers and the depth stay
pub record IsKept (s t : Space) : Type 0 where
  pub imports : t.imports ≡ s.imports
  pub exports : t.exports ≡ s.exports
  pub imported : t.imported ≡ s.imported
  pub defined : t.defined ≡ s.defined
  pub deepest : t.deepest ≡ s.deepest

kept-item : (s : Space) (i : Item) → IsKept s (and_item s i)
kept-item s (FuncItem ty) = record { imports = refl; exports = refl; imported = refl; defined = refl; deepest = refl }
kept-item s (InstanceItem es) = record { imports = refl; exports = refl; imported = refl; defined = refl; deepest = refl }
kept-item s (KindItem k) = record { imports = refl; exports = refl; imported = refl; defined = refl; deepest = refl }

kept-some_item : (s : Space) (o : Option Item) → IsKept s (and_some_item s o)
kept-some_item s None = record { imports = refl; exports = refl; imported = refl; defined = refl; deepest = refl }
kept-some_item s (Some i) = kept-item s i

kept-some_type : (s : Space) (o : Option TypeEntry) → IsKept s (and_some_type s o)
kept-some_type s None = record { imports = refl; exports = refl; imported = refl; defined = refl; deepest = refl }
kept-some_type s (Some e) = record { imports = refl; exports = refl; imported = refl; defined = refl; deepest = refl }

pub kept-index : (s : Space) (d : ExternDesc) → IsKept s (and_index s d)
kept-index s (Func i) = kept-item s (described s (Func i))
kept-index s (TypeEq i) = kept-some_type s _
kept-index s Resource = kept-item s (described s Resource)
kept-index s (Instance i) = kept-item s (described s (Instance i))

pub kept-again : (s : Space) (sort : Sort) (i : ℕ) → IsKept s (and_again s sort i)
kept-again s sorts.Func i = kept-some_item s _
kept-again s sorts.Type i = kept-some_type s _
kept-again s sorts.Instance i = kept-some_item s _

-- ---- exports

pub exported_plain : (s : Space) (e : ComponentExport) → e.desc ≡ None → exported s e ≡ item_at s e.sort e.index
exported_plain s e n = ap (λ (o : Option ExternDesc). elim o [ None ↦ item_at s e.sort e.index | Some desc ↦ Some (described s desc) ]) n

pub exported_stated : (s : Space) (e : ComponentExport) (d : ExternDesc) → e.desc ≡ Some d → exported s e ≡ Some (described s d)
exported_stated s e d n = ap (λ (o : Option ExternDesc). elim o [ None ↦ item_at s e.sort e.index | Some desc ↦ Some (described s desc) ]) n

pub export_plain : (s : Space) (e : ComponentExport) (i : Item) (x : Scope) → e.desc ≡ None → item_at s e.sort e.index ≡ Some i
    → Stands (record (and_again s e.sort e.index) { exports = and_entry s.exports e.name i }) x → Stands (and_export s e) x
export_plain s e i x n there h =
    let desc : and_export_index s e e.desc ≡ and_again s e.sort e.index = ap (and_export_index s e) n in
    let item : exported s e ≡ Some i = exported_plain s e n ∙ there in
    subst (λ (t : Space). Stands (record t { exports = and_some_entry s.exports e.name (exported s e) }) x) (sym desc)
    (subst (λ (o : Option Item). Stands (record (and_again s e.sort e.index) { exports = and_some_entry s.exports e.name o }) x) (sym item) h)

pub export_stated : (s : Space) (e : ComponentExport) (d : ExternDesc) (x : Scope) → e.desc ≡ Some d
    → Stands (record (and_described s d) { exports = and_entry s.exports e.name (described s d) }) x → Stands (and_export s e) x
export_stated s e d x n h =
    let desc : and_export_index s e e.desc ≡ and_described s d = ap (and_export_index s e) n in
    let item : exported s e ≡ Some (described s d) = exported_stated s e d n in
    subst (λ (t : Space). Stands (record t { exports = and_some_entry s.exports e.name (exported s e) }) x) (sym desc)
    (subst (λ (o : Option Item). Stands (record (and_described s d) { exports = and_some_entry s.exports e.name o }) x) (sym item) h)
