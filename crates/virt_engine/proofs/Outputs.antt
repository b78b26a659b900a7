-- What is written is an output of the application.
use Rattle.std.proofs.Common.{◌≡◌, ◌∙◌, ◌⊎◌, refl, sym, ap, subst, inl, inr, ℕ, List, [], ◌∷◌, ◌++◌, length, false, Ok}
use Rattle.std.specs.Prelude.{map}
use Rattle.policy_data.specs.declared.policy.Policy.{Policy}
use Rattle.comp_types.specs.Items.{Entries, Signature, End, More}
use Rattle.comp_grammar.specs.Trees.{plain, Part, Tree, CoreModule, Nested, CoreInstances, Instances, Aliases, Types, Canons, Imports, Exports, Custom, End as NoSection, More as Section}
use Rattle.comp_write.specs.Copying.{bare_part, bare, SpellsBare}
use Rattle.comp_types.specs.Added.{type_of}
use Rattle.comp_types.specs.Resources.{entries_have_resource}
use Rattle.comp_types.specs.Validity.{IsValidComponent}
use Rattle.virt_output.specs.Output.{exporting, output_tree}
use Rattle.output_same.specs.Holding.{and_inner, components_in}
use Rattle.output_same.proofs.Bare.{same_valid, same_type}
use Rattle.comp_joined.proofs.Joined.{holds_two}
use Rattle.comp_joined.proofs.Placed.{joins_placed}
use Rattle.output_same.proofs.Outputs.{output_stands, same_types}
use Rattle.comp_link.proofs.Spelled.{spelled_define}
use Rattle.output_same.proofs.Same.{outputs_same}
use Rattle.virt_output.specs.Bytes.{back_bytes}
use Rattle.comp_signature.specs.Signatures.{component_signature}
use Rattle.wasi_match.specs.declared.listed.ListedUse.{ListedUse}
use Rattle.adapter_world.specs.Imports.{AreNeeded}
use Rattle.adapter_world.specs.Names.{needed_count}
use Rattle.compose.specs.Composed.{IsComposed}
use Rattle.compose.specs.declared.composed.Composed.{Composed}
use Rattle.component_judge.specs.Applications.{JudgesApplication}
use Rattle.component_judge.specs.declared.inputs.Fetched.{Fetched}
use Rattle.component_judge.specs.declared.limits.Purpose.TheVariants.{Virt}
use Rattle.virt_engine.specs.declared.plan.Ready.{Ready}
use Rattle.virt_engine.specs.Output.{IsWrappedAlone, IsWrappedBeside, IsWrappedOf, wrapped_count, IsOutputAlone, IsOutputOf, imported_by, output_bytes}
use Rattle.virt_engine.specs.Parts.{IsAround, Prepares, written_by}

-- ---- the components of the outermost level, without places

bare_inner : (part : Part) (rest : List Tree) → and_inner (bare_part part) (map bare rest) ≡ map bare (and_inner part rest)
unfolding bare_part
bare_inner (CoreModule span m) rest = refl
bare_inner (Nested span inner) rest = refl
bare_inner (CoreInstances items) rest = refl
bare_inner (Instances items) rest = refl
bare_inner (Aliases items) rest = refl
bare_inner (Types items) rest = refl
bare_inner (Canons items) rest = refl
bare_inner (Imports items) rest = refl
bare_inner (Exports items) rest = refl
bare_inner (Custom span) rest = refl

pub bare_components : (t : Tree) → components_in (bare t) ≡ map bare (components_in t)
unfolding bare
bare_components NoSection = refl
bare_components (Section part rest) = ap (and_inner (bare_part part)) (bare_components rest) ∙ bare_inner part (components_in rest)

none_exporting : (es : Entries) → components_in (exporting es) ≡ []
none_exporting End = refl
none_exporting (More name item rest) = refl

-- an output holds one
holds_one : (t : Tree) (es : Entries) → components_in (output_tree t es) ≡ t ∷ []
holds_one t es = ap (λ (rest : List Tree). t ∷ rest) (none_exporting es)

only_one : (xs : List Tree) (y : Tree) → map bare xs ≡ y ∷ [] → (x : Tree) × (xs ≡ x ∷ [])
only_one [] y e = absurd (cc)
only_one (x ∷ []) y e = (x, refl)
only_one (x ∷ x2 ∷ xs) y e = absurd (cc)

once : (t u : Tree) (es : Entries) → bare u ≡ bare (output_tree t es) → (x : Tree) × (components_in u ≡ x ∷ [])
once t u es same =
    only_one (components_in u) (bare t) (sym (bare_components u) ∙ ap components_in same ∙ bare_components (output_tree t es) ∙ ap (λ (xs : List Tree). map bare xs) (holds_one t es))

-- ---- an output of a component that imports nothing

-- What is asked of a component that is wrapped: it is valid, its exports speak of no resource, and the bytes spell it.
pub record CanBeWrapped (tree : Tree) (app : List ℕ) : Type 0 where
  pub valid : IsValidComponent tree
  pub free : entries_have_resource (type_of tree).exports ≡ false
  pub spelled : SpellsBare 0 tree app

-- it is that of the definition, but for places
abbrev pub IsBare : (tree : Tree) (app out : List ℕ) → IsWrappedAlone tree app out → Type 0
IsBare tree app out w = bare w.output ≡ bare (output_tree tree (type_of tree).exports)

wrapped_alone : (app out : List ℕ) (tree : Tree) (exports : Entries) → CanBeWrapped tree app → (type_of tree).imports ≡ End → exports ≡ (type_of tree).exports → out ≡ output_bytes app exports
    → SpellsBare 0 (output_tree tree exports) out → (w : IsWrappedAlone tree app out) × IsBare tree app out w
wrapped_alone app out tree exports a nothing is written spelled =
    let found : SpellsBare 0 (output_tree tree (type_of tree).exports) out = subst (λ (es : Entries). SpellsBare 0 (output_tree tree es) out) is spelled in
    let stands = output_stands tree a.valid nothing in
    let one = once tree found.0 (type_of tree).exports found.2 in
    let same = same_type (output_tree tree (type_of tree).exports) found.0 (sym found.2) in (
      record {
        output = found.0;
        spelled = found.1;
        valid = same_valid (output_tree tree (type_of tree).exports) found.0 (sym found.2) stands.valid;
        imports = ap (λ (s : Signature). s.imports) (sym same) ∙ stands.imports;
        exports = ap (λ (s : Signature). s.exports) (sym same) ∙ same_types tree a.valid nothing a.free;
        unchanged = record { inner = one.0; once = one.1; behind = back_bytes exports; unchanged = written };
      },
      found.2,
    )

-- ---- an output of an application with imports

wrapped_beside : (policy : Policy) (app out : List ℕ) (tree : Tree) (uses : List ListedUse) (exports : Entries) (parts : Composed) → SpellsBare 0 tree app → exports ≡ (type_of tree).exports
    → out ≡ parts.front.items ++ (app ++ parts.back.items) → IsComposed policy tree uses exports (length app) parts → IsWrappedBeside policy uses tree app out
wrapped_beside policy app out tree uses exports parts spelled_app is written c =
    let spelled : SpellsBare 0 c.output out = subst (λ (z : List ℕ). SpellsBare 0 c.output z) (sym written) (c.spelled app refl spelled_app) in
    let same : type_of c.output ≡ type_of spelled.0 = same_type c.output spelled.0 (sym spelled.2) in
    let held = joins_placed spelled.0 c.output c.adapter tree spelled.2 c.joins in
    record {
      output = spelled.0;
      spelled = spelled.1;
      valid = same_valid c.output spelled.0 (sym spelled.2) c.valid;
      imports = subst (λ (s : Signature). AreNeeded policy uses s.imports) same c.imports;
      exports = ap (λ (s : Signature). s.exports) (sym same) ∙ c.exports ∙ is;
      unchanged = record {
        adapter = held.one;
        inner = held.other;
        both = holds_two held.one held.other spelled.0 held.joining;
        joins = held.joining;
        same = held.second_one;
        before = c.before;
        behind = parts.back.items;
        unchanged = written ∙ ap (λ (front : List ℕ). front ++ (app ++ parts.back.items)) c.front;
      };
    }

-- ---- what was prepared

pub entries_end : (es : Entries) → (es ≡ End) ⊎ (es ≡ End → ⊥)
entries_end End = inl refl
entries_end (More name item rest) = inr (λ e. cc)

module _ (policy : Policy) (app : Fetched) (same : component_signature app.application.judged.ty ≡ type_of (plain app.application.judged.component)) (can : CanBeWrapped (plain app.application.judged.component) app.bytes.items) (out : List ℕ) (p : Ready)
    (m : Prepares policy app out p) where
  abbrev tree : Tree
  tree = plain app.application.judged.component

  abbrev ty : Signature
  ty = component_signature app.application.judged.ty

  imports_so : ty.imports ≡ (type_of tree).imports
  imports_so = ap (λ (s : Signature). s.imports) same

  exports_so : ty.exports ≡ (type_of tree).exports
  exports_so = ap (λ (s : Signature). s.exports) same

  written : written_by p ≡ m.parts.front.items ++ (app.bytes.items ++ m.parts.back.items)
  written = λ i. m.front i ++ (m.app i ++ m.back i)

  around : (type_of tree).imports ≡ End → IsAround ty.exports (length app.bytes.items) m.parts
  around none = m.are.alone (imports_so ∙ none)

  pub bytes_so : (type_of tree).imports ≡ End → written_by p ≡ output_bytes app.bytes.items (type_of tree).exports
  bytes_so none =
      let a = around none in
      written ∙ (λ i. a.front i ++ (app.bytes.items ++ a.back i)) ∙ ap (λ (es : Entries). output_bytes app.bytes.items es) exports_so

  pub alone : (type_of tree).imports ≡ End → (w : IsWrappedAlone tree app.bytes.items (written_by p)) × IsBare tree app.bytes.items (written_by p) w
  alone none =
      let a = around none in
      wrapped_alone app.bytes.items (written_by p) tree ty.exports can none exports_so
      (written ∙ (λ i. a.front i ++ (app.bytes.items ++ a.back i)))
      (subst (λ (z : List ℕ). SpellsBare 0 (output_tree tree ty.exports) z) (sym written) (a.spelled tree app.bytes.items refl can.spelled))

  pub count_alone : (type_of tree).imports ≡ End → m.parts.needed ≡ 0
  count_alone none = (around none).count

  composed : ((type_of tree).imports ≡ End → ⊥) → IsComposed policy tree app.application.listed.uses ty.exports (length app.bytes.items) m.parts
  composed some = m.are.beside (λ none. some (sym imports_so ∙ none))

  pub beside : ((type_of tree).imports ≡ End → ⊥) → IsWrappedBeside policy app.application.listed.uses tree app.bytes.items (written_by p)
  beside some = wrapped_beside policy app.bytes.items (written_by p) tree app.application.listed.uses ty.exports m.parts can.spelled exports_so written (composed some)

  pub count_beside : ((type_of tree).imports ≡ End → ⊥) → m.parts.needed ≡ needed_count policy app.application.listed.uses
  count_beside some = (composed some).count

  -- it is an output, and imports that many functions
  pub wrapped_so : (o : IsWrappedOf policy app.application.listed.uses tree app.bytes.items (written_by p))
      × (m.parts.needed ≡ wrapped_count policy app.application.listed.uses tree app.bytes.items (written_by p) o)
  wrapped_so = elim (entries_end (type_of tree).imports) [
    | inl none ↦ (inl (none, (alone none).0), count_alone none)
    | inr some ↦ (inr (beside some), count_beside some)
  ]

-- ---- of an application

module _ (policy : Policy) (app : Fetched) (h : JudgesApplication Virt app.bytes.items (Ok app.application)) (out : List ℕ) (p : Ready) (m : Prepares policy app out p) where
  abbrev app_tree : Tree
  app_tree = plain app.application.judged.component

  can : CanBeWrapped app_tree app.bytes.items
  can = record { valid = h.0.sound.valid; free = h.0.listed.exports; spelled = (app_tree, h.0.sound.small.spelled.0.0, refl) }

  pub bytes_alone : (type_of app_tree).imports ≡ End → written_by p ≡ output_bytes app.bytes.items (type_of app_tree).exports
  bytes_alone none = bytes_so policy app h.1 can out p m none

  output_alone : (type_of app_tree).imports ≡ End → IsOutputAlone app.bytes.items (written_by p)
  output_alone none =
      let w = alone policy app h.1 can out p m none in
      record {
        tree = app_tree;
        uses = app.application.listed.uses;
        application = h.0;
        nothing = none;
        wrapped = w.0;
        behaves = outputs_same app_tree w.0.output (record { valid = h.0.sound.valid; imports = none }) (spelled_define app_tree app.bytes.items h.0.sound.small.spelled.0.0) w.1;
      }

  -- it is an output, and imports that many functions
  pub prepared : (o : IsOutputOf policy app.bytes.items (written_by p)) × (m.parts.needed ≡ imported_by policy app.bytes.items (written_by p) o)
  prepared = elim (entries_end (type_of app_tree).imports) [
    | inl none ↦ (inl (output_alone none), count_alone policy app h.1 can out p m none)
    | inr some ↦ (
      inr (record {
        tree = app_tree;
        uses = app.application.listed.uses;
        application = h.0;
        something = some;
        wrapped = beside policy app h.1 can out p m some;
      }),
      count_beside policy app h.1 can out p m some,
    )
  ]
