-- What the rules say of instances.
use Rattle.std.proofs.Common.{◌≡◌, ◌∙◌, ◌+◌, ◌++◌, ap, refl, subst, sym, ℕ, List, [], ◌∷◌, length, Bool, true, false, map, Option, Some, None, slice_get}
use Rattle.std.specs.Prelude.{◌&&◌}
use Rattle.std.specs.List.{list_all}
use Rattle.std.proofs.lemmas.Bool.{false≢true}
use Rattle.wasm_ast.specs.declared.component.NamedItem.{NamedItem}
use Rattle.wasm_ast.specs.declared.component.Instance.TheVariants.{Instantiate, Inline}
use Rattle.wasm_ast.specs.declared.component.TypeAlias.{TypeAlias}
use Rattle.comp_names.specs.Names.{is_legal}
use Rattle.comp_names.specs.Same.{is_same_name}
use Rattle.comp_types.specs.Items.{Entries, End, InstanceItem}
use Rattle.comp_types.specs.Spaces.{Space, NestedComponent, and_item}
use Rattle.comp_types.specs.Declarations.{ATypeAlias}
use Rattle.comp_types.specs.Definitions.{AType, AnInstance}
use Rattle.comp_types.specs.Added.{after, and_instantiated, named_items}
use Rattle.comp_types.specs.Faults.{fault, first_failing}
use Rattle.comp_types.specs.GivenResources.{given_by, numbered, renamed}
use Rattle.comp_types.specs.Rules.{all_differ, instance_stands, lengths_of, names_fit_in, MeetsComponent}
use Rattle.comp_types.proofs.FaultLaws.{all_hold, least_fails, arguments_fail}
use Rattle.comp_scopes.specs.declared.scope.Scope.{Scope}
use Rattle.comp_scopes.specs.Judged.{Judged}
use Rattle.comp_scopes.specs.Stands.{Stands}
use Rattle.type_table.specs.Tables.{Types, HasEntries}
use Rattle.type_table.specs.Anew.{HasInstantiated}
use Rattle.comp_instances.proofs.StandLemmas.{stands-next}
use Rattle.comp_instances.specs.Instances.{IsMadeAt}
use Rattle.comp_instances.specs.declared.made.Made.{Made}

module _ (around : List Space) (s : Space) (c : ℕ) (args : List NamedItem) (x : Scope) (stands : instance_stands (lengths_of s) (Instantiate c args) ≡ true) where
  no_fault : fault around s (AnInstance (Instantiate c args)) ≡ None
  no_fault = ap (λ b. first_failing (true ∷ true ∷ true ∷ b ∷ true ∷ true ∷ true ∷ true ∷ true ∷ true ∷ true ∷ true ∷ true ∷ true ∷ true ∷ true ∷ true ∷ true ∷ true ∷ true ∷ true ∷ true ∷ true ∷ true ∷ true ∷ [])) stands

  pub names_repeat : all_differ is_same_name (map (λ (a : NamedItem). a.name) args) ≡ false → Judged around s (AnInstance (Instantiate c args)) x (Some 23)
  names_repeat h = arguments_fail around s (AnInstance (Instantiate c args)) no_fault tt (λ f. false≢true (sym h ∙ f.0))

  pub argument_fails : (MeetsComponent (named_items s args) (slice_get s.components c) → ⊥) → Judged around s (AnInstance (Instantiate c args)) x (Some 23)
  argument_fails h = arguments_fail around s (AnInstance (Instantiate c args)) no_fault tt (λ f. h f.1)

  pub valid_instantiated : all_differ is_same_name (map (λ (a : NamedItem). a.name) args) ≡ true → MeetsComponent (named_items s args) (slice_get s.components c) → Stands (after around s (AnInstance (Instantiate c args))) x
      → Judged around s (AnInstance (Instantiate c args)) x None
  valid_instantiated names fits h = (all_hold around s (AnInstance (Instantiate c args)) no_fault tt (names, fits), h)

pub broken_inline : (around : List Space) (s : Space) (es : List NamedItem) (x : Scope) (rule : ℕ) → Some rule ≡ fault around s (AnInstance (Inline es)) → Judged around s (AnInstance (Inline es)) x (Some rule)
broken_inline around s es x rule e = least_fails around s (AnInstance (Inline es)) rule (sym e) tt tt

pub valid_inline : (around : List Space) (s : Space) (es : List NamedItem) (x : Scope) → None ≡ fault around s (AnInstance (Inline es)) → Stands (after around s (AnInstance (Inline es))) x → Judged around s (AnInstance (Inline es)) x None
valid_inline around s es x e h = (all_hold around s (AnInstance (Inline es)) (sym e) tt tt, h)

pub broken_type_alias : (around : List Space) (s : Space) (a : TypeAlias) (x : Scope) (rule : ℕ) → Some rule ≡ fault around s (AType (ATypeAlias a)) → Judged around s (AType (ATypeAlias a)) x (Some rule)
broken_type_alias around s a x rule e = least_fails around s (AType (ATypeAlias a)) rule (sym e) tt tt

pub valid_type_alias : (around : List Space) (s : Space) (a : TypeAlias) (x : Scope) → None ≡ fault around s (AType (ATypeAlias a)) → Stands (after around s (AType (ATypeAlias a))) x
    → Judged around s (AType (ATypeAlias a)) x None
valid_type_alias around s a x e h = (all_hold around s (AType (ATypeAlias a)) (sym e) tt tt, h)

-- ---- what an instance adds

stands-entries : (s : Space) (x : Scope) (es fs : Entries) → es ≡ fs → Stands (and_item s (InstanceItem es)) x → Stands (and_item s (InstanceItem fs)) x
stands-entries s x es fs e h = subst (λ ds. Stands (and_item s (InstanceItem ds)) x) e h

pub stands_made : (s : Space) (x : Scope) (o : Option NestedComponent) (args : Entries) (made : Made) → IsMadeAt s o args made → Stands (and_item s (InstanceItem made.instance.value.entries)) x
    → Stands (and_instantiated s o args) (record x { next = made.next })
stands_made s x None args made m h = stands-next (and_item s (InstanceItem End)) x s.next made.next (stands-entries s x made.instance.value.entries End m.0 h) m.1
stands_made s x (Some c) args made m h =
    let es = renamed (given_by args c.signature.imports ++ numbered c.own s.next) c.signature.exports in
    stands-next (and_item s (InstanceItem es)) x (s.next + length c.own) made.next (stands-entries s x made.instance.value.entries es m.exports h) m.next

-- its types are those that the table has
pub has_made : (types : Types) (s : Space) (o : Option NestedComponent) (args : Entries) (made : Made) → IsMadeAt s o args made → HasEntries types made.instance.value.entries → HasInstantiated types s o args
has_made types s None args made m h = tt
has_made types s (Some c) args made m h = subst (HasEntries types) m.exports h

-- ---- the least rule of an instance that is written out

abbrev pub inline_broken : (differ legal fit : Bool) → Option ℕ
inline_broken false legal fit = Some 6
inline_broken true false fit = Some 20
inline_broken true true false = Some 24
inline_broken true true true = None

inline_rules : (differ legal fit : Bool) → first_failing (true ∷ true ∷ true ∷ true ∷ true ∷ true ∷ differ ∷ true ∷ true ∷ true ∷ true ∷ true ∷ true ∷ true ∷ true ∷ true ∷ true ∷ true ∷ true ∷ true ∷ legal ∷ true ∷ true ∷ true ∷ fit ∷ []) ≡ inline_broken differ legal fit
inline_rules false legal fit = refl
inline_rules true false fit = refl
inline_rules true true false = refl
inline_rules true true true = refl

inline_due : (around : List Space) (s : Space) (es : List NamedItem) → instance_stands (lengths_of s) (Inline es) ≡ true → fault around s (AnInstance (Inline es)) ≡ inline_broken (all_differ is_same_name (map (λ (e : NamedItem). e.name) es)) (list_all (λ (e : NamedItem). is_legal e.name) es) (names_fit_in s [] es)
inline_due around s es stands =
    ap (λ a. first_failing (true ∷ true ∷ true ∷ a ∷ true ∷ true ∷ (all_differ is_same_name (map (λ (e : NamedItem). e.name) es)) ∷ true ∷ true ∷ true ∷ true ∷ true ∷ true ∷ true ∷ true ∷ true ∷ true ∷ true ∷ true ∷ true ∷ (list_all (λ (e : NamedItem). is_legal e.name) es) ∷ true ∷ true ∷ true ∷ (names_fit_in s [] es) ∷ [])) stands ∙ inline_rules (all_differ is_same_name (map (λ (e : NamedItem). e.name) es)) (list_all (λ (e : NamedItem). is_legal e.name) es) (names_fit_in s [] es)

legal_names : (es : List NamedItem) → list_all is_legal (map (λ (e : NamedItem). e.name) es) ≡ list_all (λ (e : NamedItem). is_legal e.name) es
legal_names [] = refl
legal_names (e ∷ es) = ap (λ b. is_legal e.name && b) (legal_names es)

-- the answer, by what each test says
pub inline_answered : (around : List Space) (s : Space) (es : List NamedItem) (differ legal fit : Bool) → instance_stands (lengths_of s) (Inline es) ≡ true → differ ≡ all_differ is_same_name (map (λ (e : NamedItem). e.name) es)
    → legal ≡ list_all is_legal (map (λ (e : NamedItem). e.name) es) → fit ≡ names_fit_in s [] es → inline_broken differ legal fit ≡ fault around s (AnInstance (Inline es))
inline_answered around s es differ legal fit stands d l f = (λ i. inline_broken (d i) ((l ∙ legal_names es) i) (f i)) ∙ sym (inline_due around s es stands)
