-- The core functions and options of canonical definitions fit.
use Rattle.std.proofs.Common.{◌≡◌, ◌∙◌, ℕ, List, [], ◌∷◌, length, Bool, true, false, is_some, Option, Some, None, refl, sym, ap, subst}
use Rattle.std.proofs.lemmas.Bool.{false≢true, and_parts}
use Rattle.std.specs.Prelude.{nat_lt, ◌&&◌}
use Rattle.std.specs.List.{list_all, list_any}
use Rattle.std.specs.Option.{option_map}
use Rattle.wasm_ast.specs.declared.module.CoreFunc.{CoreFunc}
use Rattle.wasm_ast.specs.declared.component.CoreSort.TheVariants as core_sorts
use Rattle.wasm_ast.specs.declared.component.CanonOption.{CanonOption}
use Rattle.wasm_ast.specs.declared.component.CanonOption.TheVariants as opts
use Rattle.wasm_ast.specs.declared.component.Canon.TheVariants as canons
use Rattle.wit_types.specs.Plain.{PlainFunc}
use Rattle.comp_facts.specs.Needs.{needs_memory, lift_needs_realloc, lower_needs_realloc}
use Rattle.comp_types.specs.Items.{Kind, ResourceKind, ValueKind, FuncKind, InstanceKind}
use Rattle.comp_types.specs.Substitution.{partner_in, func_with}
use Rattle.comp_types.specs.Definitions.{ACanon}
use Rattle.comp_types.specs.CoreMatching.{same_func}
use Rattle.comp_types.specs.Flat.{lifted_type, lowered_type}
use Rattle.comp_types.specs.Spaces.{Space, TypeEntry, core_func_at, kind_at}
use Rattle.comp_types.specs.Types.{func_in}
use Rattle.comp_types.specs.Rules.{if_there, all_differ, lengths_of, option_stands, is_func, is_lifted_from, is_same_option, is_memory, is_realloc, post_return_type, realloc_type, option_is_sound, is_there_if_needed, are_sound, lower_options}
use Rattle.comp_types.specs.Validity.{AllHold}
use Rattle.comp_worlds.specs.Groups.{Options}
use Rattle.comp_link.specs.Linking.{Making, place_at, memory_in, realloc_in, post_in, options_in, lifting_of}
use Rattle.comp_link.specs.Exports.{passing}
use Rattle.comp_link.proofs.ItemLaws.{get_there}
use Rattle.comp_joins.specs.Fits.{HasCode, HasCodeIfAny, HasMemoryIfAny, OptionsFit, LiftingFits, LoweringFits}
use Rattle.comp_joins.proofs.Core.{CoreFits, places_in, core_of, memory_below, item_at_index, code_at_index}
use Rattle.comp_joins.proofs.Flat.{lifted_with, post_with, memory_with, lift_realloc_with, lowered_alike, memory_alike, lower_realloc_alike}
use Rattle.comp_joins.proofs.Imports.{func_same}

if_needed : (needed : Bool) (test : CanonOption → Bool) (os : List CanonOption) → is_there_if_needed needed test os ≡ true → needed ≡ true → list_any test os ≡ true
if_needed true test os h e = h
if_needed false test os h e = absurd (false≢true e)

module _ (m : Making) where
  has_memory : (os : List CanonOption) → list_any is_memory os ≡ true → is_some (memory_in m os) ≡ true
  has_memory [] h = absurd (false≢true h)
  has_memory (opts.Memory i ∷ os) h = refl
  has_memory (opts.Utf8 ∷ os) h = has_memory os h
  has_memory (opts.Realloc i ∷ os) h = has_memory os h
  has_memory (opts.PostReturn i ∷ os) h = has_memory os h

  has_realloc : (os : List CanonOption) → list_any is_realloc os ≡ true → is_some (realloc_in m os) ≡ true
  has_realloc [] h = absurd (false≢true h)
  has_realloc (opts.Realloc i ∷ os) h = refl
  has_realloc (opts.Utf8 ∷ os) h = has_realloc os h
  has_realloc (opts.Memory i ∷ os) h = has_realloc os h
  has_realloc (opts.PostReturn i ∷ os) h = has_realloc os h

module _ (m : Making) (s : Space) (h : CoreFits (places_in m) (core_of s)) where
  -- a core function of which a test says that it is of a type
  pub code_of_type : (i : ℕ) (ty : CoreFunc) → nat_lt i (length s.core_functions) ≡ true → if_there (λ f. same_func f ty) (core_func_at s i) ≡ true → HasCode m.shadow (place_at m.core_functions i) ty
  code_of_type i ty lt same =
      let c = code_at_index m s i h lt in
      subst (HasCode m.shadow (place_at m.core_functions i)) (func_same c.ty ty (subst (λ o. if_there (λ f. same_func f ty) o ≡ true) c.is same)) c.code

  memory_fits : (os : List CanonOption) → list_all (option_stands (lengths_of s)) os ≡ true → HasMemoryIfAny m.shadow (memory_in m os)
  memory_fits [] stand = tt
  memory_fits (opts.Memory i ∷ os) stand =
      let p = and_parts (nat_lt i (length s.core_memories)) (list_all (option_stands (lengths_of s)) os) stand in
      let x = item_at_index m s core_sorts.Memory i h p.0 in
      memory_below m.shadow x.entry (place_at m.core_memories i) x.given
  memory_fits (opts.Utf8 ∷ os) stand = memory_fits os stand
  memory_fits (opts.Realloc i ∷ os) stand = memory_fits os (and_parts (nat_lt i (length s.core_functions)) (list_all (option_stands (lengths_of s)) os) stand).1
  memory_fits (opts.PostReturn i ∷ os) stand = memory_fits os (and_parts (nat_lt i (length s.core_functions)) (list_all (option_stands (lengths_of s)) os) stand).1

  realloc_fits : (post : Option CoreFunc) (os : List CanonOption) → list_all (option_stands (lengths_of s)) os ≡ true → list_all (option_is_sound (core_func_at s) post) os ≡ true → HasCodeIfAny m.shadow (realloc_in m os) realloc_type
  realloc_fits post [] stand sound = tt
  realloc_fits post (opts.Realloc i ∷ os) stand sound =
      code_of_type i realloc_type (and_parts (nat_lt i (length s.core_functions)) (list_all (option_stands (lengths_of s)) os) stand).0
      (and_parts (option_is_sound (core_func_at s) post (opts.Realloc i)) (list_all (option_is_sound (core_func_at s) post) os) sound).0
  realloc_fits post (opts.Utf8 ∷ os) stand sound = realloc_fits post os stand sound
  realloc_fits post (opts.Memory i ∷ os) stand sound = realloc_fits post os (and_parts (nat_lt i (length s.core_memories)) (list_all (option_stands (lengths_of s)) os) stand).1 sound
  realloc_fits post (opts.PostReturn i ∷ os) stand sound =
      realloc_fits post os (and_parts (nat_lt i (length s.core_functions)) (list_all (option_stands (lengths_of s)) os) stand).1
      (and_parts (option_is_sound (core_func_at s) post (opts.PostReturn i)) (list_all (option_is_sound (core_func_at s) post) os) sound).1

  post_fits : (ty : CoreFunc) (os : List CanonOption) → list_all (option_stands (lengths_of s)) os ≡ true → list_all (option_is_sound (core_func_at s) (Some ty)) os ≡ true → HasCodeIfAny m.shadow (post_in m os) ty
  post_fits ty [] stand sound = tt
  post_fits ty (opts.PostReturn i ∷ os) stand sound =
      code_of_type i ty (and_parts (nat_lt i (length s.core_functions)) (list_all (option_stands (lengths_of s)) os) stand).0
      (and_parts (option_is_sound (core_func_at s) (Some ty) (opts.PostReturn i)) (list_all (option_is_sound (core_func_at s) (Some ty)) os) sound).0
  post_fits ty (opts.Utf8 ∷ os) stand sound = post_fits ty os stand sound
  post_fits ty (opts.Memory i ∷ os) stand sound = post_fits ty os (and_parts (nat_lt i (length s.core_memories)) (list_all (option_stands (lengths_of s)) os) stand).1 sound
  post_fits ty (opts.Realloc i ∷ os) stand sound =
      post_fits ty os (and_parts (nat_lt i (length s.core_functions)) (list_all (option_stands (lengths_of s)) os) stand).1
      (and_parts (option_is_sound (core_func_at s) (Some ty) (opts.Realloc i)) (list_all (option_is_sound (core_func_at s) (Some ty)) os) sound).1

  -- the options of a definition, by what its type needs
  record Sound (memory realloc : Bool) (post : Option CoreFunc) (os : List CanonOption) : Type 0 where
    each : list_all (option_is_sound (core_func_at s) post) os ≡ true
    memory_there : is_there_if_needed memory is_memory os ≡ true
    realloc_there : is_there_if_needed realloc is_realloc os ≡ true

  sound_parts : (memory realloc : Bool) (post : Option CoreFunc) (os : List CanonOption) → are_sound (core_func_at s) memory realloc post os ≡ true → Sound memory realloc post os
  sound_parts memory realloc post os sound =
      let p = and_parts (all_differ is_same_option os && list_all (option_is_sound (core_func_at s) post) os) (is_there_if_needed memory is_memory os && is_there_if_needed realloc is_realloc os) sound in
      let each = and_parts (all_differ is_same_option os) (list_all (option_is_sound (core_func_at s) post) os) p.0 in
      let due = and_parts (is_there_if_needed memory is_memory os) (is_there_if_needed realloc is_realloc os) p.1 in
      record { each = each.1; memory_there = due.0; realloc_there = due.1 }

  options_fit : (memory realloc : Bool) (post : Option CoreFunc) (os : List CanonOption) → list_all (option_stands (lengths_of s)) os ≡ true → Sound memory realloc post os → OptionsFit m.shadow memory realloc (options_in m os)
  options_fit memory realloc post os stand sound = record {
    memory = memory_fits os stand;
    has_memory = λ e. has_memory m os (if_needed memory is_memory os sound.memory_there e);
    realloc = realloc_fits post os stand sound.each;
    has_realloc = λ e. has_realloc m os (if_needed realloc is_realloc os sound.realloc_there e);
  }

  same_needs : (a b c d : Bool) (o : Options) → a ≡ c → b ≡ d → OptionsFit m.shadow a b o → OptionsFit m.shadow c d o
  same_needs a b c d o e f fits = subst (λ z. OptionsFit m.shadow z d o) e (subst (λ z. OptionsFit m.shadow a z o) f fits)

  -- ---- lifted functions

  lifted_is : (f : CoreFunc) (kind : Kind) → is_func kind ≡ true → is_lifted_from f kind ≡ true → f ≡ lifted_type (func_in (Some kind))
  lifted_is f (FuncKind ty) is same = func_same f (lifted_type ty) same
  lifted_is f (ResourceKind r) is same = absurd (false≢true is)
  lifted_is f (ValueKind ty) is same = absurd (false≢true is)
  lifted_is f (InstanceKind own entries) is same = absurd (false≢true is)

  pub lifting_fits : (around : List Space) (func : ℕ) (os : List CanonOption) (ty : ℕ) → AllHold around s (ACanon (canons.Lift func os ty)) → LiftingFits m.shadow (lifting_of m func os (func_in (kind_at s ty)))
  lifting_fits around func os ty v =
      let stand = and_parts (nat_lt func (length s.core_functions) && nat_lt ty (length s.types)) (list_all (option_stands (lengths_of s)) os) ((v 3).indexes refl) in
      let there = and_parts (nat_lt func (length s.core_functions)) (nat_lt ty (length s.types)) stand.0 in
      let c = code_at_index m s func h there.0 in
      let x = get_there s.types ty there.1 in
      let kind : kind_at s ty ≡ Some x.0.kind = ap (option_map (λ (e : TypeEntry). e.kind)) x.1 in
      let is : is_func x.0.kind ≡ true = subst (λ o. if_there is_func o ≡ true) kind ((v 11).kinds refl) in
      let here : if_there (is_lifted_from c.ty) (kind_at s ty) ≡ true = subst (λ o. if_there (λ f. if_there (is_lifted_from f) (kind_at s ty)) o ≡ true) c.is ((v 16).flat_types refl) in
      let flat : is_lifted_from c.ty x.0.kind ≡ true = subst (λ o. if_there (is_lifted_from c.ty) o ≡ true) kind here in
      let f : PlainFunc = func_in (kind_at s ty) in
      let g : PlainFunc = func_with (partner_in m.resources) f in
      let typed : c.ty ≡ lifted_type g = lifted_is c.ty x.0.kind is flat ∙ (ap (λ o. lifted_type (func_in o)) (sym kind) ∙ sym (lifted_with (partner_in m.resources) f)) in
      let sound = sound_parts (needs_memory f) (lift_needs_realloc f) (Some (post_return_type f)) os ((v 17).options refl) in
      record {
        code = subst (HasCode m.shadow (place_at m.core_functions func)) typed c.code;
        options = same_needs (needs_memory f) (lift_needs_realloc f) (needs_memory g) (lift_needs_realloc g) (options_in m os) (sym (memory_with (partner_in m.resources) f)) (sym (lift_realloc_with (partner_in m.resources) f))
            (options_fit (needs_memory f) (lift_needs_realloc f) (Some (post_return_type f)) os stand.1 sound);
        post = subst (HasCodeIfAny m.shadow (post_in m os)) (sym (post_with (partner_in m.resources) f)) (post_fits (post_return_type f) os stand.1 sound.each);
      }

  -- ---- lowered functions

  -- a lowered function has the type of what it calls
  pub lowering_fits : (ty called : PlainFunc) (os : List CanonOption) → passing ty ≡ passing called → list_all (option_stands (lengths_of s)) os ≡ true → lower_options (core_func_at s) ty os ≡ true → LoweringFits m.shadow (lowered_type ty) called (options_in m os)
  lowering_fits ty called os same stand sound = record {
    code = lowered_alike ty called same;
    options = same_needs (needs_memory ty) (lower_needs_realloc ty) (needs_memory called) (lower_needs_realloc called) (options_in m os) (memory_alike ty called same) (lower_realloc_alike ty called same)
        (options_fit (needs_memory ty) (lower_needs_realloc ty) None os stand (sound_parts (needs_memory ty) (lower_needs_realloc ty) None os sound));
  }
