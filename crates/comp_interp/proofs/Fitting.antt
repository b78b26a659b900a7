-- What a lifted or lowered function names fits as calls ask, where it fits as valid components say; and it fits still where stores grew.
use Rattle.std.proofs.Common.{◌≡◌, ◌∙◌, ap, sym, refl, subst, ℕ, ◌<◌, ◌≤◌, ◌||◌, nat_lt, List, ◌++◌, length, is_some, Option, Some, None, Bool, true, false, IsSomeAnd, append-nil, arith, slice_get}
use Rattle.wasm_ast.specs.declared.module.CoreFunc.{CoreFunc}
use Rattle.core_store.specs.State.{State}
use Rattle.core_store.specs.declared.value.StoreFunc.{StoreFunc}
use Rattle.core_store.specs.Eval.{function_type}
use Rattle.core_store.specs.Scene.{Scene, scene_of, results_at}
use Rattle.core_interp.specs.Session.{IsCallable}
use Rattle.core_instance.specs.Matching.{IsOfType}
use Rattle.wit_types.specs.Plain.{Plain, Parts, PlainFunc, AsTuple, BoolType, SignedType, UnsignedType, CharType, StringType, ListType, RecordType, VariantType, FlagsType, OwnType, BorrowType, End, More, Bare}
use Rattle.abi_layout.specs.Loading.{has_ranges, parts_have_ranges}
use Rattle.abi_layout.specs.Functions.{core_params, params_spill, result_spills}
use Rattle.comp_facts.specs.Needs.{is_pointed, is_pointed_in, is_pointed_answer, needs_memory as facts_need_memory, lift_needs_realloc}
use Rattle.comp_types.specs.Flat.{lifted_type}
use Rattle.comp_types.specs.Rules.{post_return_type, realloc_type}
use Rattle.comp_worlds.specs.Passing.{params_tuple, answer_tuple, answer_parts, most_params, most_results, spills_over}
use Rattle.comp_worlds.specs.Groups.{Options, Lifting}
use Rattle.comp_joins.specs.Fits.{HasCode, HasCodeIfAny, HasMemoryIfAny}
use Rattle.comp_joins.specs.Fits as sound
use Rattle.instance_state.specs.Passed.{needs_memory}
use Rattle.call_moments.specs.Fits.{Takes, answers_in, answers_of, HasMemory, OptionsFit, LiftingFits}
use Rattle.comp_interp.proofs.Lists.{get_front}

-- ---- values of a type find their memory

mutual
  ranges : (t : Plain) → has_ranges t ≡ is_pointed t
  ranges BoolType = refl
  ranges (SignedType w) = refl
  ranges (UnsignedType w) = refl
  ranges CharType = refl
  ranges StringType = refl
  ranges (ListType item) = refl
  ranges (RecordType form fields) = ranges_in fields
  ranges (VariantType form cases) = ranges_in cases
  ranges (FlagsType labels) = refl
  ranges (OwnType r) = refl
  ranges (BorrowType r) = refl

  ranges_in : (ps : Parts) → parts_have_ranges ps ≡ is_pointed_in ps
  ranges_in End = refl
  ranges_in (More name ty rest) = ap (λ b. b || parts_have_ranges rest) (ranges ty) ∙ ap (λ b. is_pointed ty || b) (ranges_in rest)
  ranges_in (Bare name rest) = ranges_in rest

or_false : (b : Bool) → (b || false) ≡ b
or_false true = refl
or_false false = refl

in_answer : (answer : Option Plain) → parts_have_ranges (answer_parts answer) ≡ is_pointed_answer answer
in_answer None = refl
in_answer (Some ty) = or_false (has_ranges ty) ∙ ranges ty

-- of four reasons the first, the second, or the other two
one_of : (a b c d : Bool) → (a || c) ≡ true → ((a || b) || (c || d)) ≡ true
one_of true b c d h = refl
one_of false true c d h = refl
one_of false false true d h = refl
one_of false false false d h = absurd (let q : false ≡ true = h in cc)

two_of : (a b c d : Bool) → (b || d) ≡ true → ((a || b) || (c || d)) ≡ true
two_of true b c d h = refl
two_of false true c d h = refl
two_of false false true d h = refl
two_of false false false true h = refl
two_of false false false false h = absurd (let q : false ≡ true = h in cc)

pub params_need : (ty : PlainFunc) → needs_memory most_params (params_tuple ty) ≡ true → facts_need_memory ty ≡ true
params_need ty h = one_of (is_pointed_in ty.params) (is_pointed_answer ty.answer) (params_spill ty) (result_spills ty) (sym (ap (λ b. b || params_spill ty) (ranges_in ty.params)) ∙ h)

answer_spills : (answer : Option Plain) → spills_over most_results (RecordType AsTuple (answer_parts answer)) ≡ result_spills (record { params = End; answer = answer })
answer_spills None = refl
answer_spills (Some ty) = ap (λ ts. nat_lt 1 (length ts)) (append-nil _)

pub result_needs : (ty : PlainFunc) → needs_memory most_results (answer_tuple ty) ≡ true → facts_need_memory ty ≡ true
result_needs ty h =
    two_of (is_pointed_in ty.params) (is_pointed_answer ty.answer) (params_spill ty) (result_spills ty)
    (sym (ap (λ b. b || spills_over most_results (answer_tuple ty)) (in_answer ty.answer) ∙ ap (λ b. is_pointed_answer ty.answer || b) (answer_spills ty.answer)) ∙ h)

-- ---- in a store that is the one of an instance

module _ (scenes : List Scene) (k : ℕ) (s : State) (here : slice_get scenes k ≡ Some (scene_of s)) where
  code_in : (f : ℕ) (ty : CoreFunc) → HasCode s f ty → IsCallable (slice_get s.functions f) (length ty.params) × (results_at (scene_of s) f ≡ ty.results)
  code_in f ty h = go (slice_get s.functions f) refl h
    where
      go : (o : Option StoreFunc) → slice_get s.functions f ≡ o → IsOfType (Some ty) o → IsCallable (slice_get s.functions f) (length ty.params) × (results_at (scene_of s) f ≡ ty.results)
      go None at h' = absurd h'
      go (Some g) at h' = (
        subst (λ o. IsCallable o (length ty.params)) (sym at) (ap (λ (t : CoreFunc). length t.params) h'),
        ap (λ o. (function_type o).results) at ∙ sym (ap (λ (t : CoreFunc). t.results) h'),
      )

  pub takes : (f : ℕ) (ty : CoreFunc) → HasCode s f ty → Takes scenes k f (length ty.params)
  takes f ty h = subst (λ o. IsSomeAnd o (λ w. IsCallable (slice_get w.functions f) (length ty.params))) (sym here) (code_in f ty h).0

  pub answers : (f : ℕ) (ty : CoreFunc) → HasCode s f ty → answers_of scenes k f ≡ ty.results
  answers f ty h = ap (answers_in f) here ∙ (code_in f ty h).1

  has_memory : (o : Options) → HasMemoryIfAny s o.memory → is_some o.memory ≡ true → HasMemory scenes k o
  has_memory o h there = go o.memory refl h there
    where
      go : (m : Option ℕ) → o.memory ≡ m → HasMemoryIfAny s m → is_some m ≡ true → HasMemory scenes k o
      go None at h' there' = absurd (let q : false ≡ true = there' in cc)
      go (Some place) at h' there' = subst (λ m. IsSomeAnd m (λ p. IsSomeAnd (slice_get scenes k) (λ w. p < w.memories))) (sym at) (subst (λ x. IsSomeAnd x (λ w. place < w.memories)) (sym here) h')

  pub options_fit : (o : Options) (ty : PlainFunc) (needs realloc : Bool) → (facts_need_memory ty ≡ true → needs ≡ true) → sound.OptionsFit s needs realloc o → OptionsFit scenes k o ty
  options_fit o ty needs due by fits = record {
    realloc = λ f is. let code : HasCode s f realloc_type = subst (λ r. HasCodeIfAny s r realloc_type) is fits.realloc in (takes f realloc_type code, answers f realloc_type code);
    params = λ e. has_memory o fits.memory (fits.has_memory (by (params_need ty e)));
    result = λ e. has_memory o fits.memory (fits.has_memory (by (result_needs ty e)));
  }

  pub lifting_fits : (l : Lifting) → sound.LiftingFits s l → LiftingFits scenes k l
  lifting_fits l fits = record {
    code = takes l.code (lifted_type l.ty) fits.code;
    results = answers l.code (lifted_type l.ty) fits.code;
    options = options_fit l.options l.ty (facts_need_memory l.ty) (lift_needs_realloc l.ty) (λ e. e) fits.options;
    post = λ f is.
        let code : HasCode s f (post_return_type l.ty) = subst (λ p. HasCodeIfAny s p (post_return_type l.ty)) is fits.post in
        subst (λ n. Takes scenes k f n) (sym (ap length (answers l.code (lifted_type l.ty) fits.code))) (takes f (post_return_type l.ty) code);
  }

-- ---- stores grew: functions stand in front of others, and no memory was taken away

pub record Grew (w v : Scene) : Type 0 where
  pub more : List StoreFunc
  pub functions : v.functions ≡ w.functions ++ more
  pub memories : w.memories ≤ v.memories

module _ (ss ts : List Scene) (grew : (k : ℕ) (w : Scene) → slice_get ss k ≡ Some w → (v : Scene) × (slice_get ts k ≡ Some v) × Grew w v) where
  pub takes_still : (k f n : ℕ) → Takes ss k f n → Takes ts k f n × (answers_of ts k f ≡ answers_of ss k f)
  takes_still k f n h = go (slice_get ss k) refl h
    where
      found : (w v : Scene) → Grew w v → (o : Option StoreFunc) → slice_get w.functions f ≡ o → IsCallable o n → slice_get v.functions f ≡ o
      found w v g None at call = absurd call
      found w v g (Some x) at call = ap (λ fs. slice_get fs f) g.functions ∙ get_front w.functions g.more f x at

      go : (o : Option Scene) → slice_get ss k ≡ o → IsSomeAnd o (λ w. IsCallable (slice_get w.functions f) n) → Takes ts k f n × (answers_of ts k f ≡ answers_of ss k f)
      go None at h' = absurd h'
      go (Some w) at h' =
          let v = grew k w at in
          let same : slice_get v.0.functions f ≡ slice_get w.functions f = found w v.0 v.2 (slice_get w.functions f) refl h' in (
            subst (λ o. IsSomeAnd o (λ x. IsCallable (slice_get x.functions f) n)) (sym v.1) (subst (λ o. IsCallable o n) (sym same) h'),
            ap (answers_in f) v.1 ∙ ap (λ o. (function_type o).results) same ∙ sym (ap (answers_in f) at),
          )

  memory_still : (k : ℕ) (o : Options) → HasMemory ss k o → HasMemory ts k o
  memory_still k o h = go o.memory refl h
    where
      in_scene : (place : ℕ) (x : Option Scene) → slice_get ss k ≡ x → IsSomeAnd x (λ w. place < w.memories) → IsSomeAnd (slice_get ts k) (λ w. place < w.memories)
      in_scene place None at h' = absurd h'
      in_scene place (Some w) at h' =
          let v = grew k w at in
          let le : w.memories ≤ v.0.memories = v.2.memories in
          subst (λ x. IsSomeAnd x (λ w'. place < w'.memories)) (sym v.1) (omega (arith, h', le))

      go : (m : Option ℕ) → o.memory ≡ m → IsSomeAnd m (λ place. IsSomeAnd (slice_get ss k) (λ w. place < w.memories)) → HasMemory ts k o
      go None at h' = absurd h'
      go (Some place) at h' = subst (λ m. IsSomeAnd m (λ p. IsSomeAnd (slice_get ts k) (λ w. p < w.memories))) (sym at) (in_scene place (slice_get ss k) refl h')

  pub options_still : (k : ℕ) (o : Options) (ty : PlainFunc) → OptionsFit ss k o ty → OptionsFit ts k o ty
  options_still k o ty fits = record {
    realloc = λ f is. let r = fits.realloc f is in let t = takes_still k f 4 r.0 in (t.0, t.1 ∙ r.1);
    params = λ e. memory_still k o (fits.params e);
    result = λ e. memory_still k o (fits.result e);
  }

  pub lifting_still : (k : ℕ) (l : Lifting) → LiftingFits ss k l → LiftingFits ts k l
  lifting_still k l fits =
      let code = takes_still k l.code (length (core_params l.ty)) fits.code in
      record {
        code = code.0;
        results = code.1 ∙ fits.results;
        options = options_still k l.options l.ty fits.options;
        post = λ f is. subst (λ types. Takes ts k f (length types)) (sym code.1) (takes_still k f (length (answers_of ss k l.code)) (fits.post f is)).0;
      }
