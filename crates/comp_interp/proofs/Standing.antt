-- What stands stands still once something more is made.
use Rattle.std.proofs.Common.{◌≡◌, ◌∙◌, ◌⊎◌, inl, inr, ap, sym, refl, subst, ℕ, zero, suc, ◌+◌, ◌<◌, ◌≤◌, List, [], ◌∷◌, ◌++◌, length, set, Option, Some, None, append-nil, length-set, arith, slice_get}
use Rattle.std.proofs.lemmas.Option.{none-some}
use Rattle.std.proofs.lemmas.List.{length-append}
use Rattle.wasm_ast.specs.declared.module.CoreFunc.{CoreFunc}
use Rattle.wasm_ast.specs.declared.module.Body.{Body}
use Rattle.wasm_ast.specs.declared.module.Module.{Module}
use Rattle.core_store.specs.declared.value.StoreFunc.TheVariants.{Outside}
use Rattle.core_store.specs.Scene.{Scene}
use Rattle.core_instance.specs.Instantiation.{functions_from}
use Rattle.comp_worlds.specs.Groups.{Target, Mine, Theirs, type_of, Func, LoweredFunc, ResourceNew, ResourceDrop, ResourceRep, Owner}
use Rattle.call_moments.specs.Fits.{core_type_of, IsProvided}
use Rattle.comp_interp.specs.Standing.{TargetStands, FuncStands, OwnerStands, Stands}
use Rattle.comp_interp.proofs.Lists.{set_here, set_there, push_here, push_there, by_number, get_front}
use Rattle.comp_interp.proofs.Fitting.{Grew, takes_still, options_still, lifting_still}

module _ (ss ts : List Scene) (grew : (k : ℕ) (w : Scene) → slice_get ss k ≡ Some w → (v : Scene) × (slice_get ts k ≡ Some v) × Grew w v) (longer : length ss ≤ length ts) where
  pub target_still : (t : Target) → TargetStands ss t → TargetStands ts t
  target_still (Mine k lifting) h = lifting_still ss ts grew k lifting h
  target_still (Theirs import) h = tt

  func_still : (k : ℕ) (f : Func) → FuncStands ss k f → FuncStands ts k f
  func_still k (LoweredFunc target options) h = (target_still target h.0, options_still ss ts grew k options (type_of target) h.1)
  func_still k (ResourceNew r) h = tt
  func_still k (ResourceDrop r) h = tt
  func_still k (ResourceRep r) h = tt

  owner_still : (o : Option Owner) → OwnerStands ss o → OwnerStands ts o
  owner_still None h = tt
  owner_still (Some o) h = (let lt : o.instance < length ss = h.0 in omega (arith, lt, longer), λ f is. (takes_still ss ts grew o.instance f 1 (h.1 f is)).0)

-- a function of the embedder is none of a module's
no_outside : (m : Module) (instance at : ℕ) (bs : List Body) (place number : ℕ) (ty : CoreFunc) → slice_get (functions_from m instance at bs) place ≡ Some (Outside ty number) → ⊥
no_outside m instance at [] place number ty e = none-some (Outside ty number) e
no_outside m instance at (b ∷ bs) zero number ty e = absurd (cc)
no_outside m instance at (b ∷ bs) (suc place) number ty e = no_outside m instance (at + 1) bs place number ty e

-- found in front, or after
in_two : {A : Type 0} → {P : Type 0} → (xs ys : List A) (n : ℕ) (x : A) → slice_get (xs ++ ys) n ≡ Some x → (slice_get xs n ≡ Some x → P) → ((m : ℕ) → n ≡ length xs + m → slice_get ys m ≡ Some x → P) → P
in_two [] ys n x e front behind = behind n (omega arith) e
in_two (z ∷ xs) ys zero x e front behind = front e
in_two (z ∷ xs) ys (suc n) x e front behind = in_two xs ys n x e front (λ m is at. behind m (let same : n ≡ length xs + m = is in omega (arith, same)) at)

-- ---- one store grew, at the place k

module _ (ss : List Scene) (k : ℕ) (w v : Scene) (found : slice_get ss k ≡ Some w) (g : Grew w v) (deep : v.deepest ≡ w.deepest) where
  pub grew_at : (j : ℕ) (x : Scene) → slice_get ss j ≡ Some x → (y : Scene) × (slice_get (set ss k v) j ≡ Some y) × Grew x y
  grew_at j x at = by_number j k
      (λ e.
      let same : Some x ≡ Some w = sym at ∙ ap (slice_get ss) e ∙ found in
      let is : x ≡ w = cc in
      (v, ap (slice_get (set ss k v)) e ∙ set_here ss k w v found, subst (λ z. Grew z v) (sym is) g))
      (λ differ. (x, set_there ss k j v differ ∙ at, record { more = []; functions = sym (append-nil x.functions); memories = omega arith }))

  deepest_at : ((j : ℕ) (x : Scene) → slice_get ss j ≡ Some x → x.deepest ≡ Some 65536) → (j : ℕ) (x : Scene) → slice_get (set ss k v) j ≡ Some x → x.deepest ≡ Some 65536
  deepest_at all j x at = by_number j k
      (λ e. let same : Some v ≡ Some x = sym (set_here ss k w v found) ∙ ap (slice_get (set ss k v)) (sym e) ∙ at in let is : v ≡ x = cc in ap (λ (z : Scene). z.deepest) (sym is) ∙ deep ∙ all k w found)
      (λ differ. all j x (sym (set_there ss k j v differ) ∙ at))

-- ---- a canonical function more, which is a function of the store

module _ (ss : List Scene) (canons canons' : ℕ → ℕ → Option Func) (owner : ℕ → Option Owner) (st : Stands ss canons owner) (k number : ℕ) (w : Scene) (found : slice_get ss k ≡ Some w) (f : Func) (ty : CoreFunc)
    (stands : FuncStands ss k f) (params : ty.params ≡ (core_type_of f).params) (results : ty.results ≡ (core_type_of f).results)
    (new : canons' k number ≡ Some f) (kept : (j n : ℕ) (g : Func) → canons j n ≡ Some g → canons' j n ≡ Some g) (either : (j n : ℕ) (g : Func) → canons' j n ≡ Some g → (canons j n ≡ Some g) ⊎ ((j ≡ k) × (g ≡ f))) where
  abbrev pub with_function : Scene
  with_function = record w { functions = w.functions ++ Outside ty number ∷ [] }

  abbrev after : List Scene
  after = set ss k with_function

  grew : (j : ℕ) (x : Scene) → slice_get ss j ≡ Some x → (y : Scene) × (slice_get after j ≡ Some y) × Grew x y
  grew = grew_at ss k w with_function found (record { more = Outside ty number ∷ []; functions = refl; memories = omega arith }) refl

  longer : length ss ≤ length after
  longer = let same : length after ≡ length ss = length-set ss k with_function in omega (arith, same)

  is_canon : (j n : ℕ) (t : CoreFunc) → IsProvided canons j n t → IsProvided canons' j n t
  is_canon j n t p = record { func = p.func; is = kept j n p.func p.is; params = p.params; results = p.results }

  at_k : (place n : ℕ) (t : CoreFunc) → slice_get (w.functions ++ Outside ty number ∷ []) place ≡ Some (Outside t n) → IsProvided canons' k n t
  at_k place n t at =
      in_two w.functions (Outside ty number ∷ []) place (Outside t n) at
      (λ front. is_canon k n t (st.provided k place n w t found front))
      (λ m is behind. last m behind)
    where
      last : (m : ℕ) → slice_get (Outside ty number ∷ []) m ≡ Some (Outside t n) → IsProvided canons' k n t
      last zero e =
          let ty_is : ty ≡ t = cc in
          let n_is : number ≡ n = cc in
          subst (λ z. IsProvided canons' k z t) n_is (subst (λ z. IsProvided canons' k number z) ty_is (record { func = f; is = new; params = params; results = results }))
      last (suc m) e = absurd (none-some (Outside t n) e)

  pub provided_stands : Stands after canons' owner
  provided_stands = record {
    funcs = λ j n g is. elim (either j n g is) [
      | inl was ↦ func_still ss after grew longer j g (st.funcs j n g was)
      | inr last ↦ subst (λ x. FuncStands after j x) (sym last.1) (subst (λ x. FuncStands after x f) (sym last.0) (func_still ss after grew longer k f stands))
    ];
    owners = λ r. owner_still ss after grew longer (owner r) (st.owners r);
    provided = λ j place n x t at there. by_number j k
        (λ e.
        let same : Some with_function ≡ Some x = sym (set_here ss k w with_function found) ∙ ap (slice_get after) (sym e) ∙ at in
        let is : with_function ≡ x = cc in
        subst (λ z. IsProvided canons' z n t) (sym e) (at_k place n t (subst (λ (z : Scene). slice_get z.functions place ≡ Some (Outside t n)) (sym is) there)))
        (λ differ. is_canon j n t (st.provided j place n x t (sym (set_there ss k j with_function differ) ∙ at) there));
    deepest = deepest_at ss k w with_function found (record { more = Outside ty number ∷ []; functions = refl; memories = omega arith }) refl st.deepest;
  }

-- ---- a module is instantiated

module _ (ss : List Scene) (canons : ℕ → ℕ → Option Func) (owner : ℕ → Option Owner) (st : Stands ss canons owner) (k : ℕ) (w v : Scene) (found : slice_get ss k ≡ Some w) (m : Module) (instance : ℕ)
    (functions : v.functions ≡ w.functions ++ functions_from m instance 0 m.code) (memories : w.memories ≤ v.memories) (deep : v.deepest ≡ w.deepest) where
  abbrev then_scenes : List Scene
  then_scenes = set ss k v

  grown : Grew w v
  grown = record { more = functions_from m instance 0 m.code; functions = functions; memories = memories }

  same_length : length ss ≤ length then_scenes
  same_length = let same : length then_scenes ≡ length ss = length-set ss k v in omega (arith, same)

  pub module_stands : Stands then_scenes canons owner
  module_stands = record {
    funcs = λ j n g is. func_still ss then_scenes (grew_at ss k w v found grown deep) same_length j g (st.funcs j n g is);
    owners = λ r. owner_still ss then_scenes (grew_at ss k w v found grown deep) same_length (owner r) (st.owners r);
    provided = λ j place n x t at there. by_number j k
        (λ e.
        let same : Some v ≡ Some x = sym (set_here ss k w v found) ∙ ap (slice_get then_scenes) (sym e) ∙ at in
        let is : v ≡ x = cc in
        let here : slice_get (w.functions ++ functions_from m instance 0 m.code) place ≡ Some (Outside t n) = ap (λ fs. slice_get fs place) (sym functions) ∙ ap (λ (z : Scene). slice_get z.functions place) is ∙ there in
        subst (λ z. IsProvided canons z n t) (sym e) (in_two w.functions (functions_from m instance 0 m.code) place (Outside t n) here
        (λ front. st.provided k place n w t found front)
        (λ i is' behind. absurd (no_outside m instance 0 m.code i n t behind))))
        (λ differ. st.provided j place n x t (sym (set_there ss k j v differ) ∙ at) there);
    deepest = deepest_at ss k w v found grown deep st.deepest;
  }

-- ---- an owner more, and an instance more

pub owned_stands : (ss : List Scene) (canons : ℕ → ℕ → Option Func) (owner owner' : ℕ → Option Owner) (o : Owner) → Stands ss canons owner → OwnerStands ss (Some o) → ((r : ℕ) → (owner' r ≡ owner r) ⊎ (owner' r ≡ Some o)) → Stands ss canons owner'
owned_stands ss canons owner owner' o st stands either = record {
  funcs = st.funcs;
  owners = λ r. elim (either r) [ inl same ↦ subst (OwnerStands ss) (sym same) (st.owners r) | inr new ↦ subst (OwnerStands ss) (sym new) stands ];
  provided = st.provided;
  deepest = st.deepest;
}

module _ (ss : List Scene) (canons canons' : ℕ → ℕ → Option Func) (owner : ℕ → Option Owner) (st : Stands ss canons owner) (same : (k n : ℕ) → canons' k n ≡ canons k n) (v : Scene) (none : v.functions ≡ []) (deep : v.deepest ≡ Some 65536) where
  in_front : (j : ℕ) (x : Scene) → slice_get ss j ≡ Some x → (y : Scene) × (slice_get (ss ++ v ∷ []) j ≡ Some y) × Grew x y
  in_front j x at = (x, get_front ss (v ∷ []) j x at, record { more = []; functions = sym (append-nil x.functions); memories = omega arith })

  one_longer : length ss ≤ length (ss ++ v ∷ [])
  one_longer = let e : length (ss ++ v ∷ []) ≡ length ss + 1 = length-append ss (v ∷ []) in omega (arith, e)

  pub entered_stands : Stands (ss ++ v ∷ []) canons' owner
  entered_stands = record {
    funcs = λ j n g is. func_still ss (ss ++ v ∷ []) in_front one_longer j g (st.funcs j n g (sym (same j n) ∙ is));
    owners = λ r. owner_still ss (ss ++ v ∷ []) in_front one_longer (owner r) (st.owners r);
    provided = λ j place n x t at there. by_number j (length ss)
        (λ e.
        let here : Some v ≡ Some x = sym (push_here ss v) ∙ ap (slice_get (ss ++ v ∷ [])) (sym e) ∙ at in
        let is : v ≡ x = cc in
        absurd (none-some (Outside t n) (sym (ap (λ fs. slice_get fs place) none) ∙ ap (λ (z : Scene). slice_get z.functions place) is ∙ there)))
        (λ differ. let p = st.provided j place n x t (sym (push_there ss v j differ) ∙ at) there in record { func = p.func; is = same j n ∙ p.is; params = p.params; results = p.results });
    deepest = λ j x at. by_number j (length ss)
        (λ e. let here : Some v ≡ Some x = sym (push_here ss v) ∙ ap (slice_get (ss ++ v ∷ [])) (sym e) ∙ at in let is : v ≡ x = cc in ap (λ (z : Scene). z.deepest) (sym is) ∙ deep)
        (λ differ. st.deepest j x (sym (push_there ss v j differ) ∙ at));
  }
