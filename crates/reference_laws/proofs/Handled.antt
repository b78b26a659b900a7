-- Which listed functions take a handle, or are `poll`: all that a policy leaves to the host whatever it says.
use Rattle.std.proofs.Common.{◌≡◌, ◌∙◌, refl, sym, ap, subst, ℕ, zero, suc, List, [], ◌∷◌, Bool, true, false, ◌&&◌, ◌||◌, Option, Some, None, cond, inl, inr}
use Rattle.std.specs.Prelude.{◌⊎◌, codes, slice_index_or, if◌then◌else◌}
use Rattle.std.specs.List.{list_all, find}
use Rattle.std.specs.Str.{bytes_eq}
use Rattle.wit_types.specs.Plain.{Name, Plain, Parts, End, More, Bare, BoolType, SignedType, UnsignedType, CharType, StringType, ListType, RecordType, VariantType, FlagsType, OwnType, BorrowType}
use Rattle.wit_types.specs.PlainValue.{PlainValue, PlainValues, BoolValue, IntValue, CharValue, StringValue, ListValue, RecordValue, VariantValue, FlagsValue, HandleValue, End as NoValues, More as Values}
use Rattle.wit_types.specs.HasType.{is_handle, are_of}
use Rattle.wasi_table.specs.Plain.{PlainNamedFunc}
use Rattle.wasi_table.specs.Tables.{described as described_by}
use Rattle.wasi_table.specs.Forms.{form_named}
use Rattle.wasi_table.specs.Types.{kind_of}
use Rattle.wasi_listed.specs.IoListed.{described as described_io, known_types}
use Rattle.wasi_listed.specs.FsListed.{described as described_fs}
use Rattle.wasi_listed.specs.NetListed.{described as described_net}
use Rattle.policy_data.specs.declared.policy.Policy.{Policy}
use Rattle.reference_step.specs.Access.{Access, Denied, is_hosted, hosted_if, by_environment, by_arguments, by_folder, is_some_text, accesses, access}
use Rattle.reference_step.specs.Atoms.{atoms_of, handles}
use Rattle.reference_step.specs.Listed.{Listed, interface_at, listed_in, function_in, interface_named, listed_function}
use Rattle.reference_step.specs.Rules.{is_borrow}
use Rattle.reference_laws.specs.Closed.{AllowsNothing}

pub both_true : (a b : Bool) → (a && b) ≡ true → (a ≡ true) × (b ≡ true)
both_true true true e = (refl, refl)
both_true true false e = absurd cc
both_true false b e = absurd cc

pub false_true : {A : Type 0} → false ≡ true → A
false_true e = absurd cc

pub one_true : (a b : Bool) → (a || b) ≡ true → (a ≡ true) ⊎ (b ≡ true)
one_true true b e = inl refl
one_true false b e = inr e

-- ---- functions that take a handle first

abbrev begins_with_handle : Parts → Bool
begins_with_handle End = false
begins_with_handle (More name ty rest) = is_borrow ty
begins_with_handle (Bare name rest) = false

abbrev is_poll : Name → Bool
is_poll name = bytes_eq name (codes "poll")

abbrev takes_handle : PlainNamedFunc → Bool
takes_handle f = begins_with_handle f.ty.params || is_poll f.name

-- the interfaces of which all do that a policy may leave to the host
abbrev handled : List Bool
handled = true ∷ true ∷ true ∷ false ∷ false ∷ false ∷ false ∷ false ∷ true ∷ true ∷ false ∷ false ∷ false ∷ false ∷ false ∷ false ∷ false ∷ false ∷ true ∷ false ∷ true ∷ false ∷ true ∷ true ∷ false ∷ true ∷ false ∷ []

all_take : (i : ℕ) → slice_index_or handled i false ≡ true → list_all takes_handle (interface_at i).functions ≡ true
unfolding described_io described_fs described_net described_by form_named kind_of known_types
all_take zero h = refl
all_take (suc zero) h = refl
all_take (suc (suc zero)) h = refl
all_take (suc (suc (suc zero))) h = false_true h
all_take (suc (suc (suc (suc zero)))) h = false_true h
all_take (suc (suc (suc (suc (suc zero))))) h = false_true h
all_take (suc (suc (suc (suc (suc (suc zero)))))) h = false_true h
all_take (suc (suc (suc (suc (suc (suc (suc zero))))))) h = false_true h
all_take (suc (suc (suc (suc (suc (suc (suc (suc zero)))))))) h = refl
all_take (suc (suc (suc (suc (suc (suc (suc (suc (suc zero))))))))) h = refl
all_take (suc (suc (suc (suc (suc (suc (suc (suc (suc (suc zero)))))))))) h = false_true h
all_take (suc (suc (suc (suc (suc (suc (suc (suc (suc (suc (suc zero))))))))))) h = false_true h
all_take (suc (suc (suc (suc (suc (suc (suc (suc (suc (suc (suc (suc zero)))))))))))) h = false_true h
all_take (suc (suc (suc (suc (suc (suc (suc (suc (suc (suc (suc (suc (suc zero))))))))))))) h = false_true h
all_take (suc (suc (suc (suc (suc (suc (suc (suc (suc (suc (suc (suc (suc (suc zero)))))))))))))) h = false_true h
all_take (suc (suc (suc (suc (suc (suc (suc (suc (suc (suc (suc (suc (suc (suc (suc zero))))))))))))))) h = false_true h
all_take (suc (suc (suc (suc (suc (suc (suc (suc (suc (suc (suc (suc (suc (suc (suc (suc zero)))))))))))))))) h = false_true h
all_take (suc (suc (suc (suc (suc (suc (suc (suc (suc (suc (suc (suc (suc (suc (suc (suc (suc zero))))))))))))))))) h = false_true h
all_take (suc (suc (suc (suc (suc (suc (suc (suc (suc (suc (suc (suc (suc (suc (suc (suc (suc (suc zero)))))))))))))))))) h = refl
all_take (suc (suc (suc (suc (suc (suc (suc (suc (suc (suc (suc (suc (suc (suc (suc (suc (suc (suc (suc zero))))))))))))))))))) h = false_true h
all_take (suc (suc (suc (suc (suc (suc (suc (suc (suc (suc (suc (suc (suc (suc (suc (suc (suc (suc (suc (suc zero)))))))))))))))))))) h = refl
all_take (suc (suc (suc (suc (suc (suc (suc (suc (suc (suc (suc (suc (suc (suc (suc (suc (suc (suc (suc (suc (suc zero))))))))))))))))))))) h = false_true h
all_take (suc (suc (suc (suc (suc (suc (suc (suc (suc (suc (suc (suc (suc (suc (suc (suc (suc (suc (suc (suc (suc (suc zero)))))))))))))))))))))) h = refl
all_take (suc (suc (suc (suc (suc (suc (suc (suc (suc (suc (suc (suc (suc (suc (suc (suc (suc (suc (suc (suc (suc (suc (suc zero))))))))))))))))))))))) h = refl
all_take (suc (suc (suc (suc (suc (suc (suc (suc (suc (suc (suc (suc (suc (suc (suc (suc (suc (suc (suc (suc (suc (suc (suc (suc zero)))))))))))))))))))))))) h = false_true h
all_take (suc (suc (suc (suc (suc (suc (suc (suc (suc (suc (suc (suc (suc (suc (suc (suc (suc (suc (suc (suc (suc (suc (suc (suc (suc zero))))))))))))))))))))))))) h = refl
all_take (suc (suc (suc (suc (suc (suc (suc (suc (suc (suc (suc (suc (suc (suc (suc (suc (suc (suc (suc (suc (suc (suc (suc (suc (suc (suc zero)))))))))))))))))))))))))) h = false_true h
all_take (suc (suc (suc (suc (suc (suc (suc (suc (suc (suc (suc (suc (suc (suc (suc (suc (suc (suc (suc (suc (suc (suc (suc (suc (suc (suc (suc i))))))))))))))))))))))))))) h = false_true h

-- what is found passes what all pass
pub same_some : {X : Type 0} (x y : X) → Some y ≡ Some x → y ≡ x
same_some x y e = cc

found_or_later : {X : Type 0} (T : X → Bool) (x y : X) (later : Option X) (b : Bool) → T y ≡ true → (later ≡ Some x → T x ≡ true) → cond b (Some y) later ≡ Some x → T x ≡ true
found_or_later T x y later true this rest e = subst (λ z. T z ≡ true) (same_some x y e) this
found_or_later T x y later false this rest e = rest e

pub found_passes : {X : Type 0} (T P : X → Bool) (xs : List X) (x : X) → list_all T xs ≡ true → find P xs ≡ Some x → T x ≡ true
found_passes T P [] x all e = absurd cc
found_passes T P (y ∷ ys) x all e =
    let both = both_true (T y) (list_all T ys) all in
    found_or_later T x y (find P ys) (P y) both.0 (λ later. found_passes T P ys x both.1 later) e

same_listed : (f g : Listed) → Some f ≡ Some g → f ≡ g
same_listed f g e = cc

pub in_interface : (i : ℕ) (g : Option PlainNamedFunc) (f : Listed) → listed_in i g ≡ Some f → (i ≡ f.interface) × (g ≡ Some f.function)
in_interface i None f e = absurd cc
in_interface i (Some g) f e = let same = same_listed (record { interface = i; function = g }) f e in (ap (λ (l : Listed). l.interface) same, ap (λ (l : Listed). Some l.function) same)

of_interface : (name : Name) (o : Option ℕ) (f : Listed) → function_in name o ≡ Some f → slice_index_or handled f.interface false ≡ true → takes_handle f.function ≡ true
of_interface name None f e h = absurd cc
of_interface name (Some i) f e h =
    let is = in_interface i (find (λ g. bytes_eq g.name name) (interface_at i).functions) f e in
    found_passes takes_handle (λ g. bytes_eq g.name name) (interface_at i).functions f.function (all_take i (subst (λ n. slice_index_or handled n false ≡ true) (sym is.0) h)) is.1

-- ---- what the policy leaves to the host stands in these interfaces

abbrev pub Fits : (Name → Access) → Bool → Type 0
Fits a b = (name : Name) → is_hosted (a name) ≡ true → b ≡ true

abbrev pub AllFit : List (Name → Access) → List Bool → Type 0
AllFit [] bs = Unit {0}
AllFit (a ∷ xs) [] = ⊥
AllFit (a ∷ xs) (b ∷ bs) = Fits a b × AllFit xs bs

pub fit_at : (xs : List (Name → Access)) (bs : List Bool) (i : ℕ) (name : Name) → AllFit xs bs → is_hosted (slice_index_or xs i (λ f. Denied) name) ≡ true → slice_index_or bs i false ≡ true
fit_at [] bs i name all h = false_true h
fit_at (a ∷ xs) [] i name all h = absurd all
fit_at (a ∷ xs) (b ∷ bs) zero name all h = all.0 name h
fit_at (a ∷ xs) (b ∷ bs) (suc i) name all h = fit_at xs bs i name all.1 h

not_hosted_if : (b : Bool) → b ≡ false → is_hosted (hosted_if b) ≡ false
not_hosted_if true e = e
not_hosted_if false e = refl

of_two : (b : Bool) (x y : Access) → is_hosted x ≡ false → is_hosted y ≡ false → is_hosted (if b then x else y) ≡ false
of_two true x y f g = f
of_two false x y f g = g

environment : (p : Policy) → AllowsNothing p → (name : Name) → is_hosted (by_environment p name) ≡ false
environment p a name =
    of_two (bytes_eq name (codes "get-environment")) (hosted_if (p.env_pass || is_some_text p.env_allow)) (if bytes_eq name (codes "get-arguments") then by_arguments p.env_arguments else by_folder p.env_cwd)
    (not_hosted_if (p.env_pass || is_some_text p.env_allow) a.variables)
    (of_two (bytes_eq name (codes "get-arguments")) (by_arguments p.env_arguments) (by_folder p.env_cwd) a.arguments a.folder)

all_fit : (p : Policy) → AllowsNothing p → AllFit (accesses p) handled
all_fit p a = ((λ name h. refl), ((λ name h. refl), ((λ name h. refl), ((λ name h. sym (environment p a name) ∙ h), ((λ name h. sym (a.exit) ∙ h), ((λ name h. sym (a.stdin) ∙ h), ((λ name h. sym (a.stdout) ∙ h), ((λ name h. sym (a.stderr) ∙ h), ((λ name h. refl), ((λ name h. refl), ((λ name h. sym (not_hosted_if _ a.stdin) ∙ h), ((λ name h. sym (not_hosted_if _ a.stdout) ∙ h), ((λ name h. sym (not_hosted_if _ a.stderr) ∙ h), ((λ name h. sym (a.wall) ∙ h), ((λ name h. sym (a.monotonic) ∙ h), ((λ name h. sym (a.random) ∙ h), ((λ name h. sym (a.random) ∙ h), ((λ name h. sym (a.random) ∙ h), ((λ name h. refl), ((λ name h. sym (not_hosted_if _ a.folders) ∙ h), ((λ name h. refl), ((λ name h. sym (a.sockets) ∙ h), ((λ name h. refl), ((λ name h. refl), ((λ name h. sym (a.sockets) ∙ h), ((λ name h. refl), ((λ name h. sym (a.sockets) ∙ h), tt)))))))))))))))))))))))))))

-- a function that the policy leaves to the host takes a handle
pub takes : (p : Policy) (version : ℕ → Name) (interface name : Name) (f : Listed) → AllowsNothing p → listed_function version interface name ≡ Some f → is_hosted (access p f.interface f.function.name) ≡ true
    → (begins_with_handle f.function.ty.params ≡ true) ⊎ (is_poll f.function.name ≡ true)
takes p version interface name f a listed h =
    one_true (begins_with_handle f.function.ty.params) (is_poll f.function.name)
    (of_interface name (interface_named version interface) f listed (fit_at (accesses p) handled f.interface f.function.name (all_fit p a) h))

-- ---- so a call of it gives one

handle_value : (v : PlainValue) → is_handle v ≡ true → (id : ℕ) × (v ≡ HandleValue id)
handle_value (BoolValue b) h = false_true h
handle_value (IntValue n) h = false_true h
handle_value (CharValue code) h = false_true h
handle_value (StringValue bytes) h = false_true h
handle_value (ListValue vs) h = false_true h
handle_value (RecordValue vs) h = false_true h
handle_value (VariantValue number payload) h = false_true h
handle_value (FlagsValue bits) h = false_true h
handle_value (HandleValue index) h = (index, refl)

first_given : (kind : ℕ) (name : Name) (rest : Parts) (v : PlainValue) (vs : PlainValues) (id : ℕ) → v ≡ HandleValue id → handles (atoms_of (More name (BorrowType kind) rest) (Values v vs)) ≡ [] → ⊥
first_given kind name rest v vs id is e = has_one (subst (λ (x : PlainValue). handles (atoms_of (More name (BorrowType kind) rest) (Values x vs)) ≡ []) is e)
  where
    has_one : handles (atoms_of (More name (BorrowType kind) rest) (Values (HandleValue id) vs)) ≡ [] → ⊥
    has_one e = cc

gives_first : (name : Name) (ty : Plain) (rest : Parts) (args : PlainValues) → is_borrow ty ≡ true → are_of (More name ty rest) args ≡ true → handles (atoms_of (More name ty rest) args) ≡ [] → ⊥
gives_first name (BorrowType kind) rest NoValues b are e = false_true are
gives_first name (BorrowType kind) rest (Values v vs) b are e = let h = handle_value v (both_true (is_handle v) (are_of rest vs) are).0 in first_given kind name rest v vs h.0 h.1 e
gives_first name BoolType rest args b are e = false_true b
gives_first name (SignedType width) rest args b are e = false_true b
gives_first name (UnsignedType width) rest args b are e = false_true b
gives_first name CharType rest args b are e = false_true b
gives_first name StringType rest args b are e = false_true b
gives_first name (ListType item) rest args b are e = false_true b
gives_first name (RecordType form fields) rest args b are e = false_true b
gives_first name (VariantType form cases) rest args b are e = false_true b
gives_first name (FlagsType labels) rest args b are e = false_true b
gives_first name (OwnType kind) rest args b are e = false_true b

pub gives_handle : (params : Parts) (args : PlainValues) → begins_with_handle params ≡ true → are_of params args ≡ true → handles (atoms_of params args) ≡ [] → ⊥
gives_handle End args b are e = false_true b
gives_handle (More name ty rest) args b are e = gives_first name ty rest args b are e
gives_handle (Bare name rest) args b are e = false_true b
