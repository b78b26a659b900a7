-- Which kinds of handles the answer of a listed function can hold, by what the policy leaves to the host.
use Rattle.std.proofs.Common.{◌≡◌, refl, sym, subst, ℕ, zero, suc, List, [], ◌∷◌, ◌++◌, Bool, true, false, not, ◌&&◌, ◌||◌, Option, Some, None}
use Rattle.std.specs.Prelude.{slice_index_or}
use Rattle.std.specs.List.{list_all, find}
use Rattle.std.specs.Str.{bytes_eq}
use Rattle.wit_types.specs.Plain.{Name, Plain, Parts, End, More, Bare, BoolType, SignedType, UnsignedType, CharType, StringType, ListType, RecordType, VariantType, FlagsType, OwnType, BorrowType}
use Rattle.wit_types.specs.PlainValue.{PlainValue, PlainValues, Payload, StringValue, ListValue, RecordValue, VariantValue, HandleValue, End as NoValues, More as Values, Without, With}
use Rattle.wit_types.specs.Layout.{size}
use Rattle.wasi_table.specs.Plain.{PlainNamedFunc}
use Rattle.wasi_table.specs.Tables.{described as described_by}
use Rattle.wasi_table.specs.Forms.{form_named}
use Rattle.wasi_table.specs.Types.{kind_of}
use Rattle.wasi_listed.specs.IoListed.{described as described_io, known_types}
use Rattle.wasi_listed.specs.FsListed.{described as described_fs}
use Rattle.wasi_listed.specs.NetListed.{described as described_net}
use Rattle.policy_data.specs.declared.policy.Policy.{Policy}
use Rattle.reference_step.specs.Access.{is_hosted, hosted_if, is_host_stream, by_monotonic, asks_folders, any_sockets, accesses, access, can_be_host}
use Rattle.reference_step.specs.Atoms.{Atom, Text, Elements, Handle, text_atoms, handle_atoms, each_atoms, list_atoms, record_atoms, first_atoms, variant_atoms, payload_atoms, atoms, atoms_of, atoms_at, result_atoms, handles}
use Rattle.reference_step.specs.Listed.{Listed, interface_at, function_in, interface_named, listed_function}
use Rattle.reference_laws.proofs.Handled.{both_true, false_true, AllFit, fit_at, found_passes, in_interface}

-- ---- the kinds of the handles of a type

abbrev mutual
  pub kinds_in : Plain → List ℕ
  kinds_in BoolType = []
  kinds_in (SignedType width) = []
  kinds_in (UnsignedType width) = []
  kinds_in CharType = []
  kinds_in StringType = []
  kinds_in (ListType item) = kinds_in item
  kinds_in (RecordType form fields) = kinds_among fields
  kinds_in (VariantType form cases) = kinds_among cases
  kinds_in (FlagsType labels) = []
  kinds_in (OwnType kind) = kind ∷ []
  kinds_in (BorrowType kind) = kind ∷ []

  pub kinds_among : Parts → List ℕ
  kinds_among End = []
  kinds_among (More name ty rest) = kinds_in ty ++ kinds_among rest
  kinds_among (Bare name rest) = kinds_among rest

abbrev pub kinds_of : Option Plain → List ℕ
kinds_of None = []
kinds_of (Some ty) = kinds_in ty

and_true : (a b : Bool) → a ≡ true → b ≡ true → (a && b) ≡ true
and_true true b e f = f
and_true false b e f = e

all_split : (T : ℕ → Bool) (xs ys : List ℕ) → list_all T (xs ++ ys) ≡ true → (list_all T xs ≡ true) × (list_all T ys ≡ true)
all_split T [] ys e = (refl, e)
all_split T (x ∷ xs) ys e =
    let two = both_true (T x) (list_all T (xs ++ ys)) e in
    let more = all_split T xs ys two.1 in
    (and_true (T x) (list_all T xs) two.0 more.0, more.1)

-- what all kinds of a type pass, all handles of its values do
module _ (T : ℕ → Bool) where
  abbrev Pass : List Atom → Type 0
  Pass xs = list_all (λ g. T g.0) (handles xs) ≡ true

  abbrev Passing : List ℕ → Type 0
  Passing kinds = list_all T kinds ≡ true

  joined : (xs ys : List Atom) → Pass xs → Pass ys → Pass (xs ++ ys)
  joined [] ys a b = b
  joined (Text n ∷ xs) ys a b = joined xs ys a b
  joined (Elements n s ∷ xs) ys a b = joined xs ys a b
  joined (Handle kind id ∷ xs) ys a b =
      let two = both_true (T kind) (list_all (λ g. T g.0) (handles xs)) a in
      and_true (T kind) _ two.0 (joined xs ys two.1 b)

  each : (go : PlainValue → List Atom) → ((v : PlainValue) → Pass (go v)) → (vs : PlainValues) → Pass (each_atoms go vs)
  each go pass NoValues = refl
  each go pass (Values v vs) = joined (go v) (each_atoms go vs) (pass v) (each go pass vs)

  in_text : (v : PlainValue) → Pass (text_atoms v)
  in_text (StringValue bytes) = refl
  in_text _ = refl

  in_handle : (kind : ℕ) → T kind ≡ true → (v : PlainValue) → Pass (handle_atoms kind v)
  in_handle kind e (HandleValue id) = and_true (T kind) true e refl
  in_handle kind e _ = refl

  in_list : (n : ℕ) (go : PlainValue → List Atom) → ((v : PlainValue) → Pass (go v)) → (v : PlainValue) → Pass (list_atoms n go v)
  in_list n go pass (ListValue vs) = each go pass vs
  in_list n go pass _ = refl

  in_record : (go : PlainValues → List Atom) → ((vs : PlainValues) → Pass (go vs)) → (v : PlainValue) → Pass (record_atoms go v)
  in_record go pass (RecordValue vs) = pass vs
  in_record go pass _ = refl

  in_first : (go : PlainValue → List Atom) (more : PlainValues → List Atom) → ((v : PlainValue) → Pass (go v)) → ((vs : PlainValues) → Pass (more vs)) → (vs : PlainValues) → Pass (first_atoms go more vs)
  in_first go more one rest NoValues = refl
  in_first go more one rest (Values v vs) = joined (go v) (more vs) (one v) (rest vs)

  in_variant : (go : ℕ → Payload → List Atom) → ((n : ℕ) (x : Payload) → Pass (go n x)) → (v : PlainValue) → Pass (variant_atoms go v)
  in_variant go pass (VariantValue n x) = pass n x
  in_variant go pass _ = refl

  in_payload : (go : PlainValue → List Atom) → ((v : PlainValue) → Pass (go v)) → (x : Payload) → Pass (payload_atoms go x)
  in_payload go pass Without = refl
  in_payload go pass (With v) = pass v

  mutual
    pub in_type : (ty : Plain) → Passing (kinds_in ty) → (v : PlainValue) → Pass (atoms ty v)
    in_type BoolType e v = refl
    in_type (SignedType width) e v = refl
    in_type (UnsignedType width) e v = refl
    in_type CharType e v = refl
    in_type StringType e v = in_text v
    in_type (ListType item) e v = in_list (size item) (λ x. atoms item x) (λ x. in_type item e x) v
    in_type (RecordType form fields) e v = in_record (λ xs. atoms_of fields xs) (λ xs. in_fields fields e xs) v
    in_type (VariantType form cases) e v = in_variant (λ n x. atoms_at cases n x) (λ n x. in_cases cases e n x) v
    in_type (FlagsType labels) e v = refl
    in_type (OwnType kind) e v = in_handle kind (both_true (T kind) true e).0 v
    in_type (BorrowType kind) e v = in_handle kind (both_true (T kind) true e).0 v

    in_fields : (fields : Parts) → Passing (kinds_among fields) → (xs : PlainValues) → Pass (atoms_of fields xs)
    in_fields End e xs = refl
    in_fields (More name ty rest) e xs =
        let two = all_split T (kinds_in ty) (kinds_among rest) e in
        in_first (λ x. atoms ty x) (λ ys. atoms_of rest ys) (λ x. in_type ty two.0 x) (λ ys. in_fields rest two.1 ys) xs
    in_fields (Bare name rest) e xs = in_fields rest e xs

    in_cases : (cases : Parts) → Passing (kinds_among cases) → (n : ℕ) (x : Payload) → Pass (atoms_at cases n x)
    in_cases End e n x = refl
    in_cases (More name ty rest) e zero x = in_payload (λ v. atoms ty v) (λ v. in_type ty (all_split T (kinds_in ty) (kinds_among rest) e).0 v) x
    in_cases (More name ty rest) e (suc n) x = in_cases rest (all_split T (kinds_in ty) (kinds_among rest) e).1 n x
    in_cases (Bare name rest) e zero x = refl
    in_cases (Bare name rest) e (suc n) x = in_cases rest e n x

  pub in_result : (ty : Option Plain) (v : Option PlainValue) → Passing (kinds_of ty) → Pass (result_atoms ty v)
  in_result None v e = refl
  in_result (Some ty) None e = refl
  in_result (Some ty) (Some v) e = in_type ty e v

-- ---- what is so for both answers to each of six questions

abbrev always : (Bool → Bool) → Bool
always T = T true && T false

of_always : (T : Bool → Bool) → always T ≡ true → (b : Bool) → T b ≡ true
of_always T e true = (both_true (T true) (T false) e).0
of_always T e false = (both_true (T true) (T false) e).1

abbrev Six : Type 0
Six = Bool → Bool → Bool → Bool → Bool → Bool → Bool

abbrev always_six : Six → Bool
always_six T = always (λ a. always (λ b. always (λ c. always (λ d. always (λ e. always (λ f. T a b c d e f))))))

of_six : (T : Six) → always_six T ≡ true → (a b c d e f : Bool) → T a b c d e f ≡ true
of_six T h a b c d e f =
    let in_a = of_always (λ a. always (λ b. always (λ c. always (λ d. always (λ e. always (λ f. T a b c d e f)))))) h a in
    let in_b = of_always (λ b. always (λ c. always (λ d. always (λ e. always (λ f. T a b c d e f))))) in_a b in
    let in_c = of_always (λ c. always (λ d. always (λ e. always (λ f. T a b c d e f)))) in_b c in
    let in_d = of_always (λ d. always (λ e. always (λ f. T a b c d e f))) in_c d in
    let in_e = of_always (λ e. always (λ f. T a b c d e f)) in_d e in
    of_always (λ f. T a b c d e f) in_e f

-- ---- the kinds that can be the host's, and the interfaces that can ask it, by six words of a policy

module _ (stdin stdout stderr monotonic folders sockets : Bool) where
  abbrev kinds_by : List Bool
  kinds_by =
      let input = stdin || folders || sockets in
      let output = stdout || stderr || folders || sockets in
      (input || output) ∷ (input || output || monotonic || sockets) ∷ input ∷ output ∷ stdin ∷ (stdout || stderr) ∷ folders ∷ folders ∷ sockets ∷ sockets ∷ sockets ∷ sockets ∷ sockets ∷ sockets ∷ []

  abbrev asking_by : List Bool
  asking_by =
      true ∷ true ∷ true ∷ true ∷ true ∷ stdin ∷ stdout ∷ stderr ∷ true ∷ true ∷ stdin ∷ stdout ∷ stderr ∷ true ∷ monotonic ∷ true ∷ true ∷ true ∷ true ∷ folders ∷ true ∷ sockets ∷ true ∷ true ∷ sockets ∷ true ∷ sockets ∷ []

  -- a handle of the host's comes to a call by the handle that it gives first, or else by the interface
  abbrev source_by : ℕ → Option ℕ → Bool
  source_by interface None = slice_index_or asking_by interface false
  source_by interface (Some kind) = slice_index_or kinds_by kind false

  abbrev leads_by : ℕ → Option ℕ → ℕ → Bool
  leads_by interface first kind = not (source_by interface first) || slice_index_or kinds_by kind false

abbrev pub first_kind : Parts → Option ℕ
first_kind (More name (BorrowType kind) rest) = Some kind
first_kind _ = None

abbrev leads : ℕ → Option ℕ → ℕ → Bool
leads interface first kind = always_six (λ a b c d e f. leads_by a b c d e f interface first kind)

-- where a call of the function can come to the host, each kind of its answer can be the host's
abbrev leads_well : ℕ → PlainNamedFunc → Bool
leads_well interface f = list_all (leads interface (first_kind f.ty.params)) (kinds_of f.ty.answer)

-- ---- a test of all listed functions, by the numbers of their interfaces

abbrev pub places_from : List Bool → (ℕ → Bool) → Bool
places_from [] T = true
places_from (b ∷ bs) T = T 0 && places_from bs (λ i. T (suc i))

pub place_passes : (bs : List Bool) (T : ℕ → Bool) → places_from bs T ≡ true → (i : ℕ) → slice_index_or bs i false ≡ true → T i ≡ true
place_passes [] T all i e = false_true e
place_passes (b ∷ bs) T all zero e = (both_true (T 0) (places_from bs (λ i. T (suc i))) all).0
place_passes (b ∷ bs) T all (suc i) e = place_passes bs (λ i. T (suc i)) (both_true (T 0) (places_from bs (λ i. T (suc i))) all).1 i e

abbrev every : List Bool
every = asking_by true true true true true true

abbrev all_lead : ℕ → Bool
all_lead interface = list_all (leads_well interface) (interface_at interface).functions

all_lead_well : places_from every all_lead ≡ true
unfolding described_io described_fs described_net described_by form_named kind_of known_types
all_lead_well = refl

-- ---- under a policy

pub asks_if : (b : Bool) → is_hosted (hosted_if b) ≡ true → b ≡ true
asks_if true e = refl
asks_if false e = e

module _ (p : Policy) where
  abbrev asking : List Bool
  asking = asking_by (is_host_stream p.stdio_stdin) (is_host_stream p.stdio_stdout) (is_host_stream p.stdio_stderr) (is_hosted (by_monotonic p.clocks_monotonic)) (asks_folders p) (any_sockets p.sockets)

  any_place : AllFit (accesses p) every
  any_place = ((λ n h. refl), ((λ n h. refl), ((λ n h. refl), ((λ n h. refl), ((λ n h. refl), ((λ n h. refl), ((λ n h. refl), ((λ n h. refl), ((λ n h. refl), ((λ n h. refl), ((λ n h. refl), ((λ n h. refl), ((λ n h. refl), ((λ n h. refl), ((λ n h. refl), ((λ n h. refl), ((λ n h. refl), ((λ n h. refl), ((λ n h. refl), ((λ n h. refl), ((λ n h. refl), ((λ n h. refl), ((λ n h. refl), ((λ n h. refl), ((λ n h. refl), ((λ n h. refl), ((λ n h. refl), tt)))))))))))))))))))))))))))

  place_asks : AllFit (accesses p) asking
  place_asks = ((λ n h. refl), ((λ n h. refl), ((λ n h. refl), ((λ n h. refl), ((λ n h. refl), ((λ n h. h), ((λ n h. h), ((λ n h. h), ((λ n h. refl), ((λ n h. refl), ((λ n h. asks_if _ h), ((λ n h. asks_if _ h), ((λ n h. asks_if _ h), ((λ n h. refl), ((λ n h. h), ((λ n h. refl), ((λ n h. refl), ((λ n h. refl), ((λ n h. refl), ((λ n h. asks_if _ h), ((λ n h. refl), ((λ n h. h), ((λ n h. refl), ((λ n h. refl), ((λ n h. h), ((λ n h. refl), ((λ n h. h), tt)))))))))))))))))))))))))))

  abbrev source : ℕ → Option ℕ → Bool
  source interface first = source_by (is_host_stream p.stdio_stdin) (is_host_stream p.stdio_stdout) (is_host_stream p.stdio_stderr) (is_hosted (by_monotonic p.clocks_monotonic)) (asks_folders p) (any_sockets p.sockets) interface first

  led : (a b : Bool) → (not a || b) ≡ true → a ≡ true → b ≡ true
  led true b e is = e
  led false b e is = false_true is

  led_to : (interface : ℕ) (first : Option ℕ) (kind : ℕ) → source interface first ≡ true → leads interface first kind ≡ true → can_be_host p kind ≡ true
  led_to interface first kind is all =
      led (source interface first) (can_be_host p kind)
      (of_six (λ a b c d e f. leads_by a b c d e f interface first kind) all (is_host_stream p.stdio_stdin) (is_host_stream p.stdio_stdout) (is_host_stream p.stdio_stderr) (is_hosted (by_monotonic p.clocks_monotonic)) (asks_folders p) (any_sockets p.sockets)) is

  all_led : (interface : ℕ) (first : Option ℕ) (kinds : List ℕ) → source interface first ≡ true → list_all (leads interface first) kinds ≡ true → list_all (can_be_host p) kinds ≡ true
  all_led interface first [] is all = refl
  all_led interface first (k ∷ ks) is all =
      let two = both_true (leads interface first k) (list_all (leads interface first) ks) all in
      and_true (can_be_host p k) (list_all (can_be_host p) ks) (led_to interface first k is two.0) (all_led interface first ks is two.1)

  comes_by : (f : Listed) (first : Option ℕ) → is_hosted (access p f.interface f.function.name) ≡ true → ((kind : ℕ) → first ≡ Some kind → can_be_host p kind ≡ true) → source f.interface first ≡ true
  comes_by f None hosted held = fit_at (accesses p) asking f.interface f.function.name place_asks hosted
  comes_by f (Some kind) hosted held = held kind refl

  listed_well : (name : Name) (o : Option ℕ) (f : Listed) → function_in name o ≡ Some f → slice_index_or every f.interface false ≡ true → leads_well f.interface f.function ≡ true
  listed_well name None f e there = absurd cc
  listed_well name (Some i) f e there =
      let is = in_interface i (find (λ g. bytes_eq g.name name) (interface_at i).functions) f e in
      subst (λ n. leads_well n f.function ≡ true) is.0
      (found_passes (leads_well i) (λ g. bytes_eq g.name name) (interface_at i).functions f.function (place_passes every all_lead all_lead_well i (subst (λ n. slice_index_or every n false ≡ true) (sym is.0) there)) is.1)

  -- The kinds of an answer can be the host's, where the policy leaves the function to the host and the handle that it gives first is of
  -- a kind that can be.
  pub answers_can : (version : ℕ → Name) (interface name : Name) (f : Listed) → listed_function version interface name ≡ Some f → is_hosted (access p f.interface f.function.name) ≡ true
      → ((kind : ℕ) → first_kind f.function.ty.params ≡ Some kind → can_be_host p kind ≡ true) → list_all (can_be_host p) (kinds_of f.function.ty.answer) ≡ true
  answers_can version interface name f listed hosted held =
      all_led f.interface (first_kind f.function.ty.params) (kinds_of f.function.ty.answer) (comes_by f (first_kind f.function.ty.params) hosted held)
      (listed_well name (interface_named version interface) f listed (fit_at (accesses p) every f.interface f.function.name any_place hosted))
