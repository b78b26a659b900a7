-- What comes before all others of a value.
use Rattle.std.proofs.Common.{◌≡◌, ℕ, ◌+◌, ◌*◌, ◌≤◌, ap, refl, sym, ◌∙◌, subst, Bool, true, false, List, [], ◌∷◌, ◌++◌, length, arith, suc, zero, Result, Ok, Err, Option, Some, None, Global, ◌⊎◌, inl, inr}
use Rattle.std.specs.Prelude.{if◌then◌else◌, IfOk, nat_le, nat_lt, reverse}
use Rattle.virt_base.specs.declared.fault.NoMemory.{NoMemory}
use Rattle.core_memory.specs.Linear.{Linear}
use Rattle.core_memory.specs.Number.{bytes_of}
use Rattle.core_store.specs.State.{State, memory_at}
use Rattle.wit_types.specs.Plain.{VariantForm, Name, Plain, Parts, End, More, Bare, StringType, ListType, RecordType, VariantType, BoolType, SignedType, UnsignedType, CharType, FlagsType, OwnType, BorrowType, case_part}
use Rattle.wit_types.specs.PlainValue.{PlainValue, PlainValues, Payload, StringValue, ListValue, VariantValue, plain_value, values_of}
use Rattle.wit_types.specs.Layout.{count, discriminant_size, alignment, size, align_to}
use Rattle.wit_types.specs.Limits.{parts, all_parts}
use Rattle.abi_layout.specs.Loading.{payload_offset}
use Rattle.abi_layout.specs.Storing.{Base, Target, Answer, Step, Ask, Write, Refuse, Lowered, stores_at, case_steps, item_steps, place_and_length, count_values, both, requests, field_steps}
use Rattle.std.specs.declared.rc.Rc.{Rc}
use Rattle.virt_base.specs.declared.items.Items.{Items}
use Rattle.virt_base.specs.declared.text.Text.{Text}
use Rattle.wit_types.specs.declared.types.Cases.{Cases}
use Rattle.wit_types.specs.declared.types.WitType.{WitType}
use Rattle.wit_types.specs.declared.types.WitType.TheVariants.{Variant, Enum, Option as Optional, Result as Results}
use Rattle.wit_types.specs.Plain.{AsVariant, AsEnum, AsOption, AsResult, plain}
use Rattle.wit_types.proofs.PlainLemmas.{plain-Variant, plain-Enum, plain-Option, plain-Result}
use Rattle.abi_store.specs.declared.work.Begun.{Begun}
use Rattle.abi_store.specs.declared.request.Flow.{Flow}
use Rattle.abi_store.specs.Parts.{case_type, cases_in}
use Rattle.abi_store.specs.Rooms.{with_room, items_from}
use Rattle.abi_store.specs.Flows.{Leads, chain, stored, none_left, refused, flow_lowered}
use Rattle.abi_store.specs.Works.{Took, write_at, begun_lowered, payload_steps, payload_lowered, variant_lowered, text_lowered, list_lowered, value_lowered, place_lowered, work_lowered, works_lowered}
use Rattle.abi_store.specs.declared.work.Work.{Work}
use Rattle.wit_types.specs.declared.value.Value.{Value}
use Rattle.abi_store.proofs.TurnLemmas.{reversed}
use Rattle.abi_store.proofs.PartLemmas.{case_parts}
use Rattle.abi_store.proofs.Chains.{leads_then, leads_same, leads_write, refused_write, leads_behind, chain-assoc}
use Rattle.abi_store.proofs.Stores.{took_pure, took_then}

-- ---- strings and lists

refusal : (m : Linear) (b : Bool) (align len : ℕ) (x p : ℕ → List Step) →
    Leads m (λ k. record { steps = (if b then Ask align len ∷ x k else Refuse ∷ []) ++ p k; flats = [] }) m (λ k. record { steps = with_room (if b then Some (record { align = align; len = len }) else None) (x k ++ p k); flats = [] })
refusal m true align len x p = record { on = λ before rest. refl }
refusal m false align len x p = record { on = λ before rest. refl }

pub string_leads : (m : Linear) (v : PlainValue) (t : List ℕ) (at : ℕ) (b : ℕ → Lowered) → v ≡ StringValue t →
    Leads m (λ k. record { steps = with_room (if nat_le (length t) 2147483647 then Some (record { align = 1; len = length t }) else None) ((Write (Answer k) 0 t ∷ []) ++ place_and_length Target at k (length t)); flats = [] }) m b →
    Leads m (text_lowered v at) m b
string_leads m v t at b is so =
    leads_same m m (text_lowered v at) b (text_lowered (StringValue t) at) b (ap (λ u. text_lowered u at 0) is) refl
    (leads_then m m m _ _ b (refusal m (nat_le (length t) 2147483647) 1 (length t) (λ k. Write (Answer k) 0 t ∷ []) (λ k. place_and_length Target at k (length t))) so)

pub list_leads : (m : Linear) (item : Plain) (v : PlainValue) (vs : PlainValues) (at : ℕ) (b : ℕ → Lowered) → v ≡ ListValue vs →
    Leads m (λ k. record {
      steps =
          with_room (if nat_lt (count_values vs * size item) 4294967296 then Some (record { align = alignment item; len = count_values vs * size item }) else None)
          (items_from item vs (Answer k) 0 (k + 1) ++ place_and_length Target at k (count_values vs));
      flats = [];
    }) m b →
    Leads m (list_lowered item v at) m b
list_leads m item v vs at b is so =
    leads_same m m (list_lowered item v at) b (list_lowered item (ListValue vs) at) b (ap (λ u. list_lowered item u at 0) is) refl
    (leads_then m m m _ _ b
    (refusal m (nat_lt (count_values vs * size item) 4294967296) (alignment item) (count_values vs * size item) (λ k. items_from item vs (Answer k) 0 (k + 1)) (λ k. place_and_length Target at k (count_values vs))) so)

-- ---- variants

pub case_steps-type : (ps : Parts) (n : ℕ) (p : Payload) (base : Base) (at k : ℕ) → case_steps ps n p base at k ≡ payload_steps (case_type ps n) p base at k
case_steps-type End n p base at k = refl
case_steps-type (More name ty rest) zero p base at k = refl
case_steps-type (More name ty rest) (suc n) p base at k = case_steps-type rest n p base at k
case_steps-type (Bare name rest) zero p base at k = refl
case_steps-type (Bare name rest) (suc n) p base at k = case_steps-type rest n p base at k

few_in : (ps : Parts) (n : ℕ) (o : Option Plain) → case_type ps n ≡ o → all_parts (case_part [] o End) ≤ all_parts ps
few_in ps n None is = omega arith
few_in ps n (Some ty) is = let few = case_parts ps n ty is in omega arith

pub case_few : (ps : Parts) (n : ℕ) (o : Option Plain) → o ≡ case_type ps n → all_parts (case_part [] o End) ≤ all_parts ps
case_few ps n o is = few_in ps n o (sym is)

-- the cases are parts of the type
pub cases_few : (ty : Plain) → all_parts (cases_in ty) ≤ parts ty
cases_few (VariantType form cases) = omega arith
cases_few (RecordType form fields) = omega arith
cases_few (ListType item) = omega arith
cases_few BoolType = omega arith
cases_few (SignedType w) = omega arith
cases_few (UnsignedType w) = omega arith
cases_few CharType = omega arith
cases_few StringType = omega arith
cases_few (FlagsType labels) = omega arith
cases_few (OwnType r) = omega arith
cases_few (BorrowType r) = omega arith

variant_is : (cases : Parts) (v : PlainValue) (n : ℕ) (p : Payload) (at width : ℕ) → v ≡ VariantValue n p → width ≡ discriminant_size (count cases) →
    variant_lowered cases v at 0 ≡ record { steps = Write Target at (bytes_of width n) ∷ case_steps cases n p Target (at + payload_offset cases) 0; flats = [] }
variant_is cases v n p at width is wide =
    ap (λ u. variant_lowered cases u at 0) is ∙ ap (λ w. let l : Lowered = record { steps = Write Target at (bytes_of w n) ∷ case_steps cases n p Target (at + payload_offset cases) 0; flats = [] } in l) (sym wide)

pub variant_goes : (m n : Linear) (cases : Parts) (v : PlainValue) (number : ℕ) (p : Payload) (o : Option Plain) (at width place : ℕ) (b : ℕ → Lowered) → v ≡ VariantValue number p → width ≡ discriminant_size (count cases) →
    place ≡ payload_offset cases → o ≡ case_type cases number → Leads m (write_at at (bytes_of width number)) n none_left → payload_lowered o p (at + place) 0 ≡ b 0 → Leads m (variant_lowered cases v at) n b
variant_goes m n cases v number p o at width place b is wide there found wrote so =
    leads_same m n (variant_lowered cases v at) b _ (stored (λ k. case_steps cases number p Target (at + payload_offset cases) k)) (variant_is cases v number p at width is wide)
    (sym so ∙ ap (λ (j : ℕ). payload_lowered o p (at + j) 0) there ∙ ap (λ (t : Option Plain). payload_lowered t p (at + payload_offset cases) 0) found
    ∙ ap (λ (s : List Step). let l : Lowered = record { steps = s; flats = [] } in l) (sym (case_steps-type cases number p Target (at + payload_offset cases) 0)))
    (leads_write m n at (bytes_of width number) (λ k. case_steps cases number p Target (at + payload_offset cases) k) Target wrote)

pub variant_refused : (m n : Linear) (cases : Parts) (v : PlainValue) (number : ℕ) (p : Payload) (at width : ℕ) → v ≡ VariantValue number p → width ≡ discriminant_size (count cases) →
    Leads m (write_at at (bytes_of width number)) n refused → Leads m (variant_lowered cases v at) n refused
variant_refused m n cases v number p at width is wide wrote =
    leads_same m n (variant_lowered cases v at) refused _ refused (variant_is cases v number p at width is wide) refl
    (refused_write m n at (bytes_of width number) (λ k. case_steps cases number p Target (at + payload_offset cases) k) Target wrote)

-- ---- values that need no write at once

pub pure_result : (s : State) (k : ℕ) (r : Result Begun NoMemory) (ty t : Plain) (v : PlainValue) (at : ℕ) → ty ≡ t → IfOk r (λ b. (m : Linear) → Leads m (value_lowered t v at) m (begun_lowered b)) →
    IfOk r (λ b. Took s s k (value_lowered ty v at) (begun_lowered b))
pure_result s k (Ok b) ty t v at is so = subst (λ u. Took s s k (value_lowered u v at) (begun_lowered b)) (sym is) (took_pure s k (value_lowered t v at) (begun_lowered b) so)
pure_result s k (Err e) ty t v at is so = tt

pub variant_result : (s t : State) (k : ℕ) (r : Result Begun NoMemory) (ty : Plain) (form : VariantForm) (cases : Parts) (v : PlainValue) (at : ℕ) → ty ≡ VariantType form cases →
    IfOk r (λ b. Took s t k (variant_lowered (cases_in ty) v at) (begun_lowered b)) → IfOk r (λ b. Took s t k (value_lowered ty v at) (begun_lowered b))
variant_result s t k r ty form cases v at is so =
    subst (λ u. IfOk r (λ b. Took s t k (value_lowered u v at) (begun_lowered b))) (sym is) (subst (λ u. IfOk r (λ b. Took s t k (variant_lowered (cases_in u) v at) (begun_lowered b))) is so)

-- ---- a place and its length

pub place_past : (m n : Linear) (at place len : ℕ) → Leads m (write_at at (bytes_of 4 place)) n refused → Leads m (place_lowered at place len) n refused
place_past m n at place len wrote = refused_write m n at (bytes_of 4 place) (λ k. Write Target (at + 4) (bytes_of 4 len) ∷ []) Target wrote

pub place_then : (m n o : Linear) (at place len : ℕ) (b : ℕ → Lowered) → Leads m (write_at at (bytes_of 4 place)) n none_left → Leads n (write_at (at + 4) (bytes_of 4 len)) o b → Leads m (place_lowered at place len) o b
place_then m n o at place len b wrote so =
    leads_then m n o (place_lowered at place len) (write_at (at + 4) (bytes_of 4 len)) b (leads_write m n at (bytes_of 4 place) (λ k. Write Target (at + 4) (bytes_of 4 len) ∷ []) Target wrote) so

-- ---- one turn

pub turned : (m n : Linear) (w s w' : ℕ → Lowered) (old mid new : List Work) (work : Work) (b f : ℕ → Lowered) → w 0 ≡ chain s w' 0 → work_lowered work ≡ w' → mid ≡ old ++ work ∷ [] → Leads m s n b →
    chain b (works_lowered (reverse mid)) 0 ≡ chain f (works_lowered (reverse new)) 0 → Leads m (chain w (works_lowered (reverse old))) n (chain f (works_lowered (reverse new)))
turned m n w s w' old mid new work b f cut is push wrote settled =
    let onto : works_lowered (reverse mid) ≡ works_lowered (work ∷ reverse old) = ap (λ (ws : List Work). works_lowered (reverse ws)) push ∙ ap works_lowered (reversed work old) in
    let first : chain w (works_lowered (reverse old)) 0 ≡ chain s (chain (work_lowered work) (works_lowered (reverse old))) 0 =
    ap (λ (l : Lowered). both l (works_lowered (reverse old) (0 + requests l.steps))) cut ∙ chain-assoc s w' (works_lowered (reverse old)) 0 ∙ ap (λ (u : ℕ → Lowered). chain s (chain u (works_lowered (reverse old))) 0) (sym is) in
    let last : chain f (works_lowered (reverse new)) 0 ≡ chain b (chain (work_lowered work) (works_lowered (reverse old))) 0 = sym settled ∙ ap (λ (u : ℕ → Lowered). chain b u 0) onto in
    leads_same m n (chain w (works_lowered (reverse old))) (chain f (works_lowered (reverse new))) _ _ first last (leads_behind m n s b (chain (work_lowered work) (works_lowered (reverse old))) wrote)

-- ---- items and fields

pub items_cut : (store : PlainValue → Base → ℕ → ℕ → List Step) (width at : ℕ) (before after : List Value) (v : Value) → before ≡ after ++ v ∷ [] →
    item_steps store width (values_of (reverse before)) Target at 0
    ≡ store (plain_value v) Target at 0 ++ item_steps store width (values_of (reverse after)) Target (at + width) (0 + requests (store (plain_value v) Target at 0))
items_cut store width at before after v is =
    ap (λ (xs : List Value). item_steps store width (values_of (reverse xs)) Target at 0) is ∙ ap (λ (xs : List Value). item_steps store width (values_of xs) Target at 0) (reversed v after)

pub fields_cut_at : (ps rest : Parts) (name : Name) (ty : Plain) (at offset start next : ℕ) (before after : List Value) (v : Value) → ps ≡ More name ty rest → start ≡ align_to offset (alignment ty) → next ≡ start + size ty →
    before ≡ after ++ v ∷ [] →
    field_steps ps (values_of (reverse before)) Target at offset 0
    ≡ stores_at ty (plain_value v) Target (at + start) 0 ++ field_steps rest (values_of (reverse after)) Target at next (0 + requests (stores_at ty (plain_value v) Target (at + start) 0))
fields_cut_at ps rest name ty at offset start next before after v is begin end cut =
    ap (λ (p : Parts). field_steps p (values_of (reverse before)) Target at offset 0) is
    ∙ ap (λ (xs : List Value). field_steps (More name ty rest) (values_of (reverse xs)) Target at offset 0) cut
    ∙ ap (λ (xs : List Value). field_steps (More name ty rest) (values_of xs) Target at offset 0) (reversed v after)
    ∙ ap (λ (j : ℕ). stores_at ty (plain_value v) Target (at + j) 0 ++ field_steps rest (values_of (reverse after)) Target at (j + size ty) (0 + requests (stores_at ty (plain_value v) Target (at + j) 0))) (sym begin)
    ∙ ap (λ (j : ℕ). stores_at ty (plain_value v) Target (at + start) 0 ++ field_steps rest (values_of (reverse after)) Target at j (0 + requests (stores_at ty (plain_value v) Target (at + start) 0))) (sym end)

-- ---- the types that are variants

pub variant_form : (ty : WitType) → ((x : Rc Cases Global) × ty ≡ Variant x) ⊎ (((x : Rc (Items Text) Global) × ty ≡ Enum x) ⊎ (((x : Rc WitType Global) × ty ≡ Optional x) ⊎ ((x : Option (Rc WitType Global)) × (y : Option (Rc WitType Global)) × ty ≡ Results x y))) →
    (form : VariantForm) × (cases : Parts) × (plain ty ≡ VariantType form cases)
variant_form ty (inl p) = (AsVariant, _, ap plain p.1 ∙ plain-Variant p.0)
variant_form ty (inr (inl p)) = (AsEnum, _, ap plain p.1 ∙ plain-Enum p.0)
variant_form ty (inr (inr (inl p))) = (AsOption, _, ap plain p.1 ∙ plain-Option p.0)
variant_form ty (inr (inr (inr p))) = (AsResult, _, ap plain p.2 ∙ plain-Result p.0 p.1)

-- ---- what is topmost, and the rest

pub on_top : (m n : Linear) (work w : Work) (old new : List Work) (s b f : ℕ → Lowered) → work ≡ w → work_lowered w ≡ s → Leads m s n b → chain b (works_lowered (reverse old)) 0 ≡ chain f (works_lowered (reverse new)) 0 →
    Leads m (chain (work_lowered work) (works_lowered (reverse old))) n (chain f (works_lowered (reverse new)))
on_top m n work w old new s b f is same wrote settled =
    leads_same m n (chain (work_lowered work) (works_lowered (reverse old))) (chain f (works_lowered (reverse new))) (chain s (works_lowered (reverse old))) (chain b (works_lowered (reverse old)))
    (ap (λ (l : ℕ → Lowered). chain l (works_lowered (reverse old)) 0) (ap work_lowered is ∙ same)) (sym settled) (leads_behind m n s b (works_lowered (reverse old)) wrote)

pub place_on_top : (s t : State) (k : ℕ) (r : Result Flow NoMemory) (work w : Work) (l : ℕ → Lowered) (old : List Work) → work ≡ w → work_lowered w ≡ l → IfOk r (λ f. Took s t k l (flow_lowered f)) →
    IfOk r (λ f. Took s t k (chain (work_lowered work) (works_lowered (reverse old))) (chain (flow_lowered f) (works_lowered (reverse old))))
place_on_top s t k (Ok f) work w l old is same took = (on_top (memory_at s k) (memory_at t k) work w old old l (flow_lowered f) (flow_lowered f) is same took.0 refl, took.1)
place_on_top s t k (Err e) work w l old is same took = tt

pub run_on : (s0 s t : State) (k : ℕ) (first : ℕ → Lowered) (before mid new : List Work) (work : Work) (flow ended : Flow) → Took s0 s k first (works_lowered (reverse before)) → before ≡ mid ++ work ∷ [] →
    Took s t k (chain (work_lowered work) (works_lowered (reverse mid))) (chain (flow_lowered flow) (works_lowered (reverse new))) → flow ≡ ended → Took s0 t k first (chain (flow_lowered ended) (works_lowered (reverse new)))
run_on s0 s t k first before mid new work flow ended so cut took is =
    let onto : works_lowered (reverse before) ≡ works_lowered (work ∷ reverse mid) = ap (λ (ws : List Work). works_lowered (reverse ws)) cut ∙ ap works_lowered (reversed work mid) in
    subst (λ (f : Flow). Took s0 t k first (chain (flow_lowered f) (works_lowered (reverse new)))) is
    (took_then s0 s t k first (works_lowered (work ∷ reverse mid)) (chain (flow_lowered flow) (works_lowered (reverse new))) (subst (λ (l : ℕ → Lowered). Took s0 s k first l) onto so) took)

pub goes_on : (s t : State) (k : ℕ) (first : ℕ → Lowered) (ws : List Work) → Took s t k first (chain none_left (works_lowered ws)) → Took s t k first (works_lowered ws)
goes_on s t k first ws so = (leads_same (memory_at s k) (memory_at t k) first (works_lowered ws) first (chain none_left (works_lowered ws)) refl refl so.0, so.1)
