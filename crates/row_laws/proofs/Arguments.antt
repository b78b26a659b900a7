-- The row of given arguments equals the reference host's.
use Rattle.std.proofs.Common.{◌≡◌, ℕ, ◌+◌, ◌*◌, ◌%◌, ◌^◌, ◌<◌, ◌≤◌, ◌&&◌, ◌++◌, nat_le, true, List, [], ◌∷◌, map, take, drop, length, Option, Some, None, cond, refl, sym, ap, ◌∙◌, arith}
use Rattle.std.specs.Prelude.{nat_eq}
use Rattle.std.specs.Str.{is_utf8}
use Rattle.std.specs.Option.{option_map, option_and_then}
use Rattle.std.proofs.Math.Nat.{mod-eq_of_lt}
use Rattle.std.proofs.lemmas.Bool.{le-leb}
use Rattle.wit_types.specs.Plain.{Name, ListType, StringType}
use Rattle.wit_types.specs.PlainValue.{PlainValue, PlainValues, StringValue, ListValue, RecordValue, End as NoValues, More as Values}
use Rattle.abi_layout.specs.Loading.{read, string_at, list_at, items_at, loads, loads_at}
use Rattle.abi_layout.specs.Handles as abi
use Rattle.policy_data.specs.declared.data.Arguments.TheVariants.{Given as TheseArguments}
use Rattle.host_port.specs.Calls.{Gives}
use Rattle.host_port.specs.Hosts.{HostStep, Reaction}
use Rattle.reference_step.specs.Atoms as reference
use Rattle.reference_step.specs.Values.{values, list}
use Rattle.reference_step.specs.State.{Reference, returns}
use Rattle.reference_step.specs.Access.{Virtual, by_arguments}
use Rattle.reference_step.specs.Environment.{arguments_in}
use Rattle.reference_step.specs.Steps.{weighed, by_row, enters, entered, made_for}
use Rattle.adapter_code.specs.Layout.{image_at}
use Rattle.adapter_code.specs.Number.{word}
use Rattle.adapter_code.specs.Run.{State, own_resource}
use Rattle.row_runs.specs.Passing.{answer_tuple, named_in, takes}
use Rattle.row_runs.specs.RowRun.{Ran, lifts, left, row_run}
use Rattle.row_runs.specs.Numbers.{seen}
use Rattle.row_runs.specs.Equals.{Fixed, RowEquals, placed_call, placed_answer, at_places}
use Rattle.row_runs.proofs.Asking.{read_word}
use Rattle.row_runs.proofs.Image.{slice_image, word_image}
use Rattle.row_runs.proofs.NumberLaws.{numbers_agree}
use Rattle.row_runs.proofs.HandleLaws.{handles_agree}
use Rattle.row_runs.proofs.Cases.{is_light, refused_none, not_denied, not_asked, virtual_case}
use Rattle.row_laws.specs.Arguments.{texts_type, arguments_listed, arguments_widths, arguments_row, AreTexts, IsTexts}

abbrev texts_in : List (List ℕ) → PlainValues
texts_in ts = values (map StringValue ts)

-- ---- they hold no handles

no_handles : (vs : PlainValues) → abi.handles (ListType StringType) (ListValue vs) ≡ []
no_handles NoValues = refl
no_handles (Values v vs) = no_handles vs

no_change : (vs : PlainValues) → abi.renumbered (ListType StringType) (ListValue vs) [] ≡ ListValue vs
no_change vs = ap ListValue (same vs [])
  where
    same : (vs : PlainValues) (ns : List ℕ) → abi.renumbered_items (λ x. abi.handles StringType x) (λ x ms. abi.renumbered StringType x ms) vs ns ≡ vs
    same NoValues ns = refl
    same (Values v vs) ns = ap (Values v) (same vs _)

-- ---- they are loaded from the memory in which the static data stands

module _ (m image : List ℕ) (base : ℕ) (holds : take (length image) (drop base m) ≡ image) (within : base + length image ≤ length m) where
  reads : (at v : ℕ) → at + 4 ≤ length image → word image at 4 ≡ v → read m (base + at) 4 ≡ Some v
  reads at v le is = read_word m (base + at) 4 (omega (arith, le, within)) ∙ ap Some (word_image m image base holds at 4 le ∙ is)

  text_loads : (p : ℕ) (t : List ℕ) → p + length t ≤ length image → take (length t) (drop p image) ≡ t → is_utf8 t ≡ true → string_at m (base + p) (length t) ≡ Some (StringValue t)
  text_loads p t le is utf =
      let same = slice_image m image base holds p (length t) le ∙ is in
      ap (λ x. cond (nat_le (base + p + length t) (length m) && is_utf8 x) (Some (StringValue x)) None) same
      ∙ ap (λ b. cond (b && is_utf8 t) (Some (StringValue t)) None) (le-leb (base + p + length t) (length m) (omega (arith, le, within)))
      ∙ ap (λ b. cond b (Some (StringValue t)) None) utf

  item_loads : (at p : ℕ) (t : List ℕ) → at + 8 ≤ length image → word image at 4 ≡ base + p → word image (at + 4) 4 ≡ length t → p + length t ≤ length image → take (length t) (drop p image) ≡ t → is_utf8 t ≡ true → loads_at m StringType (base + at) ≡ Some (StringValue t)
  item_loads at p t le place len fits is utf =
      let behind : base + at + 4 ≡ base + (at + 4) = omega arith in
      ap (option_and_then (λ x. option_and_then (λ n. string_at m x n) (read m (base + at + 4) 4))) (reads at (base + p) (omega (arith, le)) place)
      ∙ ap (option_and_then (λ n. string_at m (base + p) n)) (ap (λ k. read m k 4) behind ∙ reads (at + 4) (length t) (omega (arith, le)) len)
      ∙ text_loads p t fits is utf

  items_load : (at : ℕ) (ts : List (List ℕ)) → AreTexts image base at ts → items_at (λ p. loads_at m StringType p) 8 (base + at) (length ts) ≡ Some (texts_in ts)
  items_load at [] a = refl
  items_load at (t ∷ ts) (p, place, len, fits, is, utf, le, rest) =
      let on : base + at + 8 ≡ base + (at + 8) = omega arith in
      ap (option_and_then (λ v. option_map (Values v) (items_at (λ q. loads_at m StringType q) 8 (base + at + 8) (length ts)))) (item_loads at p t le place len fits is utf)
      ∙ ap (λ k. option_map (Values (StringValue t)) (items_at (λ q. loads_at m StringType q) 8 k (length ts))) on
      ∙ ap (option_map (Values (StringValue t))) (items_load (at + 8) ts rest)

  pub list_loads : (at : ℕ) (ts : List (List ℕ)) → IsTexts image base at ts → loads m (answer_tuple texts_type) (base + at) ≡ Some (RecordValue (Values (ListValue (texts_in ts)) NoValues))
  list_loads at ts x =
      let P = base + at in
      let L = ListType StringType in
      let none : P + 0 ≡ P = omega arith in
      let behind : P + 4 ≡ base + (at + 4) = omega arith in
      let load : ℕ → ℕ → Option PlainValue = λ place len. list_at m (λ p. loads_at m StringType p) 8 4 place len in
      let found : loads_at m L P ≡ Some (ListValue (texts_in ts)) =
      ap (option_and_then (λ place. option_and_then (λ len. load place len) (read m (P + 4) 4))) (reads at (base + x.from) (omega (arith, x.within)) x.place)
      ∙ ap (option_and_then (λ len. load (base + x.from) len)) (ap (λ k. read m k 4) behind ∙ reads (at + 4) (length ts) (omega (arith, x.within)) x.count)
      ∙ ap (λ n. cond (nat_eq n 0 && nat_le (base + x.from + length ts * 8) (length m)) (option_map ListValue (items_at (λ p. loads_at m StringType p) 8 (base + x.from) (length ts))) None) x.from_aligned
      ∙ ap (λ b. cond b (option_map ListValue (items_at (λ p. loads_at m StringType p) 8 (base + x.from) (length ts))) None) (le-leb (base + x.from + length ts * 8) (length m) (omega (arith, x.all, within)))
      ∙ ap (option_map ListValue) (items_load x.from ts x.texts_are) in
      ap (λ n. cond (nat_eq n 0 && nat_le (P + 8) (length m)) (loads_at m (answer_tuple texts_type) P) None) x.aligned
      ∙ ap (λ b. cond b (loads_at m (answer_tuple texts_type) P) None) (le-leb (P + 8) (length m) (omega (arith, x.within, within)))
      ∙ ap (λ o. option_map RecordValue (option_and_then (λ v. option_map (Values v) (Some NoValues)) o)) (ap (loads_at m L) none ∙ found)

-- ---- the row

pub arguments_equals : {S : Type 0} (h : HostStep S) (w : Fixed) (at : ℕ) (texts : List (List ℕ)) (names : List Name) → w.setup.policy.env_arguments ≡ TheseArguments texts → IsTexts w.image (image_at w.layout) at texts → image_at w.layout + at < 2 ^ 32
    → RowEquals w h (arguments_listed names) (arguments_row (image_at w.layout + at)) arguments_widths
arguments_equals {S} h w at texts names given lie small r a place c typed setup stands passed =
    let l = w.layout in
    let P = image_at l + at in
    let f = arguments_listed names in
    let c' = placed_call place f c in
    let ty = ListType StringType in
    let row = arguments_row P in
    let v = list (map StringValue texts) in
    let policy : r.setup.policy.env_arguments ≡ TheseArguments texts = ap (λ z. z.policy.env_arguments) setup ∙ given in
    let virtual = ap by_arguments policy in
    let bare = no_handles (texts_in texts) in
    let seen_none : reference.handles (reference.atoms ty v) ≡ [] = handles_agree ty v ∙ ap (map seen) bare in
    let whole : (reference.renumbered ty v []).0 ≡ v = ap (λ p. p.0) (numbers_agree ty v [] (omega (arith, ap length bare))) ∙ no_change (texts_in texts) in
    let told : weighed h r f c ≡ record { seen = []; answer = Gives (Some v); next = r } =
    virtual_case h r f c (is_light h r f c refl) refl (not_denied r.setup.policy f c Virtual virtual (refused_none r.setup.policy f.function.name c.args refl) refl) (not_asked h r f c Virtual virtual refl) refl
    ∙ ap (λ x. by_row h r f c (returns (list (map StringValue (arguments_in x))))) policy
    ∙ ap (λ hs. enters h r [] (Some ty) (Some v) (entered h r.live (made_for h [] hs))) seen_none
    ∙ ap (λ x. let g : Reaction (Reference S) = record { seen = []; answer = Gives (Some x); next = r } in g) whole in
    let room : image_at l + length w.image ≤ length a.memory = omega (arith, stands.whole.size, stands.whole.fits) in
    let loaded = list_loads a.memory w.image (image_at l) stands.whole.holds room at texts lie in
    let low : P % 2 ^ 32 ≡ P = mod-eq_of_lt small in
    let low2 : (P % 2 ^ 32) % 2 ^ 32 ≡ P = ap (λ n. n % 2 ^ 32) low ∙ low in
    let t : State = record { locals = Rattle.adapter_code.specs.declared.state.Local.TheVariants.Small 0 ∷ Rattle.adapter_code.specs.declared.state.Local.TheVariants.Small (P % 2 ^ 32) ∷ []; memory = a.memory; table = a.handles; effects = [] } in
    let tuple_bare : abi.handles (answer_tuple texts_type) (RecordValue (Values v NoValues)) ≡ [] = ap (λ hs. hs ++ []) bare in
    let run : row_run h l row texts_type arguments_widths c' a r.inner ≡ record { seen = []; answer = Gives (Some v); adapter = a; inner = r.inner } =
    ap (λ n. lifts h l row texts_type arguments_widths c' [] r.inner t (loads a.memory (answer_tuple texts_type) n)) low2
    ∙ ap (lifts h l row texts_type arguments_widths c' [] r.inner t) loaded
    ∙ ap (λ hs. left h l row texts_type arguments_widths c' [] r.inner t (RecordValue (Values v NoValues)) (takes own_resource (named_in hs) a.handles)) tuple_bare
    ∙ ap (λ x. let g : Ran S = record { seen = []; answer = Gives (Some x); adapter = a; inner = r.inner } in g) (no_change (texts_in texts)) in
    let placed : placed_answer place (Some ty) (Gives (Some v)) ≡ Gives (Some v) =
    ap (λ hs. Gives (Some (reference.renumbered ty v (at_places place hs)).0)) seen_none ∙ ap (λ x. Gives (Some x)) whole in
    rw (told, run) (record { seen = refl; inner = refl; setup = setup; place' = place; stay = λ y z there. record { handle = z; there = there; kind = refl; same = refl }; answer = sym placed; stands = λ z. stands })
