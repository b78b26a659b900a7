-- What is made in the whole: what each of the two makes alone, at other numbers.
use Rattle.std.proofs.Common.{◌≡◌, inl, inr, ◌⊎◌, ℕ, ◌+◌, ◌≤◌, List, [], ◌∷◌, ◌++◌, Option, Some, None, refl, sym, ◌∙◌, ap, subst, arith, append-nil}
use Rattle.std.specs.Option.{option_map}
use Rattle.std.proofs.Math.Path.{ap₂}
use Rattle.wit_types.specs.Plain.{Name, Plain, Parts, PlainFunc, BoolType, SignedType, UnsignedType, CharType, StringType, ListType, RecordType, VariantType, FlagsType, OwnType, BorrowType, End as NoParts, More as Part, Bare}
use Rattle.comp_types.specs.Items.{Item, Entries, FuncItem, InstanceItem, KindItem, ResourceKind, ValueKind, FuncKind, InstanceKind, End as NoEntries, More as Entry}
use Rattle.comp_types.specs.Substitution.{value_with, parts_with, answer_with, func_with, item_with, entries_with}
use Rattle.comp_grammar.specs.Trees.{Tree}
use Rattle.comp_worlds.specs.Groups.{Import, Lifting, Target, Mine, Theirs, Stage, Begins}
use Rattle.comp_worlds.specs.Parts.{target_to}
use Rattle.comp_link.specs.Plans.{no_scope, plan_of}
use Rattle.comp_link.specs.Linking.{Given, Givens, GivenFunc, GivenInstance, Nothing, Giving, Placed, Owned, Whole, Making, begun, and_stage, link, all_outside, outside, target_in as target_of, exported, linked, group_of}
use Rattle.comp_inside.specs.Renaming.{lifting_with, import_with, target_with}
use Rattle.comp_inside.specs.Linked.{Standing, target_in, given_in, givens_in, whole_in, making_in, unmade}
use Rattle.comp_inside.specs.Later.{plan_later}
use Rattle.comp_inside.proofs.Made.{more_made}
use Rattle.comp_inside.proofs.Planned.{planned_inside}
use Rattle.comp_inside.proofs.Components.{components_inside}
use Rattle.comp_joins.specs.Joining.{Joint, joining, before_first, before_second, one_scope, first_plan, second_plan, made_front, given_first, made_first, made_between, given_second, made_second, or_else, or_nowhere, met, all_met, imports_of, hosted, first_own, behind_own, asked, found_with, GivesJust, GivesMore, Fits, over_host, Agree, itself}
use Rattle.comp_joins.specs.Alike.{AlikeBut, IsNothing, IsAny, MadeAlike, IsThere, PlanFinds}
use Rattle.comp_joins.proofs.Places.{left, right, left_here, right_here}
use Rattle.comp_joins.proofs.Front.{front_whole, between_whole, joined_whole}
use Rattle.comp_joins.proofs.Lists.{targets_in}
use Rattle.comp_joins.proofs.Finding.{alike_itself, targets_alike, found_there}
use Rattle.comp_joins.proofs.There.{plan_found}
use Rattle.comp_joins.proofs.Regiven.{linked_alike, linked_among}

-- ---- resources of the same numbers

mutual
  value_itself : (ty : Plain) → value_with itself ty ≡ ty
  value_itself BoolType = refl
  value_itself (SignedType width) = refl
  value_itself (UnsignedType width) = refl
  value_itself CharType = refl
  value_itself StringType = refl
  value_itself (ListType item) = ap ListType (value_itself item)
  value_itself (RecordType form fields) = ap (RecordType form) (parts_itself fields)
  value_itself (VariantType form cases) = ap (VariantType form) (parts_itself cases)
  value_itself (FlagsType labels) = refl
  value_itself (OwnType r) = refl
  value_itself (BorrowType r) = refl

  parts_itself : (ps : Parts) → parts_with itself ps ≡ ps
  parts_itself NoParts = refl
  parts_itself (Part name ty rest) = ap₂ (Part name) (value_itself ty) (parts_itself rest)
  parts_itself (Bare name rest) = ap (Bare name) (parts_itself rest)

answer_itself : (ty : Option Plain) → answer_with itself ty ≡ ty
answer_itself None = refl
answer_itself (Some ty) = ap Some (value_itself ty)

func_itself : (ty : PlainFunc) → func_with itself ty ≡ ty
func_itself ty = ap₂ (λ ps a. record { params = ps; answer = a }) (parts_itself ty.params) (answer_itself ty.answer)

pub lifting_itself : (l : Lifting) → lifting_with itself l ≡ l
lifting_itself l = ap (λ ty. record { code = l.code; ty = ty; options = l.options; post = l.post }) (func_itself l.ty)

pub target_itself : (t : Target) → target_with itself t ≡ t
target_itself (Mine k l) = ap (Mine k) (lifting_itself l)
target_itself (Theirs f) = ap (λ ty. Theirs (record { interface = f.interface; function = f.function; ty = ty })) (func_itself f.ty)

-- what begins where it is given something alike
begun_alike : (Beyond : Option Given → Type 0) → Beyond None → (w : Whole) (gs gs' : Givens) → AlikeBut Beyond gs gs' → MadeAlike Beyond (begun w gs) (begun w gs')
begun_alike Beyond none w gs gs' h = record { is = refl; given = h; instances = tt; exports = alike_itself Beyond none Nothing; names = λ name is. is }

-- ---- where the two stand

-- how many instances it has
abbrev pub count : Tree → ℕ
count tree = (linked tree).whole.next_instance

pub some_made : (tree : Tree) → 1 ≤ count tree
some_made tree = more_made (plan_of tree) (unmade tree)

module _ (j : Joint) (first second : Tree) (from to : ℕ → ℕ) where
  abbrev pub lefts : ℕ → ℕ
  lefts = left (count first) (count second)

  abbrev pub rights : ℕ → ℕ
  rights = right (count first) (count second)

  abbrev pub first_at : Standing
  first_at = record {
    instances = 1;
    place = lefts;
    before = record { next_instance = 0; next_resource = 0; stages = Begins ∷ []; canons = []; owners = [] };
    import = λ f. Theirs (import_with from f);
    later = (before_first j first second).next;
    to = from;
  }

  -- what meets an import of the second
  abbrev pub meets : Import → Target
  meets f = or_nowhere ((over_host (joining j first second) first from).exports f.interface f.function)

  abbrev pub there : Import → Target
  there f = target_to lefts Theirs (meets f)

  abbrev pub second_at : Standing
  second_at = record {
    instances = 1 + count first;
    place = rights;
    before = and_stage (whole_in first_at (linked first).whole) Begins;
    import = there;
    later = (before_second j first second).next;
    to = to;
  }

  module _ (fits : Fits j first second from to) (agree : Agree (joining j first second) first second from to) where
    -- ---- the first

    mutual
      outside_in : (interface name : Name) (item : Item) → given_in first_at (outside interface name item) ≡ outside interface name (item_with from item)
      outside_in interface name (FuncItem ty) = refl
      outside_in interface name (InstanceItem entries) = ap GivenInstance (all_outside_in name entries)
      outside_in interface name (KindItem (ResourceKind r)) = refl
      outside_in interface name (KindItem (ValueKind ty)) = refl
      outside_in interface name (KindItem (FuncKind ty)) = refl
      outside_in interface name (KindItem (InstanceKind own entries)) = refl

      all_outside_in : (interface : Name) (entries : Entries) → givens_in first_at (all_outside interface entries) ≡ all_outside interface (entries_with from entries)
      all_outside_in interface NoEntries = refl
      all_outside_in interface (Entry name item rest) = ap₂ (Giving name) (outside_in interface name item) (all_outside_in interface rest)

    -- what the first is given, in the whole's numbers
    abbrev first_imports : Givens
    first_imports = all_outside [] (entries_with from (imports_of first))

    abbrev first_begun : ℕ → ℕ → Givens → Making
    first_begun instance next given = record (begun (record { next_instance = 1; next_resource = next; stages = Begins ∷ []; canons = []; owners = [] }) given) { instance = instance }

    first_begins : begun (and_stage (made_front j first second).whole Begins) first_imports ≡ making_in first_at (unmade first)
    first_begins =
        ap (λ w. begun (and_stage w Begins) first_imports) (front_whole j first second fits.front fits.between fits.behind)
        ∙ ap (λ n. first_begun 1 n first_imports) (sym agree.first_begins)
        ∙ ap (λ k. first_begun k (from (first_own first)) first_imports) (sym (left_here (count first) (count second) 0 (some_made first)))
        ∙ ap (first_begun (lefts 0) (from (first_own first))) (sym (all_outside_in [] (imports_of first)))

    pub first_is : MadeAlike IsNothing (making_in first_at (linked first)) (made_first j first second)
    first_is =
        subst (λ z. MadeAlike IsNothing z (made_first j first second))
        (ap (link (first_plan j first second)) first_begins
        ∙ components_inside (before_first j first second ∷ []) (no_scope ∷ []) first_at first agree.first_stays (left_here (count first) (count second)) agree.first_knows)
        (linked_alike (first_plan j first second) (begun (and_stage (made_front j first second).whole Begins) first_imports) (begun (and_stage (made_front j first second).whole Begins) (given_first j first second))
        (begun_alike IsNothing refl (and_stage (made_front j first second).whole Begins) first_imports (given_first j first second) fits.first_given))

    -- ---- the second

    -- what is outside stands nowhere in the whole
    abbrev outside_at : Standing
    outside_at = record { instances = 1; place = lefts; before = first_at.before; import = Theirs; later = 0; to = itself }

    mutual
      outside_stays : (interface name : Name) (item : Item) → given_in outside_at (outside interface name item) ≡ outside interface name item
      outside_stays interface name (FuncItem ty) = refl
      outside_stays interface name (InstanceItem entries) = ap GivenInstance (all_outside_stays name entries)
      outside_stays interface name (KindItem (ResourceKind r)) = refl
      outside_stays interface name (KindItem (ValueKind ty)) = refl
      outside_stays interface name (KindItem (FuncKind ty)) = refl
      outside_stays interface name (KindItem (InstanceKind own entries)) = refl

      all_outside_stays : (interface : Name) (entries : Entries) → givens_in outside_at (all_outside interface entries) ≡ all_outside interface entries
      all_outside_stays interface NoEntries = refl
      all_outside_stays interface (Entry name item rest) = ap₂ (Giving name) (outside_stays interface name item) (all_outside_stays interface rest)

    host_target : (o : Option Target) → option_map (target_in outside_at) o ≡ option_map (target_to lefts Theirs) o
    host_target None = refl
    host_target (Some (Mine k l)) = ap (λ z. Some (Mine (lefts k) z)) (lifting_itself l)
    host_target (Some (Theirs f)) = refl

    host_stays : (entries : Entries) (interface name : Name) → option_map (target_to lefts Theirs) (target_of (exported (all_outside [] entries) interface name)) ≡ target_of (exported (all_outside [] entries) interface name)
    host_stays entries interface name =
        sym (host_target (target_of (exported (all_outside [] entries) interface name)))
        ∙ sym (targets_in outside_at (all_outside [] entries) interface name)
        ∙ ap (λ gs. target_of (exported gs interface name)) (all_outside_stays [] entries)

    target_stays : (o h : Option Target) → option_map (target_to lefts Theirs) h ≡ h → or_nowhere (or_else (option_map (target_in first_at) o) h) ≡ target_to lefts Theirs (or_nowhere (or_else (option_map (target_with from) o) h))
    target_stays None None e = refl
    target_stays None (Some t) e = ap or_nowhere (sym e)
    target_stays (Some (Mine k l)) h e = refl
    target_stays (Some (Theirs f)) h e = refl

    abbrev host : Name → Name → Option Target
    host interface name = target_of (exported (hosted (joining j first second)) interface name)

    met_there : (interface name : Name) → or_nowhere (or_else (target_of (exported (made_first j first second).exports interface name)) (host interface name)) ≡ target_to lefts Theirs (or_nowhere ((over_host (joining j first second) first from).exports interface name))
    met_there interface name =
        ap (λ z. or_nowhere (or_else z (host interface name)))
        (targets_alike (givens_in first_at (linked first).exports) (made_first j first second).exports first_is.exports interface name ∙ targets_in first_at (linked first).exports interface name)
        ∙ target_stays ((group_of first).exports interface name) (host interface name) (host_stays (imports_of (joining j first second)) interface name)

    mutual
      met_is : (interface name : Name) (item : Item) → met (made_first j first second).exports (hosted (joining j first second)) to interface name item ≡ given_in second_at (outside interface name item)
      met_is interface name (FuncItem ty) = ap GivenFunc (met_there interface name)
      met_is interface name (InstanceItem entries) = ap GivenInstance (all_met_is name entries)
      met_is interface name (KindItem (ResourceKind r)) = refl
      met_is interface name (KindItem (ValueKind ty)) = refl
      met_is interface name (KindItem (FuncKind ty)) = refl
      met_is interface name (KindItem (InstanceKind own entries)) = refl

      all_met_is : (interface : Name) (entries : Entries) → all_met (made_first j first second).exports (hosted (joining j first second)) to interface entries ≡ givens_in second_at (all_outside interface entries)
      all_met_is interface NoEntries = refl
      all_met_is interface (Entry name item rest) = ap₂ (Giving name) (met_is interface name item) (all_met_is interface rest)

    abbrev second_begun : ℕ → ℕ → List Stage → List Placed → List Owned → Givens → Making
    second_begun instance next stages canons owners given =
        record (begun (record { next_instance = 1 + count first; next_resource = next; stages = stages; canons = canons; owners = owners }) given) { instance = instance }

    abbrev base : Whole
    base = second_at.before

    abbrev imported : Givens
    imported = givens_in second_at (all_outside [] (imports_of second))

    first_right : rights 0 ≡ 1 + count first
    first_right = right_here (count first) (count second) 0 (some_made second) ∙ (let q : 1 + count first + 0 ≡ 1 + count first = omega arith in q)

    second_begins : begun (and_stage (made_between j first second).whole Begins) (all_met (made_first j first second).exports (hosted (joining j first second)) to [] (imports_of second)) ≡ making_in second_at (unmade second)
    second_begins =
        ap₂ (λ w g. begun (and_stage w Begins) g) (between_whole j first second fits.front fits.between fits.behind ∙ ap (λ m. m.whole) first_is.is) (all_met_is [] (imports_of second))
        ∙ ap (λ k. second_begun k (from (behind_own first)) base.stages base.canons base.owners imported) (sym first_right)
        ∙ ap (λ n. second_begun (rights 0) n base.stages base.canons base.owners imported) (sym agree.second_begins)
        ∙ ap (λ l. second_begun (rights 0) (to (first_own second)) l base.canons base.owners imported) (sym (append-nil base.stages))
        ∙ ap (λ l. second_begun (rights 0) (to (first_own second)) (base.stages ++ []) l base.owners imported) (sym (append-nil base.canons))
        ∙ ap (λ l. second_begun (rights 0) (to (first_own second)) (base.stages ++ []) (base.canons ++ []) l imported) (sym (append-nil base.owners))

    abbrev second_start : Making
    second_start = begun (and_stage (made_between j first second).whole Begins) (asked j first second to)

    second_made : link (second_plan j first second) second_start ≡ making_in second_at (linked second)
    second_made =
        ap (link (second_plan j first second)) second_begins
        ∙ components_inside (before_second j first second ∷ []) (one_scope j first second ∷ []) second_at second agree.second_stays (right_here (count first) (count second)) agree.second_knows

    just_is : GivesJust j first second to → MadeAlike IsNothing (making_in second_at (linked second)) (made_second j first second)
    just_is just =
        subst (λ z. MadeAlike IsNothing z (made_second j first second)) second_made
        (linked_alike (second_plan j first second) second_start (begun (and_stage (made_between j first second).whole Begins) (given_second j first second))
        (begun_alike IsNothing refl (and_stage (made_between j first second).whole Begins) (asked j first second to) (given_second j first second) just.given))

    -- what it finds alone it finds there
    second_finds : PlanFinds IsThere (plan_of second) (unmade second) → PlanFinds IsThere (second_plan j first second) second_start
    second_finds finds =
        subst (λ p. PlanFinds IsThere p second_start) (sym (planned_inside (before_second j first second ∷ []) (one_scope j first second ∷ []) (before_second j first second).next second agree.second_stays))
        (subst (PlanFinds IsThere (plan_later (before_second j first second).next (plan_of second))) (sym second_begins)
        (plan_found second_at (plan_of second) (unmade second) (right_here (count first) (count second)) agree.second_knows finds))

    more_is : GivesMore j first second to → MadeAlike IsAny (making_in second_at (linked second)) (made_second j first second)
    more_is more =
        subst (λ z. MadeAlike IsAny z (made_second j first second)) second_made
        (linked_among (second_plan j first second) second_start (begun (and_stage (made_between j first second).whole Begins) (given_second j first second))
        (begun_alike IsAny tt (and_stage (made_between j first second).whole Begins) (asked j first second to) (given_second j first second) more.given)
        (second_finds more.finds))

    second_whole : GivesJust j first second to ⊎ GivesMore j first second to → (made_second j first second).whole ≡ whole_in second_at (linked second).whole
    second_whole (inl just) = ap (λ m. m.whole) (just_is just).is
    second_whole (inr more) = ap (λ m. m.whole) (more_is more).is

    pub whole_is : (linked (joining j first second)).whole ≡ whole_in second_at (linked second).whole
    whole_is = joined_whole j first second fits.front fits.between fits.behind ∙ second_whole fits.second_given

    -- what the whole exports leads where it leads as the second stands there
    export_is : GivesJust j first second to ⊎ GivesMore j first second to → (interface name : Name) → target_of (exported (linked (joining j first second)).exports interface name) ≡ option_map (target_in second_at) ((group_of second).exports interface name)
    export_is (inl just) interface name =
        just.exports interface name
        ∙ targets_alike (givens_in second_at (linked second).exports) (made_second j first second).exports (just_is just).exports interface name
        ∙ targets_in second_at (linked second).exports interface name
    export_is (inr more) interface name = more.exports interface name ∙ go ((group_of second).exports interface name) refl
      where
        go : (o : Option Target) → (group_of second).exports interface name ≡ o → found_with o (target_of (exported (made_second j first second).exports interface name)) ≡ option_map (target_in second_at) o
        go None is = refl
        go (Some t) is =
            found_there IsAny tt (givens_in second_at (linked second).exports) (made_second j first second).exports (more_is more).exports interface name (target_in second_at t)
            (targets_in second_at (linked second).exports interface name ∙ ap (option_map (target_in second_at)) is)

    pub exports_there : (interface name : Name) → target_of (exported (linked (joining j first second)).exports interface name) ≡ option_map (target_in second_at) ((group_of second).exports interface name)
    exports_there = export_is fits.second_given
