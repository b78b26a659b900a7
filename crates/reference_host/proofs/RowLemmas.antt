-- What a row of the code does, as the definition has it, and what it keeps.
use Rattle.std.proofs.Common.{◌≡◌, ◌==◌, ℕ, zero, suc, ◌+◌, ◌≤◌, ◌<◌, nat_lt, Bool, true, false, ◌||◌, List, [], ◌∷◌, length, set, Option, Some, None, option_map, refl, sym, ap, subst, ◌∙◌, arith}
use Rattle.std.specs.Prelude.{IfSome, is_some, slice_index_or, unwrap_or}
use Rattle.std.specs.Option.{option_map_or}
use Rattle.std.proofs.lemmas.Bool.Decides.{nat_tests}
use Rattle.std.proofs.lemmas.List.{set-get_or}
use Rattle.wit_types.specs.Plain.{Name}
use Rattle.wit_types.specs.PlainValue.{PlainValue, PlainValues}
use Rattle.tree_table.specs.Scratches.{ScratchMap, file_at}
use Rattle.tree_table.specs.Tables.{Forest, count_of}
use Rattle.host_port.specs.Calls.{Gives, PlainCall, plain_option}
use Rattle.host_port.specs.Hosts.{HostStep}
use Rattle.reference_step.specs.Atoms.{handles, renumbered_result, result_atoms}
use Rattle.reference_step.specs.Handles as reference
use Rattle.reference_step.specs.Handles.{Live, content_of, is_held}
use Rattle.reference_step.specs.Listed.{Listed}
use Rattle.reference_step.specs.State.{Reference, Row as PlainRow, Traps, Does}
use Rattle.reference_step.specs.Steps.{becomes, by_row, entered, enters, made_for, or_as_it_was}
use Rattle.reference_step.specs.Values.{id_in, nth}
use Rattle.reference_step.specs.Rows.{row_of}
use Rattle.ref_answers.specs.Seen.{content_in, live_in}
use Rattle.ref_answers.specs.Shown.{made}
use Rattle.ref_answers.specs.declared.row.Effect.{Effect}
use Rattle.ref_answers.specs.declared.row.Row.{Row}
use Rattle.ref_answers.specs.declared.row.Row.TheVariants.{Traps as Traps', Does as Does'}
use Rattle.ref_answers.proofs.SeenLaws.{seen_handle_at, seen_is_held, seen_with_content}
use Rattle.ref_guards.specs.Contents.{AllHold}
use Rattle.ref_guards.proofs.KeepLaws.{count-standing, hold-handles, hold-standing}
use Rattle.ref_guards.specs.declared.standing.Standing.TheVariants.{Made}
use Rattle.ref_guards.specs.Entering.{numbers_for, stands_for, with_handles}
use Rattle.ref_guards.proofs.EnterLemmas.{count_entered}
use Rattle.ref_guards.proofs.SeenEntering.{made_entered}
use Rattle.ref_virtual.specs.Inside.{node_inside, row_inside}
use Rattle.ref_host_calls.specs.declared.request.Request.{Request}
use Rattle.ref_host_calls.specs.Requests.{call_of, handles_in, listed_of}
use Rattle.reference_host.specs.Keeping.{IsThere, KeptBy, OpensThere}
use Rattle.reference_host.proofs.RowLaws.{rows_keep}
use Rattle.reference_host.proofs.ToldLaws.{told_keeps}
use Rattle.ref_rules.specs.declared.content.Content.{Content}
use Rattle.ref_rules.specs.declared.content.Content.TheVariants.{Always, ScratchFile, ScratchIn, ScratchOut}
use Rattle.ref_rules.specs.declared.content.Handle.{Handle}
use Rattle.ref_rules.specs.Contents.{open_file}
use Rattle.ref_rules.specs.Lives.{LiveTable, count_of_kind, is_inside, is_open, opens}
use Rattle.ref_virtual.specs.Held.{content_held}
use Rattle.ref_scratch.specs.Told.{settled, told}
use Rattle.ref_virtual.specs.Acting.{Stays}
use Rattle.ref_virtual.specs.Known.{file_open}
use Rattle.reference_host.specs.declared.state_kept.Setting.{Setting}
use Rattle.reference_host.specs.declared.state_kept.Holding.{Holding}
use Rattle.reference_host.specs.Asked.{HasRoom, IsAsked}
use Rattle.reference_host.specs.Kept.{IsHolding}
use Rattle.reference_host.specs.Made.{MayEnter, RowMayEnter, becomes_in, live_after, live_behind}
use Rattle.reference_host.proofs.KeepLemmas.{all_held, each_held, is_there, open_there, there_open}
use Rattle.reference_host.proofs.RoomLemmas.{enters_kinds, enters_room, left, right}

-- ---- the reaction

module _ {S : Type 0} (h : HostStep S) (q : Listed) (c : PlainCall) where
  or_same : (m : ScratchMap) (o : Option ScratchMap) → or_as_it_was h m o ≡ unwrap_or o m
  or_same m None = refl
  or_same m (Some new) = refl

  -- what becomes of the scratch folder may be told of a row
  pub by_settled : (r : Reference S) (row : PlainRow) → by_row h r q c (settled r.scratch row) ≡ by_row h r q c row
  by_settled r Traps = refl
  by_settled r (Does e) = ap (λ (m : ScratchMap). enters h (record r { scratch = m }) [] q.function.ty.answer e.value (entered h (becomes h r.live (nth 0 c.args) e.becomes) (made_for h e.makes (handles (result_atoms q.function.ty.answer e.value))))) (sym (or_same r.scratch e.scratch))

  module _ (f : Forest) where
    seen_becomes : (live : List (Option Handle)) (o : Option Content) → becomes h (live_in f live) (nth 0 c.args) (option_map (content_in f) o) ≡ live_in f (becomes_in live c.args o)
    seen_becomes live None = refl
    seen_becomes live (Some content) = sym (seen_with_content f live (id_in (nth 0 c.args)) content)

    pub effect_done : (r : Reference S) (m : ScratchMap) (e : Effect) (live new : List (Option Handle)) (given : Option PlainValue)
        → given ≡ renumbered_result q.function.ty.answer (plain_option e.value) (numbers_for (Made e.makes) (becomes_in live c.args e.becomes) (handles (result_atoms q.function.ty.answer (plain_option e.value))))
        → new ≡ with_handles (Made e.makes) (becomes_in live c.args e.becomes) (handles (result_atoms q.function.ty.answer (plain_option e.value)))
        → by_row h (record r { live = live_in f live }) q c (told f (Does' e) m) ≡ record { seen = []; answer = Gives given; next = record r { live = live_in f new; scratch = m } }
    effect_done r m e live new given value is =
        ap (λ (l : Live). enters h (record r { live = live_in f live; scratch = m }) [] q.function.ty.answer (plain_option e.value) (entered h l (made_for h (made f e.makes) (handles (result_atoms q.function.ty.answer (plain_option e.value)))))) (seen_becomes live e.becomes)
        ∙ ap (λ (x : Live × List ℕ). enters h (record r { live = live_in f live; scratch = m }) [] q.function.ty.answer (plain_option e.value) x) (made_entered h f e.makes (becomes_in live c.args e.becomes) (handles (result_atoms q.function.ty.answer (plain_option e.value))))
        ∙ ap (λ (v : Option PlainValue). record { seen = []; answer = Gives v; next = record r { live = live_in f (with_handles (Made e.makes) (becomes_in live c.args e.becomes) (handles (result_atoms q.function.ty.answer (plain_option e.value)))); scratch = m } }) (sym value)
        ∙ ap (λ (l : List (Option Handle)). record { seen = []; answer = Gives given; next = record r { live = live_in f l; scratch = m } }) (sym is)

-- ---- a fact of the contents that there are then

-- it holds of a content, if there is one
abbrev Each : (Content → Bool) → Option Content → Type 0
Each P o = option_map_or P o true ≡ true

module _ (P : Content → Bool) (ready : P Always ≡ true) where
  pub stands : (makes : Option Content) → Each P makes → (id : ℕ) → P (stands_for (Made makes) id) ≡ true
  stands None all id = ready
  stands (Some content) all zero = all
  stands (Some content) all (suc id) = ready

  becomes_hold : (live : List (Option Handle)) (args : PlainValues) (o : Option Content) → AllHold P live → Each P o → AllHold P (becomes_in live args o)
  becomes_hold live args None all new = all
  becomes_hold live args (Some content) all new = hold-standing P live (id_in (nth 0 args)) content all new

  hold_after : (q : Request) (live : LiveTable) (e : Effect) → AllHold P live.handles → Each P e.makes → Each P e.becomes → AllHold P (live_after q live e).handles
  hold_after q live e all makes becomes = hold-handles P (Made e.makes) (becomes_in live.handles (call_of q).args e.becomes) (handles_in q (plain_option e.value)) (becomes_hold live.handles (call_of q).args e.becomes all becomes) (stands e.makes makes)

becomes_count : (kind : ℕ) (live : List (Option Handle)) (args : PlainValues) (o : Option Content) → count_of_kind kind (becomes_in live args o) ≡ count_of_kind kind live
becomes_count kind live args None = refl
becomes_count kind live args (Some content) = count-standing kind live (id_in (nth 0 args)) content

pub becomes_room : (args : PlainValues) (o : Option Content) (kind more slots : ℕ) (live new : List (Option Handle)) → new ≡ becomes_in live args o → more + count_of_kind kind live ≤ slots → more + count_of_kind kind new ≤ slots
becomes_room args o kind more slots live new is room =
    let same = ap (count_of_kind kind) is ∙ becomes_count kind live args o in
    omega (arith, same, room)

-- the handle of a number that is not live stays as it is
pub becomes_none : (live : List (Option Handle)) (id : ℕ) (x : Option Handle) → slice_index_or live id None ≡ None → x ≡ None → live ≡ set live id x
becomes_none live id x none is = sym (ap (set live id) (is ∙ sym none) ∙ set-get_or live id None)

-- ---- scratch files that are held

within : {A : Type 0} (xs : List (Option A)) (n : ℕ) → is_some (slice_index_or xs n None) ≡ true → n < length xs
within [] n is = cc
within (x ∷ xs) zero is = omega arith
within (x ∷ xs) (suc n) is = omega (arith, within xs n is)

module _ (m : ScratchMap) where
  inside_of : (o : Option ℕ) → option_map_or (λ n. is_some (file_at m n)) o true ≡ true → option_map_or (λ n. nat_lt n (length m.files)) o true ≡ true
  inside_of None is = refl
  inside_of (Some n) is = let lt = within m.files n is in grind (arith, nat_tests)

  there_inside : (c : Content) → is_there m c ≡ true → is_inside (length m.files) c ≡ true
  there_inside c is = inside_of (open_file c) is

  opens_there : (o : Option Content) → OpensThere m o → Each (is_there m) o
  opens_there None is = refl
  opens_there (Some c) is = there_open m c is

  each_inside : (o : Option Content) → Each (is_there m) o → Each (is_inside (length m.files)) o
  each_inside None is = refl
  each_inside (Some c) is = there_inside c is

  seen_there : (f : Forest) (c : Content) → file_open m c → IsThere m (content_in f c)
  seen_there f (ScratchFile n may_write) is = is
  seen_there f (ScratchIn n place) is = is
  seen_there f (ScratchOut n place) is = is
  seen_there f _ is = tt

  handle_there : (f : Forest) (o : Option Handle) → file_open m (option_map_or (λ h. h.content) o Always) → IsThere m (reference.content_in (option_map (λ h. record { kind = h.kind; content = content_in f h.content }) o))
  handle_there f None is = tt
  handle_there f (Some h) is = seen_there f h.content is

  pub contents_there : (f : Forest) (live : List (Option Handle)) → ((id : ℕ) → file_open m (content_held live id)) → (id : ℕ) → IsThere m (content_of (live_in f live) id)
  contents_there f live all id = subst (λ (o : Option reference.LiveHandle). IsThere m (reference.content_in o)) (sym (seen_handle_at f live id)) (handle_there f (slice_index_or live id None) (all id))

pub each_becomes : (P : Content → Bool) (o : Option Content) → Each P o → IfSome o (λ c. P c ≡ true)
each_becomes P None is = tt
each_becomes P (Some c) is = is

-- what a live handle holds open is open
open_by : (live : List (Option Handle)) (id : ℕ) (n : ℕ) → opens n (slice_index_or live id None) ≡ true → is_open live n ≡ true
open_by [] id n is = cc
open_by (x ∷ xs) zero n is = rw is refl
open_by (x ∷ xs) (suc id) n is = rw (open_by xs id n is) (any_true (opens n x))
  where
    any_true : (b : Bool) → (b || true) ≡ true
    any_true true = refl
    any_true false = refl

module _ (f : Forest) (live : List (Option Handle)) (old new : ScratchMap) (kept : (n : ℕ) → is_held (live_in f live) n ≡ true → is_some (file_at old n) ≡ true → is_some (file_at new n) ≡ true) where
  held_there : (id : ℕ) (h : Handle) (o : Option ℕ) → slice_index_or live id None ≡ Some h → open_file h.content ≡ o → option_map_or (λ n. is_some (file_at old n)) o true ≡ true → option_map_or (λ n. is_some (file_at new n)) o true ≡ true
  held_there id h None at is there = refl
  held_there id h (Some n) at is there = kept n (seen_is_held f live n ∙ open_by live id n (ap (opens n) at ∙ ap (λ (x : Option ℕ). option_map_or (λ k. k == n) x false) is ∙ same_number n)) there
    where
      same_number : (k : ℕ) → (k == k) ≡ true
      same_number k = grind (arith, nat_tests)

  pub all_there : AllHold (is_there old) live → AllHold (is_there new) live
  all_there all id h at = held_there id h (open_file h.content) at refl (all id h at)

-- ---- what a row keeps

module _ (g : Setting) (old : Holding) (q : Request) (holding : IsHolding g old) (m : ScratchMap) where
  abbrev held : ℕ → Bool
  held = is_held (live_in g.table old.live.handles)

  module _ (e : Effect) (kept : KeptBy held old.folder m e) where
    files_same : length m.files ≡ old.live.files
    files_same = kept.files.count ∙ holding.held_files

    makes_there : Each (is_there m) e.makes
    makes_there = opens_there m e.makes kept.makes

    becomes_there : Each (is_there m) e.becomes
    becomes_there = opens_there m e.becomes kept.becomes

    pub may_enter : (asked : IsAsked g q) (room : HasRoom g old q) (other : ((listed_of q).interface == 19) ≡ false) → MayEnter q old.live e
    may_enter asked room other = record {
      kinds = enters_kinds g old q holding asked room other (plain_option e.value);
      room = enters_room g old q holding asked room other (plain_option e.value);
      makes = subst (λ (n : ℕ). (id : ℕ) → is_inside n (stands_for (Made e.makes) id) ≡ true) files_same (stands (is_inside (length m.files)) refl e.makes (each_inside m e.makes makes_there));
      becomes = subst (λ (n : ℕ). IfSome e.becomes (λ c. is_inside n c ≡ true)) files_same (each_becomes (is_inside (length m.files)) e.becomes (each_inside m e.becomes becomes_there));
    }

    pub holding_after : row_inside (count_of g.table) (Does' e) ≡ true → MayEnter q old.live e → IsHolding g (record { live = live_after q old.live e; folder = m })
    holding_after inside may = record {
      slots = holding.slots;
      files = kept.files.count ∙ holding.files;
      held_files = files_same;
      fits = λ kind. becomes_fit kind;
      nodes = each_held (node_inside (count_of g.table)) refl (live_after q old.live e).handles
          (hold_after (node_inside (count_of g.table)) refl q old.live e (all_held (node_inside (count_of g.table)) refl old.live.handles holding.nodes)
          (left (option_map_or (node_inside (count_of g.table)) e.makes true) (option_map_or (node_inside (count_of g.table)) e.becomes true) inside)
          (right (option_map_or (node_inside (count_of g.table)) e.makes true) (option_map_or (node_inside (count_of g.table)) e.becomes true) inside));
      held_there = λ id. open_there m (content_held (live_after q old.live e).handles id)
          (each_held (is_there m) refl (live_after q old.live e).handles
          (hold_after (is_there m) refl q old.live e
          (all_there g.table old.live.handles old.folder m kept.files.kept (all_held (is_there old.folder) refl old.live.handles (λ n. there_open old.folder (content_held old.live.handles n) (holding.held_there n))))
          makes_there becomes_there) id);
    }
      where
        becomes_fit : (kind : ℕ) → count_of_kind kind (live_after q old.live e).handles ≤ old.live.slots
        becomes_fit kind = omega (arith, count_entered (Made e.makes) kind (becomes_in old.live.handles (call_of q).args e.becomes) (handles_in q (plain_option e.value)), becomes_count kind old.live.handles (call_of q).args e.becomes, may.room kind)

  module _ (interface : ℕ) (function : Name) where
    -- a row of the code that is told as the definition's
    abbrev IsRow : Row → Type 0
    IsRow x = told g.table x m ≡ settled old.folder (row_of interface function (record { policy = g.policy; trees = g.trees; scratch = old.folder; content = content_of (live_in g.table old.live.handles); held = held }) (call_of q).args)

    keeps_row : (e : Effect) → IsRow (Does' e) → KeptBy held old.folder m e
    keeps_row e is = told_keeps g.table e held old.folder m _ is (rows_keep _ (contents_there old.folder g.table old.live.handles holding.held_there) interface function (call_of q).args)

  module _ (interface : ℕ) (function : Name) (asked : IsAsked g q) (room : HasRoom g old q) (other : ((listed_of q).interface == 19) ≡ false) where
    pub row_may_enter : (row : Row) → IsRow interface function row → RowMayEnter q old.live row
    row_may_enter Traps' is = tt
    row_may_enter (Does' e) is = may_enter e (keeps_row interface function e is) asked room other

    pub holding_behind : (row : Row) → IsRow interface function row → row_inside (count_of g.table) row ≡ true → Stays row m old.folder → IsHolding g (record { live = live_behind q old.live row; folder = m })
    holding_behind Traps' is inside stays = subst (λ (x : ScratchMap). IsHolding g (record { live = old.live; folder = x })) (sym stays) holding
    holding_behind (Does' e) is inside stays =
        let kept = keeps_row interface function e is in
        holding_after e kept inside (may_enter e kept asked room other)
