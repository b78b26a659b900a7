-- Core code of the innermost frame came back, and what is after it goes on; core code asked for a canonical function by its number.
use Rattle.std.proofs.Common.{◌≡◌, ◌≤◌, ◌<◌, ℕ, List, [], ◌∷◌, ◌++◌, length, reverse, Option, Some, None, Ok, Err, refl, sym, ap, subst, ◌∙◌}
use Rattle.std.specs.Prelude.{Result, IsErrAnd, option_map, nat_eq}
use Rattle.indexmap.specs.IndexMap.{get}
use Rattle.std.proofs.lemmas.List.{reverse-reverse, reverse-append}
use Rattle.virt_base.specs.declared.core_type.CoreType.{CoreType}
use Rattle.core_store.specs.Words.{words, HaveTypes}
use Rattle.core_store.specs.declared.value.CoreValue.{CoreValue}
use Rattle.wit_types.specs.PlainValue.{PlainValue}
use Rattle.host_port.specs.Hosts.{HostStep}
use Rattle.comp_worlds.specs.Acts.{Next, seen_before, Act, ◌>>◌, gives}
use Rattle.comp_worlds.specs.Groups.{Nesting, deeper, Group, Func, World}
use Rattle.comp_worlds.specs.Calls.{begins_call, performs}
use Rattle.comp_worlds.specs.Hosts.{hosted}
use Rattle.comp_frames.proofs.Heads.{before_next}
use Rattle.comp_frames.specs.Running.{running}
use Rattle.comp_frames.specs.Frames.{Awaiting}
use Rattle.instance_state.specs.Targets.{func_of}
use Rattle.instance_state.specs.declared.canon.Canon.{Canon}
use Rattle.call_moments.specs.Grouped.{canon_in}
use Rattle.call_moments.specs.Steps.{BeginsCall}
use Rattle.call_moments.specs.declared.depth.Depth.{Depth}
use Rattle.call_moments.specs.declared.end.Stop.{Stop}
use Rattle.call_moments.specs.declared.end.Stop.TheVariants as stops
use Rattle.call_moments.specs.declared.frame.Flow.{Flow}
use Rattle.call_moments.specs.declared.frame.Flow.TheVariants as flows
use Rattle.call_moments.specs.declared.frame.Back.{Back}
use Rattle.call_moments.specs.declared.frame.Frame.{Frame}
use Rattle.call_moments.specs.declared.frame.Purpose.{Purpose}
use Rattle.call_moments.specs.declared.frame.Purpose.TheVariants as purposes
use Rattle.call_moments.specs.declared.frame.Service.{Service}
use Rattle.call_moments.specs.declared.frame.Storing.{Storing}
use Rattle.call_moments.specs.declared.frame.Visit.{Visit}
use Rattle.call_moments.specs.CodeLaws.{nested}
use Rattle.call_moments.specs.Configs.{world_of}
use Rattle.call_moments.specs.Held.{AllLend, loans_behind}
use Rattle.call_moments.specs.Shown.{depth_of, purpose_of}
use Rattle.call_moments.specs.Fits.{scenes_of, core_type_of, FuncFits}
use Rattle.call_moments.specs.Waiting.{due_behind, instance_of, PurposeFits, WillAnswer, RoomOf, GrantFits}
use Rattle.call_moments.specs.Leads.{Moment, stores_of, calls_of, maps_of, sizes_of, so_far, Waits, IsDone, Leads}
use Rattle.call_moments.specs.Functions.{HasReturned, HasDestroyed, HasServed, IsGranted, behind, back_to}
use Rattle.call_moments.specs.Canonical.{Performs, AnswersCode, EndsCode}
use Rattle.call_moments.proofs.Following.{leads_by, after_begin, begin_ends}
use Rattle.call_moments.proofs.Leaving.{none_awaits}
use Rattle.call_moments.proofs.Serves.{stays, ends_as}

gives_none : {S : Type 0} (m : Moment S) → so_far m (gives {A = Option PlainValue} None) ≡ Next m.kept.seen m.budget (world_of m.instances m.kept.state) None
unfolding gives
gives_none m = before_next m.kept.seen m.budget (world_of m.instances m.kept.state) None

-- ---- the innermost frame is gone

module _ {S : Type 0} (h : HostStep S) (old mid : Moment S) (results : List CoreValue) (frame : Frame) (rest : List Frame) (popped : old.frames ≡ rest ++ frame ∷ []) (is : mid ≡ record old { frames = rest }) where
  module _ (f : Frame) (outer : List Frame) (frames : reverse old.frames ≡ f ∷ outer) where
    both : f ∷ outer ≡ frame ∷ reverse rest
    both = sym frames ∙ ap (λ (fs : List Frame). reverse fs) popped ∙ reverse-append rest (frame ∷ [])

    same_frame : f ≡ frame
    same_frame = let b = both in cc

    same_outer : outer ≡ reverse rest
    same_outer = let b = both in cc

    mid_is : record old { frames = reverse outer } ≡ mid
    mid_is = ap (λ (fs : List Frame). record old { frames = reverse fs }) same_outer ∙ ap (λ (fs : List Frame). record old { frames = fs }) (reverse-reverse rest) ∙ sym is

    mid_outer : outer ≡ reverse mid.frames
    mid_outer = same_outer ∙ ap (λ (m : Moment S). reverse m.frames) (sym is)

  -- what is after goes on in the same stores
  pub code_ends : (new : Moment S) (result : Result Flow Stop) →
      ((G : Group) (waiting : List (Awaiting S)) (types : List CoreType) → frame.instance < length mid.instances → Waits h G mid waiting (loans_behind frame.purpose) (due_behind frame.purpose) →
      PurposeFits (scenes_of mid.instances) (instance_of (reverse mid.frames)) frame.instance frame.purpose → RoomOf (sizes_of mid.instances) frame.purpose → WillAnswer (scenes_of mid.instances) frame.purpose types → HaveTypes types results →
      Leads h G (so_far mid (behind h G waiting frame.instance (purpose_of frame.purpose) results)) mid result new) → EndsCode h old results result new
  code_ends new result go = λ G waiting f outer types frames lt w fits room answers typed.
      let same : f ≡ frame = same_frame f outer frames in
      let fits' : PurposeFits (scenes_of old.instances) (instance_of (reverse mid.frames)) frame.instance frame.purpose =
      subst (λ (x : Frame). PurposeFits (scenes_of old.instances) (instance_of (reverse mid.frames)) x.instance x.purpose) same
      (subst (λ fs. PurposeFits (scenes_of old.instances) (instance_of fs) f.instance f.purpose) (mid_outer f outer frames) fits) in
      let w' : Waits h G mid waiting (loans_behind frame.purpose) (due_behind frame.purpose) =
      subst (λ (x : Frame). Waits h G mid waiting (loans_behind x.purpose) (due_behind x.purpose)) same (subst (λ m. Waits h G m waiting (loans_behind f.purpose) (due_behind f.purpose)) (mid_is f outer frames) w) in
      let instances : mid.instances ≡ old.instances = ap (λ (m : Moment S). m.instances) is in
      leads_by h G _ _ old mid new result
      (ap (λ (x : Frame). so_far old (behind h G waiting x.instance (purpose_of x.purpose) results)) same ∙ ap (λ m. so_far m (behind h G waiting frame.instance (purpose_of frame.purpose) results)) (sym is))
      (record { group = ap (λ (m : Moment S). m.group) is; scenes = ap scenes_of instances })
      (go G waiting types
      (subst (λ is. frame.instance < length is) (sym instances) (subst (λ (x : Frame). x.instance < length old.instances) same lt)) w'
      (subst (λ is. PurposeFits (scenes_of is) (instance_of (reverse mid.frames)) frame.instance frame.purpose) (sym instances) fits')
      (subst (λ is. RoomOf (sizes_of is) frame.purpose) (sym instances) (subst (λ (x : Frame). RoomOf (sizes_of old.instances) x.purpose) same room))
      (subst (λ is. WillAnswer (scenes_of is) frame.purpose types) (sym instances) (subst (λ (x : Frame). WillAnswer (scenes_of old.instances) x.purpose types) same answers)) typed)

  -- a start function is over
  pub start_ends : frame.purpose ≡ purposes.Starts → EndsCode h old results (Ok (flows.Done None)) mid
  start_ends e = code_ends mid (Ok (flows.Done None)) (λ G waiting types lt w fits room answers typed.
      let w' : Waits h G mid waiting [] None = subst (λ p. Waits h G mid waiting (loans_behind p) (due_behind p)) e w in
      let none = none_awaits h G (stores_of mid.instances) (scenes_of mid.instances) (calls_of mid.instances) (reverse mid.frames) waiting w'.stand w'.await in (
        stays h mid,
        record {
          rest = record {
            fits = w.fits;
            still = w.still;
            calls = none.1;
            frames = sym (reverse-reverse mid.frames) ∙ ap reverse none.0;
            lend = subst (λ fs. AllLend (maps_of mid.instances) [] fs) none.0 w'.lend;
          };
          is = ap (λ p. so_far mid (behind h G waiting frame.instance (purpose_of p) results)) e ∙ gives_none mid;
        },
      ))

  pub served_ends : (service : Service) → frame.purpose ≡ purposes.Serves service → (new : Moment S) (result : Result Flow Stop) → HasServed h mid service results result new → EndsCode h old results result new
  served_ends service e new result leads = code_ends new result (λ G waiting types lt w fits room answers typed.
      leads_by h G _ _ mid mid new result (ap (λ p. so_far mid (behind h G waiting frame.instance (purpose_of p) results)) e) (stays h mid)
      (leads G waiting (subst (λ p. Waits h G mid waiting (loans_behind p) (due_behind p)) e w) (subst (λ p. PurposeFits (scenes_of mid.instances) (instance_of (reverse mid.frames)) frame.instance p) e fits)
      (subst (λ ts. HaveTypes ts results) (subst (λ p. WillAnswer (scenes_of mid.instances) p types) e answers) typed)))

  pub granted_ends : (s : Storing) → frame.purpose ≡ purposes.Grants s → (new : Moment S) (result : Result Flow Stop) → IsGranted h mid s results result new → EndsCode h old results result new
  granted_ends s e new result leads = code_ends new result (λ G waiting types lt w fits room answers typed.
      let grants : GrantFits (scenes_of mid.instances) (instance_of (reverse mid.frames)) frame.instance s = subst (λ p. PurposeFits (scenes_of mid.instances) (instance_of (reverse mid.frames)) frame.instance p) e fits in
      leads_by h G _ _ mid mid new result
      (ap (λ p. so_far mid (behind h G waiting frame.instance (purpose_of p) results)) e ∙ ap (λ n. so_far mid (behind h G waiting n (purpose_of (purposes.Grants s)) results)) (sym grants.here))
      (stays h mid)
      (leads G waiting
      (record { waits = subst (λ p. Waits h G mid waiting (loans_behind p) (due_behind p)) e w; fits = grants.storing; room = subst (λ p. RoomOf (sizes_of mid.instances) p) e room })
      (subst (λ n. GrantFits (scenes_of mid.instances) (instance_of (reverse mid.frames)) n s) (sym grants.here) grants)
      (subst (λ ts. HaveTypes ts results) (subst (λ p. WillAnswer (scenes_of mid.instances) p types) e answers) typed)))

  pub returned_ends : (back : Back) → frame.purpose ≡ purposes.Returns back → (new : Moment S) (result : Result Flow Stop) → HasReturned h mid frame.instance back result new → EndsCode h old results result new
  returned_ends back e new result leads = code_ends new result (λ G waiting types lt w fits room answers typed.
      leads_by h G _ _ mid mid new result (ap (λ p. so_far mid (behind h G waiting frame.instance (purpose_of p) results)) e) (stays h mid)
      (leads G waiting results (subst (λ p. Waits h G mid waiting (loans_behind p) (due_behind p)) e w) lt))

  pub destroyed_ends : (visit : Visit) → frame.purpose ≡ purposes.Destroys visit → (new : Moment S) (result : Result Flow Stop) → HasDestroyed h mid frame.instance visit result new → EndsCode h old results result new
  destroyed_ends visit e new result leads = code_ends new result (λ G waiting types lt w fits room answers typed.
      leads_by h G _ _ mid mid new result (ap (λ p. so_far mid (behind h G waiting frame.instance (purpose_of p) results)) e) (stays h mid)
      (leads G waiting results (subst (λ p. Waits h G mid waiting (loans_behind p) (due_behind p)) e w) lt))

pub no_frame : {S : Type 0} (h : HostStep S) (old : Moment S) (results : List CoreValue) → old.frames ≡ [] → (new : Moment S) (result : Result Flow Stop) → EndsCode h old results result new
no_frame h old results none new result = λ G waiting f outer types frames lt w fits room answers typed. let no : [] ≡ f ∷ outer = sym (ap reverse none) ∙ frames in absurd (cc)

-- ---- core code asks for a canonical function

module _ {S : Type 0} (h : HostStep S) (old new : Moment S) (k number calls : ℕ) (args : List CoreValue) (result : Result Flow Stop) where
  pub answer_stops : (stop : Stop) → BeginsCall old.budget calls new.budget (Err stop) → new.kept ≡ old.kept → IsErrAnd result (λ s. s ≡ stop) → AnswersCode h old k number calls args result new
  answer_stops stop b same e = λ G waiting func there w inner typed. ends_as h old new G _ stop result e (begin_ends h G old new calls new.budget stop _ same b)

  pub answer_fails : IsErrAnd result (λ s. s ≡ stops.NoMemory) → AnswersCode h old k number calls args result new
  answer_fails e = λ G waiting func there w inner typed. ends_as h old new G _ stops.NoMemory result e tt

  module _ (mid : Moment S) (depth : Depth) (b : BeginsCall old.budget calls mid.budget (Ok depth)) (is : mid ≡ record old { budget = mid.budget }) where
    there_old : (o : Option Func) → o ≡ canon_in mid.group.canons.items k number → o ≡ canon_in old.group.canons.items k number
    there_old o e = e ∙ ap (λ (m : Moment S). canon_in m.group.canons.items k number) is

    pub answer_none : option_map func_of None ≡ canon_in mid.group.canons.items k number → AnswersCode h old k number calls args result new
    answer_none none = λ G waiting func there w inner typed. absurd (let no : None ≡ Some func = there_old None none ∙ there in cc)

    pub answer_leads : (canon : Canon) → option_map func_of (Some canon) ≡ canon_in mid.group.canons.items k number → Performs h mid k (depth_of depth) (func_of canon) args result new → AnswersCode h old k number calls args result new
    answer_leads canon found performed = λ G waiting func there w inner typed.
        let both : Some (func_of canon) ≡ Some func = there_old (Some (func_of canon)) found ∙ there in
        let same : func ≡ func_of canon = cc in
        let known = w.fits.canons k number func there in
        let go : Nesting → Act (World S) (Option PlainValue) = λ e. performs G (hosted h) (running G (hosted h)) e k (words args) (Some (func_of canon)) >> back_to h G waiting in
        leads_by h G _ _ old old new result
        (ap (λ o. so_far old (begins_call (nested calls) >> λ _. performs G (hosted h) (running G (hosted h)) (deeper (nested calls)) k (words args) o >> back_to h G waiting)) (known.0 ∙ ap (λ f. Some f) same))
        (stays h old)
        (after_begin h G waiting [] (Some (length (core_type_of func).results)) old mid new result w calls depth (go (deeper (nested calls))) b is (λ w2 deep.
        subst (λ e. Leads h G (so_far mid (go e)) mid result new) (sym deep)
        (performed G waiting (subst (λ f. Waits h G mid waiting [] (Some (length (core_type_of f).results))) same w2)
        (inner ∙ sym (ap (λ (m : Moment S). instance_of (reverse m.frames)) is))
        (subst (λ (m : Moment S). FuncFits (scenes_of m.instances) G m.group.owners (λ r. get nat_eq m.group.imported r) k (func_of canon)) (sym is)
        (subst (λ f. FuncFits (scenes_of old.instances) G old.group.owners (λ r. get nat_eq old.group.imported r) k f) same known.1))
        (subst (λ f. HaveTypes (core_type_of f).params args) same typed))))
