-- Handles that are dropped.
use Rattle.std.proofs.Common.{◌≡◌, ℕ, ◌==◌, Bool, true, false, List, [], ◌++◌, get_or, set, Option, Some, None, option_map, Result, Ok, Err, refl, sym, ap, subst, ◌∙◌, arith, if◌then◌else◌}
use Rattle.std.proofs.lemmas.Bool.Decides.{nat_tests}
use Rattle.std.specs.Prelude.{OnOk}
use Rattle.std.proofs.lemmas.List.{append-nil}
use Rattle.wit_types.specs.Plain.{Name}
use Rattle.tree_table.specs.Tables.{Forest}
use Rattle.host_port.specs.Calls.{PlainObservation}
use Rattle.host_port.specs.Hosts.{HostStep, Kept, Loss, drops}
use Rattle.reference_step.specs.Handles as contents
use Rattle.reference_step.specs.Handles.{Live, LiveHandle}
use Rattle.reference_step.specs.State.{Reference}
use Rattle.reference_step.specs.Steps.{dropped, lost}
use Rattle.ref_answers.specs.Versions.{resource_in, version_in}
use Rattle.ref_rules.specs.declared.content.Content.{Content}
use Rattle.ref_rules.specs.declared.content.Content.TheVariants.{Host}
use Rattle.ref_rules.specs.declared.content.Handle.{Handle}
use Rattle.ref_rules.specs.Lives.{LiveTable}
use Rattle.ref_answers.specs.Seen.{content_in, handle_in, live_in}
use Rattle.ref_answers.proofs.SeenLaws.{seen_handle_at, seen_without_handle}
use Rattle.ref_host_calls.specs.Losses.{IsLoss, listed_at}

-- what holds after a call
pub on_map : {A E : Type 0} (r : Result A E) (P Q : Type 0) → (P → Q) → OnOk r P → OnOk r Q
on_map (Ok x) P Q go p = go p
on_map (Err e) P Q go p = p

module _ {S : Type 0} (h : HostStep S) (f : Forest) (r : Reference S) (versions : List Name) (live live' : LiveTable) (id kind : ℕ) (less : live' ≡ record live { handles = set live.handles id None }) where
  abbrev at : S → Reference S
  at inner = listed_at r f versions live inner

  lives : live_in f live'.handles ≡ contents.without_handle (live_in f live.handles) id
  lives = ap (λ (l : LiveTable). live_in f l.handles) less ∙ seen_without_handle f live.handles id

  -- the host drops its own
  drops_theirs : (theirs : ℕ) (k k' : Kept S) → k' ≡ drops h k (resource_in (version_in versions) kind) theirs → IsLoss (lost h (at k.state) id kind (contents.Host theirs)) (listed_at r f versions live' k'.state) k.seen k'.seen
  drops_theirs theirs k k' is = record {
    next =
        ap (λ (l : Live). record (listed_at r f versions live k'.state) { live = l }) lives
        ∙ ap (λ (x : S). record (listed_at r f versions live x) { live = contents.without_handle (live_in f live.handles) id }) (ap (λ (x : Kept S). x.state) is);
    seen = ap (λ (x : Kept S). x.seen) is;
  }

  pub loses_theirs : (content : Content) (theirs : ℕ) (k k' : Kept S) → content ≡ Host theirs → k' ≡ drops h k (resource_in (version_in versions) kind) theirs → IsLoss (lost h (at k.state) id kind (content_in f content)) (listed_at r f versions live' k'.state) k.seen k'.seen
  loses_theirs content theirs k k' stands is = subst (λ (x : Content). IsLoss (lost h (at k.state) id kind (content_in f x)) (listed_at r f versions live' k'.state) k.seen k'.seen) (sym stands) (drops_theirs theirs k k' is)

  -- it has none
  abbrev quiet : S → Loss (Reference S)
  quiet inner = record { seen = []; next = record (at inner) { live = contents.without_handle (live_in f live.handles) id } }

  ours : (inner : S) (c : contents.Content) → contents.is_host c ≡ false → lost h (at inner) id kind c ≡ quiet inner
  ours inner (contents.Host theirs) e = cc
  ours inner (contents.Node tree path) e = refl
  ours inner (contents.FileAt tree path place) e = refl
  ours inner contents.EmptyIn e = refl
  ours inner contents.Discard e = refl
  ours inner contents.Always e = refl
  ours inner (contents.Entries rest) e = refl
  ours inner contents.ScratchRoot e = refl
  ours inner (contents.ScratchEntries number) e = refl
  ours inner (contents.ScratchFile number may_write) e = refl
  ours inner (contents.ScratchIn number place) e = refl
  ours inner (contents.ScratchOut number place) e = refl

  pub loses_ours : (content : Content) (k : Kept S) → contents.is_host (content_in f content) ≡ false → IsLoss (lost h (at k.state) id kind (content_in f content)) (listed_at r f versions live' k.state) k.seen k.seen
  loses_ours content k other =
      let is = ours k.state (content_in f content) other in
      record {
        next = ap (λ (l : Live). record (listed_at r f versions live k.state) { live = l }) lives ∙ sym (ap (λ (x : Loss (Reference S)). x.next) is);
        seen = sym (append-nil k.seen) ∙ sym (ap (λ (x : Loss (Reference S)). k.seen ++ x.seen) is);
      }

-- ---- which handle is dropped

module _ {S : Type 0} (h : HostStep S) (f : Forest) (r : Reference S) (versions : List Name) (live : LiveTable) (id kind : ℕ) (k : Kept S) where
  abbrev now : Reference S
  now = listed_at r f versions live k.state

  found_is : (found : Option Handle) → found ≡ get_or live.handles id None → dropped h now id kind (contents.handle_at (live_in f live.handles) id) ≡ dropped h now id kind (option_map (handle_in f) found)
  found_is found is = ap (λ (o : Option LiveHandle). dropped h now id kind o) (seen_handle_at f live.handles id ∙ ap (option_map (handle_in f)) (sym is))

  by_kind : (b : Bool) (handle : Handle) → (handle.kind == kind) ≡ b → dropped h now id kind (option_map (handle_in f) (Some handle)) ≡ (if b then lost h now id kind (content_in f handle.content) else record { seen = []; next = now })
  by_kind b handle is = ap (λ c. if c then lost h now id kind (content_in f handle.content) else record { seen = []; next = now }) is

  pub same_kind : (handle : Handle) (new : Reference S) (after : List PlainObservation) → Some handle ≡ get_or live.handles id None → handle.kind ≡ kind → IsLoss (lost h now id kind (content_in f handle.content)) new k.seen after → IsLoss (dropped h now id kind (contents.handle_at (live_in f live.handles) id)) new k.seen after
  same_kind handle new after is same loss =
      let kind_is : (handle.kind == kind) ≡ true = grind (arith, nat_tests) in
      subst (λ (x : Loss (Reference S)). IsLoss x new k.seen after) (sym (found_is (Some handle) is ∙ by_kind true handle kind_is)) loss
