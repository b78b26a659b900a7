-- How far a run has come whose lines are made, against what is to be told of it. For private clauses.
use Rattle.std.specs.Prelude.{◌≡◌, ℕ, List, [], ◌∷◌, ◌++◌, length, drop, map, Option, Some, None}
use Rattle.wit_types.specs.Plain.{Plain}
use Rattle.host_port.specs.Hosts.{HostStep, Kept}
use Rattle.comp_worlds.specs.Groups.{Target, Group}
use Rattle.comp_link.specs.declared.linked.Linked.{Linked}
use Rattle.call_moments.specs.Configs.{world_of}
use Rattle.host_script.specs.Script.{PlainCall, Exports}
use Rattle.call_moments.specs.declared.end.RunEnd.{RunEnd}
use Rattle.call_moments.specs.declared.end.RunEnd.TheVariants as ends
use Rattle.script_lines.specs.Lines.{line_text}
use Rattle.comp_interp.specs.declared.run.Run.{Run}
use Rattle.comp_interp.specs.Runs.{host_in, IsNew}
use Rattle.comp_interp.specs.Outcomes.{group_in, moment_in, CanServe, MayCall, export_named}
use Rattle.virt_engine.specs.declared.runner.Runner.{Runner}
use Rattle.virt_engine.specs.Calling.{typed_calls}
use Rattle.virt_engine.specs.Lines.{end_by, seen_by}
use Rattle.virt_engine.specs.Told.{Item, Told, TypedCall, before, told_calls, told}
use Rattle.virt_engine.specs.Shown.{item_texts, items_tally, IsTold}
use Rattle.virt_engine.specs.Tallies.{none_counted, all_seen, and_seen}

module _ {H S : Type 0} (h : HostStep S) (kept : H → Kept S) where
  -- lines of what was seen of the host since then are added
  pub record ShowsHost (old new : Runner H) : Type 0 where
    pub run : new.run ≡ old.run
    pub lines : new.lines ≡ old.lines ++ map (line_text None) (drop old.shown (kept (host_in old.run)).seen)
    pub tally : new.tally ≡ all_seen old.tally (drop old.shown (kept (host_in old.run)).seen)
    pub shown : new.shown ≡ length (kept (host_in old.run)).seen

  -- the line of a call's end is added
  pub record ShowsEnd (came : RunEnd) (ty : Option Plain) (old : Runner H) (how : RunEnd) (new : Runner H) : Type 0 where
    pub run : new.run ≡ old.run
    pub lines : new.lines ≡ old.lines ++ line_text ty (seen_by came) ∷ []
    pub tally : new.tally ≡ and_seen old.tally (seen_by came)
    pub shown : new.shown ≡ old.shown
    pub end : how ≡ end_by came

  module _ (G : Group) where
    -- the component is made, and after what was told so far, what is to be told of these calls makes it whole
    pub record RunStands (whole : Told) (rest : List TypedCall) (done : List Item) (run : Run H) : Type 0 where
      pub serves : CanServe h kept run
      pub group : group_in run ≡ G
      pub is : before done (told_calls G h rest (world_of (moment_in kept run).instances (moment_in kept run).kept.state) (moment_in kept run).budget) ≡ whole

    -- the lines so far are of what was told so far
    pub record Stands (whole : Told) (rest : List TypedCall) (r : Runner H) : Type 0 where
      pub done : List Item
      pub lines : r.lines ≡ item_texts done
      pub tally : r.tally ≡ items_tally done
      pub shown : r.shown ≡ length (kept (host_in r.run)).seen
      pub run : RunStands whole rest done r.run

    -- each call may be made of what is exported by its name
    abbrev pub AllMay : List PlainCall → Type 0
    AllMay [] = Unit {0}
    AllMay (c ∷ cs) = ((target : Target) → export_named h kept G c.0 ≡ Some target → MayCall h kept target c.1) × AllMay cs

    -- a call returned and there are more, or all was told
    abbrev pub ComesOn : Told → List TypedCall → RunEnd → Runner H → Type 0
    ComesOn whole rest (ends.Returned value) r = Stands whole rest r
    ComesOn whole rest ends.Trapped r = IsTold whole r.lines r.tally ends.Trapped
    ComesOn whole rest ends.ScriptEnded r = IsTold whole r.lines r.tally ends.ScriptEnded
    ComesOn whole rest ends.Spent r = IsTold whole r.lines r.tally ends.Spent
    ComesOn whole rest ends.BadAnswer r = IsTold whole r.lines r.tally ends.BadAnswer
    ComesOn whole rest ends.TooDeep r = IsTold whole r.lines r.tally ends.TooDeep

  -- no line is made, and nothing was seen of the host
  pub record IsFresh (linked : Linked) (first : Kept S) (budget : ℕ) (r : Runner H) : Type 0 where
    pub run : IsNew linked first budget (kept (host_in r.run)) r.run
    pub unseen : first.seen ≡ []
    pub lines : r.lines ≡ []
    pub tally : r.tally ≡ none_counted
    pub shown : r.shown ≡ 0

  abbrev pub told_of : Exports → List PlainCall → Kept S → ℕ → Runner H → Told
  told_of exports calls first budget r = told (group_in r.run) h (typed_calls exports calls) first.state budget

  -- since a fresh runner the making, and the calls before the rest, came out so
  abbrev pub Came : Exports → List PlainCall → List PlainCall → Runner H → RunEnd → Runner H → Type 0
  Came exports calls rest old how new =
      (linked : Linked) (first : Kept S) (budget : ℕ) → IsFresh linked first budget old → AllMay (group_in old.run) calls →
      AllMay (group_in old.run) rest × ComesOn (group_in old.run) (told_of exports calls first budget old) (typed_calls exports rest) how new

  -- the making of the instances, whatever is called then
  abbrev pub Makes : Runner H → RunEnd → Runner H → Type 0
  Makes old how new = (exports : Exports) (calls : List PlainCall) → Came exports calls calls old how new

  abbrev pub CallsOn : Exports → PlainCall → Runner H → RunEnd → Runner H → Type 0
  CallsOn exports c old how new =
      (G : Group) (whole : Told) (rest : List PlainCall) → ((target : Target) → export_named h kept G c.0 ≡ Some target → MayCall h kept target c.1) →
      Stands G whole (typed_calls exports (c ∷ rest)) old → ComesOn G whole (typed_calls exports rest) how new

  -- all was told of a fresh runner
  abbrev pub Goes : Exports → List PlainCall → Runner H → RunEnd → Runner H → Type 0
  Goes exports calls old how new =
      (linked : Linked) (first : Kept S) (budget : ℕ) → IsFresh linked first budget old → AllMay (group_in old.run) calls → IsTold (told_of exports calls first budget old) new.lines new.tally how
