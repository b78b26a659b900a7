-- What is shown of a run.
use Rattle.std.specs.Prelude.{◌≡◌, ℕ, List, map, Ok}
use Rattle.comp_grammar.specs.Trees.{Tree}
use Rattle.comp_types.specs.Added.{type_of}
use Rattle.host_port.specs.Hosts.{HostStep}
use Rattle.comp_link.specs.Linking.{group_of}
use Rattle.comp_link.specs.Components.{component_obs_deep}
use Rattle.host_script.specs.Script.{PlainCall}
use Rattle.component_judge.specs.Callable.{callable}
use Rattle.script_lines.specs.Lines.{line_text}
use Rattle.component_judge.specs.declared.component.Judged.{Judged}
use Rattle.call_moments.specs.declared.end.RunEnd.{RunEnd}
use Rattle.component_judge.specs.Components.{Judges}
use Rattle.virt_engine.specs.Calling.{call_of, typed_calls}
use Rattle.virt_engine.specs.Lines.{EndsBy}
use Rattle.virt_engine.specs.Told.{Item, Told, told}
use Rattle.virt_engine.specs.declared.runner.Shown.{Shown}
use Rattle.virt_engine.specs.declared.tally.Tally.{Tally}
use Rattle.virt_engine.specs.Tallies.{none_counted, all_seen}

-- some bytes are judged to be this component
abbrev pub CanRun : Judged → Type 0
CanRun judged = (bytes : List ℕ) × Judges bytes (Ok judged)

-- the last line names how the run ended
abbrev pub IsShown : Shown → Type 0
IsShown shown = EndsBy shown.lines shown.end

-- ---- the lines are those of the definition

-- each item has one line
abbrev pub item_texts : List Item → List (List ℕ)
item_texts items = map (λ (i : Item). line_text i.ty i.seen) items

-- what is counted of items
abbrev pub items_tally : List Item → Tally
items_tally items = all_seen none_counted (map (λ (i : Item). i.seen) items)

pub record IsTold (whole : Told) (put : List (List ℕ)) (counted : Tally) (how : RunEnd) : Type 0 where
  pub lines : put ≡ item_texts whole.items
  pub tally : counted ≡ items_tally whole.items
  pub end : how ≡ whole.end

-- what is to be told of a component over a host in this state, with the calls of a script and that many steps
abbrev pub told_component : {S : Type 0} → Tree → HostStep S → S → List PlainCall → ℕ → Told
told_component tree h s calls n = told (group_of tree) h (typed_calls (callable (type_of tree).exports) calls) s n

-- The lines are what is observed of the component, each result printed by its function's type, and the end is that of the run.
pub record ShowsRun {S : Type 0} (tree : Tree) (h : HostStep S) (s : S) (calls : List PlainCall) (n : ℕ) (shown : Shown) : Type 0 where
  pub told : IsTold (told_component tree h s calls n) shown.lines shown.tally shown.end
  pub observed : map (λ (i : Item). i.seen) (told_component tree h s calls n).items ≡ component_obs_deep tree h s (map call_of calls) n
