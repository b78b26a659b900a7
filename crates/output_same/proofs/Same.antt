-- An output does what the application does, over every host.
use Rattle.std.proofs.Common.{◌≡◌, suc, List, [], sym, ◌∙◌, subst}
use Rattle.host_port.specs.Hosts.{HostStep}
use Rattle.comp_grammar.specs.Trees.{Tree}
use Rattle.comp_worlds.specs.Groups.{Nesting, Endless, Group}
use Rattle.comp_worlds.specs.Observed.{Call, seen, SameObservations}
use Rattle.comp_link.specs.Linking.{group_of}
use Rattle.comp_link.specs.Components.{component_seen}
use Rattle.comp_inside.specs.Laws.{OneStepLater, SeenWrapped}
use Rattle.comp_inside.proofs.Seen.{wrapped_do_same, later_same}
use Rattle.output_same.specs.ValidLaws.{output_of}
use Rattle.output_same.specs.Strategies.{strategy, DoesTheSame, SameOverHost}
use Rattle.output_same.specs.Laws.{OutputsDoTheSame}
use Rattle.output_same.proofs.Places.{same_group}
use Rattle.output_same.proofs.Wrapping.{output_wraps}
use Rattle.output_same.proofs.Strategies.{by_strategy}

module _ {S : Type 0} (h : HostStep S) (s : S) (calls : List Call) where
  -- what is seen is the group's
  same_seen : (w v c : Tree) → group_of w ≡ group_of v → SeenWrapped v c h s calls → SeenWrapped w c h s calls
  same_seen w v c same x = record {
    same = subst (λ (G : Group). SameObservations (component_seen c h s calls) (seen G [] h s calls)) (sym same) x.same;
    later = λ d. subst (λ (G : Group). OneStepLater G (group_of c) h s d calls) (sym same) (x.later d);
  }

pub outputs_same : OutputsDoTheSame
outputs_same app output alone defines bare h before calls =
    same_seen h before calls output (output_of app) app (same_group output (output_of app) bare) (wrapped_do_same h (output_of app) app (output_wraps app alone defines) alone.imports before calls)

-- over the host as over its strategy
module _ {S : Type 0} (h : HostStep S) (s : S) (calls : List Call) where
  later_over : (H G : Group) (d : Nesting) → OneStepLater H G (strategy h s) [] d calls → OneStepLater H G h s d calls
  later_over H G d x = record {
    observed = λ n. (by_strategy h H s d calls (suc n)).observed ∙ x.observed n ∙ sym (by_strategy h G s d calls n).observed;
    seen = λ n. (by_strategy h H s d calls (suc n)).seen ∙ x.seen n ∙ sym (by_strategy h G s d calls n).seen;
    first = (by_strategy h H s d calls 0).seen ∙ x.first;
  }

  pub seen_over : (w c : Tree) → DoesTheSame w c → SeenWrapped w c h s calls
  seen_over w c does =
      let later : (d : Nesting) → OneStepLater (group_of w) (group_of c) h s d calls = λ d. later_over (group_of w) (group_of c) d ((does (strategy h s) [] calls).later d) in
      record { same = later_same h s calls (group_of w) (group_of c) (later Endless); later = later }

pub over_host : {S : Type 0} → (h : HostStep S) → SameOverHost h
over_host h w c does s calls = seen_over h s calls w c does
