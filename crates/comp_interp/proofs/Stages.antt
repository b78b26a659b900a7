-- Stages that are done one after the other, and those that end the run.
use Rattle.std.proofs.Common.{◌≡◌, ◌∙◌, ap, sym, subst, List, [], ◌∷◌, ◌++◌}
use Rattle.host_port.specs.Calls.{PlainObservation}
use Rattle.host_port.specs.Hosts.{HostStep}
use Rattle.comp_worlds.specs.Acts.{End, Trapped, ScriptEnded, BadAnswer, TooDeep, Out, Over, Spent, then_do, Act, ◌>>◌}
use Rattle.comp_worlds.specs.Groups.{Stage, Group, World}
use Rattle.comp_worlds.specs.Calls.{does}
use Rattle.comp_worlds.specs.Hosts.{hosted}
use Rattle.comp_frames.specs.Running.{running}
use Rattle.comp_frames.proofs.Heads.{before_then, then_then, gives_then, then_alike}
use Rattle.call_moments.specs.declared.end.Stop.{Stop}
use Rattle.call_moments.specs.declared.end.Stop.TheVariants as stops
use Rattle.call_moments.specs.CodeLaws.{nested}
use Rattle.call_moments.specs.Configs.{world_of}
use Rattle.call_moments.specs.Leads.{Moment, so_far, Ends}
use Rattle.comp_interp.specs.Gathered.{stages_act, AreDone}

module _ {S : Type 0} (h : HostStep S) (G : Group) where
  stages_append : (xs ys : List Stage) → stages_act h G (xs ++ ys) ≡ (stages_act h G xs >> λ (u : Unit {0}). stages_act h G ys)
  stages_append [] ys = sym (gives_then tt (λ (u : Unit {0}). stages_act h G ys))
  stages_append (x ∷ xs) ys =
      let one : Act (World S) (Unit {0}) = does G (hosted h) (running G (hosted h)) (nested 0) x in
      then_alike one (λ (u : Unit {0}). stages_act h G (xs ++ ys)) (λ (u : Unit {0}). stages_act h G xs >> λ (v : Unit {0}). stages_act h G ys) (λ u. stages_append xs ys)
      ∙ sym (then_then one (λ (u : Unit {0}). stages_act h G xs) (λ (u : Unit {0}). stages_act h G ys))

  -- what was seen before, and then two acts
  so_far_then : {A B : Type 0} → (m : Moment S) (x : Act (World S) A) (go : A → Act (World S) B) → so_far m (x >> go) ≡ then_do (so_far m x) go
  unfolding ◌>>◌
  so_far_then m x go = sym (before_then m.kept.seen (x (world_of m.instances m.kept.state) m.budget) go)

  pub goes_on_from : (xs ys : List Stage) (a b : Moment S) → AreDone h G xs a b → so_far a (stages_act h G (xs ++ ys)) ≡ so_far b (stages_act h G ys)
  goes_on_from xs ys a b done =
      ap (so_far a) (stages_append xs ys)
      ∙ so_far_then a (stages_act h G xs) (λ (u : Unit {0}). stages_act h G ys)
      ∙ ap (λ (o : Out (World S) (Unit {0})). then_do o (λ (u : Unit {0}). stages_act h G ys)) done

  pub done_then : (xs ys : List Stage) (a b c : Moment S) → AreDone h G xs a b → AreDone h G ys b c → AreDone h G (xs ++ ys) a c
  done_then xs ys a b c first second = goes_on_from xs ys a b first ∙ second

  over_still : (ys zs : List Stage) (a : Moment S) (seen : List PlainObservation) (e : End) → so_far a (stages_act h G ys) ≡ Over seen e → so_far a (stages_act h G (ys ++ zs)) ≡ Over seen e
  over_still ys zs a seen e over =
      ap (so_far a) (stages_append ys zs)
      ∙ so_far_then a (stages_act h G ys) (λ (u : Unit {0}). stages_act h G zs)
      ∙ ap (λ (o : Out (World S) (Unit {0})). then_do o (λ (u : Unit {0}). stages_act h G zs)) over

  spent_still : (ys zs : List Stage) (a : Moment S) (seen : List PlainObservation) → so_far a (stages_act h G ys) ≡ Spent seen → so_far a (stages_act h G (ys ++ zs)) ≡ Spent seen
  spent_still ys zs a seen over =
      ap (so_far a) (stages_append ys zs)
      ∙ so_far_then a (stages_act h G ys) (λ (u : Unit {0}). stages_act h G zs)
      ∙ ap (λ (o : Out (World S) (Unit {0})). then_do o (λ (u : Unit {0}). stages_act h G zs)) over

  -- what ended the run ends it, whatever would come after
  pub ends_still : (ys zs : List Stage) (a new : Moment S) (stop : Stop) → Ends h G (so_far a (stages_act h G ys)) new stop → Ends h G (so_far a (stages_act h G (ys ++ zs))) new stop
  ends_still ys zs a new stops.Trapped e = over_still ys zs a new.kept.seen Trapped e
  ends_still ys zs a new stops.ScriptEnded e = over_still ys zs a new.kept.seen ScriptEnded e
  ends_still ys zs a new stops.BadAnswer e = over_still ys zs a new.kept.seen BadAnswer e
  ends_still ys zs a new stops.TooDeep e = over_still ys zs a new.kept.seen TooDeep e
  ends_still ys zs a new stops.Spent e = spent_still ys zs a new.kept.seen e
  ends_still ys zs a new stops.NoMemory e = tt

  pub ends_after : (xs ys zs : List Stage) (a b new : Moment S) (stop : Stop) → AreDone h G xs a b → Ends h G (so_far b (stages_act h G ys)) new stop → Ends h G (so_far a (stages_act h G (xs ++ (ys ++ zs)))) new stop
  ends_after xs ys zs a b new stop done e = subst (λ o. Ends h G o new stop) (sym (goes_on_from xs (ys ++ zs) a b done)) (ends_still ys zs b new stop e)
