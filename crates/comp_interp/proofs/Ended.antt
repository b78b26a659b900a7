-- A plan is done: the component is held, or all is made.
use Rattle.std.proofs.Common.{◌≡◌, sym, subst, List, [], ◌∷◌, ◌++◌, Option, Some, None, Result, Ok, Err, slice_get}
use Rattle.host_port.specs.Hosts.{HostStep}
use Rattle.comp_link.specs.declared.linked.Linked.{Linked}
use Rattle.comp_link.specs.Groups.{linked_group}
use Rattle.call_moments.specs.declared.end.Stop.{Stop}
use Rattle.call_moments.specs.Leads.{Moment, Ends}
use Rattle.instance_making.specs.declared.named.Named.{Named}
use Rattle.instance_making.specs.declared.given.Given.{Given}
use Rattle.comp_interp.specs.declared.level.Level.{Level}
use Rattle.comp_interp.specs.Parts.{part_items}
use Rattle.comp_interp.specs.Gathered.{IsHeld, IsHeldIfAny}
use Rattle.comp_interp.specs.Between.{Stood}
use Rattle.comp_interp.specs.Going.{IsAllMade, whole_run, GoesOn}
use Rattle.comp_interp.proofs.Going.{stood_by}
use Rattle.comp_interp.proofs.Holding.{held_between}
use Rattle.comp_interp.proofs.Ready.{whole_ready}

module _ {S : Type 0} (h : HostStep S) (linked : Linked) (first : Moment S) (listed : List (Named Given)) (hs : List Level) (l : Level) (m : Moment S) (s : Stood h linked first listed hs l m) (ended : slice_get (part_items linked l.part) l.at ≡ None) where
  pub level_ends : (o : Option (Named Given)) (listed' : List (Named Given)) (levels' : List Level) → IsHeld linked listed hs l o listed' levels' → GoesOn h linked first listed' levels' (Ok o) m
  level_ends (Some exports) listed' levels' is =
      subst (λ xs. IsAllMade h linked first xs exports m) (sym is.2) (subst (λ e. IsAllMade h linked first listed e m) (sym is.1) (whole_ready h linked first listed l m (subst (λ xs. Stood h linked first listed xs l m) is.0 s) ended))
  level_ends None listed' levels' is =
      let s' : Stood h linked first listed (is.0 ++ is.1 ∷ []) l m = subst (λ xs. Stood h linked first listed xs l m) is.3 s in
      record {
        outer = is.0;
        inner = record is.1 { making = is.2 };
        are = is.4;
        stood = stood_by h linked first listed (is.0 ++ is.1 ∷ []) l m s' listed' is.0 (record is.1 { making = is.2 }) m s'.between.g.whole (held_between linked listed listed' is.0 is.1 l m s'.between is.2 ended is.5) s'.done;
      }

  pub level_comes : (result : Result (Option (Named Given)) Stop) (listed' : List (Named Given)) (levels' : List Level) (new : Moment S) → new ≡ m → IsHeldIfAny linked listed hs l result listed' levels' → GoesOn h linked first listed' levels' result new
  level_comes (Ok o) listed' levels' new same is = subst (λ x. GoesOn h linked first listed' levels' (Ok o) x) (sym same) (level_ends o listed' levels' is)
  level_comes (Err stop) listed' levels' new same is = subst (λ s. Ends h (linked_group linked) (whole_run h linked first) new s) (sym is) tt
