-- What is told of an act, by how it came out.
use Rattle.std.proofs.Common.{◌≡◌, refl, sym, ap, ℕ, List, ◌++◌, append_assoc, Option}
use Rattle.wit_types.specs.PlainValue.{PlainValue}
use Rattle.host_port.specs.Calls.{PlainObservation, Spent as IsSpent, plain_option}
use Rattle.comp_worlds.specs.Acts.{End, Trapped, ScriptEnded, BadAnswer, TooDeep, end_item, Out, Next, Over, Spent, seen_before}
use Rattle.comp_worlds.specs.Groups.{World}
use Rattle.call_moments.specs.declared.end.RunEnd.{RunEnd}
use Rattle.call_moments.specs.declared.end.RunEnd.TheVariants as calls
use Rattle.call_moments.specs.Configs.{world_of}
use Rattle.call_moments.specs.Leads.{Moment}
use Rattle.comp_interp.specs.Outcomes.{ComesTo}
use Rattle.virt_engine.specs.Lines.{seen_by}
use Rattle.virt_engine.specs.Told.{Item, Told, end_of, untyped, last, before, told_after}

module _ {S A : Type 0} (of : A → List Item) (conv : Option PlainValue → A) (k : List PlainObservation) where
  -- what is told, where it came out so and left this
  abbrev pub told_by : RunEnd → List PlainObservation → Moment S → (World S → ℕ → Told) → Told
  told_by (calls.Returned value) o m next = before (untyped o ++ of (conv (plain_option value))) (next (world_of m.instances m.kept.state) m.budget)
  told_by calls.Trapped o m next = last o (seen_by calls.Trapped) calls.Trapped
  told_by calls.ScriptEnded o m next = last o (seen_by calls.ScriptEnded) calls.ScriptEnded
  told_by calls.BadAnswer o m next = last o (seen_by calls.BadAnswer) calls.BadAnswer
  told_by calls.Spent o m next = last o (seen_by calls.Spent) calls.Spent
  told_by calls.TooDeep o m next = last o (seen_by calls.TooDeep) calls.TooDeep

  -- after what was seen before, this was seen meanwhile
  pub record Tells (x : Out (World S) A) (seen : List PlainObservation) (by : List PlainObservation → (World S → ℕ → Told) → Told) : Type 0 where
    pub o : List PlainObservation
    pub seen_so : seen ≡ k ++ o
    pub tells : (next : World S → ℕ → Told) → told_after of x next ≡ by o next

  it_goes_on : (x : Out (World S) A) (seen : List PlainObservation) (l : ℕ) (w : World S) (a : A) → seen_before k x ≡ Next seen l w a → Tells x seen (λ o next. before (untyped o ++ of a) (next w l))
  it_goes_on (Next o l' w' a') seen l w a e =
      let left : l' ≡ l = cc in
      let world : w' ≡ w = cc in
      let answer : a' ≡ a = cc in
      record { o = o; seen_so = cc; tells = λ next i. before (untyped o ++ of (answer i)) (next (world i) (left i)) }
  it_goes_on (Over o e') seen l w a e = absurd cc
  it_goes_on (Spent o) seen l w a e = absurd cc

  it_is_over : (x : Out (World S) A) (seen : List PlainObservation) (end : End) → seen_before k x ≡ Over seen end → Tells x seen (λ o next. last o (end_item end) (end_of end))
  it_is_over (Next o l w a) seen end e = absurd cc
  it_is_over (Over o end') seen end e = let same : end' ≡ end = cc in record { o = o; seen_so = cc; tells = λ next i. last o (end_item (same i)) (end_of (same i)) }
  it_is_over (Spent o) seen end e = absurd cc

  it_is_spent : (x : Out (World S) A) (seen : List PlainObservation) → seen_before k x ≡ Spent seen → Tells x seen (λ o next. last o IsSpent calls.Spent)
  it_is_spent (Next o l w a) seen e = absurd cc
  it_is_spent (Over o end) seen e = absurd cc
  it_is_spent (Spent o) seen e = record { o = o; seen_so = cc; tells = λ next. refl }

  pub it_tells : (x : Out (World S) A) (end : RunEnd) (m : Moment S) → ComesTo conv (seen_before k x) end m → Tells x m.kept.seen (λ o next. told_by end o m next)
  it_tells x (calls.Returned value) m e = it_goes_on x m.kept.seen m.budget (world_of m.instances m.kept.state) (conv (plain_option value)) e
  it_tells x calls.Trapped m e = it_is_over x m.kept.seen Trapped e
  it_tells x calls.ScriptEnded m e = it_is_over x m.kept.seen ScriptEnded e
  it_tells x calls.BadAnswer m e = it_is_over x m.kept.seen BadAnswer e
  it_tells x calls.Spent m e = it_is_spent x m.kept.seen e
  it_tells x calls.TooDeep m e = it_is_over x m.kept.seen TooDeep e

-- ---- after what was told before

pub told_before : (a b : List Item) (t : Told) → before a (before b t) ≡ before (a ++ b) t
told_before a b t = ap (λ (items : List Item). record { items = items; end = t.end }) (sym (append_assoc a b t.items))
