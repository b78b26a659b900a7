-- Steps of the walk over a section of types, one after another.
use Rattle.std.proofs.Common.{◌≡◌, ◌∙◌, refl, sym, subst, ap, ℕ, zero, suc, List, [], ◌∷◌, Option, Some, None}
use Rattle.std.specs.Prelude.{IsTrue, Result, Ok, Err, IfOk}
use Rattle.wasm_ast.specs.declared.component.TypeItem.{TypeItem}
use Rattle.comp_types.specs.Declarations.{Declaration, Declarations, AnInstanceType, Done, Then, first_of, behind}
use Rattle.comp_types.specs.Spaces.{Space}
use Rattle.comp_types.specs.Definitions.{AType}
use Rattle.comp_types.specs.Added.{opened, instance_type, after_declaration}
use Rattle.comp_types.specs.Rules.{is_within_limits}
use Rattle.comp_defining.specs.declared.scopes.Scopes.{Scopes}
use Rattle.comp_defining.specs.Around.{StandAll}
use Rattle.comp_defining.specs.Judged.{JudgedIn}
use Rattle.comp_validate.specs.Closing.{closed, ClosesIn}
use Rattle.comp_validate.specs.Stack.{IsReady, one_less}
use Rattle.comp_validate.specs.Rest.{in_front, alone, item_count, Rest, Leads, Step}
use Rattle.comp_validate.proofs.RestLemmas.{rest_valid, rest_broken, rest_opened, rest_closed, rest_deep, end_closed, end_deep, front_alone, front_open}

-- nothing is done yet
pub leads_here : (counts : List ℕ) (around : List Space) (s : Space) (ds : Declarations) (x : Scopes) → StandAll around s x → Leads (Rest counts around s ds) counts ds x
leads_here counts around s ds x h = record { around = around; inner = s; stand = h; rest = λ y answer k. k }

-- ---- a declaration

pub step_alone : (counts : List ℕ) (around : List Space) (s : Space) (i : TypeItem) (ds : Declarations) (x : Scopes) (rule : Option ℕ) → IsReady counts → item_count i ≡ None → JudgedIn around s (AType (alone i)) x rule
    → Step (Rest counts around s (in_front i ds)) (one_less counts) ds x rule
step_alone counts around s i ds x None ready e h = record {
  around = around;
  inner = after_declaration around s (alone i);
  stand = h.1;
  rest = λ y answer k. subst (λ all. Rest counts around s all y answer) (sym (front_alone i ds e)) (rest_valid counts around s (alone i) ds y answer ready h.0 k);
}
step_alone counts around s i ds x (Some rule) ready e h = λ y. subst (λ all. Rest counts around s all y (Some rule)) (sym (front_alone i ds e)) (rest_broken counts around s (alone i) ds y rule ready h)

pub step_open : (n : ℕ) (counts : List ℕ) (around : List Space) (s : Space) (i : TypeItem) (ds : Declarations) (x : Scopes) → IsReady counts → item_count i ≡ Some n → StandAll (s ∷ around) (opened s) x
    → Leads (Rest counts around s (in_front i ds)) (n ∷ one_less counts) ds x
step_open n counts around s i ds x ready e h = record {
  around = s ∷ around;
  inner = opened s;
  stand = h;
  rest = λ y answer k. subst (λ all. Rest counts around s all y answer) (sym (front_open i n ds e)) (rest_opened n counts around s ds y answer ready k);
}

-- ---- the end of an instance type

-- what closing says of the scopes before and after it
pub record HasClosed (x y : Scopes) (rule : Option ℕ) : Type 0 where
  pub inner : (around : List Space) → (t s : Space) → StandAll (t ∷ around) s x → ClosesIn around t s y rule
  pub alone : (s : Space) → StandAll [] s x → (rule ≡ None) × StandAll [] s y

close_in : (whole : Scopes → Option ℕ → Type 0) (counts : List ℕ) (ds : Declarations) (y : Scopes) (rule : Option ℕ) (around : List Space) (t s : Space)
    → ((z : Scopes) (answer : Option ℕ) → Rest (zero ∷ counts) (t ∷ around) s ds z answer → whole z answer) → ClosesIn around t s y rule → Step whole counts ds y rule
close_in whole counts ds y None around t s rest h = record { around = around; inner = closed t s; stand = h.1; rest = λ z answer k. rest z answer (rest_closed counts around t s ds z answer h.0 k) }
close_in whole counts ds y (Some rule) around t s rest h = λ z. rest z (Some rule) (rest_deep counts around t s ds z rule h.0 h.1)

close_alone : (whole : Scopes → Option ℕ → Type 0) (counts : List ℕ) (ds : Declarations) (y : Scopes) (rule : Option ℕ) (s : Space)
    → ((z : Scopes) (answer : Option ℕ) → Unit {0} → whole z answer) → rule ≡ None → StandAll [] s y → Step whole counts ds y rule
close_alone whole counts ds y None s rest e h = record { around = []; inner = s; stand = h; rest = λ z answer k. rest z answer tt }
close_alone whole counts ds y (Some rule) s rest e h = (let never : Some rule ≡ None = e in absurd (cc))

closes : (whole : Scopes → Option ℕ → Type 0) (counts : List ℕ) (ds : Declarations) (x y : Scopes) (rule : Option ℕ) (around : List Space) (s : Space) → StandAll around s x
    → ((z : Scopes) (answer : Option ℕ) → Rest (zero ∷ counts) around s ds z answer → whole z answer) → HasClosed x y rule → Step whole counts ds y rule
closes whole counts ds x y rule [] s h rest k = close_alone whole counts ds y rule s rest (k.alone s h).0 (k.alone s h).1
closes whole counts ds x y rule (t ∷ around) s h rest k = close_in whole counts ds y rule around t s rest (k.inner around t s h)

pub step_close : (whole : Scopes → Option ℕ → Type 0) (counts : List ℕ) (ds : Declarations) (x y : Scopes) (rule : Option ℕ) → Leads whole (zero ∷ counts) ds x → HasClosed x y rule → Step whole counts ds y rule
step_close whole counts ds x y rule l k = closes whole counts ds x y rule l.around l.inner l.stand l.rest k

end_in : (whole : Scopes → Option ℕ → Type 0) (n : ℕ) (counts : List ℕ) (y : Scopes) (rule : Option ℕ) (around : List Space) (t s : Space)
    → ((z : Scopes) (answer : Option ℕ) → Rest (n ∷ counts) (t ∷ around) s Done z answer → whole z answer) → ClosesIn around t s y rule → Step whole counts Done y rule
end_in whole n counts y None around t s rest h = record { around = around; inner = closed t s; stand = h.1; rest = λ z answer k. rest z answer (end_closed n counts around t s z answer h.0 k) }
end_in whole n counts y (Some rule) around t s rest h = λ z. rest z (Some rule) (end_deep n counts around t s z rule h.0 h.1)

ends : (whole : Scopes → Option ℕ → Type 0) (n : ℕ) (counts : List ℕ) (x y : Scopes) (rule : Option ℕ) (around : List Space) (s : Space) → StandAll around s x
    → ((z : Scopes) (answer : Option ℕ) → Rest (n ∷ counts) around s Done z answer → whole z answer) → HasClosed x y rule → Step whole counts Done y rule
ends whole n counts x y rule [] s h rest k = close_alone whole counts Done y rule s rest (k.alone s h).0 (k.alone s h).1
ends whole n counts x y rule (t ∷ around) s h rest k = end_in whole n counts y rule around t s rest (k.inner around t s h)

pub step_end : (whole : Scopes → Option ℕ → Type 0) (n : ℕ) (counts : List ℕ) (x y : Scopes) (rule : Option ℕ) → Leads whole (n ∷ counts) Done x → HasClosed x y rule → Step whole counts Done y rule
step_end whole n counts x y rule l k = ends whole n counts x y rule l.around l.inner l.stand l.rest k

-- ---- one step after another

join_leads : (whole : Scopes → Option ℕ → Type 0) (counts new : List ℕ) (ds all : Declarations) (x y : Scopes) (l : Leads whole counts all x) → Leads (Rest counts l.around l.inner all) new ds y → Leads whole new ds y
join_leads whole counts new ds all x y l k = record { around = k.around; inner = k.inner; stand = k.stand; rest = λ z answer h. l.rest z answer (k.rest z answer h) }

pub joined : (whole : Scopes → Option ℕ → Type 0) (counts new : List ℕ) (ds all : Declarations) (x y : Scopes) (rule : Option ℕ) → Leads whole counts all x
    → ((around : List Space) (s : Space) → StandAll around s x → Step (Rest counts around s all) new ds y rule) → Step whole new ds y rule
joined whole counts new ds all x y None l step = join_leads whole counts new ds all x y l (step l.around l.inner l.stand)
joined whole counts new ds all x y (Some rule) l step = λ z. l.rest z (Some rule) (step l.around l.inner l.stand z)

-- the end of the section
pub finished : (whole : Scopes → Option ℕ → Type 0) (x : Scopes) (rule : Option ℕ) → Step whole [] Done x rule → whole x rule
finished whole x None l = l.rest x None (tt, l.stand)
finished whole x (Some rule) k = k x

pub ready_some : (n : ℕ) (counts : List ℕ) → (n ≡ 0 → ⊥) → IsReady (n ∷ counts)
ready_some zero counts ne = absurd (ne refl)
ready_some (suc n) counts ne = tt
