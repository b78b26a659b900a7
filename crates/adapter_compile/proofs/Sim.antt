-- What it is for code to do what a routine does, and how such runs are put together.
use Rattle.std.proofs.Common.{◌≡◌, ℕ, zero, suc, ◌+◌, ◌*◌, ◌<◌, ◌≤◌, List, [], ◌∷◌, ◌++◌, Some, None, Bool, length, refl, sym, ap, ◌∙◌, subst, arith, inl, inr, append-nil, append_assoc}
use Rattle.std.proofs.Math.Path.{fun_ext}
use Rattle.std.specs.Prelude.{◌⊎◌, map, slice_get}
use Rattle.core_store.specs.Tree.{Stop}
use Rattle.core_store.specs.Config.{Reply, Config, Trapped, Out, Break, Over as Stops, then_do}
use Rattle.core_store.specs.Eval.{block_end, exec, go}
use Rattle.handle_space.specs.HandleMap.{HandleMap}
use Rattle.adapter_code.specs.declared.state.Effect.{Effect}
use Rattle.adapter_code.specs.declared.state.CodeEnd.TheVariants.{Answer as Answers, Trap as Traps}
use Rattle.adapter_code.specs.Run.{State, Run, Next, Left, Over, local_width, then_run}
use Rattle.adapter_code.specs.WellFormed.{IsNamed}
use Rattle.adapter_compile.specs.Instructions.{Labels, label_of}
use Rattle.adapter_compile.specs.Handles.{Numbers, Refused, Follows}
use Rattle.adapter_compile.specs.Does.{Home, config_of, IsInRange}
use Rattle.adapter_compile.proofs.Chains.{follows_on, follows_map, refused_map}

-- the names of the `Repeat`s around
abbrev pub names_of : Labels → List ℕ
names_of [] = []
names_of (None ∷ ls) = names_of ls
names_of (Some name ∷ ls) = name ∷ names_of ls

-- what comes after a piece of code, and a run by its steps and replies
abbrev pub Onward : Type 0
Onward = ℕ → Config → Out

abbrev pub Runs : Type 0
Runs = ℕ → List Reply → Out

abbrev pub IsAt : Labels → Run → Type 0
IsAt ls (Next k s) = Unit {0}
IsAt ls (Left m k s) = IsNamed m (names_of ls)
IsAt ls (Over e k s) = Unit {0}

abbrev pub count_of : Run → ℕ
count_of (Next k s) = k
count_of (Left name k s) = k
count_of (Over e k s) = k

abbrev pub state_of : Run → State
state_of (Next k s) = s
state_of (Left name k s) = s
state_of (Over e k s) = s

-- the counters of the first d `Repeat`s are as they were
pub record Kept (d : ℕ) (before after : List ℕ) : Type 0 where
  pub long : length after ≡ length before
  pub same : (i : ℕ) → i < d → slice_get after i ≡ slice_get before i

pub kept_all : (d : ℕ) (cs : List ℕ) → Kept d cs cs
kept_all d cs = record { long = refl; same = λ i lt. refl }

pub kept_on : (d : ℕ) (a b c : List ℕ) → Kept d a b → Kept d b c → Kept d a c
kept_on d a b c p q = record { long = q.long ∙ p.long; same = λ i lt. q.same i lt ∙ p.same i lt }

-- that many steps more, by computation
abbrev pub up : ℕ → ℕ → ℕ
up zero n = n
up (suc p) n = suc (up p n)

up_add : (p n : ℕ) → p + n ≡ up p n
up_add zero n = omega arith
up_add (suc p) n = let e : suc p + n ≡ suc (p + n) = omega arith in e ∙ ap suc (up_add p n)

pub from_up : (X : Runs) (p n : ℕ) (rs : List Reply) (o : Out) → X (up p n) rs ≡ o → X (p + n) rs ≡ o
from_up X p n rs o e = ap (λ m. X m rs) (up_add p n) ∙ e

-- a block without operands
abbrev pub ends_block : Onward → Out → Out
ends_block q o = then_do (block_end 0 0 o) q

module _ (numbers : Numbers) (home : Home) where
  -- where a run is once it has asked for its effects; at an answer it goes after the block around the routine
  abbrev pub Arrives : Labels → Onward → Run → List ℕ → List Bool → ℕ → (List Reply → Out) → HandleMap ℕ → Type 0
  Arrives ls q (Next k s) cs ps n X h = (h ≡ s.table) × ((rs : List Reply) → X rs ≡ q n (config_of home s cs ps rs))
  Arrives ls q (Left m k s) cs ps n X h = (h ≡ s.table) × ((rs : List Reply) → X rs ≡ Break (label_of m ls) n (config_of home s cs ps rs))
  Arrives ls q (Over Answers k s) cs ps n X h = (h ≡ s.table) × ((rs : List Reply) → X rs ≡ Break (length ls) n (config_of home s cs ps rs))
  Arrives ls q (Over Traps k s) cs ps n X h = ((rs : List Reply) → X rs ≡ Stops Trapped) ⊎ Refused numbers Out Stops X h

  -- the run X from a state does what the routine's run does that ends with r, in few steps
  pub record Sim (d : ℕ) (ls : Labels) (q : Onward) (spare : ℕ) (X : Runs) (s : State) (k : ℕ) (cs : List ℕ) (r : Run) : Type 0 where
    pub steps : ℕ
    pub effects : List Effect
    pub counters : List ℕ
    pub pages : List Bool
    pub few : steps + 32 * k ≤ 32 * count_of r + spare
    pub has : (state_of r).effects ≡ s.effects ++ effects
    pub kept : Kept d cs counters
    pub wide : map local_width (state_of r).locals ≡ map local_width s.locals
    pub range : IsInRange (state_of r)
    pub named : IsAt ls r
    pub goes : (n : ℕ) → Follows numbers Out Stops (X (steps + n)) s.table effects (Arrives ls q r counters pages n)

  -- the same, after some steps
  pub sim_after : (d : ℕ) (ls : Labels) (q : Onward) (spare spare' : ℕ) (X Y : Runs) (s : State) (k k' : ℕ) (cs : List ℕ) (r : Run) (p : ℕ) →
      ((n : ℕ) (rs : List Reply) → X (up p n) rs ≡ Y n rs) → p + 32 * k' + spare ≤ 32 * k + spare' → Sim d ls q spare Y s k cs r → Sim d ls q spare' X s k' cs r
  sim_after d ls q spare spare' X Y s k k' cs r p same le a = record {
    steps = p + a.steps;
    effects = a.effects;
    counters = a.counters;
    pages = a.pages;
    few = omega (arith, a.few, le);
    has = a.has;
    kept = a.kept;
    wide = a.wide;
    range = a.range;
    named = a.named;
    goes = λ n.
        let assoc : p + a.steps + n ≡ p + (a.steps + n) = omega arith in
        let path : X (p + a.steps + n) ≡ Y (a.steps + n) = fun_ext (λ rs. ap (λ m. X m rs) assoc ∙ from_up X p (a.steps + n) rs _ (same (a.steps + n) rs)) in
        subst (λ (x : List Reply → Out). Follows numbers Out Stops x s.table a.effects (Arrives ls q r a.counters a.pages n)) (sym path) (a.goes n);
  }

  -- a statement that goes on, with no effect
  pub sim_next : (d : ℕ) (ls : Labels) (q : Onward) (X : Runs) (s : State) (k : ℕ) (cs : List ℕ) (s' : State) (ps : List Bool) (p : ℕ) → p ≤ 32 →
      ((n : ℕ) (rs : List Reply) → X (up p n) rs ≡ q n (config_of home s' cs ps rs)) → s'.effects ≡ s.effects → s.table ≡ s'.table → map local_width s'.locals ≡ map local_width s.locals → IsInRange s' →
      Sim d ls q 0 X s k cs (Next (suc k) s')
  sim_next d ls q X s k cs s' ps p le same effects table wide range = record {
    steps = p;
    effects = [];
    counters = cs;
    pages = ps;
    few = omega (arith, le);
    has = effects ∙ sym (append-nil s.effects);
    kept = kept_all d cs;
    wide = wide;
    range = range;
    named = tt;
    goes = λ n. (table, λ rs. from_up X p n rs _ (same n rs));
  }

  pub sim_trap : (d : ℕ) (ls : Labels) (q : Onward) (X : Runs) (s : State) (k : ℕ) (cs : List ℕ) (p : ℕ) → p ≤ 32 → ((n : ℕ) (rs : List Reply) → X (up p n) rs ≡ Stops Trapped) → IsInRange s →
      Sim d ls q 0 X s k cs (Over Traps (suc k) s)
  sim_trap d ls q X s k cs p le same range = record {
    steps = p;
    effects = [];
    counters = cs;
    pages = [];
    few = omega (arith, le);
    has = sym (append-nil s.effects);
    kept = kept_all d cs;
    wide = refl;
    range = range;
    named = tt;
    goes = λ n. inl (λ rs. from_up X p n rs _ (same n rs));
  }

  -- one after another
  pub sim_then : (d : ℕ) (ls : Labels) (q q' : Onward) (X : Runs) (s : State) (k : ℕ) (cs : List ℕ) (r : Run) (next : ℕ → State → Run) →
      Sim d ls q' 0 X s k cs r →
      ((k' : ℕ) (s' : State) (cs' : List ℕ) (ps' : List Bool) → Kept d cs cs' → map local_width s'.locals ≡ map local_width s.locals → IsInRange s' → Sim d ls q 0 (λ n rs. q' n (config_of home s' cs' ps' rs)) s' k' cs' (next k' s')) →
      Sim d ls q 0 X s k cs (then_run r next)
  sim_then d ls q q' X s k cs (Next k' s') next a b =
      let c = b k' s' a.counters a.pages a.kept a.wide a.range in record {
        steps = a.steps + c.steps;
        effects = a.effects ++ c.effects;
        counters = c.counters;
        pages = c.pages;
        few = omega (arith, a.few, c.few);
        has = c.has ∙ ap (λ es. es ++ c.effects) a.has ∙ append_assoc s.effects a.effects c.effects;
        kept = kept_on d cs a.counters c.counters a.kept c.kept;
        wide = c.wide ∙ a.wide;
        range = c.range;
        named = c.named;
        goes = λ n.
            let assoc : a.steps + (c.steps + n) ≡ a.steps + c.steps + n = omega arith in
            let before = subst (λ m. Follows numbers Out Stops (X m) s.table a.effects (Arrives ls q' (Next k' s') a.counters a.pages (c.steps + n))) assoc (a.goes (c.steps + n)) in
            follows_on numbers Out Stops (X (a.steps + c.steps + n)) s.table a.effects c.effects (Arrives ls q' (Next k' s') a.counters a.pages (c.steps + n)) (Arrives ls q (next k' s') c.counters c.pages n) before
            (λ Y h p.
            subst (λ (x : List Reply → Out). Follows numbers Out Stops x h c.effects (Arrives ls q (next k' s') c.counters c.pages n)) (sym (fun_ext p.1))
            (subst (λ (t : HandleMap ℕ). Follows numbers Out Stops (λ rs. q' (c.steps + n) (config_of home s' a.counters a.pages rs)) t c.effects (Arrives ls q (next k' s') c.counters c.pages n)) (sym p.0) (c.goes n)));
      }
  sim_then d ls q q' X s k cs (Left m k' s') next a b = record { steps = a.steps; effects = a.effects; counters = a.counters; pages = a.pages; few = a.few; has = a.has; kept = a.kept; wide = a.wide; range = a.range; named = a.named; goes = a.goes }
  sim_then d ls q q' X s k cs (Over Answers k' s') next a b = record { steps = a.steps; effects = a.effects; counters = a.counters; pages = a.pages; few = a.few; has = a.has; kept = a.kept; wide = a.wide; range = a.range; named = a.named; goes = a.goes }
  sim_then d ls q q' X s k cs (Over Traps k' s') next a b = record { steps = a.steps; effects = a.effects; counters = a.counters; pages = a.pages; few = a.few; has = a.has; kept = a.kept; wide = a.wide; range = a.range; named = a.named; goes = a.goes }

  -- in a block
  arrives_block : (ls : Labels) (q : Onward) (r : Run) (cs : List ℕ) (ps : List Bool) (n : ℕ) (Y : List Reply → Out) (h : HandleMap ℕ) →
      Arrives (None ∷ ls) (exec go Stop) r cs ps n Y h → Arrives ls q r cs ps n (λ rs. ends_block q (Y rs)) h
  arrives_block ls q (Next k s) cs ps n Y h p = (p.0, λ rs. ap (ends_block q) (p.1 rs))
  arrives_block ls q (Left m k s) cs ps n Y h p = (p.0, λ rs. ap (ends_block q) (p.1 rs))
  arrives_block ls q (Over Answers k s) cs ps n Y h p = (p.0, λ rs. ap (ends_block q) (p.1 rs))
  arrives_block ls q (Over Traps k s) cs ps n Y h (inl p) = inl (λ rs. ap (ends_block q) (p rs))
  arrives_block ls q (Over Traps k s) cs ps n Y h (inr p) = inr (refused_map numbers Out Out Stops Stops (ends_block q) Y h (λ o. refl) p)

  at_block : (ls : Labels) (r : Run) → IsAt (None ∷ ls) r → IsAt ls r
  at_block ls (Next k s) p = p
  at_block ls (Left m k s) p = p
  at_block ls (Over e k s) p = p

  pub sim_block : (d : ℕ) (ls : Labels) (q : Onward) (X : Runs) (s : State) (k : ℕ) (cs : List ℕ) (r : Run) →
      Sim d (None ∷ ls) (exec go Stop) 0 X s k cs r → Sim d ls q 0 (λ n rs. ends_block q (X n rs)) s k cs r
  sim_block d ls q X s k cs r a = record {
    steps = a.steps;
    effects = a.effects;
    counters = a.counters;
    pages = a.pages;
    few = a.few;
    has = a.has;
    kept = a.kept;
    wide = a.wide;
    range = a.range;
    named = at_block ls r a.named;
    goes = λ n. follows_map numbers Out Out Stops Stops (ends_block q) (X (a.steps + n)) s.table a.effects (Arrives (None ∷ ls) (exec go Stop) r a.counters a.pages n) (Arrives ls q r a.counters a.pages n) (λ o. refl) (a.goes n) (arrives_block ls q r a.counters a.pages n);
  }
