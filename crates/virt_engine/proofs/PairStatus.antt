-- Of each call of `plug` one status is due.
use Rattle.std.proofs.Common.{◌≡◌, ◌≢◌, ◌∙◌, sym, ap, subst, ℕ, List, inl, inr, Ok, Err}
use Rattle.std.specs.Prelude.{Some}
use Rattle.outside.specs.Files.{Held}
use Rattle.policy_data.specs.declared.policy.Policy.{Policy}
use Rattle.virt_base.specs.declared.fault.AppFault.{AppFault}
use Rattle.comp_grammar.specs.Trees.{Tree}
use Rattle.component_judge.specs.Components.{IsRefusalBy, IsNeverAtFault, IsSound}
use Rattle.component_judge.specs.declared.limits.Purpose.TheVariants.{Virt}
use Rattle.component_judge.specs.declared.refusal.Refusal.{Refusal}
use Rattle.component_judge.specs.declared.refusal.Refusal.TheVariants as refusals
use Rattle.component_judge.proofs.Refusals.{IsOne, one}
use Rattle.component_judge.proofs.Verdicts.{stands}
use Rattle.virt_engine.specs.declared.status.PlugFault.{PlugFault}
use Rattle.virt_engine.specs.declared.status.Status.{Status}
use Rattle.virt_engine.specs.declared.status.Status.TheVariants.{Done, PlugRefused}
use Rattle.virt_engine.specs.Command.{PlugCommand}
use Rattle.virt_engine.specs.PolicyTrees.{with_trees}
use Rattle.virt_engine.specs.Pairs.{Read, IsRead, IsTooLarge, Pair, Joins, Refuses, pair_verdict, IsPartVerdict, IsPartFile, AreRefused, IsPairVerdict, ArePair}
use Rattle.virt_engine.specs.Plugging.{IsPlugDueUnder, IsPlugDue, IsPlugAccepted}
use Rattle.virt_engine.proofs.PolicyLaws.{policy_stands, one_policy}
use Rattle.virt_engine.proofs.RunDue.{AreOnes, one_file, file_stands}

-- ---- what bytes are read as is one

never_is_one : IsOne IsNeverAtFault
never_is_one = record { one = λ ty a b h g. absurd h }

one_refusal : (bytes : List ℕ) (a b : Refusal) → a ≢ refusals.NoMemory → b ≢ refusals.NoMemory → IsRefusalBy Virt IsNeverAtFault bytes a → IsRefusalBy Virt IsNeverAtFault bytes b → a ≡ b
one_refusal bytes a b x y h g = one Virt IsNeverAtFault bytes never_is_one a b x y h g

-- a sound component is not refused
sound_stands : (bytes : List ℕ) (tree : Tree) (e : Refusal) → IsSound Virt bytes tree → e ≢ refusals.NoMemory → IsRefusalBy Virt IsNeverAtFault bytes e → ⊥
sound_stands bytes tree e sound some h = stands Virt IsNeverAtFault bytes tree sound (λ fault at. at) e some h

fault_is_some : (fault : AppFault) → refusals.Refused fault ≢ refusals.NoMemory
fault_is_some fault e = cc

same_fault : (a b : AppFault) → refusals.Refused a ≡ refusals.Refused b → a ≡ b
same_fault a b e = cc

one_read : (bytes : List ℕ) (a b : Read) → IsRead bytes a → IsRead bytes b → a ≡ b
one_read bytes (Ok t) (Ok u) h g = ap (λ (x : Tree). Ok x) (g.small.spelled.1 t h.small.spelled.0.0)
one_read bytes (Ok t) (Err fault) h g = absurd (sound_stands bytes t (refusals.Refused fault) h (fault_is_some fault) g)
one_read bytes (Err fault) (Ok u) h g = absurd (sound_stands bytes u (refusals.Refused fault) g (fault_is_some fault) h)
one_read bytes (Err fault) (Err other) h g =
    ap (λ (x : AppFault). Err x) (same_fault fault other (one_refusal bytes (refusals.Refused fault) (refusals.Refused other) (fault_is_some fault) (fault_is_some other) h g))

-- ---- what is too large

large_refusal : (bytes : List ℕ) (e : Refusal) → IsTooLarge bytes e → IsRefusalBy Virt IsNeverAtFault bytes e
large_refusal bytes (refusals.OverLimit what value) h = h
large_refusal bytes (refusals.Refused fault) h = absurd h
large_refusal bytes (refusals.BadScript path) h = absurd h
large_refusal bytes refusals.NoMemory h = absurd h

are_ones : AreOnes IsTooLarge
are_ones = record { one = λ bytes a b x y h g. one_refusal bytes a b x y (large_refusal bytes a h) (large_refusal bytes b g) }

not_large : (bytes : List ℕ) (fault : AppFault) (e : Refusal) → refusals.Refused fault ≡ e → IsTooLarge bytes e → ⊥
not_large bytes fault e is h = subst (λ (x : Refusal). IsTooLarge bytes x) (sym is) h

-- what is read is not too large
read_stands : (bytes : List ℕ) (read : Read) (e : Refusal) → IsRead bytes read → e ≢ refusals.NoMemory → IsTooLarge bytes e → ⊥
read_stands bytes (Ok tree) e h some large = sound_stands bytes tree e h some (large_refusal bytes e large)
read_stands bytes (Err fault) e h some large = not_large bytes fault e (one_refusal bytes (refusals.Refused fault) e (fault_is_some fault) some h (large_refusal bytes e large)) large

part_stands : (held : Held) (name : List ℕ) (read : Read) (status : Status) → IsPartFile held name read → IsPartVerdict held name status → ⊥
part_stands held name read status f h = file_stands IsTooLarge (held.file name) name f.bytes status f.there (λ refusal some large. read_stands f.bytes read refusal f.is_read some large) h

same_some : (a b : List ℕ) → Some a ≡ Some b → a ≡ b
same_some a b e = cc

one_part_file : (held : Held) (name : List ℕ) (a b : Read) → IsPartFile held name a → IsPartFile held name b → a ≡ b
one_part_file held name a b f g =
    let same : f.bytes ≡ g.bytes = same_some f.bytes g.bytes (sym f.there ∙ g.there) in
    one_read g.bytes a b (subst (λ (x : List ℕ). IsRead x a) same f.is_read) g.is_read

-- ---- two files

same_refused : (a b : PlugFault) → Refuses a ≡ Refuses b → a ≡ b
same_refused a b e = cc

joins_not_refuses : (pair : Pair) (fault : PlugFault) → Joins pair ≡ Refuses fault → ⊥
joins_not_refuses pair fault e = cc

module _ (held : Held) (first second : List ℕ) where
  verdicts : (a b c d : Read) → IsPartFile held first a → IsPartFile held second b → IsPartFile held first c → IsPartFile held second d → pair_verdict a b ≡ pair_verdict c d
  verdicts a b c d fa fb fc fd = λ i. pair_verdict (one_part_file held first a c fa fc i) (one_part_file held second b d fb fd i)

  one_refused : (x y : Status) → AreRefused held first second x → AreRefused held first second y → x ≡ y
  one_refused x y h g =
      let same = sym h.refuses ∙ verdicts h.a h.b g.a g.b h.first_file h.second_file g.first_file g.second_file ∙ g.refuses in
      h.told ∙ ap (λ (fault : PlugFault). PlugRefused fault) (same_refused h.fault g.fault same) ∙ sym g.told

  pub one_pair : (x y : Status) → IsPairVerdict held first second x → IsPairVerdict held first second y → x ≡ y
  one_pair x y (inl h) (inl g) = one_file IsTooLarge are_ones (held.file first) first x y h g
  one_pair x y (inl h) (inr (inl g)) = absurd (part_stands held first g.0 x g.1 h)
  one_pair x y (inl h) (inr (inr g)) = absurd (part_stands held first g.a x g.first_file h)
  one_pair x y (inr (inl h)) (inl g) = absurd (part_stands held first h.0 y h.1 g)
  one_pair x y (inr (inl h)) (inr (inl g)) = one_file IsTooLarge are_ones (held.file second) second x y h.2 g.2
  one_pair x y (inr (inl h)) (inr (inr g)) = absurd (part_stands held second g.b x g.second_file h.2)
  one_pair x y (inr (inr h)) (inl g) = absurd (part_stands held first h.a y h.first_file g)
  one_pair x y (inr (inr h)) (inr (inl g)) = absurd (part_stands held second h.b y h.second_file g.2)
  one_pair x y (inr (inr h)) (inr (inr g)) = one_refused x y h g

  abbrev first_of_pair : (p : ArePair held first second) → IsPartFile held first (Ok p.pair.first)
  first_of_pair p = record { bytes = p.a; there = p.first_there; is_read = p.is_pair.first }

  abbrev second_of_pair : (p : ArePair held first second) → IsPartFile held second (Ok p.pair.second)
  second_of_pair p = record { bytes = p.b; there = p.second_there; is_read = p.is_pair.second }

  -- two components that can be made one are not refused
  pub pair_stands : (status : Status) → ArePair held first second → IsPairVerdict held first second status → ⊥
  pair_stands status p (inl h) = part_stands held first (Ok p.pair.first) status (first_of_pair p) h
  pair_stands status p (inr (inl h)) = part_stands held second (Ok p.pair.second) status (second_of_pair p) h.2
  pair_stands status p (inr (inr h)) =
      joins_not_refuses p.pair h.fault
      (sym p.is_pair.joins ∙ verdicts (Ok p.pair.first) (Ok p.pair.second) h.a h.b (first_of_pair p) (second_of_pair p) h.first_file h.second_file ∙ h.refuses)

-- ---- all together

under : (held : Held) (c : PlugCommand) (policy : Policy) (a b : Status) → IsPlugDueUnder held c policy a → IsPlugDueUnder held c policy b → a ≡ b
under held c policy a b (inl h) (inl g) = one_pair held c.first c.second a b h g
under held c policy a b (inl h) (inr g) = absurd (pair_stands held c.first c.second a g.0 h)
under held c policy a b (inr h) (inl g) = absurd (pair_stands held c.first c.second b h.0 g)
under held c policy a b (inr h) (inr g) = sym h.1 ∙ g.1

pub one_plug_status : (held : Held) (c : PlugCommand) (a b : Status) → IsPlugDue held c a → IsPlugDue held c b → a ≡ b
one_plug_status held c a b (inl h) (inl g) = sym (h (λ p. Done)) ∙ g (λ p. Done)
one_plug_status held c a b (inl h) (inr g) = absurd (policy_stands held c.policy g.0 a g.1 h)
one_plug_status held c a b (inr h) (inl g) = absurd (policy_stands held c.policy h.0 b h.1 g)
one_plug_status held c a b (inr h) (inr g) =
    let same = one_policy held c.policy g.0 h.0 g.1 h.1 in
    under held c h.0 a b h.2 (subst (λ (p : Policy). IsPlugDueUnder held c p b) same g.2)

-- what is accepted is due
pub accepted_is_due : (held : Held) (c : PlugCommand) → IsPlugAccepted held c → IsPlugDue held c Done
accepted_is_due held c a = inr (a.policy, a.policy_file, inr (a.components, ap (λ (r : _). with_trees r Done) a.trees))
