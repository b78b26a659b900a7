-- The test says which addresses are allowed.
use Rattle.std.proofs.Common.{◌≡◌, ◌≤◌, ℕ, refl, sym, ◌∙◌, ap, Bool, true, List, arith}
use Rattle.std.specs.Prelude.{Any, nat_le, IsTrue, ◌↔◌}
use Rattle.std.proofs.lemmas.List.Folds.{Any-from_list_any, list_any-from_Any}
use Rattle.policy_data.specs.declared.data.PortRange.{PortRange}
use Rattle.policy_data.specs.declared.data.Rule.{Rule}
use Rattle.policy_data.specs.Addresses.{Address, IsInNetwork, HoldsPort, IsAllowed}
use Rattle.net_policy.specs.Allowed.{same_bit, is_in_network, holds_port, allows_one, is_allowed}
use Rattle.net_policy.proofs.FrontLemmas.{and-left, and-right, same_bit-equal, same_bit-refl, taken_alike, alike_taken}

pub le-true : (m n : ℕ) → nat_le m n ≡ true → m ≤ n
le-true m n e = grind (arith, e)

pub true-le : (m n : ℕ) → m ≤ n → nat_le m n ≡ true
true-le m n e = grind (arith, e)

pub holds : (port : ℕ) (range : PortRange) → holds_port port range ≡ true → HoldsPort port range
holds port range e =
    (le-true _ _ (and-left (nat_le range.from port) (nat_le port range.to) e), le-true _ _ (and-right (nat_le range.from port) (nat_le port range.to) e))

pub held : (port : ℕ) (range : PortRange) → HoldsPort port range → holds_port port range ≡ true
held port range h = rw (true-le _ _ h.0, true-le _ _ h.1) refl

pub inside : (rule : Rule) (a : Address) → is_in_network rule a ≡ true → IsInNetwork rule a
inside rule a e =
    let same = same_bit-equal rule.six a.six (and-left (same_bit rule.six a.six) _ e) in
    (same, taken_alike rule.length _ _ (and-right (same_bit rule.six a.six) _ e))

pub outside : (rule : Rule) (a : Address) → IsInNetwork rule a → is_in_network rule a ≡ true
outside rule a h = rw (ap (λ b. same_bit b a.six) h.0 ∙ same_bit-refl a.six) (alike_taken rule.length _ _ h.1)

-- a fact of some item, by way of another
pub Any-map : {A : Type 0} (P Q : A → Type 0) → ((x : A) → P x → Q x) → (xs : List A) → Any P xs → Any Q xs
Any-map P Q f xs h = (h.0, h.1, h.2, h.3, f h.1 h.4)

pub one_allows : (a : Address) (rule : Rule) → allows_one a rule ≡ true → IsInNetwork rule a × Any (HoldsPort a.port) rule.ports
one_allows a rule e =
    (inside rule a (and-left (is_in_network rule a) _ e), Any-map _ _ (λ r. holds a.port r) rule.ports (Any-from_list_any _ rule.ports (and-right (is_in_network rule a) _ e)))

pub allows_by : (a : Address) (rule : Rule) → IsInNetwork rule a × Any (HoldsPort a.port) rule.ports → allows_one a rule ≡ true
allows_by a rule h =
    rw (outside rule a h.0) (list_any-from_Any _ rule.ports (Any-map _ _ (λ r. held a.port r) rule.ports h.1))

pub rule_by_allowed : (rules : List Rule) (a : Address) → is_allowed rules a ≡ true → IsAllowed rules a
rule_by_allowed rules a e = Any-map _ _ (λ r. one_allows a r) rules (Any-from_list_any _ rules e)

pub allowed_by_rule : (rules : List Rule) (a : Address) → IsAllowed rules a → is_allowed rules a ≡ true
allowed_by_rule rules a h = list_any-from_Any _ rules (Any-map _ _ (λ r. allows_by a r) rules h)

pub says : (rules : List Rule) (a : Address) (b : Bool) → b ≡ is_allowed rules a → IsTrue b ↔ IsAllowed rules a
says rules a b e = (λ t. rule_by_allowed rules a (sym e ∙ t), λ h. e ∙ allowed_by_rule rules a h)
