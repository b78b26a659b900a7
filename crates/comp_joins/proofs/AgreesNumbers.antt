-- No two resources get one number, and those that are defined one after the other stay so.
use Rattle.std.proofs.Common.{◌≡◌, ◌⊎◌, inl, inr, ℕ, ◌+◌, ◌-◌, ◌≤◌, ◌<◌, nat_lt, cond, List, Bool, true, false, Option, Some, None, refl, sym, ◌∙◌, ap, subst, arith}
use Rattle.std.proofs.lemmas.Bool.{ltb-true, ltb-false, lt-ltb}
use Rattle.comp_types.specs.Substitution.{partner_of}
use Rattle.comp_grammar.specs.Trees.{Tree}
use Rattle.comp_link.specs.Plans.{plan_of}
use Rattle.comp_inside.specs.Linked.{unmade}
use Rattle.comp_inside.proofs.Whole.{valid_stay}
use Rattle.comp_joins.proofs.Order.{plan_new, known_in_order}
use Rattle.comp_joins.proofs.Known.{names_known}
use Rattle.comp_joins.specs.Joining.{first_own, behind_own}
use Rattle.comp_joins.specs.Numbers.{partner_or, numbered, ArePartners, from, to, ValidAgree}

module _ (pairs : List (ℕ × ℕ)) (own behind start : ℕ) (le : own ≤ behind) where
  abbrev at : ℕ → ℕ
  at r = numbered pairs own behind start r

  abbrev far : ℕ → ℕ
  far r = start + behind + 1 + r

  -- of its own, or of an import, or of nothing
  abbrev Stands : ℕ → ℕ → Type 0
  Stands r n = ((own ≤ r) × (r ≤ behind) × (n + own ≡ start + r)) ⊎ (((g : ℕ) × (partner_of pairs r ≡ Some g) × (n ≡ g)) ⊎ (n ≡ far r))

  stands : (r : ℕ) → Stands r (at r)
  stands r = go (nat_lt r own) refl (nat_lt r (behind + 1)) refl (partner_of pairs r) refl
    where
      go : (b : Bool) → nat_lt r own ≡ b → (c : Bool) → nat_lt r (behind + 1) ≡ c → (o : Option ℕ) → partner_of pairs r ≡ o → Stands r (cond b (partner_or o (far r)) (cond c (start + (r - own)) (far r)))
      go true e c e' None is = inr (inr refl)
      go true e c e' (Some g) is = inr (inl (g, is, refl))
      go false e true e' o is = let lo : own ≤ r = ltb-false r own e in (let hi : r < behind + 1 = ltb-true r (behind + 1) e' in inl (lo, omega (arith, hi), omega (arith, lo)))
      go false e false e' o is = inr (inr refl)

  -- its own follow one another
  pub near : (r : ℕ) → own ≤ r → r ≤ behind → at r + own ≡ start + r
  near r lo hi = go (nat_lt r own) refl (nat_lt r (behind + 1)) refl
    where
      go : (b : Bool) → nat_lt r own ≡ b → (c : Bool) → nat_lt r (behind + 1) ≡ c → cond b (partner_or (partner_of pairs r) (far r)) (cond c (start + (r - own)) (far r)) + own ≡ start + r
      go true e c e' = absurd (let less : r < own = ltb-true r own e in omega (arith, less, lo))
      go false e true e' = omega (arith, lo)
      go false e false e' = absurd (let more : behind + 1 ≤ r = ltb-false r (behind + 1) e' in omega (arith, more, hi))

  pub begins : at own ≡ start
  begins = let e : at own + own ≡ start + own = near own (omega arith) le in omega (arith, e)

  pub next_one : (r : ℕ) → own ≤ r → r < behind → at (r + 1) ≡ at r + 1
  next_one r lo hi =
      let e : at r + own ≡ start + r = near r lo (omega (arith, hi)) in
      let e' : at (r + 1) + own ≡ start + (r + 1) = near (r + 1) (omega (arith, lo)) (omega (arith, hi)) in
      omega (arith, e, e')

  pub last : at behind + own ≡ start + behind
  last = near behind le (omega arith)

  -- from its own on, nothing stands in front of them
  pub not_before : (r : ℕ) → own ≤ r → ArePartners pairs own start → start ≤ at r
  not_before r lo h = go (stands r)
    where
      go : Stands r (at r) → start ≤ at r
      go (inl x) = let e : at r + own ≡ start + r = x.2 in omega (arith, e, lo)
      go (inr (inl x)) = absurd (let less : r < own = h.imported r x.0 x.1 in omega (arith, less, lo))
      go (inr (inr e)) = omega (arith, e)

  pub paired : (r g : ℕ) → partner_of pairs r ≡ Some g → ArePartners pairs own start → at r ≡ g
  paired r g is h = ap (λ b. cond b (partner_or (partner_of pairs r) (far r)) (cond (nat_lt r (behind + 1)) (start + (r - own)) (far r))) (lt-ltb r own (h.imported r g is)) ∙ ap (λ o. partner_or o (far r)) is

  pub once : ArePartners pairs own start → (r s : ℕ) → at r ≡ at s → r ≡ s
  once h r s same = go (stands r) (subst (Stands s) (sym same) (stands s))
    where
      go : Stands r (at r) → Stands s (at r) → r ≡ s
      go (inl x) (inl y) = let a : at r + own ≡ start + r = x.2 in (let b : at r + own ≡ start + s = y.2 in omega (arith, a, b))
      go (inl x) (inr (inl y)) = absurd (let a : at r + own ≡ start + r = x.2 in (let b : at r ≡ y.0 = y.2 in (let c : y.0 < start = h.before s y.0 y.1 in (let d : own ≤ r = x.0 in omega (arith, a, b, c, d)))))
      go (inl x) (inr (inr e)) = absurd (let a : at r + own ≡ start + r = x.2 in (let b : r ≤ behind = x.1 in omega (arith, a, b, e)))
      go (inr (inl x)) (inl y) = absurd (let a : at r + own ≡ start + s = y.2 in (let b : at r ≡ x.0 = x.2 in (let c : x.0 < start = h.before r x.0 x.1 in (let d : own ≤ s = y.0 in omega (arith, a, b, c, d)))))
      go (inr (inl x)) (inr (inl y)) = h.once r s x.0 x.1 (y.1 ∙ ap Some (sym y.2 ∙ x.2))
      go (inr (inl x)) (inr (inr e)) = absurd (let b : at r ≡ x.0 = x.2 in (let c : x.0 < start = h.before r x.0 x.1 in omega (arith, b, c, e)))
      go (inr (inr e)) (inl y) = absurd (let a : at r + own ≡ start + s = y.2 in (let b : s ≤ behind = y.1 in omega (arith, a, b, e)))
      go (inr (inr e)) (inr (inl y)) = absurd (let b : at r ≡ y.0 = y.2 in (let c : y.0 < start = h.before s y.0 y.1 in omega (arith, b, c, e)))
      go (inr (inr e)) (inr (inr e')) = omega (arith, e, e')

own_first : (tree : Tree) → first_own tree ≤ behind_own tree
own_first tree = plan_new (plan_of tree) (unmade tree)

-- what the first imports and what it defines stands in front of its last
module _ (pairs : List (ℕ × ℕ)) (tree : Tree) (start : ℕ) (h : ArePartners pairs (first_own tree) start) where
  abbrev number : ℕ → ℕ
  number = numbered pairs (first_own tree) (behind_own tree) start

  at_end : number (behind_own tree) + first_own tree ≡ start + behind_own tree
  at_end = last pairs (first_own tree) (behind_own tree) start (own_first tree)

  own_before : (r : ℕ) → first_own tree ≤ r → r < behind_own tree → number r < number (behind_own tree)
  own_before r lo hi =
      let e : number r + first_own tree ≡ start + r = near pairs (first_own tree) (behind_own tree) start (own_first tree) r lo (omega (arith, hi)) in
      let e' : number (behind_own tree) + first_own tree ≡ start + behind_own tree = at_end in
      omega (arith, e, e', hi)

  known_before : (r g : ℕ) → partner_of pairs r ≡ Some g → number r < number (behind_own tree)
  known_before r g is =
      let e : number r ≡ g = paired pairs (first_own tree) (behind_own tree) start (own_first tree) r g is h in
      let less : g < start = h.before r g is in
      let le : first_own tree ≤ behind_own tree = own_first tree in
      let e' : number (behind_own tree) + first_own tree ≡ start + behind_own tree = at_end in
      omega (arith, e, less, le, e')

pub valid_agree : ValidAgree
valid_agree whole first second firsts seconds valid defines valid' defines' p =
    let f : ℕ → ℕ = from whole first second firsts seconds in
    let g : ℕ → ℕ = to whole first second firsts seconds in
    record {
      first_stays = valid_stay first valid;
      second_stays = valid_stay second valid';
      first_knows = known_in_order f (plan_of first) (unmade first) (names_known first valid defines) (next_one firsts (first_own first) (behind_own first) (first_own whole) (own_first first));
      second_knows = known_in_order g (plan_of second) (unmade second) (names_known second valid' defines') (next_one seconds (first_own second) (behind_own second) (f (behind_own first)) (own_first second));
      first_once = once firsts (first_own first) (behind_own first) (first_own whole) (own_first first) p.before_first;
      second_once = once seconds (first_own second) (behind_own second) (f (behind_own first)) (own_first second) p.before_second;
      first_begins = begins firsts (first_own first) (behind_own first) (first_own whole) (own_first first);
      known_before = λ r known. let x = p.known r known in known_before firsts first (first_own whole) p.before_first r x.0 x.1;
      own_before = own_before firsts first (first_own whole) p.before_first;
      second_begins = begins seconds (first_own second) (behind_own second) (f (behind_own first)) (own_first second);
      behind = λ r lo. not_before seconds (first_own second) (behind_own second) (f (behind_own first)) (own_first second) r lo p.before_second;
      types = p.types;
      resources = p.resources;
    }
