use Rattle.std.proofs.Common.{◌≡◌, ◌+◌, ◌-◌, ◌*◌, ◌<◌, [], ◌++◌, length, take, set, get_or, sym, ap, ◌∙◌, arith, length-set}
use Rattle.tree_table.specs.Paths.{parts_of, resolve_parts, follow_link, resolve}
use Rattle.tree_table.specs.Turns.{stacked}
use Rattle.tree_table.proofs.WalkLemmas.{rest_parts, cut, stacked-pop, stacked-wait, pay, pay_link, owed-link, too_many, rooted, followed, turned}
use Rattle.tree_table.proofs.walking.walk_parts.Goals as goal

pub returns-in-Stops-clause-fault : goal.returns-in-Stops-clause-fault
returns-in-Stops-clause-fault g c =
    let look = g.N.NameRead.look c.args.names.now (g.N.NameRead.tree c.args.names.now c.args.node) in
    let path = g.N.NameRead.path c.args.names.now in
    let longest = g.N.NameRead.longest c.args.names.now in
    let start = path c.args.node in
    let follow = c.args.follow in
    let inv = c.parts.invariant in
    let size = inv.size in
    let deep = inv.depth in
    let many = inv.links in
    let below = inv.leads.0 in
    let links = c.parts.links in
    let after = follow_link look start follow (40 - links) in
    let later = stacked (take c.parts.depth c.parts.waiting) in
    let rest = c.first_part.result.1 in
    let part = c.first_part.result.0.now in
    let tail = rest_parts rest ++ later in
    let answer = resolve look start c.args.path.now follow in
    let is = cut c.parts.text.now part rest later c.first_part.ensures.last c.first_part.ensures.more in
    let t = turned look start follow (40 - links) c.parts.text.now part rest c.parts.waiting c.parts.depth c.is_last-last.result below answer (omega arith) c.first_part.ensures.last c.first_part.ensures.more c.is_last-last.ensures.some c.is_last-last.ensures.none inv.leads.2 in
    sym t.1 ∙ c.in-Stops.ensures.meets below inv.leads.1 after tail t.0

pub returns-in-Stops-clause-probes : goal.returns-in-Stops-clause-probes
returns-in-Stops-clause-probes g c = λ digits few.
    let inv = c.parts.invariant in
    let later = stacked (take c.parts.depth c.parts.waiting) in
    let rest = c.first_part.result.1 in
    let is = cut c.parts.text.now c.first_part.result.0.now rest later c.first_part.ensures.last c.first_part.ensures.more in
    let paid = pay c.first_part.result.0.now _ _ ((40 - c.parts.links) * g.N.NameRead.longest c.args.names.now) digits c.parts.steps c.take_part.new.steps _ is (inv.probes digits few) (c.in-Stops.ensures.probes digits few) in
    omega arith

pub returns-in-Ends-clause-found : goal.returns-in-Ends-clause-found
returns-in-Ends-clause-found g c =
    let look = g.N.NameRead.look c.args.names.now (g.N.NameRead.tree c.args.names.now c.args.node) in
    let path = g.N.NameRead.path c.args.names.now in
    let longest = g.N.NameRead.longest c.args.names.now in
    let start = path c.args.node in
    let follow = c.args.follow in
    let inv = c.parts.invariant in
    let size = inv.size in
    let deep = inv.depth in
    let many = inv.links in
    let below = inv.leads.0 in
    let links = c.parts.links in
    let after = follow_link look start follow (40 - links) in
    let later = stacked (take c.parts.depth c.parts.waiting) in
    let rest = c.first_part.result.1 in
    let part = c.first_part.result.0.now in
    let tail = rest_parts rest ++ later in
    let answer = resolve look start c.args.path.now follow in
    let is = cut c.parts.text.now part rest later c.first_part.ensures.last c.first_part.ensures.more in
    let t = turned look start follow (40 - links) c.parts.text.now part rest c.parts.waiting c.parts.depth c.is_last-last.result below answer (omega arith) c.first_part.ensures.last c.first_part.ensures.more c.is_last-last.ensures.some c.is_last-last.ensures.none inv.leads.2 in
    let m = c.in-Ends.ensures.meets below inv.leads.1 in
    (m.0, m.1, sym t.1 ∙ m.2 after tail t.0)

pub returns-in-Ends-clause-probes : goal.returns-in-Ends-clause-probes
returns-in-Ends-clause-probes g c = λ digits few.
    let inv = c.parts.invariant in
    let later = stacked (take c.parts.depth c.parts.waiting) in
    let rest = c.first_part.result.1 in
    let is = cut c.parts.text.now c.first_part.result.0.now rest later c.first_part.ensures.last c.first_part.ensures.more in
    let paid = pay c.first_part.result.0.now _ _ ((40 - c.parts.links) * g.N.NameRead.longest c.args.names.now) digits c.parts.steps c.take_part.new.steps _ is (inv.probes digits few) (c.in-Ends.ensures.probes digits few) in
    omega arith

pub parts-preserved-in-Some : goal.parts-preserved-in-Some
parts-preserved-in-Some g c =
    let look = g.N.NameRead.look c.args.names.now (g.N.NameRead.tree c.args.names.now c.args.node) in
    let path = g.N.NameRead.path c.args.names.now in
    let longest = g.N.NameRead.longest c.args.names.now in
    let start = path c.args.node in
    let follow = c.args.follow in
    let inv = c.parts.invariant in
    let size = inv.size in
    let deep = inv.depth in
    let many = inv.links in
    let below = inv.leads.0 in
    let links = c.parts.links in
    let after = follow_link look start follow (40 - links) in
    let later = stacked (take c.parts.depth c.parts.waiting) in
    let rest = c.first_part.result.1 in
    let part = c.first_part.result.0.now in
    let tail = rest_parts rest ++ later in
    let answer = resolve look start c.args.path.now follow in
    let is = cut c.parts.text.now part rest later c.first_part.ensures.last c.first_part.ensures.more in
    let t = turned look start follow (40 - links) c.parts.text.now part rest c.parts.waiting c.parts.depth c.is_last-last.result below answer (omega arith) c.first_part.ensures.last c.first_part.ensures.more c.is_last-last.ensures.some c.is_last-last.ensures.none inv.leads.2 in
    let left = parts_of c.in-Some.rest.now ++ later in
    let left_is : left ≡ tail = ap (λ r. rest_parts r ++ later) (sym c.in-Some.is) in
    let m = c.in-Goes.ensures.meets below inv.leads.1 in
    record {
      size = size;
      inside = m.0;
      home = m.1;
      depth = omega arith;
      links = many;
      leads = (m.2.0, m.2.1, ap (λ xs. resolve_parts look start follow after m.2.0 xs) left_is ∙ sym (m.2.2 after tail t.0) ∙ t.1);
      probes = λ digits few.
          let paid = pay part _ tail ((40 - links) * longest) digits c.parts.steps c.take_part.new.steps _ is (inv.probes digits few) (c.in-Goes.ensures.probes digits few) in
          rw left_is paid;
    }

pub parts-smaller-in-None : goal.parts-smaller-in-None
parts-smaller-in-None g c =
    let look = g.N.NameRead.look c.args.names.now (g.N.NameRead.tree c.args.names.now c.args.node) in
    let path = g.N.NameRead.path c.args.names.now in
    let longest = g.N.NameRead.longest c.args.names.now in
    let start = path c.args.node in
    let follow = c.args.follow in
    let inv = c.parts.invariant in
    let size = inv.size in
    let deep = inv.depth in
    let many = inv.links in
    let below = inv.leads.0 in
    let links = c.parts.links in
    let after = follow_link look start follow (40 - links) in
    let later = stacked (take c.parts.depth c.parts.waiting) in
    let rest = c.first_part.result.1 in
    let part = c.first_part.result.0.now in
    let tail = rest_parts rest ++ later in
    let answer = resolve look start c.args.path.now follow in
    let is = cut c.parts.text.now part rest later c.first_part.ensures.last c.first_part.ensures.more in
    let t = turned look start follow (40 - links) c.parts.text.now part rest c.parts.waiting c.parts.depth c.is_last-last.result below answer (omega arith) c.first_part.ensures.last c.first_part.ensures.more c.is_last-last.ensures.some c.is_last-last.ensures.none inv.leads.2 in
    let left = parts_of (get_or c.parts.waiting (c.parts.depth - 1) (record { ref_ptr = (0, 0); now = [] })).now ++ stacked (take (c.parts.depth - 1) c.parts.waiting) in
    let some : 0 < c.parts.depth = omega (arith, c.if-depth-eq0.false) in
    let left_is : left ≡ tail = sym (stacked-pop c.parts.waiting c.parts.depth (record { ref_ptr = (0, 0); now = [] }) some (omega arith)) ∙ ap (λ r. rest_parts r ++ later) (sym c.in-None.is) in
    omega (arith, ap length left_is, ap length is)

pub parts-preserved-in-None : goal.parts-preserved-in-None
parts-preserved-in-None g c =
    let look = g.N.NameRead.look c.args.names.now (g.N.NameRead.tree c.args.names.now c.args.node) in
    let path = g.N.NameRead.path c.args.names.now in
    let longest = g.N.NameRead.longest c.args.names.now in
    let start = path c.args.node in
    let follow = c.args.follow in
    let inv = c.parts.invariant in
    let size = inv.size in
    let deep = inv.depth in
    let many = inv.links in
    let below = inv.leads.0 in
    let links = c.parts.links in
    let after = follow_link look start follow (40 - links) in
    let later = stacked (take c.parts.depth c.parts.waiting) in
    let rest = c.first_part.result.1 in
    let part = c.first_part.result.0.now in
    let tail = rest_parts rest ++ later in
    let answer = resolve look start c.args.path.now follow in
    let is = cut c.parts.text.now part rest later c.first_part.ensures.last c.first_part.ensures.more in
    let t = turned look start follow (40 - links) c.parts.text.now part rest c.parts.waiting c.parts.depth c.is_last-last.result below answer (omega arith) c.first_part.ensures.last c.first_part.ensures.more c.is_last-last.ensures.some c.is_last-last.ensures.none inv.leads.2 in
    let left = parts_of (get_or c.parts.waiting (c.parts.depth - 1) (record { ref_ptr = (0, 0); now = [] })).now ++ stacked (take (c.parts.depth - 1) c.parts.waiting) in
    let some : 0 < c.parts.depth = omega (arith, c.if-depth-eq0.false) in
    let left_is : left ≡ tail = sym (stacked-pop c.parts.waiting c.parts.depth (record { ref_ptr = (0, 0); now = [] }) some (omega arith)) ∙ ap (λ r. rest_parts r ++ later) (sym c.in-None.is) in
    let m = c.in-Goes.ensures.meets below inv.leads.1 in
    record {
      size = size;
      inside = m.0;
      home = m.1;
      depth = omega arith;
      links = many;
      leads = (m.2.0, m.2.1, ap (λ xs. resolve_parts look start follow after m.2.0 xs) left_is ∙ sym (m.2.2 after tail t.0) ∙ t.1);
      probes = λ digits few.
          let paid = pay part _ tail ((40 - links) * longest) digits c.parts.steps c.take_part.new.steps _ is (inv.probes digits few) (c.in-Goes.ensures.probes digits few) in
          rw left_is paid;
    }

pub returns-then-links-eq-MOST_LINKS-clause-fault : goal.returns-then-links-eq-MOST_LINKS-clause-fault
returns-then-links-eq-MOST_LINKS-clause-fault g c =
    let look = g.N.NameRead.look c.args.names.now (g.N.NameRead.tree c.args.names.now c.args.node) in
    let path = g.N.NameRead.path c.args.names.now in
    let longest = g.N.NameRead.longest c.args.names.now in
    let start = path c.args.node in
    let follow = c.args.follow in
    let inv = c.parts.invariant in
    let size = inv.size in
    let deep = inv.depth in
    let many = inv.links in
    let below = inv.leads.0 in
    let links = c.parts.links in
    let after = follow_link look start follow (40 - links) in
    let later = stacked (take c.parts.depth c.parts.waiting) in
    let rest = c.first_part.result.1 in
    let part = c.first_part.result.0.now in
    let tail = rest_parts rest ++ later in
    let answer = resolve look start c.args.path.now follow in
    let is = cut c.parts.text.now part rest later c.first_part.ensures.last c.first_part.ensures.more in
    let t = turned look start follow (40 - links) c.parts.text.now part rest c.parts.waiting c.parts.depth c.is_last-last.result below answer (omega arith) c.first_part.ensures.last c.first_part.ensures.more c.is_last-last.ensures.some c.is_last-last.ensures.none inv.leads.2 in
    let m = c.in-Follows.ensures.meets below inv.leads.1 in
    sym t.1 ∙ m.1 after tail t.0 ∙ too_many look start follow links below c.in-Follows.target.now tail c.if-links-eq-MOST_LINKS.true

pub returns-then-links-eq-MOST_LINKS-clause-probes : goal.returns-then-links-eq-MOST_LINKS-clause-probes
returns-then-links-eq-MOST_LINKS-clause-probes g c = λ digits few.
    let inv = c.parts.invariant in
    let later = stacked (take c.parts.depth c.parts.waiting) in
    let rest = c.first_part.result.1 in
    let is = cut c.parts.text.now c.first_part.result.0.now rest later c.first_part.ensures.last c.first_part.ensures.more in
    let paid = pay c.first_part.result.0.now _ _ ((40 - c.parts.links) * g.N.NameRead.longest c.args.names.now) digits c.parts.steps c.take_part.new.steps _ is (inv.probes digits few) (c.in-Follows.ensures.probes digits few) in
    omega arith

pub returns-then-begins_at_root-clause-fault : goal.returns-then-begins_at_root-clause-fault
returns-then-begins_at_root-clause-fault g c =
    let look = g.N.NameRead.look c.args.names.now (g.N.NameRead.tree c.args.names.now c.args.node) in
    let path = g.N.NameRead.path c.args.names.now in
    let longest = g.N.NameRead.longest c.args.names.now in
    let start = path c.args.node in
    let follow = c.args.follow in
    let inv = c.parts.invariant in
    let size = inv.size in
    let deep = inv.depth in
    let many = inv.links in
    let below = inv.leads.0 in
    let links = c.parts.links in
    let after = follow_link look start follow (40 - links) in
    let later = stacked (take c.parts.depth c.parts.waiting) in
    let rest = c.first_part.result.1 in
    let part = c.first_part.result.0.now in
    let tail = rest_parts rest ++ later in
    let answer = resolve look start c.args.path.now follow in
    let is = cut c.parts.text.now part rest later c.first_part.ensures.last c.first_part.ensures.more in
    let t = turned look start follow (40 - links) c.parts.text.now part rest c.parts.waiting c.parts.depth c.is_last-last.result below answer (omega arith) c.first_part.ensures.last c.first_part.ensures.more c.is_last-last.ensures.some c.is_last-last.ensures.none inv.leads.2 in
    let m = c.in-Follows.ensures.meets below inv.leads.1 in
    sym t.1 ∙ m.1 after tail t.0 ∙ rooted look start follow links below c.in-Follows.target.now tail (omega (arith, c.if-links-eq-MOST_LINKS.false)) (sym c.begins_at_root.ensures ∙ c.if-begins_at_root.true)

pub returns-then-begins_at_root-clause-probes : goal.returns-then-begins_at_root-clause-probes
returns-then-begins_at_root-clause-probes g c = λ digits few.
    let inv = c.parts.invariant in
    let later = stacked (take c.parts.depth c.parts.waiting) in
    let rest = c.first_part.result.1 in
    let is = cut c.parts.text.now c.first_part.result.0.now rest later c.first_part.ensures.last c.first_part.ensures.more in
    let paid = pay c.first_part.result.0.now _ _ ((40 - c.parts.links) * g.N.NameRead.longest c.args.names.now) digits c.parts.steps c.take_part.new.steps _ is (inv.probes digits few) (c.in-Follows.ensures.probes digits few) in
    omega arith

pub parts-smaller-in-Some-rest : goal.parts-smaller-in-Some-rest
parts-smaller-in-Some-rest g c =
    let look = g.N.NameRead.look c.args.names.now (g.N.NameRead.tree c.args.names.now c.args.node) in
    let path = g.N.NameRead.path c.args.names.now in
    let longest = g.N.NameRead.longest c.args.names.now in
    let start = path c.args.node in
    let follow = c.args.follow in
    let inv = c.parts.invariant in
    let size = inv.size in
    let deep = inv.depth in
    let many = inv.links in
    let below = inv.leads.0 in
    let links = c.parts.links in
    let after = follow_link look start follow (40 - links) in
    let later = stacked (take c.parts.depth c.parts.waiting) in
    let rest = c.first_part.result.1 in
    let part = c.first_part.result.0.now in
    let tail = rest_parts rest ++ later in
    let answer = resolve look start c.args.path.now follow in
    let is = cut c.parts.text.now part rest later c.first_part.ensures.last c.first_part.ensures.more in
    let t = turned look start follow (40 - links) c.parts.text.now part rest c.parts.waiting c.parts.depth c.is_last-last.result below answer (omega arith) c.first_part.ensures.last c.first_part.ensures.more c.is_last-last.ensures.some c.is_last-last.ensures.none inv.leads.2 in
    let few : links < 40 = omega (arith, c.if-links-eq-MOST_LINKS.false) in
    let left = parts_of c.in-Follows.target.now ++ stacked (take (c.parts.depth + 1) (set c.parts.waiting c.parts.depth c.in-Some-rest.rest)) in
    let left_is : left ≡ parts_of c.in-Follows.target.now ++ tail =
    ap (λ xs. parts_of c.in-Follows.target.now ++ xs) (stacked-wait c.parts.waiting c.parts.depth c.in-Some-rest.rest (omega arith) ∙ ap (λ r. rest_parts r ++ later) (sym c.in-Some-rest.is)) in
    let m = c.in-Follows.ensures.meets below inv.leads.1 in
    omega (arith, ap length left_is, ap length is, owed-link (parts_of c.in-Follows.target.now) tail links longest few m.0)

pub parts-preserved-in-Some-rest : goal.parts-preserved-in-Some-rest
parts-preserved-in-Some-rest g c =
    let look = g.N.NameRead.look c.args.names.now (g.N.NameRead.tree c.args.names.now c.args.node) in
    let path = g.N.NameRead.path c.args.names.now in
    let longest = g.N.NameRead.longest c.args.names.now in
    let start = path c.args.node in
    let follow = c.args.follow in
    let inv = c.parts.invariant in
    let size = inv.size in
    let deep = inv.depth in
    let many = inv.links in
    let below = inv.leads.0 in
    let links = c.parts.links in
    let after = follow_link look start follow (40 - links) in
    let later = stacked (take c.parts.depth c.parts.waiting) in
    let rest = c.first_part.result.1 in
    let part = c.first_part.result.0.now in
    let tail = rest_parts rest ++ later in
    let answer = resolve look start c.args.path.now follow in
    let is = cut c.parts.text.now part rest later c.first_part.ensures.last c.first_part.ensures.more in
    let t = turned look start follow (40 - links) c.parts.text.now part rest c.parts.waiting c.parts.depth c.is_last-last.result below answer (omega arith) c.first_part.ensures.last c.first_part.ensures.more c.is_last-last.ensures.some c.is_last-last.ensures.none inv.leads.2 in
    let few : links < 40 = omega (arith, c.if-links-eq-MOST_LINKS.false) in
    let left = parts_of c.in-Follows.target.now ++ stacked (take (c.parts.depth + 1) (set c.parts.waiting c.parts.depth c.in-Some-rest.rest)) in
    let left_is : left ≡ parts_of c.in-Follows.target.now ++ tail =
    ap (λ xs. parts_of c.in-Follows.target.now ++ xs) (stacked-wait c.parts.waiting c.parts.depth c.in-Some-rest.rest (omega arith) ∙ ap (λ r. rest_parts r ++ later) (sym c.in-Some-rest.is)) in
    let m = c.in-Follows.ensures.meets below inv.leads.1 in
    record {
      size = length-set c.parts.waiting c.parts.depth c.in-Some-rest.rest ∙ size;
      inside = inv.inside;
      home = inv.home;
      depth = omega arith;
      links = omega arith;
      leads = (
        below,
        inv.leads.1,
        ap (λ xs. resolve_parts look start follow (follow_link look start follow (40 - (links + 1))) below xs) left_is
            ∙ sym (followed look start follow links below c.in-Follows.target.now tail few (sym c.begins_at_root.ensures ∙ c.if-begins_at_root.false)) ∙ sym (m.1 after tail t.0) ∙ t.1,
      );
      probes = λ digits fits.
          pay_link tail left (parts_of c.in-Follows.target.now) links longest digits c.take_part.new.steps _ left_is few m.0
          (pay part _ tail ((40 - links) * longest) digits c.parts.steps c.take_part.new.steps _ is (inv.probes digits fits) (c.in-Follows.ensures.probes digits fits));
    }

pub parts-smaller : goal.parts-smaller
parts-smaller g c =
    let look = g.N.NameRead.look c.args.names.now (g.N.NameRead.tree c.args.names.now c.args.node) in
    let path = g.N.NameRead.path c.args.names.now in
    let longest = g.N.NameRead.longest c.args.names.now in
    let start = path c.args.node in
    let follow = c.args.follow in
    let inv = c.parts.invariant in
    let size = inv.size in
    let deep = inv.depth in
    let many = inv.links in
    let below = inv.leads.0 in
    let links = c.parts.links in
    let after = follow_link look start follow (40 - links) in
    let later = stacked (take c.parts.depth c.parts.waiting) in
    let rest = c.first_part.result.1 in
    let part = c.first_part.result.0.now in
    let tail = rest_parts rest ++ later in
    let answer = resolve look start c.args.path.now follow in
    let is = cut c.parts.text.now part rest later c.first_part.ensures.last c.first_part.ensures.more in
    let t = turned look start follow (40 - links) c.parts.text.now part rest c.parts.waiting c.parts.depth c.is_last-last.result below answer (omega arith) c.first_part.ensures.last c.first_part.ensures.more c.is_last-last.ensures.some c.is_last-last.ensures.none inv.leads.2 in
    let few : links < 40 = omega (arith, c.if-links-eq-MOST_LINKS.false) in
    let left = parts_of c.in-Follows.target.now ++ later in
    let left_is : left ≡ parts_of c.in-Follows.target.now ++ tail =
    ap (λ r. parts_of c.in-Follows.target.now ++ (rest_parts r ++ later)) (sym c.in-None-rest.is) in
    let m = c.in-Follows.ensures.meets below inv.leads.1 in
    omega (arith, ap length left_is, ap length is, owed-link (parts_of c.in-Follows.target.now) tail links longest few m.0)

pub parts-preserved : goal.parts-preserved
parts-preserved g c =
    let look = g.N.NameRead.look c.args.names.now (g.N.NameRead.tree c.args.names.now c.args.node) in
    let path = g.N.NameRead.path c.args.names.now in
    let longest = g.N.NameRead.longest c.args.names.now in
    let start = path c.args.node in
    let follow = c.args.follow in
    let inv = c.parts.invariant in
    let size = inv.size in
    let deep = inv.depth in
    let many = inv.links in
    let below = inv.leads.0 in
    let links = c.parts.links in
    let after = follow_link look start follow (40 - links) in
    let later = stacked (take c.parts.depth c.parts.waiting) in
    let rest = c.first_part.result.1 in
    let part = c.first_part.result.0.now in
    let tail = rest_parts rest ++ later in
    let answer = resolve look start c.args.path.now follow in
    let is = cut c.parts.text.now part rest later c.first_part.ensures.last c.first_part.ensures.more in
    let t = turned look start follow (40 - links) c.parts.text.now part rest c.parts.waiting c.parts.depth c.is_last-last.result below answer (omega arith) c.first_part.ensures.last c.first_part.ensures.more c.is_last-last.ensures.some c.is_last-last.ensures.none inv.leads.2 in
    let few : links < 40 = omega (arith, c.if-links-eq-MOST_LINKS.false) in
    let left = parts_of c.in-Follows.target.now ++ later in
    let left_is : left ≡ parts_of c.in-Follows.target.now ++ tail =
    ap (λ r. parts_of c.in-Follows.target.now ++ (rest_parts r ++ later)) (sym c.in-None-rest.is) in
    let m = c.in-Follows.ensures.meets below inv.leads.1 in
    record {
      size = size;
      inside = inv.inside;
      home = inv.home;
      depth = omega arith;
      links = omega arith;
      leads = (
        below,
        inv.leads.1,
        ap (λ xs. resolve_parts look start follow (follow_link look start follow (40 - (links + 1))) below xs) left_is
            ∙ sym (followed look start follow links below c.in-Follows.target.now tail few (sym c.begins_at_root.ensures ∙ c.if-begins_at_root.false)) ∙ sym (m.1 after tail t.0) ∙ t.1,
      );
      probes = λ digits fits.
          pay_link tail left (parts_of c.in-Follows.target.now) links longest digits c.take_part.new.steps _ left_is few m.0
          (pay part _ tail ((40 - links) * longest) digits c.parts.steps c.take_part.new.steps _ is (inv.probes digits fits) (c.in-Follows.ensures.probes digits fits));
    }
