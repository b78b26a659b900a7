use Rattle.std.proofs.Common.{◌≡◌, ℕ, ◌+◌, ◌-◌, ◌*◌, ◌^◌, ◌<◌, ◌≤◌, List, ◌++◌, length, take}
use Rattle.tree_table.specs.Paths.{parts_of, resolve_parts, follow_link, resolve}
use Rattle.tree_table.specs.Turns.{stacked}
use Rattle.tree_table.proofs.walking.walk_parts.Given as goal

abbrev pub invariant-parts : goal.invariant-parts
invariant-parts g l =
    let look = g.N.NameRead.look l.names (g.N.NameRead.tree l.names l.node) in
    let path = g.N.NameRead.path l.names in
    let left = parts_of l.text ++ stacked (take l.depth l.waiting) in
    record {
      size : length l.waiting ≡ 40;
      inside : l.current < g.N.NameRead.nodes l.names;
      home : g.N.NameRead.tree l.names l.current ≡ g.N.NameRead.tree l.names l.node;
      depth : l.depth ≤ l.links;
      links : l.links ≤ 40;
      leads : (below : List (List ℕ)) × (path l.current ≡ below ++ path l.node)
          × (resolve_parts look (path l.node) l.follow (follow_link look (path l.node) l.follow (40 - l.links)) below left ≡ resolve look (path l.node) l.path l.follow);
      probes : (digits : ℕ) → g.N.NameRead.nodes l.names < 2 ^ digits → l.steps + (length left + (40 - l.links) * g.N.NameRead.longest l.names) * digits ≤ l.fn.steps + (length (parts_of l.path) + 40 * g.N.NameRead.longest l.names) * digits;
    }

abbrev pub decreases-parts : goal.decreases-parts
decreases-parts g l = length (parts_of l.text ++ stacked (take l.depth l.waiting)) + (40 - l.links) * g.N.NameRead.longest l.names
