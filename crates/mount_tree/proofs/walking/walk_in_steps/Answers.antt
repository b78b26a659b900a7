use Rattle.std.proofs.Common.{◌≡◌, ℕ, Result, Ok, Err, IfOk, IfErr, ◌<◌}
use Rattle.tree_table.specs.Paths.{Answer, At, Fails, resolve}
use Rattle.tree_table.specs.Tables.{Forest, count_of, map_of, path_of, tree_of}
use Rattle.mount_tree.specs.Steps.{IsWalked}
use Rattle.mount_tree.proofs.Stepping as laws
use Rattle.mount_tree.proofs.walking.walk_in_steps.Goals as goal

walked : (f : Forest) (start : ℕ) (answer : Answer) (r : Result ℕ ℕ) → IfOk r (λ at. (at < count_of f) × (tree_of f at ≡ tree_of f start) × (answer ≡ At (path_of f at))) → IfErr r (λ code. answer ≡ Fails code) → IsWalked f start answer r
walked f start answer (Ok at) found fault = found
walked f start answer (Err code) found fault = fault

pub returns : goal.returns
returns g c = λ digits n many few.
    laws.walks_by_steps c.args.table.now c.requires.sound digits c.args.node c.args.follow c.requires.node many c.args.path.now n c.walk.result few
    (walked c.args.table.now c.args.node _ c.walk.result c.walk.ensures.found c.walk.ensures.fault)
