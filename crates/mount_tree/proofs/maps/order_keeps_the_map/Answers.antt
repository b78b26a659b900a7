use Rattle.mount_tree.proofs.MapLaws.{same_map}
use Rattle.mount_tree.proofs.maps.order_keeps_the_map.Goals as goal

pub returns : goal.returns
returns c = λ made tree sound ordered path. same_map made.nodes tree.entries sound ordered.same path
