use Rattle.net_policy.proofs.network.+same_bits.Given as goal

abbrev pub decreases-same_bits : goal.decreases-same_bits
decreases-same_bits l = l.width
