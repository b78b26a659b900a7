use Rattle.virt_base.proofs.leb_write.+push_signed.Given as goal

abbrev pub decreases-push_signed : goal.decreases-push_signed
decreases-push_signed l = l.more
