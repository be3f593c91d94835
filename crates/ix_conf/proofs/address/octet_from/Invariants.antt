use Rattle.std.proofs.Common.{◌≡◌, drop}
use Rattle.ix_conf.specs.Address.{octet_from}
use Rattle.ix_conf.proofs.address.octet_from.Given as goal

abbrev pub invariant-loop-digit : goal.invariant-loop-digit
invariant-loop-digit l = octet_from l.octet (drop l.digit-index l.digits) ≡ octet_from l.value l.digits
