-- Functions 18 and 22 are those of a line's request and of its mark, by computation.
use Rattle.std.proofs.Common.{◌≡◌, refl}
use Rattle.gate_table.specs.Names.{gate_of}
use Rattle.gate_table.specs.declared.names.GateName.TheVariants.{RequestIrq, PendIrq}

request_is_18 : gate_of 18 ≡ RequestIrq
unfolding gate_of
request_is_18 = refl

pend_is_22 : gate_of 22 ≡ PendIrq
unfolding gate_of
pend_is_22 = refl
