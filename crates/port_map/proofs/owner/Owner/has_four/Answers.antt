use Rattle.std.proofs.Common.{◌∙◌, arith}
use Rattle.port_map.specs.Owner.{is_mine}
use Rattle.port_map.proofs.Ports.{four_ports}
use Rattle.port_map.proofs.owner.Owner.has_four.Goals as goal

pub returns : goal.returns
returns c = c.are_all.ensures ∙ four_ports (is_mine c.args.self) c.args.port _ _ _ _ (omega arith) c.has-first.ensures c.has-second.ensures c.has-third.ensures c.has-fourth.ensures
