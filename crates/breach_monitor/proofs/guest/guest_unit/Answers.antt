use Rattle.std.proofs.Common.{rules}
use Rattle.port_map.specs.declared.com_port.ComPort.TheVariants.{Com1}
use Rattle.breach_monitor.proofs.Kept.{unit_left_pair, unit_left_sampled}
use Rattle.breach_monitor.proofs.guest.guest_unit.Goals as goal

pub returns-in-Next-clause-unit : goal.returns-in-Next-clause-unit
returns-in-Next-clause-unit c = record {
  answer = search rules;
  registers = search rules;
  state = search rules;
  unchanged = search rules;
  place = search rules;
  size = search rules;
  sampled = unit_left_sampled Com1 _ _ _ c.step.ensures.effect;
  pair = unit_left_pair Com1 _ _ _ c.step.ensures.effect;
}

pub returns-in-Trap-clause-unit : goal.returns-in-Trap-clause-unit
returns-in-Trap-clause-unit c = search rules
