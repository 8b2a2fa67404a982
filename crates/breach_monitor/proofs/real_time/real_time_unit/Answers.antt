use Rattle.std.proofs.Common.{rules}
use Rattle.port_map.specs.declared.com_port.ComPort.TheVariants.{Com2}
use Rattle.breach_monitor.specs.RealTimeUnit.{real_time_outcome}
use Rattle.breach_monitor.proofs.Kept.{unit_left_pair, unit_left_sampled}
use Rattle.breach_monitor.proofs.real_time.real_time_unit.Goals as goal

pub returns-in-Next-clause-unit : goal.returns-in-Next-clause-unit
unfolding real_time_outcome
returns-in-Next-clause-unit c = record {
  answer = search rules;
  registers = search rules;
  state = search rules;
  unchanged = search rules;
  place = search rules;
  size = search rules;
  sampled = unit_left_sampled Com2 _ _ _ c.step.ensures.effect;
  pair = unit_left_pair Com2 _ _ _ c.step.ensures.effect;
}
