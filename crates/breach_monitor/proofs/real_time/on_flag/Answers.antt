use Rattle.std.proofs.Common.{rules}
use Rattle.port_map.specs.declared.com_port.ComPort.TheVariants.{Com2}
use Rattle.breach_monitor.proofs.Kept.{flag_left_pair, flag_left_sampled}
use Rattle.breach_monitor.proofs.real_time.on_flag.Goals as goal

pub returns-in-Next-clause-unit : goal.returns-in-Next-clause-unit
returns-in-Next-clause-unit c = record {
  answer = search rules;
  registers = search rules;
  state = search rules;
  unchanged = search rules;
  place = search rules;
  size = search rules;
  sampled = flag_left_sampled Com2 _ _ _ _ _ c.privileged.ensures.effect;
  pair = flag_left_pair Com2 _ _ _ _ _ c.privileged.ensures.effect;
}
