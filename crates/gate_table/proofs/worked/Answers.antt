use Rattle.std.proofs.Common.{refl}
use Rattle.cpu_state.specs.Registers.{starting}
use Rattle.line_sets.specs.LineSet.{with_line, without_line}
use Rattle.rt_irqs.specs.Irqs.{free_soft_line}
use Rattle.memory_model.specs.Side.{first_outside}
use Rattle.rt_fifos.specs.Fifos.{put_reply, get_reply, without_handler}
use Rattle.gate_table.specs.Names.{gate_of}
use Rattle.gate_table.specs.Worked.{some_parts, full_parts}
use Rattle.gate_table.proofs.worked.Goals as goal

pub returns-clause-results : goal.returns-clause-results
unfolding some_parts starting gate_of first_outside put_reply get_reply free_soft_line with_line without_line
returns-clause-results c = refl

pub returns-clause-exhausted : goal.returns-clause-exhausted
unfolding full_parts some_parts starting gate_of free_soft_line without_line
returns-clause-exhausted c = record { threads = refl; soft_lines = refl; taken = refl }

pub returns-clause-threads : goal.returns-clause-threads
unfolding some_parts starting gate_of first_outside put_reply get_reply free_soft_line with_line without_line without_handler
returns-clause-threads c = record {
  gethrtime = refl;
  create = refl;
  delete = refl;
  suspend = refl;
  suspend_waiting = refl;
  wakeup = refl;
  wakeup_waiting = refl;
  wakeup_ready = refl;
  make_periodic = refl;
  make_periodic_ready = refl;
  wait = refl;
  self = refl;
  setprio = refl;
  getprio = refl;
  nanosleep = refl;
}

pub returns-clause-fifos : goal.returns-clause-fifos
unfolding some_parts starting gate_of first_outside put_reply get_reply free_soft_line with_line without_line without_handler
returns-clause-fifos c = record {
  create = refl;
  destroy = refl;
  put = refl;
  get = refl;
  flush = refl;
  flush_marked = refl;
  create_handler = refl;
  unset_handler = refl;
  count = refl;
}

pub returns-clause-lines : goal.returns-clause-lines
unfolding some_parts starting gate_of first_outside put_reply get_reply free_soft_line with_line without_line without_handler
returns-clause-lines c = record {
  request = refl;
  free = refl;
  get_soft = refl;
  free_soft = refl;
  pend = refl;
  print = refl;
  print_nothing = refl;
}

pub returns-clause-refused : goal.returns-clause-refused
unfolding some_parts starting gate_of first_outside put_reply get_reply free_soft_line with_line without_line without_handler
returns-clause-refused c = record {
  create = refl;
  suspend = refl;
  make_periodic = refl;
  setprio = refl;
  put = refl;
  request = refl;
  free = refl;
  free_soft = refl;
  nanosleep = refl;
  other = refl;
}

pub returns-clause-faults : goal.returns-clause-faults
unfolding some_parts starting gate_of first_outside put_reply get_reply free_soft_line with_line without_line without_handler
returns-clause-faults c = record {
  thread = refl;
  line = refl;
  fifo = refl;
  init = refl;
  thread_returns = refl;
  line_returns = refl;
}
