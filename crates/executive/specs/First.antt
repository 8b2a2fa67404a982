-- The first executive.
use Rattle.std.specs.Prelude.{ℕ, [], replicate, None}
use Rattle.rt_constants.specs.declared.limits.TheConstants.{FIFOS_LIMIT, THREADS_LIMIT}
use Rattle.rt_irqs.specs.Irqs.{no_lines}
use Rattle.executive.specs.declared.executive.Executive.{Executive}

-- no thread, no line and no FIFO, with the version of the rule that picks
unfoldable pub first_executive : ℕ → Executive
first_executive version = record {
  threads = replicate THREADS_LIMIT None;
  ready = record { version = version; places = [] };
  timeline = record { threads = replicate THREADS_LIMIT None; guest = None };
  fifos = replicate FIFOS_LIMIT None;
  irqs = no_lines;
}
