use Rattle.std.proofs.Common.{◌+◌, length, ap, sym, ◌∙◌}
use Rattle.run_report.specs.Sums.{real_time_shown}
use Rattle.run_report.proofs.Counts.{tick_guest, tick_real}
use Rattle.run_report.proofs.sum.add_tick.Goals as goal

pub returns-clause-added : goal.returns-clause-added
returns-clause-added c =
    let lines = c.args.lines.now in record {
      real_time = ap (λ n. c.args.sum.now.real_time + n) (c.real_time_shown.ensures ∙ ap (real_time_shown c.args.shown) c.r-2.ensures ∙ sym (tick_real c.args.shown c.args.tick lines.r lines.h lines.g));
      guest = ap (λ n. c.args.sum.now.guest + n) (ap length c.g-2.ensures ∙ sym (tick_guest c.args.shown c.args.tick lines.r lines.h lines.g));
      digest = c.absorb_tick.ensures;
    }
