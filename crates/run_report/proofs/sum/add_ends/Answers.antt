use Rattle.std.proofs.Common.{◌+◌, ap, sym, ◌∙◌}
use Rattle.run_report.proofs.Counts.{ends_guest, ends_real}
use Rattle.run_report.proofs.sum.add_ends.Goals as goal

pub returns : goal.returns
returns c = record {
  real_time = ap (λ n. c.args.sum.now.real_time + n) (c.real_time_shown.ensures ∙ sym (ends_real c.args.shown c.args.tick c.args.ends.now.r c.args.ends.now.g));
  guest = ap (λ n. c.args.sum.now.guest + n) (c.guest_ends.ensures ∙ sym (ends_guest c.args.shown c.args.tick c.args.ends.now.r c.args.ends.now.g));
  digest = c.absorb_ends.ensures;
}
