use Rattle.std.proofs.Common.{take}
use Rattle.std.specs.Prelude.{flat_map}
use Rattle.run_stream.specs.Lines.{piece_of}
use Rattle.run_report.specs.Sums.{Absorbs}
use Rattle.run_report.proofs.sum.absorb_half.Given as goal

-- the lines so far were added
abbrev pub invariant-loop-line : goal.invariant-loop-line
invariant-loop-line g l = record {
  absorbed : Absorbs l.initial.digest l.digest (flat_map (λ x. piece_of (l.tick, g.L.Printed.line x)) (take l.line-index l.lines));
}
