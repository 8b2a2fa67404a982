use Rattle.std.proofs.Common.{◌≡◌, drop}
use Rattle.i386_effects.specs.Accesses.{first_outside_store}
use Rattle.i386_effects.proofs.eight.outside_store.Given as goal

-- the stores so far are inside
abbrev pub invariant-loop-write : goal.invariant-loop-write
invariant-loop-write g l = first_outside_store (g.B.Bus.state l.bus).side (drop l.write-index l.writes) ≡ first_outside_store (g.B.Bus.state l.bus).side l.writes
