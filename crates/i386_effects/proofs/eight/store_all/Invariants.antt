use Rattle.std.proofs.Common.{◌≡◌, drop}
use Rattle.i386_effects.specs.Accesses.{all_stored}
use Rattle.i386_effects.proofs.eight.store_all.Given as goal

-- the stores that are left lead to where all lead
abbrev pub invariant-loop-write : goal.invariant-loop-write
invariant-loop-write g l = record {
  rest : all_stored (g.B.Bus.state l.bus).side (drop l.write-index l.writes) ≡ all_stored (g.B.Bus.state l.fn.bus).side l.writes;
  devices : (g.B.Bus.state l.bus).devices ≡ (g.B.Bus.state l.fn.bus).devices;
  lenders : g.B.Bus.lenders l.bus ≡ g.B.Bus.lenders l.fn.bus;
}
