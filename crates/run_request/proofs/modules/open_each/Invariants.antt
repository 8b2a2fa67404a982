use Rattle.std.proofs.Common.{◌≡◌, ◌+◌, length, drop, IfSome, List, ℕ}
use Rattle.run_files.specs.Verdict.{modules_loaded}
use Rattle.run_request.specs.Open.{NamesModule}
use Rattle.run_request.proofs.modules.open_each.Given as goal

-- what is left makes of what was placed so far what all make of the beginning, and no fetch failed
abbrev pub invariant-loop-name : goal.invariant-loop-name
invariant-loop-name g l = record {
  told : IfSome (g.S.Store.held l.initial.store) (λ files.
      modules_loaded files l.so_far (drop l.name-index l.names) ≡ modules_loaded files l.fn.loaded l.names);
  unread : IfSome (g.S.Store.held l.initial.store) (λ files. (name : List ℕ)
      → NamesModule files l.so_far (drop l.name-index l.names) name → NamesModule files l.fn.loaded l.names name);
  stays : g.S.Store.held l.store ≡ g.S.Store.held l.initial.store;
  faults : g.S.Store.faults l.store ≡ g.S.Store.faults l.initial.store;
  guest : length l.so_far.sides.memory.guest ≡ length l.fn.loaded.sides.memory.guest;
  real_time : length l.so_far.sides.memory.real_time ≡ length l.fn.loaded.sides.memory.real_time;
  count : length l.so_far.inits ≡ length l.fn.loaded.inits + l.name-index;
}
