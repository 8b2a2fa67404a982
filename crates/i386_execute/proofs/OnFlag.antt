-- CLI, STI, PUSHF and POPF are performed, unless an access lies outside.
use Rattle.std.proofs.Common.{◌≡◌, ℕ, true, List}
use Rattle.std.specs.Prelude.{Option, Some, None, Result, Ok, Err}
use Rattle.cpu_state.specs.Bus.{State, Ports}
use Rattle.cpu_state.specs.declared.registers.Privileged.{Privileged}
use Rattle.cpu_state.specs.declared.registers.Privileged.TheVariants as kind
use Rattle.cpu_state.specs.declared.registers.Registers.{Registers}
use Rattle.i386_effects.specs.Accesses.{all_loaded, first_outside_store}
use Rattle.i386_effects.specs.Effect.{commit_unless, written, after_loads, changed}
use Rattle.i386_effects.specs.Change.{Change}
use Rattle.i386_effects.specs.Change as change
use Rattle.i386_effects.specs.declared.accesses.Write.{Write}
use Rattle.i386_execute.specs.OwnFlag.{is_on_flag, flag_loads, flag_change, flag_unit, IsNextOrOutside}
use Rattle.i386_execute.specs.Unit.{moved_on}

of_commit : {D : Type 0} (regs : Registers) (st : State D) (after : Registers) (writes : List Write) (o : Option ℕ) → IsNextOrOutside (written (commit_unless regs st after writes o)).answer
of_commit regs st after writes (Some at) = tt
of_commit regs st after writes None = tt

abbrev IsDone : Change → Type 0
IsDone (change.Done after writes) = Unit {0}
IsDone (change.In after port w) = ⊥
IsDone (change.Out after port w value) = ⊥
IsDone (change.Trap vector) = ⊥
IsDone (change.Interrupt vector) = ⊥
IsDone (change.Privileged k n) = ⊥

of_done : {D : Type 0} (ports : Ports D) (regs : Registers) (st : State D) (c : Change) → IsDone c → IsNextOrOutside (changed ports regs st c).answer
of_done ports regs st (change.Done after writes) d = of_commit regs st after writes (first_outside_store st.side writes)
of_done ports regs st (change.In after port w) d = absurd d
of_done ports regs st (change.Out after port w value) d = absurd d
of_done ports regs st (change.Trap vector) d = absurd d
of_done ports regs st (change.Interrupt vector) d = absurd d
of_done ports regs st (change.Privileged k n) d = absurd d

flag_is_done : (k : Privileged) (n : ℕ) (r : Registers) (ws : List ℕ) → is_on_flag k ≡ true → IsDone (flag_change k n r ws)
unfolding flag_change
flag_is_done kind.Cli n r ws h = tt
flag_is_done kind.Sti n r ws h = tt
flag_is_done kind.Pushf n r ws h = tt
flag_is_done kind.Popf n r ws h = tt
flag_is_done kind.Iret n r ws h = cc
flag_is_done kind.Hlt n r ws h = cc

of_loads : {D : Type 0} (ports : Ports D) (k : Privileged) (n : ℕ) (r regs : Registers) (st : State D) (o : Result (List ℕ) ℕ) → is_on_flag k ≡ true → IsNextOrOutside (after_loads ports regs st (flag_change k n r) o).answer
of_loads ports k n r regs st (Err at) h = tt
of_loads ports k n r regs st (Ok ws) h = of_done ports regs st (flag_change k n r ws) (flag_is_done k n r ws h)

pub answered : {D : Type 0} (ports : Ports D) (k : Privileged) (n : ℕ) (regs : Registers) (st : State D) → is_on_flag k ≡ true → IsNextOrOutside (flag_unit ports k n regs st).answer
unfolding flag_unit
answered ports k n regs st h = of_loads ports k n (moved_on n regs) regs st (all_loaded st.side (flag_loads k (moved_on n regs))) h
