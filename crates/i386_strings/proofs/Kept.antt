-- An iteration keeps the side where it is, and one whose access lies outside keeps all.
use Rattle.std.proofs.Common.{◌≡◌, ℕ, Bool, true, false, List, refl}
use Rattle.std.specs.Prelude.{◌==◌, ◌&&◌, Option, Some, None, Result, Ok, Err, if◌then◌else◌}
use Rattle.memory_model.specs.Laws.{SamePlace}
use Rattle.cpu_state.specs.Bus.{State}
use Rattle.cpu_state.specs.Registers.{ecx}
use Rattle.cpu_state.specs.declared.registers.Registers.{Registers}
use Rattle.i386_decode.specs.declared.form.Form.{Form}
use Rattle.i386_effects.specs.Accesses.{all_loaded, first_outside_store}
use Rattle.i386_effects.specs.Effect.{commit_unless}
use Rattle.i386_effects.specs.declared.accesses.Write.{Write}
use Rattle.i386_effects.proofs.Kept.{stays_committed}
use Rattle.i386_strings.specs.Iteration.{IterationEffect, iteration, iterated, after_loads, ended, is_last, repeats, string_loads, string_writes, StaysOutside}
use Rattle.i386_strings.specs.declared.iteration.Iteration.TheVariants.{More, Finished}

-- what is kept where an access lies outside
abbrev pub KeepsOutside : {D : Type 0} → Registers → State D → IterationEffect D → Type 0
KeepsOutside regs st e = StaysOutside e.answer ((e.registers ≡ regs) × (e.bus ≡ st))

performed : (same : Type 0) (last : Bool) → StaysOutside (if last then Finished else More) same
performed same true = tt
performed same false = tt

kept_ended : {D : Type 0} (form : Form) (regs after : Registers) (st : State D) (writes : List Write) (o : Option ℕ) → KeepsOutside regs st (ended form (commit_unless regs st after writes o))
kept_ended form regs after st writes (Some at) = (refl, refl)
kept_ended form regs after st writes None = performed _ (is_last form after)

kept_loads : {D : Type 0} (form : Form) (regs : Registers) (st : State D) (r : Result (List ℕ) ℕ) → KeepsOutside regs st (after_loads form regs st r)
kept_loads form regs st (Err at) = (refl, refl)
kept_loads form regs st (Ok words) = kept_ended form regs (iterated form regs words) st (string_writes form.op form.width regs words) (first_outside_store st.side (string_writes form.op form.width regs words))

kept_choice : {D : Type 0} (regs : Registers) (st : State D) (b : Bool) (x y : IterationEffect D) → KeepsOutside regs st x → KeepsOutside regs st y → KeepsOutside regs st (if b then x else y)
kept_choice regs st true x y p q = p
kept_choice regs st false x y p q = q

pub kept_iteration : {D : Type 0} (form : Form) (regs : Registers) (st : State D) → KeepsOutside regs st (iteration form regs st)
unfolding iteration
kept_iteration form regs st = kept_choice regs st (repeats form.repeat && (ecx regs == 0)) _ _ tt (kept_loads form regs st (all_loaded st.side (string_loads form.op form.width regs)))

stays_loads : {D : Type 0} (form : Form) (regs : Registers) (st : State D) (r : Result (List ℕ) ℕ) → SamePlace st.side (after_loads form regs st r).bus.side
stays_loads form regs st (Err at) = record { first = refl; size = refl }
stays_loads form regs st (Ok words) = stays_committed regs st (iterated form regs words) (string_writes form.op form.width regs words)

stays_choice : {D : Type 0} (st : State D) (b : Bool) (x y : IterationEffect D) → SamePlace st.side x.bus.side → SamePlace st.side y.bus.side → SamePlace st.side (if b then x else y).bus.side
stays_choice st true x y p q = p
stays_choice st false x y p q = q

pub stays_iteration : {D : Type 0} (form : Form) (regs : Registers) (st : State D) → SamePlace st.side (iteration form regs st).bus.side
unfolding iteration
stays_iteration form regs st = stays_choice st (repeats form.repeat && (ecx regs == 0)) _ _ (record { first = refl; size = refl }) (stays_loads form regs st (all_loaded st.side (string_loads form.op form.width regs)))
