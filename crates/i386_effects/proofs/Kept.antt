-- Each effect keeps the side where it is, and what isn't performed keeps all.
use Rattle.std.proofs.Common.{◌≡◌, ℕ, Bool, true, false, List, [], ◌∷◌, length, refl, ◌∙◌}
use Rattle.std.specs.Prelude.{Option, Some, None, Result, Ok, Err, if◌then◌else◌}
use Rattle.memory_model.proofs.Stores.{same_place}
use Rattle.memory_model.specs.Laws.{SamePlace}
use Rattle.memory_model.specs.Side.{Side, inside, word_stored, stored_inside}
use Rattle.cpu_state.specs.Width.{size}
use Rattle.cpu_state.specs.Bus.{State, Ports, all_mine}
use Rattle.cpu_state.specs.declared.registers.Registers.{Registers}
use Rattle.i386_effects.specs.Accesses.{all_loaded, first_outside_store, all_stored}
use Rattle.i386_effects.specs.Effect.{Effect, after_loads, effect_of, changed, commit_unless, committed, written, KeepsIfOutside, KeepsUnlessPerformed}
use Rattle.i386_effects.specs.declared.accesses.Touch.{Touch}
use Rattle.i386_effects.specs.declared.accesses.Write.{Write}
use Rattle.i386_effects.specs.Change.{Change}
use Rattle.i386_effects.specs.Change as change

kept_choice : {D : Type 0} (regs : Registers) (st : State D) (b : Bool) (x y : Effect D) → KeepsUnlessPerformed regs st x → KeepsUnlessPerformed regs st y → KeepsUnlessPerformed regs st (if b then x else y)
kept_choice regs st b x y p q = elim b as (λ v. KeepsUnlessPerformed regs st (if v then x else y)) [ true ↦ p | false ↦ q ]

kept_unless : {D : Type 0} (regs : Registers) (st : State D) (after : Registers) (writes : List Write) (o : Option ℕ) → KeepsIfOutside regs st (commit_unless regs st after writes o)
kept_unless regs st after writes (Some at) = λ h. (refl, refl)
kept_unless regs st after writes None = λ h. absurd (h refl)

pub kept_committed : {D : Type 0} (regs : Registers) (st : State D) (after : Registers) (writes : List Write) → KeepsIfOutside regs st (committed regs st after writes)
kept_committed regs st after writes = kept_unless regs st after writes (first_outside_store st.side writes)

kept_written : {D : Type 0} (regs : Registers) (st : State D) (after : Registers) (writes : List Write) (o : Option ℕ) → KeepsUnlessPerformed regs st (written (commit_unless regs st after writes o))
kept_written regs st after writes (Some at) = λ h. (refl, refl)
kept_written regs st after writes None = λ h. absurd (h refl)

pub kept_changed : {D : Type 0} (ports : Ports D) (regs : Registers) (st : State D) (c : Change) → KeepsUnlessPerformed regs st (changed ports regs st c)
kept_changed ports regs st (change.Done after writes) = kept_written regs st after writes (first_outside_store st.side writes)
kept_changed ports regs st (change.In after port w) = kept_choice regs st (all_mine ports port (size w)) _ _ (λ h. absurd (h refl)) (λ h. (refl, refl))
kept_changed ports regs st (change.Out after port w value) = kept_choice regs st (all_mine ports port (size w)) _ _ (λ h. absurd (h refl)) (λ h. (refl, refl))
kept_changed ports regs st (change.Trap vector) = λ h. (refl, refl)
kept_changed ports regs st (change.Interrupt vector) = λ h. (refl, refl)
kept_changed ports regs st (change.Privileged kind length) = λ h. (refl, refl)

-- ---- places

stays : (side : Side) → SamePlace side side
stays side = record { first = refl; size = refl }

stays_when : (side : Side) (at n x : ℕ) (b : Bool) → inside side at n ≡ b → SamePlace side (if b then word_stored side at n x else side)
stays_when side at n x true h = same_place side at n x h
stays_when side at n x false h = stays side

stays_on : (a b c : Side) → SamePlace a b → SamePlace b c → SamePlace a c
stays_on a b c p q = record { first = q.first ∙ p.first; size = q.size ∙ p.size }

stays_all : (side : Side) (writes : List Write) → SamePlace side (all_stored side writes)
stays_all side [] = stays side
stays_all side (x ∷ xs) =
    let mid = stored_inside side x.at (size x.width) x.value in
    stays_on side mid (all_stored mid xs) (stays_when side x.at (size x.width) x.value (inside side x.at (size x.width)) refl) (stays_all mid xs)

stays_choice : {D : Type 0} (st : State D) (b : Bool) (x y : Effect D) → SamePlace st.side x.bus.side → SamePlace st.side y.bus.side → SamePlace st.side (if b then x else y).bus.side
stays_choice st b x y p q = elim b as (λ v. SamePlace st.side (if v then x else y).bus.side) [ true ↦ p | false ↦ q ]

stays_unless : {D : Type 0} (regs : Registers) (st : State D) (after : Registers) (writes : List Write) (o : Option ℕ) → SamePlace st.side (commit_unless regs st after writes o).bus.side
stays_unless regs st after writes (Some at) = stays st.side
stays_unless regs st after writes None = stays_all st.side writes

pub stays_committed : {D : Type 0} (regs : Registers) (st : State D) (after : Registers) (writes : List Write) → SamePlace st.side (committed regs st after writes).bus.side
stays_committed regs st after writes = stays_unless regs st after writes (first_outside_store st.side writes)

pub stays_changed : {D : Type 0} (ports : Ports D) (regs : Registers) (st : State D) (c : Change) → SamePlace st.side (changed ports regs st c).bus.side
stays_changed ports regs st (change.Done after writes) = stays_committed regs st after writes
stays_changed ports regs st (change.In after port w) = stays_choice st (all_mine ports port (size w)) _ _ (stays st.side) (stays st.side)
stays_changed ports regs st (change.Out after port w value) = stays_choice st (all_mine ports port (size w)) _ _ (stays st.side) (stays st.side)
stays_changed ports regs st (change.Trap vector) = stays st.side
stays_changed ports regs st (change.Interrupt vector) = stays st.side
stays_changed ports regs st (change.Privileged kind length) = stays st.side

-- ---- with loads

kept_loads : {D : Type 0} (ports : Ports D) (regs : Registers) (st : State D) (C : List ℕ → Change) (r : Result (List ℕ) ℕ) → KeepsUnlessPerformed regs st (after_loads ports regs st C r)
kept_loads ports regs st C (Err at) = λ h. (refl, refl)
kept_loads ports regs st C (Ok words) = kept_changed ports regs st (C words)

pub kept_effect : {D : Type 0} (ports : Ports D) (touches : List Touch) (C : List ℕ → Change) (regs : Registers) (st : State D) → KeepsUnlessPerformed regs st (effect_of ports touches C regs st)
kept_effect ports touches C regs st = kept_loads ports regs st C (all_loaded st.side touches)

stays_loads : {D : Type 0} (ports : Ports D) (regs : Registers) (st : State D) (C : List ℕ → Change) (r : Result (List ℕ) ℕ) → SamePlace st.side (after_loads ports regs st C r).bus.side
stays_loads ports regs st C (Err at) = stays st.side
stays_loads ports regs st C (Ok words) = stays_changed ports regs st (C words)

pub stays_effect : {D : Type 0} (ports : Ports D) (touches : List Touch) (C : List ℕ → Change) (regs : Registers) (st : State D) → SamePlace st.side (effect_of ports touches C regs st).bus.side
stays_effect ports touches C regs st = stays_loads ports regs st C (all_loaded st.side touches)
