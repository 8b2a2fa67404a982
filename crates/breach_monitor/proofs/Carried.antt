-- A unit reaches devices by its ports alone. So where one kind of devices is carried to another with what its ports do, a unit
-- over the one is carried to the unit over the other.
use Rattle.std.proofs.Common.{◌≡◌, ℕ, ◌+◌, zero, suc, Bool, true, false, refl, ap, sym, subst, List}
use Rattle.std.specs.Prelude.{◌%◌, ◌==◌, ◌&&◌, Option, Some, None, Result, Ok, Err, length, if◌then◌else◌}
use Rattle.cpu_state.specs.Bus.{State, Ports, all_mine}
use Rattle.cpu_state.specs.Registers.{ecx}
use Rattle.cpu_state.specs.Width.{size}
use Rattle.cpu_state.specs.declared.registers.Privileged.{Privileged as PrivilegedUse}
use Rattle.cpu_state.specs.declared.registers.Registers.{Registers}
use Rattle.i386_decode.specs.Reading.{decode_of}
use Rattle.i386_decode.specs.WellFormed.{is_string}
use Rattle.i386_decode.specs.declared.form.Decoded.{Decoded}
use Rattle.i386_decode.specs.declared.form.Decoded.TheVariants.{Form as Spelled, Undefined, Short}
use Rattle.i386_decode.specs.declared.form.Form.{Form}
use Rattle.i386_effects.specs.Accesses.{all_loaded, first_outside_store}
use Rattle.i386_effects.specs.Change.{Change}
use Rattle.i386_effects.specs.Change as of
use Rattle.i386_effects.specs.Effect.{Effect, Commit, commit_unless, written, changed, after_loads, effect_of}
use Rattle.i386_effects.specs.declared.accesses.Touch.{Touch}
use Rattle.i386_effects.specs.declared.accesses.Write.{Write}
use Rattle.i386_strings.specs.Iteration.{iteration, iterated, string_loads, string_writes, repeats, ended}
use Rattle.i386_strings.specs.Iteration as strings
use Rattle.i386_execute.specs.Changes.{change}
use Rattle.i386_execute.specs.Loads.{loads}
use Rattle.i386_execute.specs.OwnFlag.{flag_loads, flag_change, flag_unit}
use Rattle.i386_execute.specs.Unit.{moved_on, performed, string_unit, unit_by, fetched_at, unit}
use Rattle.breach_monitor.specs.Laws.{with_devices, effect_with}

-- the ports q do to devices what the ports p do to those that these are carried to
pub record Carries {D E : Type 0} (g : E → D) (p : Ports D) (q : Ports E) (e : E) : Type 0 where
  pub mine : p.mine ≡ q.mine
  pub answer : (port n : ℕ) → p.answer (g e) port n ≡ q.answer e port n
  pub after_in : (port n : ℕ) → p.after_in (g e) port n ≡ g (q.after_in e port n)
  pub after_out : (port n value : ℕ) → p.after_out (g e) port n value ≡ g (q.after_out e port n value)

same_mine : {D E : Type 0} (p : Ports D) (q : Ports E) → p.mine ≡ q.mine → (n port : ℕ) → all_mine p port n ≡ all_mine q port n
same_mine p q e zero port = refl
same_mine p q e (suc n) port = rw (same_mine p q e n (port + 1), ap (λ f. f (port % 65536)) e) refl

if_carried : {A B : Type 0} (h : B → A) (a b : Bool) → a ≡ b → (x y : A) (x' y' : B) → x ≡ h x' → y ≡ h y' → (if a then x else y) ≡ h (if b then x' else y')
if_carried h true true e x y x' y' k l = k
if_carried h false false e x y x' y' k l = l
if_carried h true false e x y x' y' k l = cc
if_carried h false true e x y x' y' k l = cc

abbrev commit_with : {D E : Type 0} → (E → D) → Commit E → Commit D
commit_with g c = record { outside = c.outside; registers = c.registers; bus = with_devices g c.bus }

commit : {D E : Type 0} (g : E → D) (regs after : Registers) (st : State E) (writes : List Write) (o : Option ℕ)
    → commit_unless regs (with_devices g st) after writes o ≡ commit_with g (commit_unless regs st after writes o)
commit g regs after st writes None = refl
commit g regs after st writes (Some at) = refl

-- ---- instructions that aren't string instructions

changes : {D E : Type 0} (g : E → D) (p : Ports D) (q : Ports E) (regs : Registers) (st : State E) (c : Change) → Carries g p q st.devices
    → changed p regs (with_devices g st) c ≡ effect_with g (changed q regs st c)
changes g p q regs st (of.Done after writes) k = ap written (commit g regs after st writes (first_outside_store st.side writes))
changes g p q regs st (of.In after port w) k =
    let answer = k.answer port (size w) in
    let devices = k.after_in port (size w) in
    if_carried (effect_with g) (all_mine p port (size w)) (all_mine q port (size w)) (same_mine p q k.mine (size w) port) _ _ _ _ (cc) refl
changes g p q regs st (of.Out after port w value) k =
    let devices = k.after_out port (size w) value in
    if_carried (effect_with g) (all_mine p port (size w)) (all_mine q port (size w)) (same_mine p q k.mine (size w) port) _ _ _ _ (cc) refl
changes g p q regs st (of.Trap vector) k = refl
changes g p q regs st (of.Interrupt vector) k = refl
changes g p q regs st (of.Privileged kind n) k = refl

loaded : {D E : Type 0} (g : E → D) (p : Ports D) (q : Ports E) (regs : Registers) (st : State E) (change_by : List ℕ → Change) (o : Result (List ℕ) ℕ)
    → Carries g p q st.devices → after_loads p regs (with_devices g st) change_by o ≡ effect_with g (after_loads q regs st change_by o)
loaded g p q regs st change_by (Err at) k = refl
loaded g p q regs st change_by (Ok words) k = changes g p q regs st (change_by words) k

effects : {D E : Type 0} (g : E → D) (p : Ports D) (q : Ports E) (touches : List Touch) (change_by : List ℕ → Change) (regs : Registers) (st : State E)
    → Carries g p q st.devices → effect_of p touches change_by regs (with_devices g st) ≡ effect_with g (effect_of q touches change_by regs st)
effects g p q touches change_by regs st k = loaded g p q regs st change_by (all_loaded st.side touches) k

forms : {D E : Type 0} (g : E → D) (p : Ports D) (q : Ports E) (form : Form) (n : ℕ) (regs : Registers) (st : State E)
    → Carries g p q st.devices → performed p form n regs (with_devices g st) ≡ effect_with g (performed q form n regs st)
unfolding performed
forms g p q form n regs st k =
    effects g p q (loads form.op form (moved_on n regs)) (change form.op form n (moved_on n regs)) regs st k

-- ---- string instructions, which reach no port

string_loaded : {D E : Type 0} (g : E → D) (form : Form) (regs : Registers) (st : State E) (o : Result (List ℕ) ℕ)
    → strings.after_loads form regs (with_devices g st) o ≡ effect_with g (strings.after_loads form regs st o)
string_loaded g form regs st (Err at) = refl
string_loaded g form regs st (Ok words) =
    let writes = string_writes form.op form.width regs words in
    ap (ended form) (commit g regs (iterated form regs words) st writes (first_outside_store st.side writes))

iterations : {D E : Type 0} (g : E → D) (form : Form) (regs : Registers) (st : State E) → iteration form regs (with_devices g st) ≡ effect_with g (iteration form regs st)
unfolding iteration
iterations g form regs st =
    let ends = repeats form.repeat && (ecx regs == 0) in
    if_carried (effect_with g) ends ends refl _ _ _ _ refl (string_loaded g form regs st (all_loaded st.side (string_loads form.op form.width regs)))

-- ---- units

units_by : {D E : Type 0} (g : E → D) (p : Ports D) (q : Ports E) (fetched : ℕ) (regs : Registers) (st : State E) (d : Decoded)
    → Carries g p q st.devices → unit_by fetched p regs (with_devices g st) d ≡ effect_with g (unit_by fetched q regs st d)
units_by g p q fetched regs st (Spelled form n) k =
    if_carried (effect_with g) (is_string form.op) (is_string form.op) refl _ _ _ _ (ap (string_unit n) (iterations g form regs st)) (forms g p q form n regs st k)
units_by g p q fetched regs st Undefined k = refl
units_by g p q fetched regs st Short k = refl

pub unit_carried : {D E : Type 0} (g : E → D) (p : Ports D) (q : Ports E) (regs : Registers) (st : State E)
    → Carries g p q st.devices → unit p regs (with_devices g st) ≡ effect_with g (unit q regs st)
unfolding unit
unit_carried g p q regs st k = units_by g p q (length (fetched_at regs.eip st.side)) regs st (decode_of (fetched_at regs.eip st.side)) k

pub flag_unit_carried : {D E : Type 0} (g : E → D) (p : Ports D) (q : Ports E) (kind : PrivilegedUse) (n : ℕ) (regs : Registers) (st : State E)
    → Carries g p q st.devices → flag_unit p kind n regs (with_devices g st) ≡ effect_with g (flag_unit q kind n regs st)
unfolding flag_unit
flag_unit_carried g p q kind n regs st k = effects g p q (flag_loads kind (moved_on n regs)) (flag_change kind n (moved_on n regs)) regs st k

-- ---- what each access to a port keeps true of the devices, a unit keeps true of them: they are carried with a proof of it

pub record Keeps {D : Type 0} (Q : D → Type 0) (p : Ports D) : Type 0 where
  pub after_in : (d : D) (port n : ℕ) → Q d → Q (p.after_in d port n)
  pub after_out : (d : D) (port n value : ℕ) → Q d → Q (p.after_out d port n value)

pub record Known {D : Type 0} (Q : D → Type 0) : Type 0 where
  pub devices : D
  pub known : Q devices

abbrev pub devices_of : {D : Type 0} (Q : D → Type 0) → Known Q → D
devices_of Q x = x.devices

abbrev pub known_ports : {D : Type 0} (Q : D → Type 0) (p : Ports D) → Keeps Q p → Ports (Known Q)
known_ports Q p keeps = record {
  mine = p.mine;
  answer = λ x port n. p.answer x.devices port n;
  after_in = λ x port n. record { devices = p.after_in x.devices port n; known = keeps.after_in x.devices port n x.known };
  after_out = λ x port n value. record { devices = p.after_out x.devices port n value; known = keeps.after_out x.devices port n value x.known };
}

pub known_carried : {D : Type 0} (Q : D → Type 0) (p : Ports D) (keeps : Keeps Q p) (x : Known Q) → Carries (devices_of Q) p (known_ports Q p keeps) x
known_carried Q p keeps x = record { mine = refl; answer = λ port n. refl; after_in = λ port n. refl; after_out = λ port n value. refl }

abbrev pub known_state : {D : Type 0} (Q : D → Type 0) (st : State D) → Q st.devices → State (Known Q)
known_state Q st h = record { side = st.side; devices = record { devices = st.devices; known = h } }

pub unit_keeps : {D : Type 0} (Q : D → Type 0) (p : Ports D) → Keeps Q p → (regs : Registers) (st : State D) → Q st.devices → Q (unit p regs st).bus.devices
unit_keeps {D = D} Q p keeps regs st h =
    let x = known_state Q st h in
    subst (λ (e : Effect D). Q e.bus.devices) (sym (unit_carried (devices_of Q) p (known_ports Q p keeps) regs x (known_carried Q p keeps x.devices))) (unit (known_ports Q p keeps) regs x).bus.devices.known

pub flag_unit_keeps : {D : Type 0} (Q : D → Type 0) (p : Ports D) → Keeps Q p → (kind : PrivilegedUse) (n : ℕ) (regs : Registers) (st : State D) → Q st.devices → Q (flag_unit p kind n regs st).bus.devices
flag_unit_keeps {D = D} Q p keeps kind n regs st h =
    let x = known_state Q st h in
    subst (λ (e : Effect D). Q e.bus.devices) (sym (flag_unit_carried (devices_of Q) p (known_ports Q p keeps) kind n regs x (known_carried Q p keeps x.devices))) (flag_unit (known_ports Q p keeps) kind n regs x).bus.devices.known
