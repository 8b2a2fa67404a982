-- The order of the bytes of a serial port.
use Rattle.std.proofs.Common.{◌≡◌, ℕ, ◌-◌, ◌<◌, Bool, true, false, not, ◌&&◌, ◌||◌, Option, Some, None, List, [], ◌∷◌, ◌++◌, length, drop, refl, sym, ap, ◌∙◌, arith, append_assoc, append-nil, subst}
use Rattle.std.specs.Prelude.{nat_lt, nat_le, if◌then◌else◌, slice_index}
use Rattle.std.proofs.lemmas.Bool.Decides.{nat_tests}
use Rattle.uart_16550.specs.SerialPort.{SerialPort, is_empty, room_of, divisor_latch, register_read, register_after_read, register_written, data_taken, sent, byte_received, leaves, leaving, shifted_on, shifted, first_loaded, loaded, timed}
use Rattle.uart_16550.specs.Laws.{Act, Write, Read, Receive, Tick, done, all_done, fits, AllFit, listed, written_by, all_written, received_by, all_received, left_by, all_left, read_by, all_read, transmitting, IsInOrder}

-- one step: what left and what was read, what was written and what came in
pub record StepTo (left read_out written arrived : List ℕ) (p q : SerialPort) : Type 0 where
  pub latch : divisor_latch q ≡ false
  pub sent : left ++ transmitting q ≡ transmitting p ++ written
  pub read : read_out ++ q.received ≡ p.received ++ arrived

abbrev Step : Act → SerialPort → Type 0
Step a p = StepTo (left_by a p) (read_by a p) (written_by a) (received_by a) p (done a p)

-- the receive timer changes none of it
pub record Same (p q : SerialPort) : Type 0 where
  pub latch : divisor_latch q ≡ divisor_latch p
  pub sent : transmitting q ≡ transmitting p
  pub read : q.received ≡ p.received

timer_same : (b : Bool) (p : SerialPort) → Same p (if b then record p { receive_count = p.receive_count - 1; timeout = p.timeout || nat_le p.receive_count 1 } else p)
timer_same true p = record { latch = refl; sent = refl; read = refl }
timer_same false p = record { latch = refl; sent = refl; read = refl }

timed_same : (p : SerialPort) → Same p (timed p)
timed_same p = timer_same (p.fifos && not (is_empty p.received)) p

loads : (shifting : Option ℕ) (waiting : List ℕ) (p : SerialPort) → shifting ≡ p.shifting → waiting ≡ p.waiting → Same p (first_loaded shifting waiting p)
loads None [] p e f = record { latch = refl; sent = refl; read = refl }
loads None (b ∷ rest) p e f = record { latch = refl; sent = ap (λ s. listed s ++ b ∷ rest) e ∙ ap (λ w. listed p.shifting ++ w) f; read = refl }
loads (Some b) waiting p e f = record { latch = refl; sent = refl; read = refl }

loaded_same : (p : SerialPort) → Same p (loaded p)
loaded_same p = loads p.shifting p.waiting p refl refl

-- the shift register gives the byte that leaves
pub record Shifts (shifting : Option ℕ) (p : SerialPort) : Type 0 where
  pub latch : divisor_latch (shifted_on shifting p) ≡ divisor_latch p
  pub sent : listed (leaving shifting p.shift_count) ++ transmitting (shifted_on shifting p) ≡ transmitting p
  pub read : (shifted_on shifting p).received ≡ p.received

last_tick : (last : Bool) (b : ℕ) (p : SerialPort) → Some b ≡ p.shifting
    → let q : SerialPort = if last then record p { shifting = None; shift_count = 0 } else record p { shift_count = p.shift_count - 1 } in
    (divisor_latch q ≡ divisor_latch p) × (listed (if last then Some b else None) ++ transmitting q ≡ transmitting p) × (q.received ≡ p.received)
last_tick true b p e = (refl, ap (λ s. listed s ++ p.waiting) e, refl)
last_tick false b p e = (refl, refl, refl)

shifts : (shifting : Option ℕ) (p : SerialPort) → shifting ≡ p.shifting → Shifts shifting p
shifts None p e = record { latch = refl; sent = refl; read = refl }
shifts (Some b) p e =
    let all = last_tick (nat_le p.shift_count 1) b p e in
    record { latch = all.0; sent = all.1; read = all.2 }

tick_step : (p : SerialPort) → divisor_latch p ≡ false → Step Tick p
tick_step p off =
    let s = shifts p.shifting p refl in
    let l = loaded_same (shifted p) in
    let t = timed_same (loaded (shifted p)) in
    record {
      latch = t.latch ∙ l.latch ∙ s.latch ∙ off;
      sent = ap (λ xs. listed (leaves p) ++ xs) (t.sent ∙ l.sent) ∙ s.sent ∙ sym (append-nil (transmitting p));
      read = t.read ∙ l.read ∙ s.read ∙ sym (append-nil p.received);
    }

-- a write that finds room joins the bytes that wait
empty_list : (xs : List ℕ) → nat_lt (length xs) 1 ≡ true → xs ≡ []
empty_list [] h = refl
empty_list (x ∷ xs) h = absurd (let l : length (x ∷ xs) < 1 = grind (arith, nat_tests, h) in omega (arith, l))

joins : (fifos : Bool) (v : ℕ) (xs : List ℕ) → nat_lt (length xs) (if fifos then 16 else 1) ≡ true → (if fifos then (if nat_lt (length xs) 16 then xs ++ v ∷ [] else xs) else v ∷ []) ≡ xs ++ v ∷ []
joins true v xs h = rw h refl
joins false v xs h = ap (λ ys. ys ++ v ∷ []) (sym (empty_list xs h))

write_step : (v : ℕ) (p : SerialPort) → divisor_latch p ≡ false → nat_lt (length p.waiting) (room_of p) ≡ true → Step (Write v) p
write_step v p off room =
    let is : register_written 0 v p ≡ sent v p = rw off refl in
    subst (λ q. StepTo [] [] (v ∷ []) [] p q) (sym is) (record {
      latch = off;
      sent = ap (λ xs. listed p.shifting ++ xs) (joins p.fifos v p.waiting room) ∙ sym (append_assoc (listed p.shifting) p.waiting (v ∷ []));
      read = sym (append-nil p.received);
    })

-- a read takes the first byte
first_taken : (xs : List ℕ) → not (is_empty xs) ≡ true → slice_index xs 0 ∷ drop 1 xs ≡ xs
first_taken [] h = absurd cc
first_taken (x ∷ xs) h = refl

read_step : (p : SerialPort) → divisor_latch p ≡ false → not (is_empty p.received) ≡ true → Step Read p
read_step p off some =
    let is : register_after_read 0 p ≡ data_taken p = rw off refl in
    let value : register_read 0 p ≡ slice_index p.received 0 = rw off refl in
    subst (λ q. StepTo [] (register_read 0 p ∷ []) [] [] p q) (sym is) (subst (λ v. StepTo [] (v ∷ []) [] [] p (data_taken p)) (sym value) (record {
      latch = off;
      sent = sym (append-nil (transmitting p));
      read = first_taken p.received some ∙ sym (append-nil p.received);
    }))

-- a byte that finds room comes last
receive_step : (v : ℕ) (p : SerialPort) → divisor_latch p ≡ false → nat_lt (length p.received) (room_of p) ≡ true → Step (Receive v) p
receive_step v p off room =
    let is : byte_received v p ≡ record p { received = p.received ++ v ∷ []; receive_count = 128 } = rw room refl in
    subst (λ q. StepTo [] [] [] (v ∷ []) p q) (sym is) (record { latch = off; sent = sym (append-nil (transmitting p)); read = refl })

one_step : (a : Act) (p : SerialPort) → divisor_latch p ≡ false → fits a p ≡ true → Step a p
one_step (Write v) p off fit = write_step v p off fit
one_step Read p off fit = read_step p off fit
one_step (Receive v) p off fit = receive_step v p off fit
one_step Tick p off fit = tick_step p off

-- two parts of a run together
chain : (out1 out2 held0 held1 held2 in1 in2 : List ℕ) → out1 ++ held1 ≡ held0 ++ in1 → out2 ++ held2 ≡ held1 ++ in2 → (out1 ++ out2) ++ held2 ≡ held0 ++ (in1 ++ in2)
chain out1 out2 held0 held1 held2 in1 in2 e f =
    append_assoc out1 out2 held2 ∙ ap (λ xs. out1 ++ xs) f ∙ sym (append_assoc out1 held1 in2) ∙ ap (λ xs. xs ++ in2) e ∙ append_assoc held0 in1 in2

pub in_order : (acts : List Act) (p : SerialPort) → divisor_latch p ≡ false → AllFit acts p → IsInOrder acts p
in_order [] p off fit = record { sent = sym (append-nil (transmitting p)); read = sym (append-nil p.received) }
in_order (a ∷ acts) p off fit =
    let one = one_step a p off fit.0 in
    let rest = in_order acts (done a p) one.latch fit.1 in
    record {
      sent = chain (left_by a p) (all_left acts (done a p)) (transmitting p) (transmitting (done a p)) (transmitting (all_done acts (done a p))) (written_by a) (all_written acts) one.sent rest.sent;
      read = chain (read_by a p) (all_read acts (done a p)) p.received (done a p).received (all_done acts (done a p)).received (received_by a) (all_received acts) one.read rest.read;
    }
