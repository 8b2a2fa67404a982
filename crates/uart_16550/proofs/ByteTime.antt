-- How long a byte takes from the write to its leaving.
use Rattle.std.proofs.Common.{◌≡◌, ℕ, zero, suc, ◌+◌, ◌-◌, ◌≤◌, ◌==◌, Bool, true, false, not, ◌&&◌, ◌||◌, Option, Some, None, List, [], ◌∷◌, refl, sym, ap, ◌∙◌, arith, subst}
use Rattle.std.specs.Prelude.{nat_le, if◌then◌else◌}
use Rattle.std.proofs.lemmas.Bool.Decides.{nat_tests}
use Rattle.uart_16550.specs.SerialPort.{SerialPort, is_empty, divisor_latch, register_written, sent, ticked, leaves, leaving, shifted_on, shifted, first_loaded, loaded, timed}
use Rattle.uart_16550.specs.Laws.{ticks}

-- the byte is in the shift register, with so many ticks to go
pub record Sending (v n : ℕ) (p : SerialPort) : Type 0 where
  pub shifting : p.shifting ≡ Some v
  pub waiting : p.waiting ≡ []
  pub count : p.shift_count ≡ n

timer_sends : (b : Bool) (v n : ℕ) (p : SerialPort) → Sending v n p → Sending v n (if b then record p { receive_count = p.receive_count - 1; timeout = p.timeout || nat_le p.receive_count 1 } else p)
timer_sends true v n p s = record { shifting = s.shifting; waiting = s.waiting; count = s.count }
timer_sends false v n p s = s

timed_sends : (v n : ℕ) (p : SerialPort) → Sending v n p → Sending v n (timed p)
timed_sends v n p s = timer_sends (p.fifos && not (is_empty p.received)) v n p s

loaded_none : (v : ℕ) (shifting : Option ℕ) (waiting : List ℕ) (p : SerialPort) → shifting ≡ None → waiting ≡ v ∷ [] → Sending v 32 (first_loaded shifting waiting p)
loaded_none v shifting waiting p e f = rw (e, f) (record { shifting = refl; waiting = refl; count = refl })

first_tick : (v : ℕ) (p : SerialPort) → p.shifting ≡ None → p.waiting ≡ v ∷ [] → Sending v 32 (ticked p)
first_tick v p e f =
    let same : shifted p ≡ p = ap (λ s. shifted_on s p) e in
    timed_sends v 32 (loaded (shifted p)) (subst (λ q. Sending v 32 (loaded q)) (sym same) (loaded_none v p.shifting p.waiting p e f))

loaded_sends : (v n : ℕ) (shifting : Option ℕ) (p : SerialPort) → shifting ≡ Some v → Sending v n p → Sending v n (first_loaded shifting p.waiting p)
loaded_sends v n shifting p e s = rw e s

later : (count : ℕ) (n : ℕ) → count ≡ suc (suc n) → nat_le count 1 ≡ false
later count n e = grind (arith, nat_tests, e)

shifted_sends : (v n : ℕ) (shifting : Option ℕ) (p : SerialPort) → shifting ≡ Some v → Sending v (suc (suc n)) p → Sending v (suc n) (shifted_on shifting p)
shifted_sends v n shifting p e s = rw (e, later p.shift_count n s.count) (record { shifting = s.shifting; waiting = s.waiting; count = omega (arith, s.count) })

next_tick : (v n : ℕ) (p : SerialPort) → Sending v (suc (suc n)) p → Sending v (suc n) (ticked p)
next_tick v n p s =
    let one = shifted_sends v n p.shifting p s.shifting s in
    timed_sends v (suc n) (loaded (shifted p)) (loaded_sends v (suc n) (shifted p).shifting (shifted p) one.shifting one)

-- after the first tick and k more
pub counts : (v : ℕ) (p : SerialPort) → p.shifting ≡ None → p.waiting ≡ v ∷ [] → (k n : ℕ) → k + n ≡ 32 → 1 ≤ n → Sending v n (ticks (suc k) p)
counts v p e f zero n sum some = subst (λ m. Sending v m (ticked p)) (omega (arith, sum)) (first_tick v p e f)
counts v p e f (suc k) zero sum some = absurd (omega (arith, some))
counts v p e f (suc k) (suc n) sum some = next_tick v n (ticks (suc k) p) (counts v p e f k (suc (suc n)) (omega (arith, sum)) (omega arith))

leaves_last : (v n : ℕ) (p : SerialPort) → Sending v n p → leaves p ≡ (if nat_le n 1 then Some v else None)
leaves_last v n p s = ap (λ x. leaving x p.shift_count) s.shifting ∙ ap (λ c. if nat_le c 1 then Some v else None) s.count

none_at_first : (p : SerialPort) → p.shifting ≡ None → leaves p ≡ None
none_at_first p e = ap (λ x. leaving x p.shift_count) e

last_one : (k n : ℕ) → k + n ≡ 32 → 1 ≤ n → nat_le n 1 ≡ (suc k == 32)
last_one k n sum some = grind (arith, nat_tests, sum, some)

alone : (fifos : Bool) (v : ℕ) (p : SerialPort) → fifos ≡ p.fifos → p.waiting ≡ [] → (sent v p).waiting ≡ v ∷ []
alone true v p e f = rw (← e, f) refl
alone false v p e f = rw (← e) refl

pub sends : (v : ℕ) (p : SerialPort) → divisor_latch p ≡ false → p.waiting ≡ [] → p.shifting ≡ None → (k : ℕ) → k ≤ 32 → leaves (ticks k (register_written 0 v p)) ≡ (if k == 32 then Some v else None)
sends v p off empty idle zero most = rw off (none_at_first (sent v p) idle)
sends v p off empty idle (suc k) most =
    let s = counts v (sent v p) idle (alone p.fifos v p refl empty) k (32 - k) (omega (arith, most)) (omega (arith, most)) in
    rw off (leaves_last v (32 - k) (ticks (suc k) (sent v p)) s ∙ ap (λ b. if b then Some v else None) (last_one k (32 - k) (omega (arith, most)) (omega (arith, most))))
