-- The ticks that are left of the one-shot, over a device step and a setting.
use Rattle.std.proofs.Common.{◌≡◌, ℕ, ◌+◌, ◌-◌, ◌*◌, ◌/◌, ◌%◌, ◌<◌, ◌≤◌, zero, suc, true, false, ◌||◌, Option, Some, None, List, refl, sym, ap, ◌∙◌, arith, inl, inr, subst}
use Rattle.std.specs.Prelude.{nat_lt, if◌then◌else◌}
use Rattle.std.proofs.lemmas.Bool.Decides.{nat_tests}
use Rattle.line_sets.specs.LineSet.{has}
use Rattle.pic_8259.specs.Controllers.{latch_of}
use Rattle.pit_8254.specs.Counter.{full_count}
use Rattle.pit_8254.specs.declared.counter.Mode.{Mode}
use Rattle.pit_8254.specs.declared.counter.Mode.TheVariants.{TerminalCount}
use Rattle.device_script.specs.declared.event.Event.{Event}
use Rattle.port_board.specs.Board.{AreEvents, device_step, new_board}
use Rattle.port_board.specs.OneShot.{OneShot, one_shot_set, one_less}
use Rattle.port_board.specs.Left.{left_by, ticks_left, IsShot, CountsTicks, SetFor}
use Rattle.port_board.specs.declared.board.Board.{Board}
use Rattle.port_board.proofs.Shots.{Ticks, ticks_last, ticks_on, ticks_risen, ticks_idle}
use Rattle.port_board.proofs.Latched.{step_holds}

by_parts : (count : Option ℕ) (mode : Mode) (q c : ℕ) → count ≡ Some c → mode ≡ TerminalCount → left_by count mode q ≡ (if nat_lt (full_count TerminalCount c) q then None else Some ((full_count TerminalCount c + 1 - q) / 2))
by_parts count mode q c e f = rw (e, f) refl

is_left : (n q m : ℕ) → q + 2 * m ≡ n + 1 → 1 ≤ m → (if nat_lt n q then None else Some ((n + 1 - q) / 2)) ≡ Some m
is_left n q m e some =
    let low : nat_lt n q ≡ false = let l : q ≤ n = omega (arith, e, some) in grind (arith, nat_tests, l) in
    let half : (n + 1 - q) / 2 ≡ m = omega (arith, e) in
    rw low (ap Some half)

is_over : (n q : ℕ) → n < q → (if nat_lt n q then None else Some ((n + 1 - q) / 2)) ≡ None
is_over n q l = let over : nat_lt n q ≡ true = grind (arith, nat_tests, l) in rw over refl

none_left : (count : Option ℕ) (mode : Mode) (q : ℕ) → count ≡ None → left_by count mode q ≡ None
none_left count mode q e = rw e refl

pub reads : (b : Board) (o : Option ℕ) → OneShot b o → ticks_left b ≡ o
unfolding ticks_left
reads b None (inl r) = none_left b.pit.counter0.count b.pit.counter0.mode b.pit.counter0.pulses r.counts
reads b None (inr r) = by_parts b.pit.counter0.count b.pit.counter0.mode b.pit.counter0.pulses r.count r.counts r.mode ∙ is_over (full_count TerminalCount r.count) b.pit.counter0.pulses r.over
reads b (Some m) r = by_parts b.pit.counter0.count b.pit.counter0.mode b.pit.counter0.pulses r.count r.counts r.mode ∙ is_left (full_count TerminalCount r.count) b.pit.counter0.pulses m r.left r.some

pub ticks : (b : Board) (events : List Event) (o : Option ℕ) → AreEvents events → OneShot b o → Ticks b events o
ticks b events None are (inl r) = ticks_idle b events are r
ticks b events None are (inr r) = ticks_risen b events are r
ticks b events (Some zero) are r = absurd (omega (arith, r.some))
ticks b events (Some (suc zero)) are r = ticks_last b events are r
ticks b events (Some (suc (suc m))) are r = ticks_on b events m are r

pub counts_down : (b : Board) (events : List Event) → AreEvents events → IsShot b → CountsTicks b events
counts_down b events are shot =
    let t = ticks b events (ticks_left b) are shot in
    let left = reads (device_step events b).board (one_less (ticks_left b)) t.1 in
    record {
      left = left;
      shot = subst (OneShot (device_step events b).board) (sym left) t.1;
      line = t.0;
      latched = λ pair. step_holds b events 0 pair are ∙ ap (λ x. has (latch_of b.pair) 0 || x) t.0;
    }

bytes : (n : ℕ) → n % 256 + 256 * (n / 256) ≡ n
bytes n = omega arith

pub sets : (b : Board) (k : ℕ) → 1 ≤ k → k ≤ 32768 → OneShot (one_shot_set k b) (Some k)
sets b k some most = record { count = 2 * k - 1; mode = refl; counts = ap Some (bytes (2 * k - 1)); left = grind (arith, nat_tests); some = some }

pub sets_left : (b : Board) (k : ℕ) → 1 ≤ k → k ≤ 32768 → SetFor b k
sets_left b k some most =
    let is = sets b k some most in
    let left = reads (one_shot_set k b) (Some k) is in
    record { left = left; shot = subst (OneShot (one_shot_set k b)) (sym left) is }

-- a board as it is made has no one-shot
idle : OneShot new_board None
idle = inl (record { counts = refl; low = refl })

pub none_at_first : ticks_left new_board ≡ None
none_at_first = reads new_board None idle

pub shot_at_first : IsShot new_board
shot_at_first = subst (OneShot new_board) (sym none_at_first) idle
