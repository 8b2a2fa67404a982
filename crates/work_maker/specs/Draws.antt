-- What is drawn for a number: a linear congruential generator modulo 2^32, of which a draw takes the upper half. The draws come in
-- one order: for each of eight threads its priority, its period and its work; the period of the guest's timer; and for each event of
-- the script its kind, its place in its thousand ticks, and for a byte the byte.
use Rattle.std.specs.Prelude.{ℕ, zero, suc, ◌+◌, ◌*◌, ◌/◌, ◌%◌, ◌^◌, List, [], ◌∷◌}
use Rattle.work_maker.specs.declared.draws.Thread.{Thread}

-- what x becomes before each draw
unfoldable pub next : ℕ → ℕ
next x = (x * 1664525 + 1013904223) % 2 ^ 32

-- the number below k that the next draw gives
unfoldable pub draw : ℕ → ℕ → ℕ
draw k x = next x / 65536 % k

-- x after n draws
abbrev pub after : ℕ → ℕ → ℕ
after zero x = x
after (suc n) x = after n (next x)

-- the next thread: three draws
abbrev pub thread_of : ℕ → Thread
thread_of x = record { priority = 1 + draw 200 x; period = 200 + draw 2000 (after 1 x); work = 1 + draw 50 (after 2 x) }

-- the next n threads
abbrev pub threads_from : ℕ → ℕ → List Thread
threads_from zero x = []
threads_from (suc n) x = thread_of x ∷ threads_from n (after 3 x)

-- x begins as the number; the threads are the first 24 draws
abbrev pub threads : ℕ → List Thread
threads number = threads_from 8 number

-- the next draw
abbrev pub guest_period_from : ℕ → ℕ
guest_period_from x = 500 + draw 1000 x

-- behind them stands the period of the guest's timer
abbrev pub guest_period : ℕ → ℕ
guest_period number = guest_period_from (after 24 number)

-- x behind these
abbrev pub before_script : ℕ → ℕ
before_script number = after 25 number
