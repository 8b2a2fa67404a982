-- A counter over pulses, reads and latch commands.
use Rattle.std.proofs.Common.{◌≡◌, ℕ, ◌+◌, ◌%◌, ◌<◌, ◌≤◌, zero, suc, Bool, true, false, not, ◌==◌, Option, Some, None, refl, ap, sym, ◌∙◌, subst, arith, inl, inr, List, [], ◌∷◌}
use Rattle.std.specs.Prelude.{nat_lt}
use Rattle.std.proofs.lemmas.Bool.Decides.{nat_tests}
use Rattle.pit_8254.specs.declared.counter.Access.{Access}
use Rattle.pit_8254.specs.declared.counter.Access.TheVariants.{LowByte, HighByte, LowThenHigh}
use Rattle.pit_8254.specs.declared.counter.Mode.{Mode}
use Rattle.pit_8254.specs.declared.counter.Mode.TheVariants.{Unset, TerminalCount, RateGenerator, SquareWave}
use Rattle.pit_8254.specs.declared.counter.Counter.{Counter}
use Rattle.pit_8254.specs.Counter.{pulsed, latched, after_read, full_count, out_at, out_of, held_at, held_of}
use Rattle.pit_8254.specs.Laws.{Happening, Pulse, Read, Latch, after, pulses_in, IsComplete, Waits, ServesCycle}
use Rattle.pit_8254.proofs.Pulses.{Stands, stands_start, out_stands, held_stands, full_some, again, once, turns_once, again_stands, low_rate, rate_two}

-- a counter with a count, by its fields
abbrev pub counting : Mode → Access → Option ℕ → ℕ → Option ℕ → ℕ → Option ℕ → Bool → Counter
counting mode access low c next q latch high =
    record { mode = mode; access = access; low = low; count = Some c; next = next; pulses = q; latch = latch; high_byte_next = high }

-- a counter with the count c and, in next, the one that waits; its pulses are q
pub record Counts (mode : Mode) (c : ℕ) (next : Option ℕ) (q : ℕ) (k : Counter) : Type 0 where
  pub access : Access
  pub low : Option ℕ
  pub latch : Option ℕ
  pub high : Bool
  pub is : k ≡ counting mode access low c next q latch high

-- reads and latch commands leave all of this
read_kept : (mode : Mode) (a : Access) (low : Option ℕ) (c : ℕ) (next : Option ℕ) (q : ℕ) (la : Option ℕ) (h : Bool) → Counts mode c next q (after_read (counting mode a low c next q la h))
read_kept mode LowByte low c next q la h = record { access = LowByte; low = low; latch = None; high = h; is = refl }
read_kept mode HighByte low c next q la h = record { access = HighByte; low = low; latch = None; high = h; is = refl }
read_kept mode LowThenHigh low c next q la true = record { access = LowThenHigh; low = low; latch = None; high = false; is = refl }
read_kept mode LowThenHigh low c next q la false = record { access = LowThenHigh; low = low; latch = la; high = true; is = refl }

latch_kept : (mode : Mode) (a : Access) (low : Option ℕ) (c : ℕ) (next : Option ℕ) (q : ℕ) (la : Option ℕ) (h : Bool) → Counts mode c next q (latched (counting mode a low c next q la h))
latch_kept mode a low c next q None h = record { access = a; low = low; latch = Some (held_at mode (full_count mode c) q); high = h; is = refl }
latch_kept mode a low c next q (Some n) h = record { access = a; low = low; latch = Some n; high = h; is = refl }

pub after-read : (mode : Mode) (c : ℕ) (next : Option ℕ) (q : ℕ) (k : Counter) → Counts mode c next q k → Counts mode c next q (after_read k)
after-read mode c next q k h = subst (λ x. Counts mode c next q (after_read x)) (sym h.is) (read_kept mode h.access h.low c next q h.latch h.high)

pub after-latch : (mode : Mode) (c : ℕ) (next : Option ℕ) (q : ℕ) (k : Counter) → Counts mode c next q k → Counts mode c next q (latched k)
after-latch mode c next q k h = subst (λ x. Counts mode c next q (latched x)) (sym h.is) (latch_kept mode h.access h.low c next q h.latch h.high)

-- the counter at m pulses since its count was complete
pub record IsAt (mode : Mode) (c m : ℕ) (k : Counter) : Type 0 where
  pub kept : ℕ
  pub counts : Counts mode c None kept k
  pub stands : Stands mode (full_count mode c) kept m

by_fields : (mode : Mode) (a : Access) (low : Option ℕ) (c : ℕ) (next : Option ℕ) (q : ℕ) (la : Option ℕ) (h : Bool) → Counts mode c next q (counting mode a low c next q la h)
by_fields mode a low c next q la h = record { access = a; low = low; latch = la; high = h; is = refl }

pulse_at : (mode : Mode) (a : Access) (low : Option ℕ) (c : ℕ) (q : ℕ) (la : Option ℕ) (h : Bool) (m : ℕ) → Stands mode (full_count mode c) q m → IsAt mode c (suc m) (pulsed (counting mode a low c None q la h))
pulse_at Unset a low c q la h m s = record { kept = q; counts = by_fields Unset a low c None q la h; stands = tt }
pulse_at TerminalCount a low c q la h m s =
    let n = full_count TerminalCount c in
    record { kept = once n q; counts = by_fields TerminalCount a low c None (once n q) la h; stands = turns_once n q m s }
pulse_at RateGenerator a low c q la h m s =
    let n = full_count RateGenerator c in
    let e : pulsed (counting RateGenerator a low c None q la h) ≡ counting RateGenerator a low c None (again n q) la h = grind arith in
    record { kept = again n q; counts = record { access = a; low = low; latch = la; high = h; is = e }; stands = inr (again_stands n q m (full_some RateGenerator c) s) }
pulse_at SquareWave a low c q la h m s =
    let n = full_count SquareWave c in
    let e : pulsed (counting SquareWave a low c None q la h) ≡ counting SquareWave a low c None (again n q) la h = grind arith in
    record { kept = again n q; counts = record { access = a; low = low; latch = la; high = h; is = e }; stands = inr (again_stands n q m (full_some SquareWave c) s) }

one_pulse : (mode : Mode) (c m : ℕ) (k : Counter) → IsAt mode c m k → IsAt mode c (suc m) (pulsed k)
one_pulse mode c m k h =
    let f = h.counts in
    subst (λ x. IsAt mode c (suc m) (pulsed x)) (sym f.is) (pulse_at mode f.access f.low c h.kept f.latch f.high m h.stands)

pulses_in-pulse : (hs : List Happening) → pulses_in (Pulse ∷ hs) ≡ suc (pulses_in hs)
pulses_in-pulse hs = refl

pub run_at : (mode : Mode) (c m : ℕ) (hs : List Happening) (k : Counter) → IsAt mode c m k → IsAt mode c (m + pulses_in hs) (after hs k)
run_at mode c m [] k h = subst (λ n. IsAt mode c n k) (omega arith) h
run_at mode c m (Pulse ∷ hs) k h =
    let e : suc m + pulses_in hs ≡ m + pulses_in (Pulse ∷ hs) = omega (arith, pulses_in-pulse hs) in
    subst (λ n. IsAt mode c n (after hs (pulsed k))) e (run_at mode c (suc m) hs (pulsed k) (one_pulse mode c m k h))
run_at mode c m (Read ∷ hs) k h =
    run_at mode c m hs (after_read k) (record { kept = h.kept; counts = after-read mode c None h.kept k h.counts; stands = h.stands })
run_at mode c m (Latch ∷ hs) k h =
    run_at mode c m hs (latched k) (record { kept = h.kept; counts = after-latch mode c None h.kept k h.counts; stands = h.stands })

-- a counter whose count was just complete, by its fields
complete_fields : (mode : Mode) (a : Access) (low count next : Option ℕ) (q : ℕ) (la : Option ℕ) (h : Bool) (c : ℕ) → count ≡ Some c → next ≡ None → q ≡ 0
    → let k : Counter = record { mode = mode; access = a; low = low; count = count; next = next; pulses = q; latch = la; high_byte_next = h } in
    k ≡ counting mode a low c None 0 la h
complete_fields mode a low count next q la h c e f g = cc

start_at : (k : Counter) (c : ℕ) → IsComplete c k → IsAt k.mode c 0 k
start_at k c h = record {
  kept = 0;
  counts = record { access = k.access; low = k.low; latch = k.latch; high = k.high_byte_next; is = complete_fields k.mode k.access k.low k.count k.next k.pulses k.latch k.high_byte_next c h.counts h.none_waits h.at_start };
  stands = stands_start k.mode (full_count k.mode c);
}

pub follows : (k : Counter) (c : ℕ) (hs : List Happening) → IsComplete c k
    → (out_of (after hs k) ≡ out_at k.mode (full_count k.mode c) (pulses_in hs)) × (held_of (after hs k) ≡ held_at k.mode (full_count k.mode c) (pulses_in hs))
follows k c hs h =
    let n = full_count k.mode c in
    let r = run_at k.mode c 0 hs k (start_at k c h) in
    let e : 0 + pulses_in hs ≡ pulses_in hs = omega arith in (
      ap out_of r.counts.is ∙ (out_stands k.mode n r.kept (0 + pulses_in hs) r.stands ∙ ap (out_at k.mode n) e),
      ap held_of r.counts.is ∙ (held_stands k.mode n r.kept (0 + pulses_in hs) r.stands ∙ ap (held_at k.mode n) e),
    )

pub rises : (k : Counter) (c : ℕ) (hs : List Happening) → IsComplete c k → k.mode ≡ TerminalCount → out_of (after hs k) ≡ nat_lt (full_count TerminalCount c) (pulses_in hs)
rises k c hs h e = (follows k c hs h).0 ∙ (ap (λ x. out_at x (full_count x c) (pulses_in hs)) e ∙ grind (arith, nat_tests))

low_at : (n q : ℕ) → 2 ≤ n → 0 < q → out_at RateGenerator n q ≡ not (q % n == 0)
low_at n zero two some = absurd (omega arith)
low_at n (suc q) two some = low_rate n q two

pub is_low : (k : Counter) (c : ℕ) (hs : List Happening) → IsComplete c k → k.mode ≡ RateGenerator → 0 < pulses_in hs → out_of (after hs k) ≡ not (pulses_in hs % full_count RateGenerator c == 0)
is_low k c hs h e some = (follows k c hs h).0 ∙ (ap (λ x. out_at x (full_count x c) (pulses_in hs)) e ∙ low_at (full_count RateGenerator c) (pulses_in hs) (rate_two c) some)

-- with a count that waits, a pulse before the cycle's end is one more of the old count, and the next one begins with the new count
record Repeats (mode : Mode) : Type 0 where
  one_more : (a : Access) (low : Option ℕ) (c d q : ℕ) (la : Option ℕ) (h : Bool) → q < full_count mode c → pulsed (counting mode a low c (Some d) q la h) ≡ counting mode a low c (Some d) (q + 1) la h
  first : (a : Access) (low : Option ℕ) (c d q : ℕ) (la : Option ℕ) (h : Bool) → q ≡ full_count mode c → pulsed (counting mode a low c (Some d) q la h) ≡ counting mode a low d None 1 la h

rate_repeats : Repeats RateGenerator
rate_repeats = record {
  one_more = λ a low c d q la h l. (let e : nat_lt q (full_count RateGenerator c) ≡ true = grind (arith, nat_tests) in rw e refl);
  first = λ a low c d q la h l. (let e : nat_lt q (full_count RateGenerator c) ≡ false = grind (arith, nat_tests) in rw e refl);
}

square_repeats : Repeats SquareWave
square_repeats = record {
  one_more = λ a low c d q la h l. (let e : nat_lt q (full_count SquareWave c) ≡ true = grind (arith, nat_tests) in rw e refl);
  first = λ a low c d q la h l. (let e : nat_lt q (full_count SquareWave c) ≡ false = grind (arith, nat_tests) in rw e refl);
}

repeats_of : (k : Counter) (c d : ℕ) → Waits c d k → Repeats k.mode
repeats_of k c d w = elim w.repeats [ inl e ↦ subst Repeats (sym e) rate_repeats | inr e ↦ subst Repeats (sym e) square_repeats ]

waiting_pulse : (mode : Mode) (c d q : ℕ) (k : Counter) → Repeats mode → q < full_count mode c → Counts mode c (Some d) q k → Counts mode c (Some d) (q + 1) (pulsed k)
waiting_pulse mode c d q k r l h = record { access = h.access; low = h.low; latch = h.latch; high = h.high; is = ap pulsed h.is ∙ r.one_more h.access h.low c d q h.latch h.high l }

waiting_run : (mode : Mode) (c d q : ℕ) (hs : List Happening) (k : Counter) → Repeats mode → q + pulses_in hs ≤ full_count mode c → Counts mode c (Some d) q k → Counts mode c (Some d) (q + pulses_in hs) (after hs k)
waiting_run mode c d q [] k r l h = subst (λ n. Counts mode c (Some d) n k) (omega arith) h
waiting_run mode c d q (Pulse ∷ hs) k r l h =
    let e : q + 1 + pulses_in hs ≡ q + pulses_in (Pulse ∷ hs) = omega (arith, pulses_in-pulse hs) in
    subst (λ n. Counts mode c (Some d) n (after hs (pulsed k))) e (waiting_run mode c d (q + 1) hs (pulsed k) r (omega (arith, l, e)) (waiting_pulse mode c d q k r (omega (arith, l, e)) h))
waiting_run mode c d q (Read ∷ hs) k r l h = waiting_run mode c d q hs (after_read k) r l (after-read mode c (Some d) q k h)
waiting_run mode c d q (Latch ∷ hs) k r l h = waiting_run mode c d q hs (latched k) r l (after-latch mode c (Some d) q k h)

waiting_fields : (mode : Mode) (a : Access) (low count next : Option ℕ) (q : ℕ) (la : Option ℕ) (h : Bool) (c d : ℕ) → count ≡ Some c → next ≡ Some d
    → let k : Counter = record { mode = mode; access = a; low = low; count = count; next = next; pulses = q; latch = la; high_byte_next = h } in
    k ≡ counting mode a low c (Some d) q la h
waiting_fields mode a low count next q la h c d e f = cc

waiting_start : (k : Counter) (c d : ℕ) → Waits c d k → Counts k.mode c (Some d) k.pulses k
waiting_start k c d w = record { access = k.access; low = k.low; latch = k.latch; high = k.high_byte_next; is = waiting_fields k.mode k.access k.low k.count k.next k.pulses k.latch k.high_byte_next c d w.counts w.waits }

begun : (k : Counter) (c d : ℕ) (hs : List Happening) → Waits c d k → k.pulses + pulses_in hs ≡ full_count k.mode c → Counts k.mode d None 1 (pulsed (after hs k))
begun k c d hs w e =
    let r = repeats_of k c d w in
    let h = waiting_run k.mode c d k.pulses hs k r (omega (arith, e)) (waiting_start k c d w) in
    record { access = h.access; low = h.low; latch = h.latch; high = h.high; is = ap pulsed h.is ∙ r.first h.access h.low c d (k.pulses + pulses_in hs) h.latch h.high e }

pub serves : (k : Counter) (c d : ℕ) (hs : List Happening) → Waits c d k → ServesCycle c d k hs
serves k c d hs w =
    let r = repeats_of k c d w in
    let s = waiting_start k c d w in
    record {
      old_out = λ l. ap out_of (waiting_run k.mode c d k.pulses hs k r l s).is;
      old_count = λ l. ap held_of (waiting_run k.mode c d k.pulses hs k r l s).is;
      new_out = λ e. ap out_of (begun k c d hs w e).is;
      new_count = λ e. ap held_of (begun k c d hs w e).is;
    }
