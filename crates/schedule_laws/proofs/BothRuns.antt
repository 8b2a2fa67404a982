-- The two machines side by side are the run that the definitions give.
use Rattle.std.proofs.Common.{◌≡◌, ℕ, zero, suc, ◌<◌, ◌≤◌, Bool, refl, sym, ap, ◌∙◌, arith, List, Option, Some, None, ◌⊎◌, inl, inr}
use Rattle.line_kinds.specs.declared.kinds.RLine.{RLine}
use Rattle.line_kinds.specs.declared.kinds.Who.{Who}
use Rattle.line_kinds.specs.Calls.{Call}
use Rattle.line_sets.specs.LineSet.{has}
use Rattle.rt_irqs.specs.Irqs.{is_held}
use Rattle.run_lines.specs.Calls.{calls_of}
use Rattle.run_lines.specs.Says.{holder, held}
use Rattle.run_lines.specs.Ticks.{at_tick}
use Rattle.run_lines.proofs.AtTick.{lines_to-same}
use Rattle.bare_machine.specs.Run.{bare_after, bare_end, bare_lines}
use Rattle.priority_schedule.specs.Run.{real_after, real_end, real_lines, real_time}
use Rattle.hardware_lines.specs.Hardware.{Hardware, Machines, machines_after, marking, hardware_after, hardware_lines}
use Rattle.hardware_lines.specs.RunStart.{RunStart}
use Rattle.run_output.specs.Merge.{tick_lines, merged, with_ends}
use Rattle.schedule_laws.specs.Both.{all_g, all_r, both_after, both_g, both_h, both_hardware, both_machines, both_r}
use Rattle.schedule_laws.specs.Laws.{BothRun, BothRuns}
use Rattle.schedule_laws.specs.Output.{run_lines, run_output}
use Rattle.schedule_laws.proofs.Solutions.{both_agrees, both_bare_lines, both_real_half, both_real_lines, both_solve}
use Rattle.schedule_laws.proofs.HeldReads.{run_holds}
use Rattle.schedule_laws.proofs.PriorityLaw.{run_read}

module _ (start : RunStart) (n : ℕ) where
  abbrev r : List (ℕ × RLine)
  r = all_r start n

  abbrev calls : List (ℕ × Call)
  calls = calls_of (all_g start n)

  machines_same : (k : ℕ) → k ≤ n → machines_after start r calls k ≡ both_machines start k
  unfolding machines_after
  machines_same k h =
      let a = both_agrees start n k h in
      ap (λ b. record { bare = b; real = real_after start.real start.script calls k }) a.bare_is ∙ ap (λ m. record { bare = (both_after start k).bare; real = m }) a.real_is

  hardware_same : (k : ℕ) → k ≤ n → hardware_after start r calls k ≡ both_hardware start k
  unfolding hardware_after both_hardware
  hardware_same zero h = refl
  hardware_same (suc k) h =
      let t = suc k in
      let events = at_tick t start.script in
      ap (λ (a : Machines). (marking t events a (machines_after start r calls t) (hardware_after start r calls k)).hardware) (machines_same k (omega arith))
      ∙ ap (λ (b : Machines). (marking t events (both_machines start k) b (hardware_after start r calls k)).hardware) (machines_same t h)
      ∙ ap (λ (x : Hardware). (marking t events (both_machines start k) (both_machines start t) x).hardware) (hardware_same k (omega arith))

  lines_same : (k : ℕ) → k < n → hardware_lines start r calls k ≡ both_h start k
  unfolding hardware_lines both_h
  lines_same k h =
      let t = suc k in
      let events = at_tick t start.script in
      ap (λ (a : Machines). (marking t events a (machines_after start r calls t) (hardware_after start r calls k)).lines) (machines_same k (omega arith))
      ∙ ap (λ (b : Machines). (marking t events (both_machines start k) b (hardware_after start r calls k)).lines) (machines_same t (omega (arith, h)))
      ∙ ap (λ (x : Hardware). (marking t events (both_machines start k) (both_machines start t) x).lines) (hardware_same k (omega arith))

  tick_same : (hardware : Bool) (k : ℕ) → k < n
      → tick_lines hardware (real_lines start.real start.script calls k) (hardware_lines start r calls k) (bare_lines start.guest start.script r k) ≡ tick_lines hardware (both_r start k) (both_h start k) (both_g start k)
  tick_same hardware k h =
      ap (λ x. tick_lines hardware x (hardware_lines start r calls k) (bare_lines start.guest start.script r k)) (both_real_lines start n k h)
      ∙ ap (λ x. tick_lines hardware (both_r start k) x (bare_lines start.guest start.script r k)) (lines_same k h)
      ∙ ap (tick_lines hardware (both_r start k) (both_h start k)) (both_bare_lines start n k h)

  output_same : (hardware : Bool) → run_output hardware start n r calls
      ≡ with_ends n (real_end (both_after start n).real) (bare_end (both_after start n).bare) (merged hardware (both_r start) (both_h start) (both_g start) n)
  output_same hardware =
      let a = both_agrees start n n (omega arith) in
      ap (λ m. with_ends n (real_end m) (bare_end (bare_after start.guest start.script r n)) (run_lines hardware start r calls n)) a.real_is
      ∙ ap (λ b. with_ends n (real_end (both_after start n).real) (bare_end b) (run_lines hardware start r calls n)) a.bare_is
      ∙ ap (with_ends n (real_end (both_after start n).real) (bare_end (both_after start n).bare))
      (lines_to-same (λ k. tick_lines hardware (real_lines start.real start.script calls k) (hardware_lines start r calls k) (bare_lines start.guest start.script r k))
      (λ k. tick_lines hardware (both_r start k) (both_h start k) (both_g start k)) n (tick_same hardware))

  held_same : (line : ℕ) → has (both_after start n).lines_held line ≡ is_held (both_after start n).real.irqs line
  held_same line =
      let a = both_agrees start n n (omega arith) in
      sym (ap (λ lines. has lines line) a.held_is)
      ∙ ap (λ r'. has (held n r') line) (both_real_half start n)
      ∙ (run_holds start.real start.script n calls n (omega arith)).same line
      ∙ ap (λ m. is_held m.irqs line) a.real_is

  holder_named : (o : Option Who) → (both_after start n).real.on ≡ o → (o ≡ None) ⊎ (o ≡ (both_after start n).who)
  holder_named None e = inl refl
  holder_named (Some w) e =
      let a = both_agrees start n n (omega arith) in
      let p = run_read start.real start.script n calls n (omega arith) in
      let says : holder n (real_time start.real start.script n calls) ≡ Some w = p.who_is ∙ p.is_read.on_is w (ap (λ m. m.on) a.real_is ∙ e) in
      inr (sym says ∙ sym (ap (holder n) (both_real_half start n)) ∙ a.who_is)

  pub both_run : BothRun start n
  both_run =
      let a = both_agrees start n n (omega arith) in
      record {
        solution = both_solve start n;
        output = output_same;
        bare = a.bare_is;
        real = a.real_is;
        hardware = hardware_same n (omega arith);
        who = a.who_is;
        lines_held = a.held_is;
        holds = held_same;
        holder = holder_named (both_after start n).real.on refl;
      }

pub both_runs : BothRuns
both_runs start n = both_run start n
