use Rattle.std.proofs.Common.{◌≡◌, ◌∙◌, ap, arith, length, subst, sym, false}
use Rattle.line_sets.specs.LineSet.{has, union}
use Rattle.pic_8259.specs.Controllers.{latch_of}
use Rattle.hard_dispatch.specs.Sets.{asked_lines}
use Rattle.trace_lines.specs.TickLines.{TickLines}
use Rattle.drain_step.proofs.Parts.{IsServed, step_at}
use Rattle.drain_step.proofs.Steps.{few_acks, IsTaken, IsTimed, with_timer, without_timer}
use Rattle.drain_step.proofs.step.drain_standing.Goals as goal

pub serve_timer-requires-clause-room : goal.serve_timer-requires-clause-room
serve_timer-requires-clause-room c =
    let d = c.drain_board-drained in
    let few = few_acks c.args.now 0 c.args.board.now d.new.board c.args.all.now.irqs d.new.irqs c.args.lines.now d.new.lines
    (record { board = d.ensures.after; marks = d.ensures.marked; hardware = d.ensures.hardware; rest = d.ensures.lines }) in
    let same = ap (λ (l : TickLines). length l.r) d.ensures.lines in
    let room = c.requires.room in
    (omega (arith, same, room.0), omega (arith, few, room.1))

pub returns-then-drained-clause-drained : goal.returns-then-drained-clause-drained
returns-then-drained-clause-drained c = λ m e run.
    let now = c.args.now in
    let d = c.drain_board-drained in
    let s = c.serve_timer in
    let b = c.args.board.now in
    let all = c.args.all.now in
    let g = c.args.guest.now in
    let last = c.args.last.now in
    let lines = c.args.lines.now in
    let taken : IsTaken b d.new.board all.irqs d.new.irqs lines d.new.lines =
    record { board = d.ensures.after; marks = d.ensures.marked; hardware = d.ensures.hardware; rest = d.ensures.lines } in
    let marks : c.mark_all.new.self ≡ asked_lines (latch_of b.pair) all.irqs g.pending =
    c.mark_all.ensures ∙ ap (union g.pending) (c.from.ensures ∙ d.ensures.guest) in
    let given = record all { irqs = d.new.irqs } in
    let timed : IsTimed now d.new.board s.new.board given s.new.all (record g { pending = c.mark_all.new.self }) s.new.guest d.new.lines s.new.lines =
    record {
      released = s.ensures.released;
      agrees = s.ensures.agrees;
      due = s.ensures.due;
      version = s.ensures.version;
      irqs = s.ensures.irqs;
      guest = s.ensures.guest;
      rest = s.ensures.rest;
      board = s.ensures.board;
      hardware = s.ensures.hardware;
      lines = s.ensures.guest_lines;
    } in
    let served = with_timer now b d.new.board s.new.board all d.new.irqs s.new.all g s.new.guest last lines d.new.lines s.new.lines taken
    (subst (λ n. IsTimed now d.new.board s.new.board given s.new.all (record g { pending = n }) s.new.guest d.new.lines s.new.lines) marks timed)
    d.ensures.irqs (sym d.ensures.timer ∙ c.if-drained.true) in
    step_at now b s.new.board all s.new.all g s.new.guest last s.new.last lines s.new.lines
    (subst (λ n. IsServed now b s.new.board all s.new.all g s.new.guest last n lines s.new.lines) (sym s.ensures.last) served) m e run

pub returns-then-drained-clause-few : goal.returns-then-drained-clause-few
returns-then-drained-clause-few c =
    let d = c.drain_board-drained in
    let few = few_acks c.args.now 0 c.args.board.now d.new.board c.args.all.now.irqs d.new.irqs c.args.lines.now d.new.lines
    (record { board = d.ensures.after; marks = d.ensures.marked; hardware = d.ensures.hardware; rest = d.ensures.lines }) in
    let same = ap (λ (l : TickLines). length l.r) d.ensures.lines in
    let more = c.serve_timer.ensures.few in
    (omega (arith, same, more.0), omega (arith, few, more.1))

pub returns-else-drained-clause-drained : goal.returns-else-drained-clause-drained
returns-else-drained-clause-drained c = λ m e run.
    let now = c.args.now in
    let d = c.drain_board-drained in
    let b = c.args.board.now in
    let all = c.args.all.now in
    let g = c.args.guest.now in
    let last = c.args.last.now in
    let lines = c.args.lines.now in
    let taken : IsTaken b d.new.board all.irqs d.new.irqs lines d.new.lines =
    record { board = d.ensures.after; marks = d.ensures.marked; hardware = d.ensures.hardware; rest = d.ensures.lines } in
    let marks : c.mark_all.new.self ≡ asked_lines (latch_of b.pair) all.irqs g.pending =
    c.mark_all.ensures ∙ ap (union g.pending) (c.from.ensures ∙ d.ensures.guest) in
    let closed : has (latch_of b.pair) 0 ≡ false = sym d.ensures.timer ∙ c.if-drained.false in
    let given = record all { irqs = d.new.irqs } in
    let served = without_timer now b d.new.board all d.new.irqs g last lines d.new.lines taken d.ensures.board d.ensures.irqs c.requires.agrees
    (c.requires.calm closed) closed in
    step_at now b d.new.board all given g (record g { pending = c.mark_all.new.self }) last last lines d.new.lines
    (subst (λ n. IsServed now b d.new.board all given g (record g { pending = n }) last last lines d.new.lines) (sym marks) served) m e run
