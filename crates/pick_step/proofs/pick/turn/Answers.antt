use Rattle.std.proofs.Common.{◌∙◌}
use Rattle.pic_8259.specs.Controllers.{latch_of}
use Rattle.pick_step.proofs.Turning.{turn_leaves}
use Rattle.pick_step.proofs.pick.turn.Goals as goal

pub returns-clause-turned : goal.returns-clause-turned
returns-clause-turned c = λ m none run.
    turn_leaves c.args.who
    (record m { processor = c.args.processor.now; all = c.args.all.now; memory = c.args.memory.now; modules = c.args.inits.now })
    c.switch.new.registers c.begin.new.registers c.switch.new.kept c.switch.new.threads
    c.begin.new.irqs c.begin.new.fifos c.begin.new.memory c.begin.new.inits
    c.switch.ensures.threads (c.begin.ensures.threads c.switch.new.threads) c.requires.idle c.requires.runs
    (λ x. c.begin.ensures.started (latch_of m.board.pair) x none)
    (c.begin.ensures.guest c.switch.new.kept ∙ c.switch.ensures.guest)
    c.begin.ensures.bytes c.begin.ensures.sizes c.begin.ensures.held c.begin.ensures.lines run
