use Rattle.std.proofs.Common.{arith, sym, ap, ◌∙◌}
use Rattle.machine_state.specs.Inits.{next_number}
use Rattle.machine_state.proofs.NextInit.{next_gone, next_there}
use Rattle.machine_state.proofs.inits.Inits.next_number.Goals as goal

pub returns-then-self-len : goal.returns-then-self-len
returns-then-self-len c =
    let inside = c.if-self-len.true in
    sym (ap next_number (next_there c.self.inside.entries.items c.self.inside.next (omega (arith, inside, c.len.ensures)))) ∙ ap next_number c.self.view_is

pub returns-else-self-len : goal.returns-else-self-len
returns-else-self-len c =
    let past = c.if-self-len.false in
    sym (ap next_number (next_gone c.self.inside.entries.items c.self.inside.next (omega (arith, past, c.len.ensures)))) ∙ ap next_number c.self.view_is
