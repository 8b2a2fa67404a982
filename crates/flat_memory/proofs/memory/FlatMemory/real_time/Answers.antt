use Rattle.std.proofs.Common.{refl, ◌∙◌, ap}
use Rattle.flat_memory.specs.Lent.{with_real_time}
use Rattle.flat_memory.proofs.Writes.{real_view, back_range}
use Rattle.flat_memory.proofs.memory.FlatMemory.real_time.Goals as goal

pub returns : goal.returns
returns c = ((refl, λ w. real_view c.self.inside.bytes.items c.self.inside.guest_size c.self.inside.bytes.len w c.self.invariant c.self.inside.bytes.ok.0 ∙ ap (λ p. with_real_time p w) c.self.view_is), record { writes_back = tt; lent = c.slice_mut.ensures.value ∙ back_range c.self.inside.bytes.items c.self.inside.guest_size c.self.inside.bytes.len c.self.invariant c.self.inside.bytes.ok.0 ∙ ap (λ p. p.real_time) c.self.view_is })
