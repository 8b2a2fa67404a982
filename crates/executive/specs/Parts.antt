-- What an executive stands for among the parts that gates use, with the side, where these lines are latched: a latched line that a
-- module holds counts as marked.
use Rattle.std.specs.Prelude.{◌≡◌, ℕ, ℤ}
use Rattle.memory_model.specs.Side.{Side}
use Rattle.rt_ready.specs.Order.{arrivals}
use Rattle.hard_dispatch.specs.Sets.{marked_lines}
use Rattle.gate_table.specs.Gates.{GateParts, Answered, answers}
use Rattle.executive.specs.declared.executive.Executive.{Executive}

abbrev pub gate_parts : ℕ → Side → Executive → GateParts
gate_parts latch side all = record {
  threads = all.threads;
  ready = arrivals all.ready.places;
  irqs = marked_lines latch all.irqs;
  fifos = all.fifos;
  side = side;
}

-- a row of the table of gates answers this, and leaves what the executive stands for afterwards, whatever the side is and whatever
-- lines are latched
abbrev pub IsAnswered : (GateParts → Answered) → ℤ → Executive → Executive → Type 0
IsAnswered row result old new = (latch : ℕ) (side : Side) → row (gate_parts latch side old) ≡ answers result (gate_parts latch side new)
