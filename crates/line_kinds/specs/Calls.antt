-- The guest's calls on FIFOs, as its lines show them.
use Rattle.std.specs.Prelude.{ℕ, List, Option, Some, None}
use Rattle.line_kinds.specs.declared.kinds.GLine.{GLine}
use Rattle.line_kinds.specs.declared.kinds.GLine.TheVariants.{Put, Get}

-- a put of bytes into a FIFO, or a get of at most so many
pub data Call : Type 0 where
  PutCall : (fifo : ℕ) (bytes : List ℕ) → Call
  GetCall : (fifo count : ℕ) → Call

abbrev pub call_in : GLine → Option Call
call_in (Put fifo bytes) = Some (PutCall fifo bytes)
call_in (Get fifo count) = Some (GetCall fifo count)
call_in _ = None
