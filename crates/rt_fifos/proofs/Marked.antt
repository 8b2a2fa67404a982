-- The first marked FIFO is marked.
use Rattle.std.proofs.Common.{◌≡◌, true, sym, List, ℕ, Option, Some, None, IfSome}
use Rattle.std.proofs.lemmas.List.Quantifiers.{position-Some}
use Rattle.rt_fifos.specs.Fifos.{Fifo, fifo_at, is_marked, next_marked}

pub marked_there : (fifos : List (Option Fifo)) (o : Option ℕ) → o ≡ next_marked fifos → IfSome o (λ f. is_marked (fifo_at fifos f) ≡ true)
marked_there fifos None e = tt
marked_there fifos (Some f) e = (position-Some is_marked fifos f None (sym e)).1
