-- What an activity leaves: a FIFO's handler goes as by entry 0, and a thread as by gate 3.
use Rattle.std.proofs.Common.{◌≡◌, ℕ, ℤ, Bool, true, false, List, refl, sym, ap, ◌∙◌, Option, Some, None}
use Rattle.std.specs.Prelude.{IsTrue, if◌then◌else◌}
use Rattle.std.proofs.lemmas.List.{set-get_or}
use Rattle.rt_fifos.specs.Fifos.{Fifo, fifo_at, on_fifo, replies, set_handler_reply, unset_in, with_fifo, with_handler, without_handler}
use Rattle.memory_model.specs.Side.{Side}
use Rattle.rt_threads.specs.Threads.{is_live}
use Rattle.gate_table.specs.Gates.{Answered, GateParts, answers, deleted, fails, pthread_delete, succeeds}
use Rattle.executive.specs.declared.executive.Executive.{Executive}
use Rattle.executive.specs.Parts.{gate_parts, IsAnswered}

unhandled_in : (f : ℕ) (fifos : List (Option Fifo)) (slot : Option Fifo) → fifo_at fifos f ≡ slot
    → with_fifo f (unset_in slot) fifos ≡ (on_fifo fifos slot (λ fifo. replies 0 (with_fifo f (Some (with_handler 0 fifo)) fifos))).fifos
unhandled_in f fifos None e = ap (λ s. with_fifo f s fifos) (sym e) ∙ set-get_or fifos f None
unhandled_in f fifos (Some fifo) e = refl

pub unhandled_by_entry : (f : ℕ) (fifos : List (Option Fifo)) → without_handler f fifos ≡ (set_handler_reply f 0 fifos).fifos
unfolding without_handler
unhandled_by_entry f fifos = unhandled_in f fifos (fifo_at fifos f) refl

live_after : (live : Bool) (a b : Answered) (z : ℤ) (after : GateParts) → IsTrue live → (if live then a else b) ≡ answers z after → a.after ≡ after
live_after true a b z after live e = ap (λ (x : Answered). x.after) e
live_after false a b z after live e = absurd (let g : false ≡ true = live in cc)

pub deleted_live : (i : ℕ) (z : ℤ) (old new : Executive) (latch : ℕ) (side : Side) → IsTrue (is_live old.threads i) → IsAnswered (pthread_delete i) z old new
    → deleted i (gate_parts latch side old) ≡ gate_parts latch side new
deleted_live i z old new latch side live answer =
    let p = gate_parts latch side old in
    live_after (is_live old.threads i) (succeeds 0 (deleted i p)) (fails 22 p) z (gate_parts latch side new) live (answer latch side)
