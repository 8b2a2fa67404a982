-- What the answers to calls hand out.
use Rattle.std.proofs.Common.{◌≡◌, ℕ, List, [], length, refl, Option, Some, None}
use Rattle.std.specs.Prelude.{nat_lt, ◌+◌}
use Rattle.std.proofs.lemmas.Bool.{cases_Bool}
use Rattle.std.proofs.Common.{inl, inr}
use Rattle.rt_fifos.specs.Fifos.{Fifo, fifo_at, put_into, put_reply}

put_hands_out : (fifo : ℕ) (bytes : List ℕ) (fifos : List (Option Fifo)) (there : Option Fifo) → (put_into fifo bytes fifos there).bytes ≡ []
put_hands_out fifo bytes fifos None = refl
put_hands_out fifo bytes fifos (Some f) = elim (cases_Bool (nat_lt f.size (length f.bytes + length bytes))) [
  | inl full ↦ rw full refl
  | inr fits ↦ rw fits refl
]

-- a put hands out none
pub nothing_out : (fifo : ℕ) (bytes : List ℕ) (fifos : List (Option Fifo)) → (put_reply fifo bytes fifos).bytes ≡ []
unfolding put_reply
nothing_out fifo bytes fifos = put_hands_out fifo bytes fifos (fifo_at fifos fifo)
