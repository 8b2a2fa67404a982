-- The bytes that a get's result counts.
use Rattle.std.proofs.Common.{◌≡◌, ◌++◌, ℕ, ℤ, List, take, drop, length, refl, Option, Some, None}
use Rattle.std.proofs.Math.Seq.{take-append_seam}
use Rattle.std.proofs.lemmas.List.{append_assoc}
use Rattle.rt_fifos.specs.Fifos.{Fifo, fifo_at, get_reply, got_from}
use Rattle.rt_fifos.specs.Room.{in_front}
use Rattle.module_gates.specs.Replies.{count_of}

-- bytes at the front of all
front : (xs ys zs : List ℕ) → take (length xs) ((xs ++ ys) ++ zs) ≡ xs
front xs ys zs = rw (append_assoc xs ys zs) (take-append_seam xs (ys ++ zs))

counted_in : (f n : ℕ) (fifos : List (Option Fifo)) (slot : Option Fifo) (z : ℤ) (into new rest : List ℕ)
    → z ≡ (got_from f n fifos slot).result → new ≡ in_front (got_from f n fifos slot).bytes into
    → take (count_of z) (new ++ rest) ≡ (got_from f n fifos slot).bytes
counted_in f n fifos None z into new rest e g = rw e refl
counted_in f n fifos (Some fifo) z into new rest e g = rw (e, g) (front (take n fifo.bytes) (drop (length (take n fifo.bytes)) into) rest)

-- asked for `m` bytes, which are `n`
pub counted : (f n m : ℕ) (fifos : List (Option Fifo)) (z : ℤ) (into new rest : List ℕ) → m ≡ n
    → z ≡ (get_reply f m fifos).result → new ≡ in_front (get_reply f m fifos).bytes into
    → take (count_of z) (new ++ rest) ≡ (get_reply f n fifos).bytes
unfolding get_reply
counted f n m fifos z into new rest same e g = rw (← same) (counted_in f m fifos (fifo_at fifos f) z into new rest e g)
