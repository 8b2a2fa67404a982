-- FIFOs between the guest and the real-time side (RTLinux 3, rtf_create, rtf_put, rtf_get and their kin). That a put is whole or refused,
-- and a get takes what is there, is this project's own. FIFO n is at place n of 64.
use Rattle.std.specs.Prelude.{ℕ, ◌+◌, ◌==◌, nat_lt, nat_le, Bool, true, false, ◌&&◌, List, [], ◌++◌, length, take, drop, position, slice_index_or, slice_set, if◌then◌else◌, Option, Some, None, is_some, unwrap_or, ℤ, pos}
use Rattle.rt_constants.specs.Errors.{failed}
use Rattle.rt_constants.specs.declared.errors.TheConstants.{EBUSY, ENODEV, EINVAL, ENOSPC}
use Rattle.rt_constants.specs.declared.limits.TheConstants.{FIFOS_LIMIT, FIFO_LIMIT}

-- how many bytes it holds at most, those that it holds, the entry of its handler, and whether that is marked to start
pub record Fifo : Type 0 where
  pub size : ℕ
  pub bytes : List ℕ
  pub handler : Option ℕ
  pub mark : Bool

abbrev pub fifo_at : List (Option Fifo) → ℕ → Option Fifo
fifo_at fifos f = slice_index_or fifos f None

abbrev pub with_fifo : ℕ → Option Fifo → List (Option Fifo) → List (Option Fifo)
with_fifo f fifo fifos = slice_set fifos f fifo

-- what a call on a FIFO answers: a result, the bytes that it takes out, and the FIFOs after it
pub record FifoReply : Type 0 where
  pub result : ℤ
  pub bytes : List ℕ
  pub fifos : List (Option Fifo)

-- it fails, and changes nothing
abbrev pub no_reply : ℕ → List (Option Fifo) → FifoReply
no_reply error fifos = record { result = failed error; bytes = []; fifos = fifos }

-- it succeeds, takes no bytes out, and leaves these FIFOs
abbrev pub replies : ℕ → List (Option Fifo) → FifoReply
replies result fifos = record { result = pos result; bytes = []; fifos = fifos }

-- Bytes

-- they are appended where all of them fit
abbrev pub put_into : ℕ → List ℕ → List (Option Fifo) → Option Fifo → FifoReply
put_into f bytes fifos None = no_reply ENODEV fifos
put_into f bytes fifos (Some fifo) =
    if nat_lt fifo.size (length fifo.bytes + length bytes) then no_reply ENOSPC fifos
    else replies (length bytes) (with_fifo f (Some (record fifo { bytes = fifo.bytes ++ bytes })) fifos)

unfoldable pub put_reply : ℕ → List ℕ → List (Option Fifo) → FifoReply
put_reply f bytes fifos = put_into f bytes fifos (fifo_at fifos f)

-- the first bytes leave, at most so many
abbrev pub got_from : ℕ → ℕ → List (Option Fifo) → Option Fifo → FifoReply
got_from f count fifos None = no_reply ENODEV fifos
got_from f count fifos (Some fifo) = record {
  result = pos (length (take count fifo.bytes));
  bytes = take count fifo.bytes;
  fifos = with_fifo f (Some (record fifo { bytes = drop count fifo.bytes })) fifos;
}

unfoldable pub get_reply : ℕ → ℕ → List (Option Fifo) → FifoReply
get_reply f count fifos = got_from f count fifos (fifo_at fifos f)

-- Marks: a FIFO's handler is marked to start, if it has one

abbrev pub marked_in : Option Fifo → Option Fifo
marked_in None = None
marked_in (Some fifo) = Some (if is_some fifo.handler then record fifo { mark = true } else fifo)

unfoldable pub with_mark : ℕ → List (Option Fifo) → List (Option Fifo)
with_mark f fifos = with_fifo f (marked_in (fifo_at fifos f)) fifos

-- the mark is cleared, as the handler starts
abbrev pub unmarked_in : Option Fifo → Option Fifo
unmarked_in None = None
unmarked_in (Some fifo) = Some (record fifo { mark = false })

unfoldable pub without_mark : ℕ → List (Option Fifo) → List (Option Fifo)
without_mark f fifos = with_fifo f (unmarked_in (fifo_at fifos f)) fifos

-- the marked FIFO of lowest number, and the entry of its handler
abbrev pub is_marked : Option Fifo → Bool
is_marked None = false
is_marked (Some fifo) = fifo.mark

abbrev pub next_marked : List (Option Fifo) → Option ℕ
next_marked fifos = position is_marked fifos

abbrev pub handler_in : Option Fifo → ℕ
handler_in None = 0
handler_in (Some fifo) = unwrap_or fifo.handler 0

-- A FIFO loses its handler, and the mark with it

abbrev pub unhandled : Fifo → Fifo
unhandled fifo = record fifo { handler = None; mark = false }

abbrev pub unset_in : Option Fifo → Option Fifo
unset_in None = None
unset_in (Some fifo) = Some (unhandled fifo)

unfoldable pub without_handler : ℕ → List (Option Fifo) → List (Option Fifo)
without_handler f fifos = with_fifo f (unset_in (fifo_at fifos f)) fifos

-- Creation: a FIFO of 0 to 63 holds up to so many bytes, 1 to 16,384

abbrev pub new_fifo : ℕ → Fifo
new_fifo size = record { size = size; bytes = []; handler = None; mark = false }

abbrev pub is_creatable : ℕ → ℕ → Bool
is_creatable f size = nat_lt f FIFOS_LIMIT && (nat_le 1 size && nat_le size FIFO_LIMIT)

abbrev pub create_reply : ℕ → ℕ → List (Option Fifo) → FifoReply
create_reply f size fifos =
    if is_creatable f size then (
    if is_some (fifo_at fifos f) then no_reply EBUSY fifos
    else replies 0 (with_fifo f (Some (new_fifo size)) fifos))
    else no_reply EINVAL fifos

-- What is asked of a FIFO that there is to be

abbrev pub on_fifo : List (Option Fifo) → Option Fifo → (Fifo → FifoReply) → FifoReply
on_fifo fifos None reply = no_reply ENODEV fifos
on_fifo fifos (Some fifo) reply = reply fifo

-- it is gone, with its bytes, its handler and its mark
abbrev pub destroy_reply : ℕ → List (Option Fifo) → FifoReply
destroy_reply f fifos = on_fifo fifos (fifo_at fifos f) (λ fifo. replies 0 (with_fifo f None fifos))

-- its bytes are gone, and its mark stays
abbrev pub flushed : Fifo → Fifo
flushed fifo = record fifo { bytes = [] }

abbrev pub flush_reply : ℕ → List (Option Fifo) → FifoReply
flush_reply f fifos = on_fifo fifos (fifo_at fifos f) (λ fifo. replies 0 (with_fifo f (Some (flushed fifo)) fifos))

-- its handler is at this entry, and a mark stays; 0 takes the handler away, with its mark
abbrev pub with_handler : ℕ → Fifo → Fifo
with_handler entry fifo = if entry == 0 then unhandled fifo else record fifo { handler = Some entry }

abbrev pub set_handler_reply : ℕ → ℕ → List (Option Fifo) → FifoReply
set_handler_reply f entry fifos = on_fifo fifos (fifo_at fifos f) (λ fifo. replies 0 (with_fifo f (Some (with_handler entry fifo)) fifos))

-- how many bytes wait in it
abbrev pub count_reply : ℕ → List (Option Fifo) → FifoReply
count_reply f fifos = on_fifo fifos (fifo_at fifos f) (λ fifo. replies (length fifo.bytes) fifos)
