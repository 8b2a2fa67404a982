-- Which line a text is.
use Rattle.std.specs.Prelude.{ℕ, List, codes, if◌then◌else◌, Option, Some, None, option_map, bytes_eq}
use Rattle.line_kinds.specs.declared.kinds.RLine.{RLine}
use Rattle.line_kinds.specs.declared.kinds.RLine.TheVariants as r
use Rattle.line_kinds.specs.declared.kinds.GLine.{GLine}
use Rattle.line_kinds.specs.declared.kinds.GLine.TheVariants as g
use Rattle.line_kinds.specs.declared.kinds.HLine.{HLine}
use Rattle.line_kinds.specs.declared.kinds.HLine.TheVariants.{Edge, Ack, Set}
use Rattle.line_kinds.specs.declared.kinds.Line.{Line}
use Rattle.line_kinds.specs.declared.kinds.Line.TheVariants.{R, G, H}
use Rattle.trace_lines.specs.Text.{line_text}
use Rattle.trace_lines.specs.Words.{◌>>=◌, front_word, rest_of, number_in, byte_in, signed_in, bytes_in, digest_in, words_in, after_four, who_in, after_who, fault_in, mode_in, breach_in}

unfoldable pub gate_line_in : List ℕ → Option RLine
gate_line_in text = do
  function ← number_in (front_word text)
  registers ← words_in 4 (rest_of text)
  value ← signed_in (after_four (rest_of text))
  Some (r.Gate function registers value)

unfoldable pub fault_line_in : List ℕ → Option RLine
fault_line_in text = do
  who ← who_in text
  kind ← fault_in (after_who text)
  Some (r.Fault who kind)

unfoldable pub reply_line_in : List ℕ → Option RLine
reply_line_in text = do
  value ← signed_in (front_word text)
  bytes ← bytes_in (rest_of text)
  Some (r.Reply value bytes)

unfoldable pub r_end_in : List ℕ → Option RLine
r_end_in text = do
  live ← number_in (front_word text)
  ready ← number_in (rest_of text)
  Some (r.End live ready)

-- an R line, by its first word
unfoldable pub r_line_in : List ℕ → List ℕ → Option RLine
r_line_in word rest = if bytes_eq word (codes "com2") then option_map r.Com2 (byte_in rest)
    else if bytes_eq word (codes "release") then option_map r.Release (number_in rest)
    else if bytes_eq word (codes "on") then option_map r.On (who_in rest)
    else if bytes_eq word (codes "gate") then gate_line_in rest
    else if bytes_eq word (codes "say") then option_map r.Say (bytes_in rest)
    else if bytes_eq word (codes "ret") then Some r.Ret
    else if bytes_eq word (codes "fault") then fault_line_in rest
    else if bytes_eq word (codes "reply") then reply_line_in rest
    else if bytes_eq word (codes "end") then r_end_in rest
    else if bytes_eq word (codes "memory") then option_map r.Memory (digest_in rest)
    else None

unfoldable pub put_line_in : List ℕ → Option GLine
put_line_in text = do
  fifo ← number_in (front_word text)
  bytes ← bytes_in (rest_of text)
  Some (g.Put fifo bytes)

unfoldable pub get_line_in : List ℕ → Option GLine
get_line_in text = do
  fifo ← number_in (front_word text)
  count ← number_in (rest_of text)
  Some (g.Get fifo count)

unfoldable pub g_end_in : List ℕ → Option GLine
g_end_in text = do
  mode ← mode_in (front_word text)
  registers ← words_in 10 (rest_of text)
  Some (g.End mode registers)

unfoldable pub breach_line_in : List ℕ → Option GLine
breach_line_in text = option_map g.Breach (breach_in (front_word text) (rest_of text))

-- a G line, by its first word
unfoldable pub g_line_in : List ℕ → List ℕ → Option GLine
g_line_in word rest = if bytes_eq word (codes "com1") then option_map g.Com1 (byte_in rest)
    else if bytes_eq word (codes "enter") then option_map g.Enter (number_in rest)
    else if bytes_eq word (codes "int") then option_map g.Int (number_in rest)
    else if bytes_eq word (codes "halt") then Some g.Halt
    else if bytes_eq word (codes "put") then put_line_in rest
    else if bytes_eq word (codes "get") then get_line_in rest
    else if bytes_eq word (codes "shutdown") then option_map g.Shutdown (number_in rest)
    else if bytes_eq word (codes "breach") then breach_line_in rest
    else if bytes_eq word (codes "end") then g_end_in rest
    else if bytes_eq word (codes "memory") then option_map g.Memory (digest_in rest)
    else None

-- an H line, by its first word
unfoldable pub h_line_in : List ℕ → List ℕ → Option HLine
h_line_in word rest = if bytes_eq word (codes "edge") then option_map Edge (number_in rest)
    else if bytes_eq word (codes "ack") then option_map Ack (number_in rest)
    else if bytes_eq word (codes "set") then option_map Set (number_in rest)
    else None

-- a line, by its letter and its first word
unfoldable pub kind_in : List ℕ → List ℕ → List ℕ → Option Line
kind_in letter word rest = if bytes_eq letter (codes "R") then option_map R (r_line_in word rest)
    else if bytes_eq letter (codes "G") then option_map G (g_line_in word rest)
    else if bytes_eq letter (codes "H") then option_map H (h_line_in word rest)
    else None

-- what the words of a text stand for
unfoldable pub words_read : List ℕ → Option (ℕ × Line)
words_read text = do
  tick ← number_in (front_word (rest_of text))
  line ← kind_in (front_word text) (front_word (rest_of (rest_of text))) (rest_of (rest_of (rest_of text)))
  Some (tick, line)

-- a tick and a line, where the text is theirs
abbrev pub own_text : List ℕ → Option (ℕ × Line) → Option (ℕ × Line)
own_text text None = None
own_text text (Some found) = if bytes_eq text (line_text found.0 found.1) then Some found else None

-- the tick and the line that a text is
unfoldable pub line_in : List ℕ → Option (ℕ × Line)
line_in text = own_text text (words_read text)
