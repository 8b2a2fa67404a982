-- The texts of lines: a letter, the tick in decimal digits, and the words of the line, apart by one space.
use Rattle.std.specs.Prelude.{ℕ, List, [], ◌∷◌, ◌++◌, codes, decimal}
use Rattle.std.specs.Fmt.{signed_decimal}
use Rattle.line_text.specs.LineText.{hex_text, bytes_text}
use Rattle.line_kinds.specs.declared.kinds.Who.{Who}
use Rattle.line_kinds.specs.declared.kinds.Who.TheVariants.{Guest, Thread, Init, Irq, Fifo}
use Rattle.line_kinds.specs.declared.kinds.FaultKind.{FaultKind}
use Rattle.line_kinds.specs.declared.kinds.FaultKind.TheVariants as fault
use Rattle.line_kinds.specs.declared.kinds.BreachKind.{BreachKind}
use Rattle.line_kinds.specs.declared.kinds.BreachKind.TheVariants as breach
use Rattle.line_kinds.specs.declared.kinds.Mode.{Mode}
use Rattle.line_kinds.specs.declared.kinds.Mode.TheVariants.{Runs, Halted, Stopped}
use Rattle.line_kinds.specs.declared.kinds.RLine.{RLine}
use Rattle.line_kinds.specs.declared.kinds.RLine.TheVariants as r
use Rattle.line_kinds.specs.declared.kinds.GLine.{GLine}
use Rattle.line_kinds.specs.declared.kinds.GLine.TheVariants as g
use Rattle.line_kinds.specs.declared.kinds.HLine.{HLine}
use Rattle.line_kinds.specs.declared.kinds.HLine.TheVariants.{Edge, Ack, Set}
use Rattle.line_kinds.specs.declared.kinds.Line.{Line}
use Rattle.line_kinds.specs.declared.kinds.Line.TheVariants.{R, G, H}

abbrev pub who_words : Who → List ℕ
who_words Guest = codes "guest"
who_words (Thread thread) = codes "thread " ++ decimal thread
who_words (Init module_number) = codes "init " ++ decimal module_number
who_words (Irq line) = codes "irq " ++ decimal line
who_words (Fifo fifo) = codes "fifo " ++ decimal fifo

abbrev pub fault_word : FaultKind → List ℕ
fault_word fault.Divide = codes "divide"
fault_word fault.Opcode = codes "opcode"
fault_word fault.Int = codes "int"
fault_word fault.Memory = codes "memory"
fault_word fault.Port = codes "port"
fault_word fault.Privileged = codes "privileged"

abbrev pub mode_word : Mode → List ℕ
mode_word Runs = codes "runs"
mode_word Halted = codes "halted"
mode_word Stopped = codes "stopped"

abbrev pub breach_words : BreachKind → List ℕ
breach_words breach.Cli = codes "cli"
breach_words breach.Sti = codes "sti"
breach_words breach.Iret = codes "iret"
breach_words breach.Pushf = codes "pushf"
breach_words breach.Popf = codes "popf"
breach_words breach.Hlt = codes "hlt"
breach_words (breach.Int vector) = codes "int " ++ decimal vector
breach_words (breach.Port port) = codes "port " ++ hex_text 4 port
breach_words (breach.Fetch at) = codes "fetch " ++ hex_text 8 at
breach_words (breach.Load at) = codes "load " ++ hex_text 8 at
breach_words (breach.Store at) = codes "store " ++ hex_text 8 at

-- a space and eight digits for each word
abbrev pub spaced_words : List ℕ → List ℕ
spaced_words [] = []
spaced_words (word ∷ words) = (32 ∷ hex_text 8 word) ++ spaced_words words

abbrev pub r_words : RLine → List ℕ
r_words (r.Com2 byte) = codes "com2 " ++ hex_text 2 byte
r_words (r.Release thread) = codes "release " ++ decimal thread
r_words (r.On who) = codes "on " ++ who_words who
r_words (r.Gate function registers result) = codes "gate " ++ (decimal function ++ (spaced_words registers ++ (32 ∷ signed_decimal result)))
r_words (r.Say bytes) = codes "say " ++ bytes_text bytes
r_words r.Ret = codes "ret"
r_words (r.Fault who kind) = codes "fault " ++ (who_words who ++ (32 ∷ fault_word kind))
r_words (r.Reply result bytes) = codes "reply " ++ (signed_decimal result ++ (32 ∷ bytes_text bytes))
r_words (r.End live ready) = codes "end " ++ (decimal live ++ (32 ∷ decimal ready))
r_words (r.Memory digest) = codes "memory " ++ bytes_text digest

abbrev pub g_words : GLine → List ℕ
g_words (g.Com1 byte) = codes "com1 " ++ hex_text 2 byte
g_words (g.Enter vector) = codes "enter " ++ decimal vector
g_words (g.Int vector) = codes "int " ++ decimal vector
g_words g.Halt = codes "halt"
g_words (g.Put fifo bytes) = codes "put " ++ (decimal fifo ++ (32 ∷ bytes_text bytes))
g_words (g.Get fifo count) = codes "get " ++ (decimal fifo ++ (32 ∷ decimal count))
g_words (g.Shutdown vector) = codes "shutdown " ++ decimal vector
g_words (g.Breach kind) = codes "breach " ++ breach_words kind
g_words (g.End mode registers) = codes "end " ++ (mode_word mode ++ spaced_words registers)
g_words (g.Memory digest) = codes "memory " ++ bytes_text digest

abbrev pub h_words : HLine → List ℕ
h_words (Edge line) = codes "edge " ++ decimal line
h_words (Ack line) = codes "ack " ++ decimal line
h_words (Set count) = codes "set " ++ decimal count

-- a line without its end
abbrev pub whole_line : List ℕ → ℕ → List ℕ → List ℕ
whole_line letter tick words = letter ++ (decimal tick ++ (32 ∷ words))

abbrev pub r_text : ℕ → RLine → List ℕ
r_text tick line = whole_line (codes "R ") tick (r_words line)

abbrev pub g_text : ℕ → GLine → List ℕ
g_text tick line = whole_line (codes "G ") tick (g_words line)

abbrev pub h_text : ℕ → HLine → List ℕ
h_text tick line = whole_line (codes "H ") tick (h_words line)

abbrev pub line_text : ℕ → Line → List ℕ
line_text tick (R line) = r_text tick line
line_text tick (G line) = g_text tick line
line_text tick (H line) = h_text tick line
