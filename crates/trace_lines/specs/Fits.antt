-- Lines whose fields fit their types.
use Rattle.std.specs.Prelude.{◌≡◌, ℕ, ◌^◌, ◌<◌, ◌≤◌, List, length, slice_index}
use Rattle.std.specs.Int.{w32}
use Rattle.std.specs.Int.RustNames.{FitsSigned}
use Rattle.hex.specs.Hex.{IsBytes}
use Rattle.line_kinds.specs.declared.kinds.Who.{Who}
use Rattle.line_kinds.specs.declared.kinds.Who.TheVariants.{Guest, Thread, Init, Irq, Fifo}
use Rattle.line_kinds.specs.declared.kinds.BreachKind.{BreachKind}
use Rattle.line_kinds.specs.declared.kinds.BreachKind.TheVariants as breach
use Rattle.line_kinds.specs.declared.kinds.RLine.{RLine}
use Rattle.line_kinds.specs.declared.kinds.RLine.TheVariants as r
use Rattle.line_kinds.specs.declared.kinds.GLine.{GLine}
use Rattle.line_kinds.specs.declared.kinds.GLine.TheVariants as g
use Rattle.line_kinds.specs.declared.kinds.HLine.{HLine}
use Rattle.line_kinds.specs.declared.kinds.HLine.TheVariants.{Edge, Ack, Set}
use Rattle.line_kinds.specs.declared.kinds.Line.{Line}
use Rattle.line_kinds.specs.declared.kinds.Line.TheVariants.{R, G, H}

-- up to 256 bytes
pub record AreSaid (bytes : List ℕ) : Type 0 where
  pub few : length bytes ≤ 256
  pub small : IsBytes bytes

pub record IsDigest (bytes : List ℕ) : Type 0 where
  pub long : length bytes ≡ 32
  pub small : IsBytes bytes

-- so many words of 32 bits
pub record AreWords (count : ℕ) (words : List ℕ) : Type 0 where
  pub long : length words ≡ count
  pub small : (i : ℕ) → slice_index words i < 2 ^ 32

abbrev pub IsWho : Who → Type 0
IsWho Guest = Unit {0}
IsWho (Thread thread) = thread < 2 ^ 8
IsWho (Init module_number) = module_number < 2 ^ 8
IsWho (Irq line) = line < 2 ^ 8
IsWho (Fifo fifo) = fifo < 2 ^ 8

abbrev pub IsBreach : BreachKind → Type 0
IsBreach (breach.Int vector) = vector < 2 ^ 32
IsBreach (breach.Port port) = port < 2 ^ 16
IsBreach (breach.Fetch at) = at < 2 ^ 32
IsBreach (breach.Load at) = at < 2 ^ 32
IsBreach (breach.Store at) = at < 2 ^ 32
IsBreach _ = Unit {0}

abbrev pub IsRLine : RLine → Type 0
IsRLine (r.Com2 byte) = byte < 2 ^ 8
IsRLine (r.Release thread) = thread < 2 ^ 32
IsRLine (r.On who) = IsWho who
IsRLine (r.Gate function registers value) = (function < 2 ^ 32) × AreWords 4 registers × FitsSigned w32 value
IsRLine (r.Say bytes) = AreSaid bytes
IsRLine r.Ret = Unit {0}
IsRLine (r.Fault who kind) = IsWho who
IsRLine (r.Reply value bytes) = FitsSigned w32 value × AreSaid bytes
IsRLine (r.End live ready) = (live < 2 ^ 32) × (ready < 2 ^ 32)
IsRLine (r.Memory digest) = IsDigest digest

abbrev pub IsGLine : GLine → Type 0
IsGLine (g.Com1 byte) = byte < 2 ^ 8
IsGLine (g.Enter vector) = vector < 2 ^ 32
IsGLine (g.Int vector) = vector < 2 ^ 32
IsGLine g.Halt = Unit {0}
IsGLine (g.Put fifo bytes) = (fifo < 2 ^ 32) × AreSaid bytes
IsGLine (g.Get fifo count) = (fifo < 2 ^ 32) × (count < 2 ^ 32)
IsGLine (g.Shutdown vector) = vector < 2 ^ 32
IsGLine (g.Breach kind) = IsBreach kind
IsGLine (g.End mode registers) = AreWords 10 registers
IsGLine (g.Memory digest) = IsDigest digest

abbrev pub IsHLine : HLine → Type 0
IsHLine (Edge line) = line < 2 ^ 32
IsHLine (Ack line) = line < 2 ^ 32
IsHLine (Set count) = count < 2 ^ 32

abbrev pub IsLine : Line → Type 0
IsLine (R line) = IsRLine line
IsLine (G line) = IsGLine line
IsLine (H line) = IsHLine line
