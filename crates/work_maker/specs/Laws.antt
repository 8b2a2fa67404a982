-- What is made fits a guest's side of G bytes and a real-time side of R bytes, and its script keeps the rules of scripts.
use Rattle.std.specs.Prelude.{◌≡◌, ℕ, true, List, [], ◌∷◌, ◌++◌, length, All, Some}
use Rattle.flat_memory.specs.Side.{side_at}
use Rattle.elf_loader.specs.Place.{Span, FitsSize, all_inside, spans_with}
use Rattle.device_script.specs.Event.{IsScript}
use Rattle.work_maker.specs.Guest.{guest_of}
use Rattle.work_maker.specs.Module.{guest_size, real_time_size, module_of}
use Rattle.work_maker.specs.Script.{events_of}

-- every segment of the guest is wholly on the guest's side
abbrev pub GuestInside : Type 0
GuestInside = (number : ℕ) (bytes : List ℕ) → length bytes ≡ guest_size → all_inside (side_at 0 bytes) (guest_of number).segments ≡ true

-- the ranges of the guest's segments, of which no two share a byte
abbrev pub guest_spans : List Span
guest_spans = (0x1000, 0x1030) ∷ (0x1100, 0x1108) ∷ (0x3100, 0x3180) ∷ []

abbrev pub GuestApart : Type 0
GuestApart = (number : ℕ) → spans_with [] (guest_of number).segments ≡ Some guest_spans

-- the segment of the module is wholly on the real-time side
abbrev pub ModuleInside : Type 0
ModuleInside = (number : ℕ) (bytes : List ℕ) → length bytes ≡ real_time_size → all_inside (side_at guest_size bytes) (module_of number).segments ≡ true

-- the reserved ranges of the real-time side, its first 16 bytes and its last 4,096: [G, G + 16) and [G + R - 4096, G + R)
abbrev pub reserved : List Span
reserved = (1048576, 1048592) ∷ (1306624, 1310720) ∷ []

-- the range of the module's segment, which shares no byte with them
abbrev pub module_spans : List Span
module_spans = (1052672, 1053057) ∷ []

abbrev pub ModuleApart : Type 0
ModuleApart = (number : ℕ) → spans_with reserved (module_of number).segments ≡ Some (reserved ++ module_spans)

-- no segment has more bytes than its size
abbrev pub SegmentsFit : Type 0
SegmentsFit = (number : ℕ) → All FitsSize (guest_of number).segments × All FitsSize (module_of number).segments

-- the script of each number and each count of ticks keeps the rules
abbrev pub KeepsRules : Type 0
KeepsRules = (number ticks : ℕ) → IsScript (events_of number ticks)
