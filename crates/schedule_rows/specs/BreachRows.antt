-- Breaches of guests beside no module: their lines, and how they end.
use Rattle.std.specs.Prelude.{◌≡◌, [], ◌∷◌, codes}
use Rattle.line_kinds.specs.declared.kinds.BreachKind.TheVariants.{Cli, Pushf, Int as IntBreach, Port, Fetch, Store}
use Rattle.line_kinds.specs.declared.kinds.GLine.TheVariants.{Breach, End}
use Rattle.line_kinds.specs.declared.kinds.Mode.TheVariants.{Stopped}
use Rattle.bare_machine.specs.State.{GuestStart}
use Rattle.schedule_rows.specs.Machines.{bytes_in, guest_of, no_module, g_of, guest_end}

-- A store of the last word of the side is performed, and one that straddles its end is a breach at the word's first byte
abbrev pub store_at_the_end_guest : GuestStart
store_at_the_end_guest = guest_of 128 ((0, bytes_in (codes "a37c000000 a37d000000")) ∷ [])

abbrev pub StoreAtTheEnd : Type 0
StoreAtTheEnd = (g_of store_at_the_end_guest no_module [] 3 ≡ (2, Breach (Store 0x7d)) ∷ [])
    × (guest_end store_at_the_end_guest no_module [] 3 ≡ End Stopped (0x5 ∷ 0x2 ∷ 0 ∷ 0 ∷ 0 ∷ 0 ∷ 0x80 ∷ 0 ∷ 0 ∷ 0 ∷ []))

-- A push of EFLAGS that straddles the end is a breach at its first byte
abbrev pub push_straddles_guest : GuestStart
push_straddles_guest = guest_of 128 ((0, bytes_in (codes "bc82000000 cdf3")) ∷ [])

abbrev pub PushStraddles : Type 0
PushStraddles = (g_of push_straddles_guest no_module [] 3 ≡ (2, Breach (Store 0x7e)) ∷ [])
    × (guest_end push_straddles_guest no_module [] 3 ≡ End Stopped (0x5 ∷ 0x2 ∷ 0 ∷ 0 ∷ 0 ∷ 0 ∷ 0x82 ∷ 0 ∷ 0 ∷ 0 ∷ []))

-- CLI is a breach
abbrev pub clears_guest : GuestStart
clears_guest = guest_of 128 ((0, bytes_in (codes "fa")) ∷ [])

abbrev pub Clears : Type 0
Clears = (g_of clears_guest no_module [] 2 ≡ (1, Breach Cli) ∷ [])
    × (guest_end clears_guest no_module [] 2 ≡ End Stopped (0x0 ∷ 0x2 ∷ 0 ∷ 0 ∷ 0 ∷ 0 ∷ 0x80 ∷ 0 ∷ 0 ∷ 0 ∷ []))

-- Gate F3h pushes EFLAGS; PUSHF is a breach
abbrev pub pushes_flags_guest : GuestStart
pushes_flags_guest = guest_of 128 ((0, bytes_in (codes "cdf3 58 9c")) ∷ [])

abbrev pub PushesFlags : Type 0
PushesFlags = (g_of pushes_flags_guest no_module [] 4 ≡ (3, Breach Pushf) ∷ [])
    × (guest_end pushes_flags_guest no_module [] 4 ≡ End Stopped (0x3 ∷ 0x2 ∷ 0x2 ∷ 0 ∷ 0 ∷ 0 ∷ 0x80 ∷ 0 ∷ 0 ∷ 0 ∷ []))

-- A fetch past the end: the first byte outside that the instruction still needs
abbrev pub fetches_past_guest : GuestStart
fetches_past_guest = guest_of 128 ((0, bytes_in (codes "e97a000000")) ∷ [])

abbrev pub FetchesPast : Type 0
FetchesPast = (g_of fetches_past_guest no_module [] 2 ≡ (2, Breach (Fetch 0x80)) ∷ [])
    × (guest_end fetches_past_guest no_module [] 2 ≡ End Stopped (0x7f ∷ 0x2 ∷ 0 ∷ 0 ∷ 0 ∷ 0 ∷ 0x80 ∷ 0 ∷ 0 ∷ 0 ∷ []))

-- INT F7h is a breach
abbrev pub interrupts_guest : GuestStart
interrupts_guest = guest_of 128 ((0, bytes_in (codes "cdf7")) ∷ [])

abbrev pub Interrupts : Type 0
Interrupts = (g_of interrupts_guest no_module [] 1 ≡ (1, Breach (IntBreach 247)) ∷ [])

-- A port of COM2 is a breach
abbrev pub other_port_guest : GuestStart
other_port_guest = guest_of 128 ((0, bytes_in (codes "66baf802 ec")) ∷ [])

abbrev pub OtherPort : Type 0
OtherPort = (g_of other_port_guest no_module [] 2 ≡ (2, Breach (Port 0x2f8)) ∷ [])
    × (guest_end other_port_guest no_module [] 2 ≡ End Stopped (0x4 ∷ 0x2 ∷ 0x0 ∷ 0x0 ∷ 0x2f8 ∷ 0x0 ∷ 0x80 ∷ 0 ∷ 0 ∷ 0 ∷ []))
