-- The events of one tick of a script, by what they are for. A script's lines are 1 and 5 to 15.
use Rattle.std.specs.Prelude.{ℕ, List, Option, Some, None, filter_map}
use Rattle.device_script.specs.declared.event.Event.{Event}
use Rattle.device_script.specs.declared.event.Event.TheVariants.{Line, Com1, Com2}

abbrev pub line_raised : Event → Option ℕ
line_raised (Line n) = Some n
line_raised (Com1 byte) = None
line_raised (Com2 byte) = None

abbrev pub com1_in : Event → Option ℕ
com1_in (Line n) = None
com1_in (Com1 byte) = Some byte
com1_in (Com2 byte) = None

abbrev pub com2_in : Event → Option ℕ
com2_in (Line n) = None
com2_in (Com1 byte) = None
com2_in (Com2 byte) = Some byte

-- the lines, and the bytes for each serial port, in their order
abbrev pub lines_of : List Event → List ℕ
lines_of events = filter_map line_raised events

abbrev pub com1_bytes : List Event → List ℕ
com1_bytes events = filter_map com1_in events

abbrev pub com2_bytes : List Event → List ℕ
com2_bytes events = filter_map com2_in events
