-- The grammar of one line of a script, whose end is taken off.
use Rattle.std.specs.Prelude.{ℕ, ◌+◌, ◌-◌, ◌*◌, ◌==◌, ◌&&◌, Bool, true, List, [], ◌∷◌, length, codes, nat_le, if◌then◌else◌, Option, Some, None, option_map, option_and_then}
use Rattle.std.specs.Str.{bytes_eq}
use Rattle.std.specs.Char.{is_ascii_digit}
use Rattle.std.specs.List.{list_all, before_first, after_first}
use Rattle.line_text.specs.Cut.{is_space}
use Rattle.line_text.specs.Numbers.{hex_in}
use Rattle.device_script.specs.declared.event.Event.{Event}
use Rattle.device_script.specs.declared.event.Event.TheVariants.{Line, Com1, Com2}
use Rattle.device_script.specs.Event.{is_tick}

-- Skipped: an empty line, and one that begins with `#` (35)
abbrev pub is_skipped : List ℕ → Bool
is_skipped [] = true
is_skipped (b ∷ bs) = b == 35

-- Any other is `T line N`, `T com1 HH` or `T com2 HH`: three parts, apart by one or more spaces (32), and nothing else

abbrev pub skip_spaces : List ℕ → List ℕ
skip_spaces [] = []
skip_spaces (b ∷ bs) = if is_space b then skip_spaces bs else b ∷ bs

-- the value of decimal digits (from 48 on) behind those that make n
abbrev pub decimal : ℕ → List ℕ → ℕ
decimal n [] = n
decimal n (c ∷ cs) = decimal (n * 10 + (c - 48)) cs

-- T: 1 to 10 digits, with a value of 1 to 1,000,000,000
abbrev pub tick_in : ℕ → Option ℕ
tick_in n = if is_tick n then Some n else None

unfoldable pub tick_of : List ℕ → Option ℕ
tick_of text = if (nat_le 1 (length text) && nat_le (length text) 10) && list_all is_ascii_digit text then tick_in (decimal 0 text) else None

-- N: 1, 5 to 9, or 10 to 15, without a leading zero
abbrev pub interrupt_line_of : List ℕ → Option ℕ
interrupt_line_of (d ∷ []) = if d == 49 then Some 1 else if nat_le 53 d && nat_le d 57 then Some (d - 48) else None
interrupt_line_of (t ∷ d ∷ []) = if t == 49 && (nat_le 48 d && nat_le d 53) then Some (d - 48 + 10) else None
interrupt_line_of _ = None

-- HH: two hex digits of either case
abbrev pub hex_byte_of : List ℕ → Option ℕ
hex_byte_of text = hex_in 2 text

-- the second and the third part
unfoldable pub event_in : List ℕ → List ℕ → Option Event
event_in kind value = if bytes_eq kind (codes "line") then option_map Line (interrupt_line_of value)
    else if bytes_eq kind (codes "com1") then option_map Com1 (hex_byte_of value)
    else if bytes_eq kind (codes "com2") then option_map Com2 (hex_byte_of value) else None

-- what stands behind the first space
unfoldable pub behind_tick : List ℕ → Option Event
behind_tick bytes =
    let more = skip_spaces bytes in
    event_in (before_first is_space more) (skip_spaces (after_first is_space more))

unfoldable pub event_of : List ℕ → Option (ℕ × Event)
event_of line = option_and_then (λ tick. option_map (λ event. (tick, event)) (behind_tick (after_first is_space line))) (tick_of (before_first is_space line))
