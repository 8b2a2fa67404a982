-- A serial port as it is made, and bytes in their order, by computation.
use Rattle.std.proofs.Common.{◌≡◌, ℕ, false, refl, [], ◌∷◌, None}
use Rattle.port_map.specs.Serial.{Serial}
use Rattle.port_map.specs.SerialLine.{new_serial, byte_sent, all_received, received}

-- a port as it is made has a low line and sends nothing
line_is_low : new_serial.high ≡ false
unfolding new_serial
line_is_low = refl

nothing_is_sent : byte_sent new_serial ≡ None
unfolding new_serial byte_sent
nothing_is_sent = refl

first_byte_first : (a b : ℕ) (s : Serial) → all_received (a ∷ b ∷ []) s ≡ received b (received a s)
first_byte_first a b s = refl
