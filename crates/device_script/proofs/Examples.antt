-- The events of one tick by what they are for, by computation.
use Rattle.std.proofs.Common.{◌≡◌, refl, List, [], ◌∷◌}
use Rattle.device_script.specs.Events.{lines_of, com1_bytes, com2_bytes}
use Rattle.device_script.specs.declared.event.Event.{Event}
use Rattle.device_script.specs.declared.event.Event.TheVariants.{Line, Com1, Com2}

-- the events of one tick
events : List Event
events = Line 5 ∷ Com1 65 ∷ Com2 66 ∷ Line 6 ∷ Com1 67 ∷ []

its_lines : lines_of events ≡ 5 ∷ 6 ∷ []
unfolding events
its_lines = refl

for_com1 : com1_bytes events ≡ 65 ∷ 67 ∷ []
unfolding events
for_com1 = refl

for_com2 : com2_bytes events ≡ 66 ∷ []
unfolding events
for_com2 = refl
