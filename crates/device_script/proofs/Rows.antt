-- Scripts that are written out.
use Rattle.std.proofs.Common.{◌≡◌, [], ◌∷◌, codes, refl, Ok, Err}
use Rattle.device_script.specs.declared.event.Event.TheVariants.{Line, Com1, Com2}
use Rattle.device_script.specs.Line.{event_of, tick_of, behind_tick, event_in}
use Rattle.device_script.specs.Script.{script_of}

two : script_of (codes "3 line 5\n4 line 5\n") ≡ Ok ((3, Line 5) ∷ (4, Line 5) ∷ [])
unfolding script_of event_of tick_of behind_tick event_in
two = refl

no_device_line : script_of (codes "5 line 4") ≡ Err 1
unfolding script_of event_of tick_of behind_tick event_in
no_device_line = refl

forms : script_of (codes "# all\r\n\r\n0000000001  com1   4F\n1 com2 0a") ≡ Ok ((1, Com1 79) ∷ (1, Com2 10) ∷ [])
unfolding script_of event_of tick_of behind_tick event_in
forms = refl

return_at_end : script_of (codes "1 com2 0a\n2 line 9\r") ≡ Err 2
unfolding script_of event_of tick_of behind_tick event_in
return_at_end = refl

falls : script_of (codes "2 line 9\n\n1 line 9\n") ≡ Err 3
unfolding script_of event_of tick_of behind_tick event_in
falls = refl

space_behind : script_of (codes "2 line 9 \n") ≡ Err 1
unfolding script_of event_of tick_of behind_tick event_in
space_behind = refl
