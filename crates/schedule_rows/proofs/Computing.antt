-- All that a row computes with.
use Rattle.std.specs.Prelude.{Bool, true}
use lib.Count.{ones}
use Rattle.i386_decode.specs.Fields.{form_of}
use Rattle.i386_decode.specs.Reading.{fields_at, entry_read, answer, decode_of}
use Rattle.i386_decode.specs.Spelling.{entry_of}
use Rattle.i386_decode.specs.Table.{one_byte, two_byte, group_row}
use Rattle.i386_alu.specs.Binary.{binary_of}
use Rattle.i386_alu.specs.Bit.{bit_of}
use Rattle.i386_alu.specs.Condition.{condition_of}
use Rattle.i386_alu.specs.DoubleShift.{fill_of, double_shift_of}
use Rattle.i386_alu.specs.Product.{multiply_of}
use Rattle.i386_alu.specs.Quotient.{divide_of}
use Rattle.i386_alu.specs.Scan.{scan_of}
use Rattle.i386_alu.specs.Shift.{single_of, overflow_of, shift_of}
use Rattle.i386_alu.specs.Unary.{unary_of}
use Rattle.i386_strings.specs.Iteration.{iterated, is_last, iteration}
use Rattle.i386_execute.specs.Arithmetic.{combined, compared, altered, shifted, double_shifted}
use Rattle.i386_execute.specs.Bits.{tested_touches, tested, bit_changed, scanned}
use Rattle.i386_execute.specs.Changes.{change}
use Rattle.i386_execute.specs.Flags.{flags_by, flag_changed, sahf, lahf}
use Rattle.i386_execute.specs.Interrupts.{port_read, port_written, interrupted, interrupted_on_overflow}
use Rattle.i386_execute.specs.Jumps.{branched, looped, jumped_at_zero}
use Rattle.i386_execute.specs.Loads.{first_touches, second_touches, both_touches, loads}
use Rattle.i386_execute.specs.Moves.{copied, exchanged, extended_touches, zero_extended, sign_extended, widened, sign_spread, addressed, table_touches, translated, set_where}
use Rattle.i386_execute.specs.OwnFlag.{flag_change, flag_unit}
use Rattle.i386_execute.specs.Products.{multiplied, signed_multiplied, divided}
use Rattle.i386_execute.specs.Stack.{pushed, all_pushed, top_touches, popped, all_touches, all_popped, frame_touches, leave, called, returned, jumped}
use Rattle.i386_execute.specs.Unit.{performed, unit, address_behind}
use Rattle.port_map.specs.Serial.{byte_of, after_byte, byte_written}
use Rattle.breach_monitor.specs.RealTimeUnit.{real_time_outcome}
use Rattle.soft_entry.specs.Entry.{entering}
use Rattle.soft_gates.specs.Gate.{gated}
use Rattle.soft_gates.specs.Service.{service}
use Rattle.line_sets.specs.LineSet.{union, common, minus, with_line, without_line, first_in}
use Rattle.rt_irqs.specs.Irqs.{next_of, free_soft_line}
use Rattle.hard_dispatch.specs.Service.{in_order}
use Rattle.gate_table.specs.Names.{gate_of}
use Rattle.run_lines.specs.Says.{holder, held}
use Rattle.run_lines.specs.Ticks.{lines_to}
use Rattle.breach_monitor.specs.SerialUnit.{unit_at}
use Rattle.cpu_state.specs.Registers.{starting}
use Rattle.memory_model.specs.Side.{first_outside}
use Rattle.port_map.specs.SerialLine.{new_serial, ticked, byte_sent, received, sampled}
use Rattle.bare_machine.specs.Run.{bare_after, bare_lines}
use Rattle.bare_machine.specs.State.{first_state}
use Rattle.bare_machine.specs.Tick.{prepared, guest_begins}
use Rattle.bare_machine.specs.Unit.{guest_unit}
use Rattle.rt_fifos.specs.Fifos.{put_reply, get_reply, with_mark, without_mark, without_handler}
use Rattle.rt_ready.specs.Order.{first_place}
use Rattle.priority_schedule.specs.Priority.{seen}
use Rattle.priority_schedule.specs.Release.{nearest, released}
use Rattle.priority_schedule.specs.Run.{real_after, real_lines}
use Rattle.priority_schedule.specs.State.{first_state as priority_schedule_first_state}
use Rattle.priority_schedule.specs.Tick.{devices, picked}
use Rattle.priority_schedule.specs.Unit.{outcome_at, activity_unit, call_unit}
use Rattle.hardware_lines.specs.Hardware.{machines_after, hardware_after, hardware_lines}
use Rattle.schedule_laws.specs.Both.{both_guest, both_real, both_after, both_g, both_r, all_g, all_r}
use Rattle.schedule_rows.specs.Machines.{guest_of, module_of, no_module}

unfoldable pub computing : Bool
unfolding form_of fields_at entry_read answer decode_of entry_of one_byte two_byte group_row binary_of bit_of condition_of fill_of double_shift_of multiply_of divide_of scan_of single_of overflow_of shift_of unary_of iterated is_last iteration combined compared altered shifted double_shifted tested_touches tested bit_changed scanned change flags_by flag_changed sahf lahf port_read port_written interrupted interrupted_on_overflow branched looped jumped_at_zero first_touches second_touches both_touches loads copied exchanged extended_touches zero_extended sign_extended widened sign_spread addressed table_touches translated set_where flag_change flag_unit multiplied signed_multiplied divided pushed all_pushed top_touches popped all_touches all_popped frame_touches leave called returned jumped performed unit address_behind byte_of after_byte byte_written real_time_outcome entering service gated union common minus with_line without_line first_in in_order next_of free_soft_line gate_of holder held lines_to unit_at starting first_outside new_serial ticked byte_sent received sampled bare_after bare_lines first_state prepared guest_begins guest_unit put_reply get_reply with_mark without_mark without_handler first_place seen nearest released real_after real_lines priority_schedule_first_state devices picked outcome_at activity_unit call_unit machines_after hardware_after hardware_lines both_guest both_real both_after both_g both_r all_g all_r guest_of module_of no_module ones
computing = true
