use Rattle.i386_decode.proofs.Tables.{immediate_byte_at, immediate_full_at, immediate_signed_at, pop_at, shift_byte_immediate_at, shift_full_immediate_at, shift_byte_one_at, shift_full_one_at, shift_byte_cl_at, shift_full_cl_at, mov_byte_at, mov_full_at, unary_byte_at, unary_full_at, inc_dec_byte_at, indirect_at, bit_test_at}
use Rattle.i386_decode.proofs.groups.group_entry.Goals as goal

pub returns-in-ImmediateByte : goal.returns-in-ImmediateByte
returns-in-ImmediateByte c = rw c.in-ImmediateByte.is (immediate_byte_at c.args.reg _ c.requires)

pub returns-in-ImmediateFull : goal.returns-in-ImmediateFull
returns-in-ImmediateFull c = rw c.in-ImmediateFull.is (immediate_full_at c.args.reg _ c.requires)

pub returns-in-ImmediateSigned : goal.returns-in-ImmediateSigned
returns-in-ImmediateSigned c = rw c.in-ImmediateSigned.is (immediate_signed_at c.args.reg _ c.requires)

pub returns-in-Pop : goal.returns-in-Pop
returns-in-Pop c = rw c.in-Pop.is (pop_at c.args.reg _ c.requires)

pub returns-in-ShiftByteImmediate : goal.returns-in-ShiftByteImmediate
returns-in-ShiftByteImmediate c = rw c.in-ShiftByteImmediate.is (shift_byte_immediate_at c.args.reg _ c.requires)

pub returns-in-ShiftFullImmediate : goal.returns-in-ShiftFullImmediate
returns-in-ShiftFullImmediate c = rw c.in-ShiftFullImmediate.is (shift_full_immediate_at c.args.reg _ c.requires)

pub returns-in-ShiftByteOne : goal.returns-in-ShiftByteOne
returns-in-ShiftByteOne c = rw c.in-ShiftByteOne.is (shift_byte_one_at c.args.reg _ c.requires)

pub returns-in-ShiftFullOne : goal.returns-in-ShiftFullOne
returns-in-ShiftFullOne c = rw c.in-ShiftFullOne.is (shift_full_one_at c.args.reg _ c.requires)

pub returns-in-ShiftByteCl : goal.returns-in-ShiftByteCl
returns-in-ShiftByteCl c = rw c.in-ShiftByteCl.is (shift_byte_cl_at c.args.reg _ c.requires)

pub returns-in-ShiftFullCl : goal.returns-in-ShiftFullCl
returns-in-ShiftFullCl c = rw c.in-ShiftFullCl.is (shift_full_cl_at c.args.reg _ c.requires)

pub returns-in-MovByte : goal.returns-in-MovByte
returns-in-MovByte c = rw c.in-MovByte.is (mov_byte_at c.args.reg _ c.requires)

pub returns-in-MovFull : goal.returns-in-MovFull
returns-in-MovFull c = rw c.in-MovFull.is (mov_full_at c.args.reg _ c.requires)

pub returns-in-UnaryByte : goal.returns-in-UnaryByte
returns-in-UnaryByte c = rw c.in-UnaryByte.is (unary_byte_at c.args.reg _ c.requires)

pub returns-in-UnaryFull : goal.returns-in-UnaryFull
returns-in-UnaryFull c = rw c.in-UnaryFull.is (unary_full_at c.args.reg _ c.requires)

pub returns-in-IncDecByte : goal.returns-in-IncDecByte
returns-in-IncDecByte c = rw c.in-IncDecByte.is (inc_dec_byte_at c.args.reg _ c.requires)

pub returns-in-Indirect : goal.returns-in-Indirect
returns-in-Indirect c = rw c.in-Indirect.is (indirect_at c.args.reg _ c.requires)

pub returns-in-BitTest : goal.returns-in-BitTest
returns-in-BitTest c = rw c.in-BitTest.is (bit_test_at c.args.reg _ c.requires)
