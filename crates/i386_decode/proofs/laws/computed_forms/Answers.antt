use Rattle.std.proofs.Common.{refl}
use Rattle.i386_decode.specs.Reading.{decode_of, answer, entry_read, fields_at}
use Rattle.i386_decode.specs.Spelling.{entry_of}
use Rattle.i386_decode.specs.Fields.{form_of}
use Rattle.i386_decode.specs.Table.{one_byte, two_byte, group_row}
use Rattle.i386_decode.proofs.laws.computed_forms.Goals as goal

pub returns-clause-short : goal.returns-clause-short
unfolding decode_of answer entry_read fields_at form_of entry_of one_byte two_byte group_row
returns-clause-short c = refl

pub returns-clause-undefined : goal.returns-clause-undefined
unfolding decode_of answer entry_read fields_at form_of entry_of one_byte two_byte group_row
returns-clause-undefined c = refl

pub returns-clause-nop : goal.returns-clause-nop
unfolding decode_of answer entry_read fields_at form_of entry_of one_byte two_byte group_row
returns-clause-nop c = refl

pub returns-clause-store : goal.returns-clause-store
unfolding decode_of answer entry_read fields_at form_of entry_of one_byte two_byte group_row
returns-clause-store c = refl
