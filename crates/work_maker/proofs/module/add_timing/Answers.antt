use Rattle.std.proofs.Common.{◌+◌, ◌++◌}
use Rattle.work_maker.specs.Bytes.{mov_ecx, mov_edx}
use Rattle.work_maker.specs.Module.{mov_ebx_eax, mov_eax_6, int_f8}
use Rattle.work_maker.proofs.Steps.{four_pieces}
use Rattle.work_maker.proofs.module.add_timing.Goals as goal

pub returns : goal.returns
returns c =
    rw (c.in_ok-extend_from_slice-2.ensures.items, c.in_ok-add_word-2.ensures, c.in_ok-add_word.ensures, c.in_ok-extend_from_slice.ensures.items)
    (four_pieces c.args.code.now.items (mov_ebx_eax ++ mov_eax_6) (mov_ecx (1000 + c.args.index)) (mov_edx c.args.thread.period) int_f8)
