-- What is drawn for some numbers, by computation.
use Rattle.std.proofs.Common.{refl}
use Rattle.work_maker.specs.Draws.{next, draw}
use Rattle.work_maker.specs.Guest.{guest_code}
use Rattle.work_maker.specs.Script.{events_of}
use Rattle.work_maker.specs.Rows.{DrawsNumbers, DrawsScripts, MakesCode}

pub numbers : DrawsNumbers
unfolding next draw
numbers = record {
  threads_of_3 = refl;
  period_of_3 = refl;
  threads_of_1 = refl;
  period_of_1 = refl;
  period_of_7 = refl;
}

pub scripts : DrawsScripts
unfolding next draw events_of
scripts = record {
  none = refl;
  five_of_3 = refl;
  three_of_1 = refl;
  four_of_7 = refl;
}

pub code : MakesCode
unfolding guest_code
code = record { second = refl; guest = refl }
