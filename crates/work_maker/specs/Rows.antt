-- What is drawn for some numbers, worked out by an arithmetic of its own.
use Rattle.std.specs.Prelude.{◌≡◌, ℕ, [], ◌∷◌}
use Rattle.device_script.specs.declared.event.Event.TheVariants.{Line, Com1}
use Rattle.work_maker.specs.declared.draws.Thread.{Thread}
use Rattle.work_maker.specs.Draws.{threads, guest_period}
use Rattle.work_maker.specs.Guest.{guest_code}
use Rattle.work_maker.specs.Module.{starts_from}
use Rattle.work_maker.specs.Script.{events_of}

abbrev pub thread : ℕ → ℕ → ℕ → Thread
thread p q w = record { priority = p; period = q; work = w }

-- the priority, the period and the work of each thread, and the period of the guest's timer
pub record DrawsNumbers : Type 0 where
  pub threads_of_3 : threads 3 ≡ thread 148 289 7 ∷ thread 48 1331 35 ∷ thread 136 1660 24 ∷ thread 24 548 5 ∷ thread 79 733 34 ∷ thread 37 1157 15 ∷ thread 136 2189 49 ∷ thread 86 1135 48 ∷ []
  pub period_of_3 : guest_period 3 ≡ 1395
  pub threads_of_1 : threads 1 ≡ thread 97 400 47 ∷ thread 196 1512 17 ∷ thread 175 650 31 ∷ thread 94 613 31 ∷ thread 112 1049 6 ∷ thread 81 619 23 ∷ thread 136 1029 2 ∷ thread 51 823 49 ∷ []
  pub period_of_1 : guest_period 1 ≡ 1007
  pub period_of_7 : guest_period 7 ≡ 1170

-- the events, for runs below and at a whole thousand of ticks
pub record DrawsScripts : Type 0 where
  pub none : events_of 3 999 ≡ []
  pub five_of_3 : events_of 3 5000 ≡ (1819, Com1 216) ∷ (2687, Com1 28) ∷ (3890, Line 5) ∷ (4314, Line 5) ∷ (5048, Com1 106) ∷ []
  pub three_of_1 : events_of 1 3999 ≡ (1400, Line 5) ∷ (2132, Line 5) ∷ (3694, Com1 97) ∷ []
  pub four_of_7 : events_of 7 4000 ≡ (1021, Com1 84) ∷ (2104, Com1 209) ∷ (3272, Line 5) ∷ (4248, Line 5) ∷ []

-- the bytes that make the second thread of number 3 and make it periodic, and the first instructions of its guest
pub record MakesCode : Type 0 where
  pub second : starts_from 1 (thread 48 1331 35 ∷ []) ≡
      0xB8 ∷ 0x02 ∷ 0x00 ∷ 0x00 ∷ 0x00 ∷ 0xBB ∷ 0x71 ∷ 0x11 ∷ 0x10 ∷ 0x00 ∷ 0xB9 ∷ 0x30 ∷ 0x00 ∷ 0x00 ∷ 0x00 ∷ 0xBA ∷ 0x00 ∷ 0x20 ∷ 0x12 ∷ 0x00
      ∷ 0xBE ∷ 0x23 ∷ 0x00 ∷ 0x00 ∷ 0x00 ∷ 0xCD ∷ 0xF8 ∷ 0x89 ∷ 0xC3 ∷ 0xB8 ∷ 0x06 ∷ 0x00 ∷ 0x00 ∷ 0x00 ∷ 0xB9 ∷ 0xE9 ∷ 0x03 ∷ 0x00 ∷ 0x00 ∷ 0xBA
      ∷ 0x33 ∷ 0x05 ∷ 0x00 ∷ 0x00 ∷ 0xCD ∷ 0xF8 ∷ []
  pub guest : guest_code 1395 ≡
      0xB8 ∷ 0x01 ∷ 0x00 ∷ 0x00 ∷ 0x00 ∷ 0xBB ∷ 0x00 ∷ 0x30 ∷ 0x00 ∷ 0x00 ∷ 0xB9 ∷ 0x40 ∷ 0x00 ∷ 0x00 ∷ 0x00 ∷ 0xCD ∷ 0xF6 ∷ 0xB8 ∷ 0x02 ∷ 0x00
      ∷ 0x00 ∷ 0x00 ∷ 0x31 ∷ 0xDB ∷ 0xCD ∷ 0xF6 ∷ 0xB8 ∷ 0x03 ∷ 0x00 ∷ 0x00 ∷ 0x00 ∷ 0xBB ∷ 0x73 ∷ 0x05 ∷ 0x00 ∷ 0x00 ∷ 0xCD ∷ 0xF6 ∷ 0xCD ∷ 0xF1
      ∷ 0xFF ∷ 0x05 ∷ 0x00 ∷ 0x20 ∷ 0x00 ∷ 0x00 ∷ 0xEB ∷ 0xF8 ∷ []
