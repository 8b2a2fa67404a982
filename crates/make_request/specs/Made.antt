-- What the words behind `make` come to: the system that is made of their number, as a run of so many ticks.
use Rattle.std.specs.Prelude.{ℕ, [], ◌∷◌, Option, Some, None, Result, Ok, Err}
use Rattle.flat_memory.specs.Side.{side_at}
use Rattle.flat_memory.specs.Zeros.{zeros}
use Rattle.elf_loader.specs.Place.{with_segments}
use Rattle.elf_loader.specs.declared.image.Image.{Image}
use Rattle.command_words.specs.Make.{AskedMake}
use Rattle.run_files.specs.Modules.{sides_with}
use Rattle.run_files.specs.Stub.{stub_stored}
use Rattle.run_files.specs.Verdict.{About, Verdict, ticks_in, ◌>>=◌}
use Rattle.run_files.specs.declared.cause.Cause.TheVariants as cause
use Rattle.run_files.specs.declared.run.AcceptedRun.{AcceptedRun}
use Rattle.run_files.specs.declared.run.Report.TheVariants.{Summary}
use Rattle.run_files.specs.declared.run.Shown.TheVariants.{Both}
use Rattle.run_files.specs.declared.sides.Sides.{Sides}
use Rattle.work_maker.specs.Guest.{guest_of}
use Rattle.work_maker.specs.Made.{made_of}
use Rattle.work_maker.specs.Module.{guest_size, real_time_size, module_of}

-- zeros on both sides, with a guest's segments on its side and the stub on the real-time side
abbrev pub guest_sides : Image → Sides
guest_sides guest = record {
  memory = record {
    guest = (with_segments (side_at 0 (zeros guest_size)) guest.segments).bytes;
    real_time = stub_stored (zeros real_time_size);
  };
  entry = guest.entry;
}

-- with the segments of the module of the same number on the real-time side
abbrev pub made_sides : ℕ → Sides
made_sides number = sides_with (guest_sides (guest_of number)) (module_of number)

-- The run of a number for so many ticks: one init, the module's; version 1, in which of the ready threads of equal priority the one
-- that came first goes first; the lines of both halves are shown, and summed up with the number.
abbrev pub made_run : ℕ → ℕ → AcceptedRun
made_run number ticks = record {
  sides = made_sides number;
  inits = (module_of number).entry ∷ [];
  version = 1;
  script = (made_of number ticks).script;
  ticks = ticks;
  shown = Both;
  report = Summary number;
}

-- what the words alone come to: the ticks, or the first refusal
abbrev pub make_ticks : Option AskedMake → Result ℕ About
make_ticks None = Err (cause.Words, [])
make_ticks (Some make) = ticks_in make.ticks

-- the words come first, then the ticks; then there is a run, for each number
abbrev pub make_verdict : Option AskedMake → Verdict
make_verdict None = Err (cause.Words, [])
make_verdict (Some make) = ticks_in make.ticks >>= λ ticks. Ok (made_run make.number ticks)
