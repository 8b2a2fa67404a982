-- The usual words, by computation.
use Rattle.std.proofs.Common.{refl}
use Rattle.clap.proofs.OnLiterals.{clap_on_literals}
use Rattle.command_words.specs.Command.{run_command, make_command, is_taken, rows_read}
use Rattle.command_words.specs.Run.{run_words_of}
use Rattle.command_words.specs.Make.{make_words_of}
use Rattle.command_words.specs.Rows.{ReadsUsualWords, RefusesOtherWords, ReadsUsualMakeWords, RefusesOtherMakeWords}

pub usual : ReadsUsualWords
unfolding clap_on_literals run_command is_taken rows_read run_words_of
usual = record {
  behind = refl;
  before = refl;
  joined = refl;
  joined_before = refl;
  after_dashes = refl;
  flag_behind = refl;
  flag_between = refl;
  flag_before = refl;
  flag_before_system = refl;
  flag_beside_joined = refl;
}

pub others : RefusesOtherWords
unfolding clap_on_literals run_command is_taken rows_read run_words_of
others = record {
  nothing = refl;
  no_ticks = refl;
  no_value = refl;
  empty_value = refl;
  no_number = refl;
  negative = refl;
  negative_joined = refl;
  no_system = refl;
  empty_system = refl;
  two_systems = refl;
  two_options = refl;
  shortened = refl;
  unknown = refl;
  help = refl;
  short_help = refl;
  version = refl;
  two_flags = refl;
  flag_with_value = refl;
  flag_with_nothing = refl;
  shortened_flag = refl;
  flag_for_value = refl;
  flag_after_dashes = refl;
}

pub usual_make : ReadsUsualMakeWords
unfolding clap_on_literals make_command is_taken rows_read make_words_of
usual_make = record {
  behind = refl;
  before = refl;
  joined = refl;
  zeros = refl;
  least = refl;
  greatest = refl;
  no_ticks = refl;
}

pub others_make : RefusesOtherMakeWords
unfolding clap_on_literals make_command is_taken rows_read make_words_of
others_make = record {
  nothing = refl;
  too_large = refl;
  too_long = refl;
  no_digits = refl;
  no_number = refl;
  hexadecimal = refl;
  signed = refl;
  empty = refl;
  without_ticks = refl;
  without_number = refl;
  two_numbers = refl;
  two_options = refl;
  flag_of_run = refl;
  help = refl;
}
