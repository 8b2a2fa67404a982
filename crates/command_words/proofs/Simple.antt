-- The commands of the definition are ones whose parse the crate defines.
use Rattle.std.proofs.Common.{◌≡◌, true, refl, codes, ◌∙◌, ap}
use Rattle.clap.specs.Words.{App, is_simple_and_free, with_rule}
use Rattle.clap.proofs.OnLiterals.{clap_on_literals}
use Rattle.command_words.specs.Command.{run_command, make_command, needing_app, hardware_rule}

run_free : is_simple_and_free run_command ≡ true
unfolding clap_on_literals run_command
run_free = refl

make_free : is_simple_and_free make_command ≡ true
unfolding clap_on_literals make_command
make_free = refl

pub run_is_free : (a : App) → a ≡ run_command → is_simple_and_free a ≡ true
run_is_free a same = ap is_simple_and_free same ∙ run_free

pub make_is_free : (a : App) → a ≡ make_command → is_simple_and_free a ≡ true
make_is_free a same = ap is_simple_and_free same ∙ make_free

pub run_shape : (a : App) → a ≡ with_rule (needing_app (codes "run") (codes "system")) hardware_rule → a ≡ run_command
unfolding run_command
run_shape a same = same

pub make_shape : (a : App) → a ≡ needing_app (codes "make") (codes "number") → a ≡ make_command
unfolding make_command
make_shape a same = same
