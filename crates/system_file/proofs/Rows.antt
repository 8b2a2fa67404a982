-- Files that are written out.
use Rattle.std.proofs.Common.{◌≡◌, [], codes, refl, None, Ok, Err}
use Rattle.toml.proofs.OnLiterals.{toml_on_literals}
use Rattle.std.specs.Str.{is_utf8, chars}
use Rattle.system_file.specs.Fields.{fields_of}
use Rattle.system_file.specs.Read.{system_of_file}
use Rattle.system_file.specs.declared.system.SystemRefusal.TheVariants.{NotToml, Field}

plain : system_of_file (codes "version = 1\nimage = \"k.bin\"\nguest_memory = 65536\nreal_time_memory = 65536\n")
    ≡ Ok (record { version = 1; image = codes "k.bin"; guest_memory = 65536; real_time_memory = 65536; modules = []; script = None })
unfolding toml_on_literals system_of_file is_utf8 chars fields_of
plain = refl

no_value : system_of_file (codes "version =\n") ≡ Err NotToml
unfolding toml_on_literals system_of_file is_utf8 chars fields_of
no_value = refl

no_image : system_of_file (codes "version = 1\nguest_memory = 65536\nreal_time_memory = 65536\n") ≡ Err Field
unfolding toml_on_literals system_of_file is_utf8 chars fields_of
no_image = refl

second_version : system_of_file (codes "version = 2\nimage = \"k.bin\"\nguest_memory = 65536\nreal_time_memory = 65536\n")
    ≡ Ok (record { version = 2; image = codes "k.bin"; guest_memory = 65536; real_time_memory = 65536; modules = []; script = None })
unfolding toml_on_literals system_of_file is_utf8 chars fields_of
second_version = refl

third_version : system_of_file (codes "version = 3\nimage = \"k.bin\"\nguest_memory = 65536\nreal_time_memory = 65536\n") ≡ Err Field
unfolding toml_on_literals system_of_file is_utf8 chars fields_of
third_version = refl
