-- What a name holds, as a file of a run.
use Rattle.std.specs.Prelude.{List, ℕ, Result}
use Rattle.outside_io.specs.Store.{Files}
use Rattle.run_files.specs.Verdict.{About, about, bytes_held}

-- the bytes of the file with a name
abbrev pub file_bytes : Files → List ℕ → Result (List ℕ) About
file_bytes files name = about name (bytes_held (files name))
