-- The digest of a side: SHA-256 (FIPS 180-4, section 6.2), by the definition of the crate `sha2`.
use Rattle.std.specs.Prelude.{ℕ, List}
use Rattle.sha2.specs.Sha256.{sha256}

unfoldable pub digest : List ℕ → List ℕ
digest bytes = sha256 bytes
