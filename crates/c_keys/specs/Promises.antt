-- What C is promised of keys: RFC 9001 sections 5.1 and 5.2.
use Rattle.std.specs.Prelude.{ℕ, List}
use Rattle.keys.specs.InitialKeys.{initial_keys}
use Rattle.keys.specs.InstalledKeys.{installed}
use Rattle.c_forms.specs.Promises.{Answers}
use Rattle.c_key_record.specs.Layout.{key_bytes}
use Rattle.c_keys.specs.Arguments.{side_by}

-- the keys are what is reported
abbrev pub DwInitialKeys : (v : ℕ) (destination : List ℕ) (server : ℕ) (before : List ℕ) (r : ℕ) (keys : List ℕ) → Type 0
DwInitialKeys v destination server = Answers (initial_keys v destination (side_by server)) key_bytes

abbrev pub DwInstallKeys : (v level server : ℕ) (secret before : List ℕ) (r : ℕ) (keys : List ℕ) → Type 0
DwInstallKeys v level server secret = Answers (installed v level (side_by server) secret) key_bytes
