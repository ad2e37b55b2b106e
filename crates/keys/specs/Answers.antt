-- The code's sides and answers as what they stand for, and what making keys and installing them promise.
use Rattle.std.specs.Prelude.{ℕ, ◌≡◌, List, replicate, Result}
use Rattle.octets.specs.Outcome.{Outcome, refused, given}
use Rattle.octets.specs.Refusals.{outcome}
use Rattle.octets.specs.declared.refusal.Refusal.{Refusal}
use Rattle.protection.specs.Protection.{Keys}
use Rattle.protection.specs.KeyRecord.{keys_of}
use Rattle.protection.specs.declared.Keys as Code
use Rattle.keys.specs.Sides as Section5
use Rattle.keys.specs.InitialKeys.{initial_keys}
use Rattle.keys.specs.InstalledKeys.{installed}
use Rattle.keys.specs.declared.Side.{Side}

abbrev pub side_of : Side → Section5.Side
side_of Side.Client = Section5.client
side_of Side.Server = Section5.server

abbrev pub made_answer : Result Code.Keys Refusal → Outcome Keys
made_answer = outcome keys_of

-- an outcome as it is answered
abbrev pub Made : Outcome Keys → Result Code.Keys Refusal → Type 0
Made o r = made_answer r ≡ o

-- the record where none is given: zeros
abbrev pub blank_keys : Keys
blank_keys = record { version = 0; level = 0; key = replicate 16 0; iv = replicate 12 0; hp = replicate 16 0 }

abbrev pub keys_given : Outcome Keys → Keys
keys_given (refused n) = blank_keys
keys_given (given k) = k

abbrev pub InitialKeysMade : (v : ℕ) (destination : List ℕ) → Side → Result Code.Keys Refusal → Type 0
InitialKeysMade v destination side = Made (initial_keys v destination (side_of side))

abbrev pub KeysInstalled : (v level : ℕ) (sender : Side) (secret : List ℕ) → Result Code.Keys Refusal → Type 0
KeysInstalled v level sender secret = Made (installed v level (side_of sender) secret)
