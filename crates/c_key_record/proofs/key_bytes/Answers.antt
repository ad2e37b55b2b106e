-- Each part goes on where the one before it ends, and the last fills the bytes.
use mathlib.Core.Path.{refl}
use native.Mathlib.Omega.{arith}
use lib.ListN.{replicate}
use Rattle.protection.specs.KeyRecord.{keys_of}
use Rattle.c_key_record.proofs.KeyRecords.{keys-laid}
use Rattle.c_key_record.proofs.key_bytes.Goals as goal

-- the level's byte left as many as there were
pub returns : goal.returns
returns c =
    keys-laid (keys_of c.args.keys) (record { of-key = omega arith; of-iv = omega arith; of-hp = omega arith }) (replicate 49 0) _ _ _ _ refl c.store.ensures c.copy.ensures c.copy-2.ensures c.copy-3.ensures
