-- Each part fills its array, the first four bytes spell the version, and the fifth is the level.
use mathlib.Core.Path.{refl}
use Rattle.c_key_record.proofs.KeyRecords.{keys-read}
use Rattle.c_key_record.proofs.load_keys.Goals as goal

pub returns : goal.returns
returns c =
    keys-read c.args.bytes c.word.ensures refl c.copy_from_slice.ensures.after c.copy_from_slice-2.ensures.after c.copy_from_slice-3.ensures.after
