-- The cipher of sixteen zeros, as a number.
use Rattle.gcm.proofs.Tagging.{key-is}
use Rattle.gcm.proofs.hash_key.Goals as goal

pub returns : goal.returns
returns c = key-is c.args.schedule.now c.encrypt-block.result _ c.encrypt-block.ensures c.load_block.ensures
