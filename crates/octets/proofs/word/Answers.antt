-- The four bytes, each times its power of 256, are the number that they spell.
use Rattle.octets.proofs.Numbers.{four_bytes}
use Rattle.octets.proofs.word.Goals as goal

pub returns : goal.returns
returns c = four_bytes c.args.source.now c.args.at c.requires
