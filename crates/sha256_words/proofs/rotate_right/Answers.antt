-- The method's two shifts have parts that do not meet.
use Rattle.std.proofs.Common.{◌∙◌, arith}
use Rattle.sha256_words.proofs.Rotation.{rotation}
use Rattle.sha256_words.proofs.rotate_right.Goals as goal

pub returns : goal.returns
returns c = c.rotate_right.ensures ∙ rotation c.args.n c.args.x (omega arith) (omega arith) (omega arith)
