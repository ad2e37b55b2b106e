-- No Length within the limit is over two bytes.
use native.Mathlib.Omega.{arith}
use Rattle.integers_writing.proofs.Forms.{two_bytes}
use Rattle.header_writing.proofs.write_length.Goals as goal

pub write_two-requires : goal.write_two-requires
write_two-requires c = (omega arith, omega (arith, two_bytes c.args.counted))
