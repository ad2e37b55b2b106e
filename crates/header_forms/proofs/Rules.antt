-- The rules' form of Length is read back.
use native.Mathlib.Omega.{arith}
use lib.Dec.{lit<}
use Rattle.integers_writing.proofs.Forms.{two_bytes}
use Rattle.integers_writing.proofs.IntegersBack.{two_back}
use Rattle.header_forms.specs.Rules.{in_force, Readable}

pub in-force-readable : Readable in_force
in-force-readable = record {
  small = lit< tt;
  back = λ n rest h. rw (two_bytes n) (two_back n rest (omega arith));
}
