-- The form's length.
use mathlib.Core.Path.{sym}
use Rattle.integers_writing.proofs.Forms.{two_bytes}
use Rattle.header_writing.proofs.length_form.Goals as goal

pub returns : goal.returns
returns c = sym (two_bytes _)
