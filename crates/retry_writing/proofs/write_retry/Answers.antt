-- Each refusal is one law, and so is the packet.
use mathlib.Core.Path.{sym, ◌∙◌}
use native.Mathlib.Omega.{arith}
use Rattle.retry_writing.proofs.Refusals.{write-unknown, write-long-original, write-long-destination, write-long-source, write-no-token, write-large, write-no-room, write-given}
use Rattle.retry_writing.proofs.Promises.{write-refused, write-made}
use Rattle.retry_writing.proofs.write_retry.Goals as goal

pub returns-then-not-is_known : goal.returns-then-not-is_known
returns-then-not-is_known c = write-refused _ (write-unknown _ _ _ _ _ _ _ _ (sym c.is_known.ensures ∙ c.if-not-is_known.true))

pub returns-then-original-gt-LONGEST_ID : goal.returns-then-original-gt-LONGEST_ID
returns-then-original-gt-LONGEST_ID c = write-refused _ (write-long-original _ _ _ _ _ _ _ _ (sym c.is_known.ensures ∙ c.if-not-is_known.false) c.if-original-gt-LONGEST_ID.true)

pub returns-then-destination-gt-LONGEST_ID : goal.returns-then-destination-gt-LONGEST_ID
returns-then-destination-gt-LONGEST_ID c = write-refused _ (write-long-destination _ _ _ _ _ _ _ _ (sym c.is_known.ensures ∙ c.if-not-is_known.false) c.if-original-gt-LONGEST_ID.false c.if-destination-gt-LONGEST_ID.true)

pub returns-then-source-gt-LONGEST_ID : goal.returns-then-source-gt-LONGEST_ID
returns-then-source-gt-LONGEST_ID c = write-refused _ (write-long-source _ _ _ _ _ _ _ _ (sym c.is_known.ensures ∙ c.if-not-is_known.false) c.if-original-gt-LONGEST_ID.false c.if-destination-gt-LONGEST_ID.false c.if-source-gt-LONGEST_ID.true)

pub returns-then-token-lt1 : goal.returns-then-token-lt1
returns-then-token-lt1 c = write-refused _ (write-no-token _ _ _ _ _ _ _ _ (sym c.is_known.ensures ∙ c.if-not-is_known.false) c.if-original-gt-LONGEST_ID.false c.if-destination-gt-LONGEST_ID.false c.if-source-gt-LONGEST_ID.false c.if-token-lt1.true)

pub returns-then-beside_token-token : goal.returns-then-beside_token-token
returns-then-beside_token-token c = write-refused _ (write-large _ _ _ _ _ _ _ _ (sym c.is_known.ensures ∙ c.if-not-is_known.false) c.if-original-gt-LONGEST_ID.false c.if-destination-gt-LONGEST_ID.false c.if-source-gt-LONGEST_ID.false c.if-token-lt1.false (omega arith))

pub returns-then-out-size : goal.returns-then-out-size
returns-then-out-size c = write-refused _ (write-no-room _ _ _ _ _ _ _ _ (sym c.is_known.ensures ∙ c.if-not-is_known.false) c.if-original-gt-LONGEST_ID.false c.if-destination-gt-LONGEST_ID.false c.if-source-gt-LONGEST_ID.false c.if-token-lt1.false (omega arith) (omega arith))

pub returns : goal.returns
returns c = write-made (write-given _ _ _ _ _ _ _ _ (sym c.is_known.ensures ∙ c.if-not-is_known.false) c.if-original-gt-LONGEST_ID.false c.if-destination-gt-LONGEST_ID.false c.if-source-gt-LONGEST_ID.false c.if-token-lt1.false (omega arith) (omega arith)) c.write_packet.ensures
