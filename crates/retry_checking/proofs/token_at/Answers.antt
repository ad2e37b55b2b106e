-- The tag is whole before the token is judged.
use mathlib.Core.Path.{sym}
use native.Mathlib.Omega.{arith}
use Rattle.retry_checking.proofs.Refusals.{token-no-tag, token-none, token-found}
use Rattle.retry_checking.proofs.token_at.Goals as goal

pub returns-then-behind-lt-TAG_LENGTH : goal.returns-then-behind-lt-TAG_LENGTH
returns-then-behind-lt-TAG_LENGTH c = sym (token-no-tag _ _ (omega arith))

pub returns-then-len-lt1 : goal.returns-then-len-lt1
returns-then-len-lt1 c = sym (token-none _ _ (omega arith) (omega arith))

pub returns : goal.returns
returns c = sym (token-found _ _ (omega arith) (omega arith))
