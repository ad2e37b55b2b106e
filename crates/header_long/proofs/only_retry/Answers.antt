-- The type, compared with Retry's.
use mathlib.Core.Path.{sym, ◌∙◌}
use Rattle.header_long.proofs.LongHeaders.{retry-other, retry-right}
use Rattle.header_long.proofs.only_retry.Goals as goal

pub returns-then-kind-retry_type : goal.returns-then-kind-retry_type
returns-then-kind-retry_type c = sym (retry-other _ _ (λ e. c.if-kind-retry_type.true (e ∙ sym c.retry_type.ensures)))

pub returns : goal.returns
returns c = sym (retry-right _ _ (c.if-kind-retry_type.false ∙ c.retry_type.ensures))
