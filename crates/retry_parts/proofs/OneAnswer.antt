-- The contract fixes its answer: any two answers that it permits are equal, and so of each part.
use Prim.Native.Nat.{ℕ}
use mathlib.Core.Path.{◌≡◌, sym, ◌∙◌}
use mathlib.Core.List.{List}
use Rattle.header_fields.specs.declared.Part.{Part}
use Rattle.retry_parts.specs.Answers.{RetryPart, RetryDestination, RetrySource, RetryToken}

pub retry-part-once : {part : Part} {original d r r' : List ℕ} → RetryPart part original d r → RetryPart part original d r' → r ≡ r'
retry-part-once a b = a.answer ∙ sym b.answer

pub retry-destination-once : {original d r r' : List ℕ} → RetryDestination original d r → RetryDestination original d r' → r ≡ r'
retry-destination-once = retry-part-once

pub retry-source-once : {original d r r' : List ℕ} → RetrySource original d r → RetrySource original d r' → r ≡ r'
retry-source-once = retry-part-once

pub retry-token-once : {original d r r' : List ℕ} → RetryToken original d r → RetryToken original d r' → r ≡ r'
retry-token-once = retry-part-once
