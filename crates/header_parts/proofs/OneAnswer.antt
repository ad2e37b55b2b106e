-- The contract fixes its answer: any two answers that it permits are equal, and so of each part.
use Prim.Native.Nat.{ℕ}
use mathlib.Core.Path.{◌≡◌, sym, ◌∙◌}
use mathlib.Core.List.{List}
use Rattle.header_fields.specs.declared.Part.{Part}
use Rattle.header_parts.specs.Answers.{HeaderPart, HeaderDestination, HeaderSource, HeaderToken}

pub header-part-once : {part : Part} {d r r' : List ℕ} → HeaderPart part d r → HeaderPart part d r' → r ≡ r'
header-part-once a b = a.answer ∙ sym b.answer

pub header-destination-once : {d r r' : List ℕ} → HeaderDestination d r → HeaderDestination d r' → r ≡ r'
header-destination-once = header-part-once

pub header-source-once : {d r r' : List ℕ} → HeaderSource d r → HeaderSource d r' → r ≡ r'
header-source-once = header-part-once

pub header-token-once : {d r r' : List ℕ} → HeaderToken d r → HeaderToken d r' → r ≡ r'
header-token-once = header-part-once
