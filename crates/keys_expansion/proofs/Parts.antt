-- A sender's keys, part by part.
use Prim.Native.Nat.{ℕ}
use mathlib.Core.Path.{◌≡◌}
use mathlib.Core.List.{List}
use Rattle.protection.specs.Protection.{Keys}

-- keys are the same where their parts are
pub keys-same : (v level : ℕ) {key key' iv iv' hp hp' : List ℕ} → key ≡ key' → iv ≡ iv' → hp ≡ hp'
    → ◌≡◌ {A = Keys} (record { version = v; level = level; key = key; iv = iv; hp = hp }) (record { version = v; level = level; key = key'; iv = iv'; hp = hp' })
keys-same v level p q r = rw (p, q, r)
