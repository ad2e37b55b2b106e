-- The contract of the schedule fixes it: any two that it permits are equal.
use Rattle.std.proofs.Common.{◌≡◌, ℕ, ◌<◌, List, length, get_or}
use Rattle.octets.proofs.Rule.{filled-once}
use Rattle.sha256_schedule.specs.Schedule.{W}

pub schedule-once : (m : List ℕ) {a b : List ℕ} → length a ≡ 64 → length b ≡ 64 → ((t : ℕ) → t < 64 → get_or a t 0 ≡ W m t) → ((t : ℕ) → t < 64 → get_or b t 0 ≡ W m t) → a ≡ b
schedule-once m long-a long-b in-a in-b = filled-once (W m) 64 long-a long-b in-a in-b
