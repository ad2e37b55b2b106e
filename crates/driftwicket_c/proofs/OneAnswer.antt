-- Each promise permits one answer, one report and one state of all else that was lent: any two are equal.
use Prim.Native.Nat.{ℕ}
use mathlib.Core.Path.{◌≡◌, sym, ◌∙◌}
use mathlib.Core.List.{List}
use Rattle.octets.specs.Outcome.{Outcome}
use Rattle.header_writing.specs.Written.{Plain}
use Rattle.c_forms.specs.Promises.{Answers, Writes}
use Rattle.c_numbers.specs.Promises.{DwReadInteger, DwSmallestLength, DwShorten, DwRecover}
use Rattle.c_keys.specs.Promises.{DwInitialKeys, DwInstallKeys}
use Rattle.c_seal.specs.Promises.{DwSeal}
use Rattle.c_open.specs.Promises.{DwOpen}
use Rattle.c_header.specs.Promises.{DwReadHeader}
use Rattle.c_retry.specs.Promises.{DwWriteRetry, DwCheckRetry}

module _ {before : List ℕ} {r r' : ℕ} {report report' : List ℕ} where
  answers-once : {A : Type 0} {o : Outcome A} {report_of : A → List ℕ} → Answers o report_of before r report → Answers o report_of before r' report' → (r ≡ r') × (report ≡ report')
  answers-once a b = (a.answer ∙ sym b.answer, a.reported ∙ sym b.reported)

  writes-once : {o : Outcome (List ℕ)} {buffer then then' : List ℕ} → Writes o before r report buffer then → Writes o before r' report' buffer then'
      → (r ≡ r') × (report ≡ report') × (then ≡ then')
  writes-once a b =
      let same = answers-once a.answers b.answers in
      (same.0, same.1, a.written ∙ sym b.written)

  pub dw-read-integer-once : (bytes : List ℕ) → DwReadInteger bytes before r report → DwReadInteger bytes before r' report' → (r ≡ r') × (report ≡ report')
  dw-read-integer-once bytes = answers-once

  pub dw-smallest-length-once : (number any acknowledged : ℕ)
      → DwSmallestLength number any acknowledged before r report → DwSmallestLength number any acknowledged before r' report' → (r ≡ r') × (report ≡ report')
  dw-smallest-length-once number any acknowledged = answers-once

  pub dw-shorten-once : (number any acknowledged n : ℕ)
      → DwShorten number any acknowledged n before r report → DwShorten number any acknowledged n before r' report' → (r ≡ r') × (report ≡ report')
  dw-shorten-once number any acknowledged n = answers-once

  pub dw-recover-once : (expected truncated n : ℕ) → DwRecover expected truncated n before r report → DwRecover expected truncated n before r' report' → (r ≡ r') × (report ≡ report')
  dw-recover-once expected truncated n = answers-once

  -- the report is the keys
  pub dw-initial-keys-once : (v : ℕ) (destination : List ℕ) (server : ℕ)
      → DwInitialKeys v destination server before r report → DwInitialKeys v destination server before r' report' → (r ≡ r') × (report ≡ report')
  dw-initial-keys-once v destination server = answers-once

  pub dw-install-keys-once : (v level server : ℕ) (secret : List ℕ)
      → DwInstallKeys v level server secret before r report → DwInstallKeys v level server secret before r' report' → (r ≡ r') × (report ≡ report')
  dw-install-keys-once v level server secret = answers-once

  pub dw-read-header-once : (datagram : List ℕ) → DwReadHeader datagram before r report → DwReadHeader datagram before r' report' → (r ≡ r') × (report ≡ report')
  dw-read-header-once datagram = answers-once

  pub dw-check-retry-once : (original datagram : List ℕ) → DwCheckRetry original datagram before r report → DwCheckRetry original datagram before r' report' → (r ≡ r') × (report ≡ report')
  dw-check-retry-once original datagram = answers-once

  module _ {buffer then then' : List ℕ} where
    pub dw-seal-once : (keys : List ℕ) (any acknowledged : ℕ) (p : Plain)
        → DwSeal keys any acknowledged p before r report buffer then → DwSeal keys any acknowledged p before r' report' buffer then'
        → (r ≡ r') × (report ≡ report') × (then ≡ then')
    dw-seal-once keys any acknowledged p = writes-once

    pub dw-write-retry-once : (v : ℕ) (original destination source token : List ℕ) (low : ℕ)
        → DwWriteRetry v original destination source token low before r report buffer then
        → DwWriteRetry v original destination source token low before r' report' buffer then'
        → (r ≡ r') × (report ≡ report') × (then ≡ then')
    dw-write-retry-once v original destination source token low = writes-once

    pub dw-open-once : {keys datagram : List ℕ} {expected next next' : ℕ}
        → DwOpen keys datagram expected next before r report buffer then → DwOpen keys datagram expected next' before r' report' buffer then'
        → (r ≡ r') × (report ≡ report') × (next ≡ next') × (then ≡ then')
    dw-open-once a b =
        let same = answers-once a.answers b.answers in
        (same.0, same.1, a.moved ∙ sym b.moved, a.written ∙ sym b.written)
