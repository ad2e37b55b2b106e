-- What writing a Retry comes to, by what the tests show.
use Prim.Native.Nat.{ℕ, ◌≤◌, ◌<◌}
use mathlib.Core.Path.{◌≡◌, refl, ◌∙◌}
use mathlib.Core.Bool.{true, false}
use mathlib.Core.List.{List}
use lib.Dec.{leb}
use lib.ListN.{length}
use borrow.Author.Tests.{le-leb, lt-leb, leb-true}
use Rattle.octets.specs.Outcome.{refused, given, unless, ◌>>◌}
use Rattle.octets.proofs.Outcome.{passed, given-same}
use Rattle.versions.specs.Versions.{known}
use Rattle.header_forms.specs.Rules.{Rules}
use Rattle.header_fields.specs.Fields.{longest_id}
use Rattle.retry_tag.specs.Tag.{tagged}
use Rattle.retry_writing.specs.Written.{untagged, retry_written}
use Rattle.retry_writing.specs.Answers.{size_of}
use Rattle.retry_writing.proofs.Packets.{retry-length}

module _ (rules : Rules) (v : ℕ) (original destination source token : List ℕ) (low room : ℕ) where
  pub write-unknown : known v ≡ false → retry_written rules v original destination source token low room ≡ refused 4
  unfolding retry_written
  write-unknown h = rw h

  module _ (ours : known v ≡ true) where
    pub write-long-original : longest_id < length original → retry_written rules v original destination source token low room ≡ refused 5
    unfolding retry_written
    write-long-original h = rw (ours, lt-leb (length original) longest_id h)

    module _ (o : length original ≤ longest_id) where
      original-id : leb (length original) longest_id ≡ true
      original-id = le-leb (length original) longest_id o

      pub write-long-destination : longest_id < length destination → retry_written rules v original destination source token low room ≡ refused 5
      unfolding retry_written
      write-long-destination h = rw (ours, original-id, lt-leb (length destination) longest_id h)

      module _ (d : length destination ≤ longest_id) where
        first-id : leb (length destination) longest_id ≡ true
        first-id = le-leb (length destination) longest_id d

        pub write-long-source : longest_id < length source → retry_written rules v original destination source token low room ≡ refused 5
        unfolding retry_written
        write-long-source h = rw (ours, original-id, first-id, lt-leb (length source) longest_id h)

        module _ (s : length source ≤ longest_id) where
          second-id : leb (length source) longest_id ≡ true
          second-id = le-leb (length source) longest_id s

          pub write-no-token : length token < 1 → retry_written rules v original destination source token low room ≡ refused 13
          unfolding retry_written
          write-no-token h = rw (ours, original-id, first-id, second-id, lt-leb 1 (length token) h)

          module _ (some : 1 ≤ length token) where
            -- size and room alone are left to be judged
            judged : retry_written rules v original destination source token low room
                ≡ (unless 1 (leb (size_of destination source token) rules.limit)
                >> (unless 8 (leb (size_of destination source token) room) >> given (tagged v original (untagged v destination source token low))))
            unfolding retry_written
            judged = rw (ours, original-id, first-id, second-id, le-leb 1 (length token) some, retry-length v original destination source token low)

            pub write-large : rules.limit < size_of destination source token → retry_written rules v original destination source token low room ≡ refused 1
            write-large h = judged ∙ rw (lt-leb (size_of destination source token) rules.limit h)

            module _ (fits : size_of destination source token ≤ rules.limit) where
              sized : leb (size_of destination source token) rules.limit ≡ true
              sized = le-leb (size_of destination source token) rules.limit fits

              pub write-no-room : room < size_of destination source token → retry_written rules v original destination source token low room ≡ refused 8
              write-no-room h = judged ∙ rw (sized, lt-leb (size_of destination source token) room h)

              pub write-given : size_of destination source token ≤ room
                  → retry_written rules v original destination source token low room ≡ given (tagged v original (untagged v destination source token low))
              write-given h = judged ∙ rw (sized, le-leb (size_of destination source token) room h)

-- what a Retry that was written tells of its parts
pub record RetryMade (rules : Rules) (v : ℕ) (original destination source token : List ℕ) (low : ℕ) (packet : List ℕ) : Type 0 where
  pub ours : known v ≡ true
  pub short-original : length original ≤ longest_id
  pub short-destination : length destination ≤ longest_id
  pub short-source : length source ≤ longest_id
  pub some : 1 ≤ length token
  pub fits : length packet ≤ rules.limit
  pub is : packet ≡ tagged v original (untagged v destination source token low)

pub retry-made : (rules : Rules) (v : ℕ) (original destination source token : List ℕ) (low room : ℕ) {packet : List ℕ}
    → retry_written rules v original destination source token low room ≡ given packet → RetryMade rules v original destination source token low packet
unfolding retry_written
retry-made rules v original destination source token low room is =
    let whole : List ℕ = tagged v original (untagged v destination source token low) in
    let a = passed 4 (known v) _ is in
    let b = passed 5 (leb (length original) longest_id) _ a.1 in
    let c = passed 5 (leb (length destination) longest_id) _ b.1 in
    let d = passed 5 (leb (length source) longest_id) _ c.1 in
    let e = passed 13 (leb 1 (length token)) _ d.1 in
    let f = passed 1 (leb (length whole) rules.limit) _ e.1 in
    let g = passed 8 (leb (length whole) room) _ f.1 in
    rw (← (given-same g.1)) (record {
      ours = a.0;
      short-original = leb-true (length original) longest_id b.0;
      short-destination = leb-true (length destination) longest_id c.0;
      short-source = leb-true (length source) longest_id d.0;
      some = leb-true 1 (length token) e.0;
      fits = leb-true (length whole) rules.limit f.0;
      is = refl;
    })
