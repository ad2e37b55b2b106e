-- The second word has a colon in it, or is an ID.
use Rattle.std.proofs.Common.{sym, ap, ◌∙◌, eq-eqb, ne_eqb}
use Rattle.terminal_words.specs.Words.{word_count}
use Rattle.wicket_words.proofs.Named.{secret-decoded}
use Rattle.vectors.specs.Records.{record_named}
use Rattle.vectors.proofs.Named.{made-or-blank}
use Rattle.vectors.proofs.making.record_of.Goals as goal

pub returns-then-count-ne2 : goal.returns-then-count-ne2
unfolding record_named
returns-then-count-ne2 c =
    let words = c.count.ensures ∙ ap (word_count 58) c.word-origin.ensures in
    rw (ne_eqb _ 2 (λ e. c.if-count-ne2.true (words ∙ e)), c.unwrap_or.ensures)
    (made-or-blank _ c.initial_of.ensures c.blank.ensures)

pub returns : goal.returns
unfolding record_named
returns c =
    let two = sym c.count.ensures ∙ c.if-count-ne2.false in
    let secret = secret-decoded c.decode.ensures.decoded in
    rw (sym c.word-origin.ensures, eq-eqb _ 2 two, sym c.version.ensures, sym c.word.ensures, sym c.byte-level.ensures, sym c.word-2.ensures, sym secret)
    c.keys_from.ensures
