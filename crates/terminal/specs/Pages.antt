-- What is printed on.
use Rattle.std.specs.Prelude.{◌≡◌, Err, IfErr}
use Rattle.terminal.specs.declared.print.Page.{Page}

-- a failure to write stays: nothing that is printed behind it hides it
abbrev pub FailureStays : Page → Page → Type 0
FailureStays before after = IfErr before.written (λ e. after.written ≡ Err e)
