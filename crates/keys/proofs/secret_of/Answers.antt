-- The salt, extracted and expanded by the side's label.
use mathlib.Core.Path.{ap, ◌∙◌}
use mathlib.Core.List.{List}
use Prim.Native.Nat.{ℕ}
use Rattle.octets.specs.Text.{ascii}
use Rattle.hkdf.specs.Hkdf.{extract, expand_label}
use Rattle.keys.specs.InitialKeys.{side_label, side_secret}
use Rattle.keys.proofs.secret_of.Goals as goal

pub returns-in-Client : goal.returns-in-Client
unfolding side_secret side_label ascii
returns-in-Client c =
    let initial = c.extract-initial.ensures ∙ ap (λ (salt : List ℕ). extract salt c.args.destination.now) c.salt-salt.ensures in
    rw c.in-Client.is (c.expand_label.ensures ∙ ap (λ (s : List ℕ). expand_label s _ 32) initial)

pub returns-in-Server : goal.returns-in-Server
unfolding side_secret side_label ascii
returns-in-Server c =
    let initial = c.extract-initial.ensures ∙ ap (λ (salt : List ℕ). extract salt c.args.destination.now) c.salt-salt.ensures in
    rw c.in-Server.is (c.expand_label-in-Server.ensures ∙ ap (λ (s : List ℕ). expand_label s _ 32) initial)
