-- Handshake for both, and 0-RTT for the client.
use mathlib.Core.Path.{refl}
use borrow.Author.Tests.{ne_eqb}
use Rattle.keys.specs.InstalledKeys.{installs}
use Rattle.keys.proofs.installs.Goals as goal

pub returns-then-level-eq-ZERO_RTT : goal.returns-then-level-eq-ZERO_RTT
unfolding installs
returns-then-level-eq-ZERO_RTT c = rw (c.in-Client.is, c.if-level-eq-ZERO_RTT.true) refl

pub returns-else-level-eq-ZERO_RTT : goal.returns-else-level-eq-ZERO_RTT
unfolding installs
returns-else-level-eq-ZERO_RTT c = rw (c.in-Client.is, ne_eqb _ _ c.if-level-eq-ZERO_RTT.false) refl

pub returns-in-Server : goal.returns-in-Server
unfolding installs
returns-in-Server c = rw c.in-Server.is refl
