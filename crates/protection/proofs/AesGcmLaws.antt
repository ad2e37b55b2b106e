-- The suite that the code uses meets the laws that sealing, opening and the receiver rest on.
use Rattle.gcm_counter.proofs.Laws.{stream-length, stream-twice}
use Rattle.gcm.proofs.Laws.{tag-length}
use Rattle.protection.specs.Suite.{Laws}
use Rattle.protection.specs.AesGcm.{aes_gcm}

pub aes-gcm-laws : Laws aes_gcm
aes-gcm-laws = record { stream-length = stream-length; stream-twice = stream-twice; tag-length = tag-length }
