-- RFC 9001 section 5.3: AEAD_AES_128_GCM, and the AES-128 output under hp as the mask (section 5.4.3).
use Rattle.aes_byte_rounds.specs.Cipher.{cipher}
use Rattle.gcm_counter.specs.Counter.{stream}
use Rattle.gcm.specs.Gcm.{tag}
use Rattle.protection.specs.Suite.{Suite}

abbrev pub aes_gcm : Suite
aes_gcm = record { stream = stream; tag = tag; mask = cipher }
