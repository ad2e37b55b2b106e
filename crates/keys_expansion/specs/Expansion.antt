-- RFC 9001 section 5.1: a sender's keys, from its secret.
use Rattle.std.specs.Prelude.{ℕ, List}
use Rattle.hkdf.specs.Hkdf.{expand_label}
use Rattle.versions.specs.Versions.{Version, version}
use Rattle.protection.specs.Protection.{Keys}
use Rattle.keys_expansion.specs.declared.Part.{Part}
use Rattle.keys_expansion.specs.declared.Part.TheVariants as Part

-- the label of a part of the keys
abbrev pub label_of : Part → Version → List ℕ
label_of Part.Key v = v.key_label
label_of Part.Iv v = v.iv_label
label_of Part.Hp v = v.hp_label

-- key, iv and hp, alike at every level
unfoldable pub keys_from : (v level : ℕ) (secret : List ℕ) → Keys
keys_from v level secret = record {
  version = v;
  level = level;
  key = expand_label secret (version v).key_label 16;
  iv = expand_label secret (version v).iv_label 12;
  hp = expand_label secret (version v).hp_label 16;
}
