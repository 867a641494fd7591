-- The keys of a file as the code has them, of one of the two versions.
use Rattle.picky_ppk.specs.declared.keys.FileKeys.{FileKeys}
use Rattle.picky_ppk.specs.declared.keys.FileKeys.TheVariants.{V2, V3}
use Rattle.picky_ppk_parts.specs.Keys.{Keys}
use Rattle.picky_ppk_parts.specs.Material.{cipher_iv_v2}

-- the cipher's key and iv, and the MAC's key
abbrev pub keys_seen : FileKeys → Keys
keys_seen (V2 key mac_key) = record { key = key; iv = cipher_iv_v2; mac_key = mac_key }
keys_seen (V3 keys) = keys
