-- The texts of a sample key: the one text that each target has for it, where nothing is sealed.
use Rattle.std.specs.Prelude.{List, [], ◌∷◌, ℕ, map, None, if◌then◌else◌}
use Rattle.picky_kv.specs.declared.PpkVersionKey.TheVariants.{V2, V3}
use Rattle.picky_keys.specs.declared.kind.KeyKind.{KeyKind}
use Rattle.picky_keys.specs.Key.{is_security_key_kind}
use Rattle.picky_ppk_parts.specs.Config.{default_config}
use Rattle.picky_ppk.specs.declared.layout.PpkLayout.TheVariants as layouts
use Rattle.picky_suite.specs.Meanings.{Meanings}
use Rattle.picky_target.specs.declared.target.KeyTarget.{KeyTarget}
use Rattle.picky_target.specs.declared.target.KeyTarget.TheVariants as targets
use Rattle.picky_target.specs.Drafts.{default_rounds}
use Rattle.picky_target.specs.Output.{Output}
use Rattle.picky_target.specs.Texts.{text_for}
use Rattle.picky_convert.specs.SampleKeys.{kind_at, meaning_at}

-- there is no passphrase, and so no fresh bytes are taken
abbrev pub unsealed_output : Output
unsealed_output = record { pass = None; fresh = [] }

-- OpenSSH's private key, and PuTTY's file in version 3 and in version 2
abbrev pub openssh : KeyTarget
openssh = targets.OpenSsh default_rounds

abbrev pub ppk3 : KeyTarget
ppk3 = targets.Ppk V3 default_config layouts.Number

abbrev pub ppk2 : KeyTarget
ppk2 = targets.Ppk V2 default_config layouts.Number

-- the targets of a key, in their order; PuTTY has no key whose secret a device keeps
abbrev pub five_targets : List KeyTarget
five_targets = ppk3 ∷ ppk2 ∷ openssh ∷ targets.OpenSshPublic ∷ targets.PuttyPublic ∷ []

abbrev pub six_targets : List KeyTarget
six_targets = openssh ∷ five_targets

abbrev pub two_targets : List KeyTarget
two_targets = openssh ∷ targets.OpenSshPublic ∷ []

abbrev pub targets_of : KeyKind → List KeyTarget
targets_of kind = if is_security_key_kind kind then two_targets else six_targets

-- the text of the key with a number
unfoldable pub text_at : Meanings → ℕ → KeyTarget → List ℕ
text_at m i target = text_for m unsealed_output target (meaning_at i)

-- its texts, in their order
unfoldable pub texts_at : Meanings → ℕ → List (List ℕ)
texts_at m i = map (text_at m i) (targets_of (kind_at i))
