-- The conversion to any target.
use Rattle.std.specs.Prelude.{List, ℕ, Bool, Result}
use Rattle.picky_wire_base.specs.Outcome.{map_ok}
use Rattle.picky_cert_builder.specs.Draft.{Unsigned}
use Rattle.picky_ppk.specs.declared.layout.PpkLayout.TheVariants as layouts
use Rattle.picky_key_text.specs.declared.meaning.Meaning.{Meaning}
use Rattle.picky_key_text.specs.Order.{asks}
use Rattle.picky_target.specs.declared.error.ConvertError.{ConvertError}
use Rattle.picky_target.specs.declared.target.KeyTarget.{KeyTarget}
use Rattle.picky_target.specs.declared.target.KeyTarget.TheVariants as keys
use Rattle.picky_target.specs.Carried.{Carries}
use Rattle.picky_target.specs.Drafts.{default_rounds}
use Rattle.picky_target.specs.ReadBack.{IsTarget}
use Rattle.picky_conversion.specs.declared.request.CertRequest.{CertRequest}
use Rattle.picky_conversion.specs.Certified.{SignRelation}
use Rattle.picky_conversion.specs.Drafted.{IsLineDrafted}
use Rattle.picky_conversion.specs.declared.target.Target.{Target}
use Rattle.picky_conversion.specs.declared.target.Target.TheVariants as targets
use Rattle.picky_conversion.specs.Certify.{IsCertified, IsInputFault, certification}
use Rattle.picky_conversion.specs.Convert.{IsConversion, IsFaultOf, conversion, converting_asks}
use Rattle.picky_conversion.specs.Made.{Made, ToSign, Whole}
use Rattle.picky_conversion.specs.Outside.{Outside}

-- by the key and the comment alone, or by a request that a device signs
pub data Way : Type 0 where
  Written : KeyTarget → Way
  Certified : CertRequest → Way

-- OpenSSH's private key is sealed with 16 rounds, and a file for PuTTY has an Ed25519 secret as a number
abbrev pub way_to : Target → Way
way_to targets.OpenSsh = Written (keys.OpenSsh default_rounds)
way_to (targets.Ppk version config) = Written (keys.Ppk version config layouts.Number)
way_to targets.OpenSshPublic = Written keys.OpenSshPublic
way_to targets.PuttyPublic = Written keys.PuttyPublic
way_to (targets.Certificate request) = Certified request

-- what it comes to before a device signs, or the first reason why it comes to nothing
abbrev pub converted : Outside → Way → List ℕ → Result Made ConvertError
converted o (Written target) input = map_ok Whole (conversion o target input)
converted o (Certified request) input = map_ok ToSign (certification o request input)

-- the suite is asked for it
abbrev pub asks_to : Outside → Way → List ℕ → Bool
asks_to o (Written target) input = converting_asks o target input
asks_to o (Certified request) input = asks o.pass_in input

-- how often it is, at most: to open what it reads, and to seal what it writes, each a derivation and a cipher
abbrev pub most_asked : Way → ℕ
most_asked (Written target) = 4
most_asked (Certified request) = 2

-- the refusal is the suite's fault
abbrev pub IsFaultTo : Outside → Way → List ℕ → ConvertError → Type 0 → Type 0
IsFaultTo o (Written target) input e rose = IsFaultOf o target input e rose
IsFaultTo o (Certified request) input e rose = IsInputFault o input e rose

-- the text is the target's for the one thing that the key text means, and it is read back
abbrev pub IsConverted : SignRelation → Outside → Way → List ℕ → List ℕ → Type 0
IsConverted signs o (Written target) input text = IsConversion o target input text
IsConverted signs o (Certified request) input text = IsCertified signs o request input text

-- the target has a text for the meaning, before a device signs
abbrev pub CanConvert : Outside → Way → Meaning → Type 0
CanConvert o (Written target) meaning = Carries o.output target meaning
CanConvert o (Certified request) meaning = (u : Unsigned) × IsLineDrafted request meaning o.output.fresh u

-- the numbers of its target have the ranges of their types
abbrev pub IsWay : Way → Type 0
IsWay (Written target) = IsTarget target
IsWay (Certified request) = Unit {0}
