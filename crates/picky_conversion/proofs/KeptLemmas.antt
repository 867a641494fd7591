-- Texts of one target are equal exactly where what is kept is, and public parts are kept through any targets.
use Rattle.std.proofs.Common.{◌≡◌, ℕ, List, [], ◌∷◌, false, None, Ok, refl, sym, ap, ◌∙◌, subst}
use Rattle.std.specs.{Option.{IfSome}, Str.{IsUtf8}}
use Rattle.picky_wire_base.specs.{Outcome.{map_err}, carried.Outcome.{and_then_ok, map_err_ok}}
use Rattle.picky_sshkey_blob.specs.declared.key.SshBasePrivateKey.{SshBasePrivateKey}
use Rattle.picky_sshkey_blob.specs.Key.{IsPrivateKey, public_part as private_part}
use Rattle.picky_sshkey_blob.specs.declared.key.SshBasePrivateKey.TheVariants as private
use Rattle.picky_keys.specs.{Key.{IsKey}, declared.key.SshPublicKey.{SshPublicKey}}
use Rattle.picky_key_text.specs.{declared.meaning.Key.{Key}, declared.meaning.Meaning.{Meaning}}
use Rattle.picky_key_text.specs.{Kept.{IsKeptMeaning, IsKeptKey}, Key.{public_key, public_meaning, public_part}}
use Rattle.picky_key_text.specs.{Order.{reading}, Reader.{Reader}}
use Rattle.picky_key_text.specs.declared.meaning.Key.TheVariants as keys
use Rattle.picky_target.specs.declared.error.ConvertError.TheVariants as errors
use Rattle.picky_target.specs.{declared.target.KeyTarget.{KeyTarget}, Judged.{judged_meaning}, Output.{Output}}
use Rattle.picky_target.specs.{ReadBack.{IsTarget, kept, under}, Texts.{text_for}, Written.{keeps_secret}}
use Rattle.picky_target.specs.declared.target.KeyTarget.TheVariants as targets
use Rattle.picky_conversion.specs.Certified.{SignRelation}
use Rattle.picky_conversion.specs.{Drafted.{line_drafted}, Chain.{IsGiven}, AnyChain.{AnyStep, Through, pass_after}}
use Rattle.picky_conversion.specs.{Binds.{Binds}, Certify.{certification}, Convert.{conversion}}
use Rattle.picky_conversion.specs.{Made.{WritesMade}, Outside.{Outside, reader}}
use Rattle.picky_conversion.specs.To.{Certified, IsWay, Way, Written, converted}
use Rattle.picky_conversion.proofs.{DraftedLaws.{line_drafted_where}, ReadBackLemmas.{line_is_read_back}}
use Rattle.picky_conversion.proofs.ConvertLemmas.{conversion_from, conversion_parts}
use Rattle.picky_conversion.proofs.IssuedLemmas.{whole_of, signed_of_it}
use Rattle.picky_conversion.proofs.LawLemmas.{judged_kept, text_kept, text_means}
use Rattle.picky_key_text.proofs.{KeptLaws.{meaning_is_kept as kept_in}, ReadingLaws.{reading_of as read}}

-- ---- equal texts

record IsWritten (o : Outside) (to : KeyTarget) (meaning : Meaning) (text : List ℕ) : Type 0 where
  passed : judged_meaning o.output to meaning ≡ Ok tt
  is : text_for o.meanings o.output to meaning ≡ text

written_of : (o : Outside) (to : KeyTarget) (input text : List ℕ) (meaning : Meaning) → reading (reader o) input ≡ Ok meaning
    → conversion o to input ≡ Ok text → IsWritten o to meaning text
written_of o to input text meaning means done =
    let parts = conversion_parts o to input text done in
    let same : parts.meaning ≡ meaning = let read_so = parts.means in cc (read_so, means) in
    subst (λ n. IsWritten o to n text) same (record { passed = parts.passed; is = parts.is })

read_again : (o : Outside) (to : KeyTarget) (meaning : Meaning) (text : List ℕ) → IsGiven o → IsTarget to → IsKeptMeaning meaning
    → IsWritten o to meaning text → reading (under o.meanings o.output.pass) text ≡ Ok (kept to meaning)
read_again o to meaning text given fits is_kept written =
    subst (λ t. reading (under o.meanings o.output.pass) t ≡ Ok (kept to meaning)) written.is
    (text_means o to meaning given fits is_kept written.passed)

pub text_binds : (o : Outside) (to : KeyTarget) (input text : List ℕ) → IsGiven o → IsTarget to → IsUtf8 input
    → conversion o to input ≡ Ok text → Binds o to input text
text_binds o to input text given fits utf8 done = λ pass again other m n pass_given utf8_again reads reads_again done_again.
    let later = record o { pass_in = pass } in
    let means = read (reader o) input m reads in
    let means_again = read (reader later) again n reads_again in
    let first = written_of o to input text m means done in
    let second = written_of later to again other n means_again done_again in
    let later_given : IsGiven later = record { pass_in = pass_given; pass = given.pass; fresh = given.fresh } in
    let back = read_again o to m text given fits (kept_in (reader o) input m utf8 given.pass_in means) first in
    let back_again = read_again later to n other later_given fits (kept_in (reader later) again n utf8_again pass_given means_again) second in (
      λ same. cc (same, back, back_again),
      λ same. sym first.is ∙ sym (text_kept o.meanings o.output to m) ∙ ap (text_for o.meanings o.output to) same
          ∙ text_kept o.meanings o.output to n ∙ second.is,
    )

-- ---- public parts

public_is_kept : (key : SshBasePrivateKey) → IsPrivateKey key → IsKey (private_part key)
public_is_kept (private.Rsa n e d iqmp p q) is = (is.1, is.0)
public_is_kept (private.Ec curve point secret) is = is.0
public_is_kept (private.Ed secret public) is = is.1
public_is_kept (private.SkEcdsaSha2NistP256 point application flags handle) is = (is.0, is.1)
public_is_kept (private.SkEd25519 key application flags handle) is = (is.0, is.1)

key_is_kept : (key : Key) → IsKeptKey key → IsKey (public_part key)
key_is_kept (keys.Private key) is = public_is_kept key is
key_is_kept (keys.Public key) is = is

public_meaning_is_kept : (m : Meaning) → IsKeptMeaning m → IsKeptMeaning (public_meaning (public_key m))
public_meaning_is_kept m is = record { key = key_is_kept m.key is.key; comment = is.comment }

kept_is_kept : (to : KeyTarget) (m : Meaning) → IsKeptMeaning m → IsKeptMeaning (kept to m)
kept_is_kept (targets.OpenSsh rounds) m is = is
kept_is_kept (targets.Ppk version config layout) m is = is
kept_is_kept targets.OpenSshPublic m is = public_meaning_is_kept m is
kept_is_kept targets.PuttyPublic m is = public_meaning_is_kept m is

kept_is_public : (to : KeyTarget) (m : Meaning) → public_key (kept to m) ≡ public_key m
kept_is_public (targets.OpenSsh rounds) m = refl
kept_is_public (targets.Ppk version config layout) m = refl
kept_is_public targets.OpenSshPublic m = refl
kept_is_public targets.PuttyPublic m = refl

-- the text means a key with this public part, and this comment
record HasPublic (r : Reader) (text : List ℕ) (key : SshPublicKey) : Type 0 where
  meaning : Meaning
  means : reading r text ≡ Ok meaning
  is_kept : IsKeptMeaning meaning
  is : public_key meaning ≡ key

step_keeps : (signs : SignRelation) (o : Outside) (way : Way) (from next : List ℕ) (key : SshPublicKey) → IsGiven (record o { pass_in = None })
    → IsWay way → HasPublic (reader o) from key → WritesMade signs (converted o way from) next
    → HasPublic (under o.meanings o.output.pass) next key
unfolding certification
step_keeps signs o (Written to) from next key given fits before wrote =
    let written = written_of o to from next before.meaning before.means (whole_of signs (conversion o to from) next wrote) in
    let plain = record o { pass_in = None } in
    record {
      meaning = kept to before.meaning;
      means = read_again plain to before.meaning next given fits before.is_kept (record { passed = written.passed; is = written.is });
      is_kept = kept_is_kept to before.meaning before.is_kept;
      is = kept_is_public to before.meaning ∙ before.is;
    }
step_keeps signs o (Certified request) from next key given fits before wrote =
    let signed = signed_of_it signs (certification o request from) next wrote in
    let steps = and_then_ok (map_err errors.Input (reading (reader o) from)) (λ m. line_drafted request m o.output.fresh) signed.0 signed.1 in
    let means = map_err_ok errors.Input (reading (reader o) from) steps.0 steps.1 in
    let same : steps.0 ≡ before.meaning = let had = before.means in cc (means, had) in
    let drafted = (line_drafted_where request steps.0 o.output.fresh signed.0).0 steps.2 in
    let reads = line_is_read_back signs request steps.0 o.output.fresh signed.0 next (under o.meanings o.output.pass) drafted.drafted signed.2 in
    record {
      meaning = public_meaning (public_key steps.0);
      means = read (under o.meanings o.output.pass) next (public_meaning (public_key steps.0)) reads;
      is_kept = public_meaning_is_kept steps.0 (subst IsKeptMeaning (sym same) before.is_kept);
      is = ap public_key same ∙ before.is;
    }

steps_keep : (signs : SignRelation) (o : Outside) (steps : List AnyStep) (from to : List ℕ) (key : SshPublicKey)
    → HasPublic (reader o) from key → Through signs o steps from to
    → HasPublic (under o.meanings (pass_after o.pass_in steps)) to key
steps_keep signs o [] from to key before is = subst (λ t. HasPublic (reader o) t key) (sym is) before
steps_keep signs o (step ∷ more) from to key before (next, wrote, after) =
    steps_keep signs (record o { pass_in = step.output.pass }) more next to key
    (step_keeps signs (record o { output = step.output }) step.way from next key
    (record { pass_in = tt; pass = step.pass; fresh = step.fresh }) step.fits before wrote) after

kept_alike : (to : KeyTarget) (m n : Meaning) → keeps_secret to ≡ false → public_key m ≡ public_key n → kept to m ≡ kept to n
kept_alike (targets.OpenSsh rounds) m n public same = cc public
kept_alike (targets.Ppk version config layout) m n public same = cc public
kept_alike targets.OpenSshPublic m n public same = ap public_meaning same
kept_alike targets.PuttyPublic m n public same = ap public_meaning same

pub public_parts_stay : (signs : SignRelation) (o : Outside) (steps : List AnyStep) (out : Output) (to : KeyTarget) (input between text : List ℕ)
    → IfSome o.pass_in IsUtf8 → IsUtf8 input → (m : Meaning) → reading (reader o) input ≡ Ok m
    → keeps_secret to ≡ false → Through signs o steps input between
    → conversion (record o { pass_in = pass_after o.pass_in steps; output = out }) to between ≡ Ok text
    → conversion (record o { output = out }) to input ≡ Ok text
public_parts_stay signs o steps out to input between text pass_in utf8 m means public through done =
    let before : HasPublic (reader o) input (public_key m) =
    record { meaning = m; means = means; is_kept = kept_in (reader o) input m utf8 pass_in means; is = refl } in
    let later = record o { pass_in = pass_after o.pass_in steps; output = out } in
    let after = steps_keep signs o steps input between (public_key m) before through in
    let written = written_of later to between text after.meaning after.means done in
    let alike = kept_alike to m after.meaning public (sym after.is) in
    let passed : judged_meaning out to m ≡ Ok tt =
    sym (judged_kept out to m) ∙ ap (judged_meaning out to) alike ∙ judged_kept out to after.meaning ∙ written.passed in
    conversion_from (record o { output = out }) to input m means passed
    ∙ ap Ok (sym (text_kept o.meanings out to m) ∙ ap (text_for o.meanings out to) alike ∙ text_kept o.meanings out to after.meaning ∙ written.is)
