-- A conversion without passphrases asks no suite: neither to open the key text nor to seal what is written.
use Rattle.std.proofs.Common.{◌≡◌, ◌⊎◌, false, ℕ, List, [], None, Result, Ok, Err, IfErr, ap, sym, inl, inr}
use Rattle.std.proofs.Common.{refl, subst, ◌∙◌}
use Rattle.picky.specs.Convert.{asks_for, asks_to_write, conversion, IsFaultOf}
use Rattle.picky.specs.ConversionMade.{AnswersMade, IsUnwritten, Made, ToSign, Whole}
use Rattle.picky.specs.Config.{default_config}
use Rattle.picky.specs.Meanings.{Meanings, plain}
use Rattle.picky.specs.Order.{asks}
use Rattle.picky.specs.Outcome.{map_ok}
use Rattle.picky.specs.Outside.{outside_of}
use Rattle.picky.specs.Signs.{SignRelation}
use Rattle.picky.specs.To.{IsFaultTo, converted, way_to}
use Rattle.picky.specs.TargetWritten.{writing_asks}
use Rattle.picky.specs.declared.convert.ConvertError.{ConvertError}
use Rattle.picky.specs.declared.convert.ConvertError.TheVariants as errors
use Rattle.picky.specs.declared.convert.Meaning.{Meaning}
use Rattle.picky.specs.declared.convert.Target.TheVariants as Target
use Rattle.picky.specs.declared.convert.ReadError.{ReadError}
use Rattle.picky.specs.declared.convert.KeyTarget.TheVariants.{Ppk}
use Rattle.picky.specs.declared.putty.PpkEncryptionConfig.{PpkEncryptionConfig}
use Rattle.picky.specs.declared.putty.PpkLayout.TheVariants.{Number}
use Rattle.picky.specs.declared.putty.PpkVersionKey.TheVariants.{V3}
use Rattle.picky_callers.specs.Alone.{alone, to_putty}

unsealed : (reads : Result Meaning ReadError) → asks_for alone to_putty reads ≡ false
unfolding writing_asks
unsealed (Ok meaning) = refl
unsealed (Err e) = refl

unasked_to_write : (input : List ℕ) → asks_to_write alone to_putty input ≡ false
unfolding asks_to_write
unasked_to_write input = unsealed _

-- so a refusal is no fault of a suite
is_no_fault : (input : List ℕ) (e : ConvertError) (rose : Type 0) → asks None input ≡ false
    → IsFaultOf alone to_putty input e rose → ⊥
is_no_fault input e rose unasked (inl fault) = cc (sym unasked ∙ fault.1.0)
is_no_fault input e rose unasked (inr fault) = cc (sym (unasked_to_write input) ∙ fault.1.0)

-- nor of a signer
is_not_left : (signs : SignRelation) (text : List ℕ) (made : Made) (rose : Type 0) (e : ConvertError) (says : Result Made ConvertError)
    → says ≡ Ok (Whole text) → says ≡ Ok made → IsUnwritten signs made rose e → ⊥
is_not_left signs text (Whole other) rose e says is same left = left
is_not_left signs text (ToSign u) rose e says is same left = cc (sym is ∙ same)

why_refused : (signs : SignRelation) (input : List ℕ) (says result : Result (List ℕ) ConvertError) (rose signer_rose : Type 0)
    → asks None input ≡ false
    → AnswersMade signs (λ text. text) (map_ok Whole says) (λ e. IsFaultOf alone to_putty input e rose) signer_rose result
    → IfErr result (λ e. (e ≡ errors.NoMemory) ⊎ (says ≡ Err e))
why_refused signs input says (Ok text) rose signer_rose unasked answers = tt
why_refused signs input says (Err e) rose signer_rose unasked (inl want) = inl want
why_refused signs input says (Err e) rose signer_rose unasked (inr (inl fault)) = absurd (is_no_fault input e rose unasked fault)
why_refused signs input (Ok text) (Err e) rose signer_rose unasked (inr (inr (inl left))) =
    absurd (is_not_left signs text left.0 signer_rose e _ refl left.1 left.2)
why_refused signs input (Err d) (Err e) rose signer_rose unasked (inr (inr (inl left))) = cc left.1
why_refused signs input (Ok text) (Err e) rose signer_rose unasked (inr (inr (inr refused))) = cc refused
why_refused signs input (Err d) (Err e) rose signer_rose unasked (inr (inr (inr refused))) =
    let same : d ≡ e = cc refused in inr (ap Err same)

-- the same, where the meanings and the configuration are equal to those
pub why_refused_by : (m : Meanings) (config : PpkEncryptionConfig) (signs : SignRelation) (input : List ℕ) (rose signer_rose : Type 0)
    (result : Result (List ℕ) ConvertError) → asks None input ≡ false → m ≡ plain → config ≡ default_config
    → AnswersMade signs (λ text. text) (converted (outside_of m None None []) (way_to (Target.Ppk V3 config)) input)
    (λ e. IsFaultTo (outside_of m None None []) (way_to (Target.Ppk V3 config)) input e rose) signer_rose result
    → IfErr result (λ e. (e ≡ errors.NoMemory) ⊎ (conversion alone to_putty input ≡ Err e))
why_refused_by m config signs input rose signer_rose result unasked means is_default answers =
    why_refused signs input (conversion alone to_putty input) result rose signer_rose unasked
    (subst (λ n. AnswersMade signs (λ text. text) (map_ok Whole (conversion (record alone { meanings = n }) to_putty input))
    (λ e. IsFaultOf (record alone { meanings = n }) to_putty input e rose) signer_rose result) means
    (subst (λ d. AnswersMade signs (λ text. text) (map_ok Whole (conversion (record alone { meanings = m }) (Ppk V3 d Number) input))
    (λ e. IsFaultOf (record alone { meanings = m }) (Ppk V3 d Number) input e rose) signer_rose result) is_default answers))
