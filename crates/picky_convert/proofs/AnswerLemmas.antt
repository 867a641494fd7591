-- A call that is sure of its text refuses for want of memory alone.
use Rattle.std.proofs.Common.{◌≡◌, ◌∙◌, ◌<◌, ◌^◌, ℕ, List, Result, Ok, Err, inl, inr, ap}
use Rattle.std.specs.Prelude.{IsOk}
use Rattle.picky_suite.specs.Asked.{GivesAsked}
use Rattle.picky_suite.specs.Meanings.{Meanings}
use Rattle.picky_key_text.specs.declared.meaning.Meaning.{Meaning}
use Rattle.picky_target.specs.declared.error.ConvertError.{ConvertError}
use Rattle.picky_target.specs.declared.error.ConvertError.TheVariants as errors
use Rattle.picky_target.specs.declared.target.KeyTarget.{KeyTarget}
use Rattle.picky_target.specs.Written.{target_fault, writing_asks, written}
use Rattle.picky_conversion.specs.Convert.{AnswersKeyText, conversion}
use Rattle.picky_convert.specs.SampleChain.{without_passphrase}
use Rattle.picky_convert.specs.SampleKeys.{meaning_at}
use Rattle.picky_convert.specs.SampleTexts.{openssh, text_at, unsealed_output}
use Rattle.picky_key_text.proofs.UnaskedLaws.{unasked}
use Rattle.picky_convert.proofs.AskedLemmas.{write_asks_none, writing_asks_none}
use Rattle.picky_convert.proofs.ChainLemmas.{envelope_is_written}

-- ---- what is written first

written_so : (m : Meanings) (i : ℕ) (meaning : Meaning) → i < 2 ^ 16 → meaning ≡ meaning_at i
    → written m unsealed_output openssh meaning ≡ Ok (text_at m i openssh)
written_so m i meaning small same = ap (written m unsealed_output openssh) same ∙ envelope_is_written m i small

pub first_is : (m : Meanings) (i : ℕ) (meaning : Meaning) (text : List ℕ) → i < 2 ^ 16 → meaning ≡ meaning_at i
    → written m unsealed_output openssh meaning ≡ Ok text → text ≡ text_at m i openssh
first_is m i meaning text small same gives = let other = written_so m i meaning small same in cc (gives, other)

pub first_wants : (m : Meanings) (i : ℕ) (meaning : Meaning) (e : ConvertError) (rose : Type 0) → i < 2 ^ 16 → meaning ≡ meaning_at i
    → GivesAsked errors.NoMemory (target_fault openssh) (λ (text : List ℕ). text) (Err e)
    (written m unsealed_output openssh meaning) (writing_asks unsealed_output openssh meaning) rose → e ≡ errors.NoMemory
first_wants m i meaning e rose small same (inl want) = want
first_wants m i meaning e rose small same (inr (inl fault)) = cc (fault.1.0, writing_asks_none openssh meaning)
first_wants m i meaning e rose small same (inr (inr refused)) = cc (refused, written_so m i meaning small same)

-- ---- what is converted

no_refusal : (r : Result (List ℕ) ConvertError) (e : ConvertError) → IsOk r → r ≡ Err e → ⊥
no_refusal (Ok text) e ok is = cc is
no_refusal (Err f) e ok is = cc ok

pub converted_wants : (m : Meanings) (target : KeyTarget) (input : List ℕ) (e : ConvertError) (rose : Type 0)
    → IsOk (conversion (without_passphrase m) target input)
    → AnswersKeyText (λ (text : List ℕ). text) (without_passphrase m) target input rose (Err e) → e ≡ errors.NoMemory
converted_wants m target input e rose ok (inl want) = want
converted_wants m target input e rose ok (inr (inl (inl read))) = cc (read.1.0, unasked input)
converted_wants m target input e rose ok (inr (inl (inr write))) = cc (write.1.0, write_asks_none m target input)
converted_wants m target input e rose ok (inr (inr refused)) =
    absurd (no_refusal (conversion (without_passphrase m) target input) e ok refused)
