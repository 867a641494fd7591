-- What the bytes of a source come to, status by status.
use Rattle.std.proofs.Common.{◌≡◌, ◌⊎◌, List, ℕ, Result, Ok, Err, refl, sym, ◌∙◌, ap, inl, inr, subst}
use Rattle.std.specs.Prelude.{IfErr, IfOk}
use Rattle.picky_wire_base.specs.Gives.{Gives}
use Rattle.picky_wire_base.specs.Outcome.{and_then, map_err}
use Rattle.picky_suite.specs.Meanings.{Meanings}
use Rattle.picky_input.specs.SourceText.{ReadsSourceText, source_text_of}
use Rattle.picky_input.specs.declared.source_text.SourceError.{SourceError}
use Rattle.picky_input.specs.declared.source_text.SourceError.TheVariants as source
use Rattle.picky_input.proofs.TextLaws.{is_source_text}
use Rattle.picky_puttyppk.specs.declared.status.PuttyPpkStatus.{PuttyPpkStatus}
use Rattle.picky_puttyppk.specs.declared.status.PuttyPpkStatus.TheVariants as statuses
use Rattle.picky_puttyppk.specs.PuttyText.{IsOf, text_for_putty}
use Rattle.picky_puttyppk.specs.Run.{Stops, outcome, source_status}
use Rattle.picky_puttyppk.specs.inner.Comes.{Comes, IsOfText}

outcome_of : (m : Meanings) (input text : List ℕ) → source_text_of input ≡ Ok text → outcome m input ≡ text_for_putty m text
unfolding outcome
outcome_of m input text is = ap (λ t. and_then (map_err source_status t) (text_for_putty m)) is

outcome_without : (m : Meanings) (input : List ℕ) (e : SourceError) → source_text_of input ≡ Err e
    → outcome m input ≡ Err (source_status e)
unfolding outcome
outcome_without m input e is = ap (λ t. and_then (map_err source_status t) (text_for_putty m)) is

text_fails : (m : Meanings) (input text : List ℕ) (read_rose : Type 0) (status : PuttyPpkStatus) → source_text_of input ≡ Ok text
    → (status ≡ statuses.NoMemory) ⊎ (text_for_putty m text ≡ Err status) → IsOfText status → Stops m input read_rose status
text_fails m input text read_rose (statuses.Refused e) is (inl want) of = cc want
text_fails m input text read_rose (statuses.Refused e) is (inr failed) of = outcome_of m input text is ∙ failed
text_fails m input text read_rose statuses.CommentNotCarried is (inl want) of = cc want
text_fails m input text read_rose statuses.CommentNotCarried is (inr failed) of = outcome_of m input text is ∙ failed
text_fails m input text read_rose statuses.NoMemory is gives of = tt
text_fails m input text read_rose status is gives of = absurd of

pub text_comes : (m : Meanings) (input text : List ℕ) (read_rose : Type 0) (result : Result (List ℕ) PuttyPpkStatus)
    → source_text_of input ≡ Ok text → Gives statuses.NoMemory (λ made. made) result (text_for_putty m text)
    → IfOk result (λ made. IsOf m text made) → IfErr result IsOfText → Comes m input read_rose result
text_comes m input text read_rose (Ok made) is gives means of =
    (outcome_of m input text is ∙ gives, subst (λ t. IsOf m t made) (is_source_text input text is).1 means)
text_comes m input text read_rose (Err status) is gives means of = text_fails m input text read_rose status is gives of

pub source_comes : (m : Meanings) (input : List ℕ) (read_rose : Type 0) (e : SourceError) (status : PuttyPpkStatus)
    → status ≡ source_status e → ReadsSourceText (Err e) input → (e ≡ source.ReadFault → read_rose) → Stops m input read_rose status
source_comes m input read_rose e status is reads count = subst (Stops m input read_rose) (sym is) (go e reads count)
  where
    go : (e : SourceError) → ReadsSourceText (Err e) input → (e ≡ source.ReadFault → read_rose) → Stops m input read_rose (source_status e)
    go source.ReadFault reads count = count refl
    go source.NoMemory reads count = tt
    go source.InputTooLong reads count = outcome_without m input source.InputTooLong reads
    go source.InputNotUtf8 reads count = outcome_without m input source.InputNotUtf8 reads
