-- What a run writes is cut at the mark's line behind the ledger.
use Rattle.std.proofs.Common.{◌≡◌, ◌≢◌, ◌<◌, ◌^◌, ◌+◌, ◌∙◌, ◌++◌, ◌∷◌, ℕ, List, [], Some, ap, arith, flat_map, inl, inr, length}
use Rattle.std.proofs.Common.{codes, refl, subst, sym}
use Rattle.std.proofs.lemmas.List.{append_assoc, length-append}
use Rattle.std.specs.{Fmt.{decimal}, List.{AllByRecursion}}
use Rattle.std.specs.Str.Lines.{strip_carriage_return}
use Rattle.picky_text.specs.Lines.{HasNo}
use Rattle.picky_text.proofs.ListLaws.{all_back}
use Rattle.picky_suite.specs.Signs.{SignRelation}
use Rattle.picky_issuing.specs.Parts.{cut, mark_lf, mark_word, with_issuer_line}
use Rattle.picky_issuing.proofs.PartsLemmas.{cut_at_lf, cut_goes_on, stripped_is_mark}
use Rattle.picky_ledger.specs.declared.entry.Entry.{Entry}
use Rattle.picky_ledger.specs.Entry.{IsEntry, entry_front, entry_line}
use Rattle.picky_ledger.specs.LedgerText.{ledger_text, next_word}
use Rattle.picky_ledger.specs.Replies.{replies_text}
use Rattle.picky_ledger.specs.Run.{IsAnswerTo}
use Rattle.picky_ledger.specs.State.{IsLedger, State}
use Rattle.picky_ledger.proofs.EntryLineLemmas.{entry_has_no_lf}
use Rattle.picky_ledger.proofs.LedgerTextLaws.{line_then, next_front, next_has_no_lf, text_then}

-- ---- no line of a ledger is the mark

-- a line with a space in it isn't
spaced_is_no_mark : (front rest : List ℕ) → strip_carriage_return (front ++ 32 ∷ rest) ≢ mark_word
spaced_is_no_mark front rest is = elim (stripped_is_mark (front ++ 32 ∷ rest) is) [
  | inl word ↦ has_space mark_word word (λ same. omega (arith, same), (λ same. omega (arith, same), tt))
  | inr cr ↦
      has_space (mark_word ++ 13 ∷ []) cr
      (λ same. omega (arith, same), (λ same. omega (arith, same), (λ same. omega (arith, same), tt)))
]
  where
    has_space : (text : List ℕ) → front ++ 32 ∷ rest ≡ text → HasNo 32 text → ⊥
    has_space text same none = (all_back (λ b. b ≢ 32) front (32 ∷ rest) (subst (HasNo 32) (sym same) none)).0 refl

entry_is_no_mark : (e : Entry) → strip_carriage_return (entry_front e) ≢ mark_word
unfolding entry_front
entry_is_no_mark e = spaced_is_no_mark e.id _

next_is_no_mark : (next : ℕ) → strip_carriage_return (next_front next) ≢ mark_word
unfolding next_word
next_is_no_mark next = spaced_is_no_mark (codes "next") (decimal next)

-- ---- so the first mark is behind the ledger

-- a line more before the mark
line_before : (line more before after : List ℕ) → HasNo 10 line → strip_carriage_return line ≢ mark_word
    → cut more ≡ Some (before, after) → cut (line ++ 10 ∷ more) ≡ Some (line ++ 10 ∷ before, after)
line_before line more before after none other rest =
    cut_goes_on line more none other ∙ ap (with_issuer_line (line ++ 10 ∷ [])) rest
    ∙ ap (λ l. Some (l, after)) (append_assoc line (10 ∷ []) before)

entries_before : (es : List Entry) (after : List ℕ) → AllByRecursion IsEntry es → length (flat_map entry_line es) < 2 ^ 32
    → cut (flat_map entry_line es ++ (mark_lf ++ after)) ≡ Some (flat_map entry_line es, after)
entries_before [] after each short = cut_at_lf after
entries_before (e ∷ es) after each short =
    let more : List ℕ = flat_map entry_line es in
    let whole = line_then e more in
    let len : length (flat_map entry_line (e ∷ es)) ≡ length (entry_front e) + length (10 ∷ more) =
    ap length whole ∙ length-append (entry_front e) (10 ∷ more) in
    let none = entry_has_no_lf e each.0 (omega (arith, len, short)) in
    let rest = entries_before es after each.1 (omega (arith, len, short)) in
    ap (λ t. cut (t ++ (mark_lf ++ after))) whole
    ∙ ap cut (append_assoc (entry_front e) (10 ∷ more) (mark_lf ++ after))
    ∙ line_before (entry_front e) (more ++ (mark_lf ++ after)) more after none (entry_is_no_mark e) rest
    ∙ ap (λ t. Some (t, after)) (sym whole)

ledger_before : (l : State) (after : List ℕ) → IsLedger l → length (ledger_text l) < 2 ^ 32
    → cut (ledger_text l ++ (mark_lf ++ after)) ≡ Some (ledger_text l, after)
ledger_before l after is short =
    let more : List ℕ = flat_map entry_line l.entries in
    let whole = text_then l in
    let front : List ℕ = next_front l.next in
    let len : length (ledger_text l) ≡ length front + length (10 ∷ more) = ap length whole ∙ length-append front (10 ∷ more) in
    let rest = entries_before l.entries after is.each (omega (arith, len, short)) in
    ap (λ t. cut (t ++ (mark_lf ++ after))) whole ∙ ap cut (append_assoc front (10 ∷ more) (mark_lf ++ after))
    ∙ line_before front (more ++ (mark_lf ++ after)) more after (next_has_no_lf l.next is.fits) (next_is_no_mark l.next) rest
    ∙ ap (λ t. Some (t, after)) (sym whole)

pub answer_is_cut : (signs : SignRelation) (fresh input text : List ℕ) (answer : IsAnswerTo signs fresh input text)
    → cut text ≡ Some (ledger_text answer.new, replies_text answer.given.requests answer.replies)
answer_is_cut signs fresh input text answer =
    ap cut answer.is ∙ ledger_before answer.new (replies_text answer.given.requests answer.replies) answer.leaves.is answer.short
