-- What requests leave: the entries that there were, one behind them for each certificate, and an answer for each kept line.
use Rattle.std.proofs.Common.{◌≡◌, ◌∙◌, ℕ, ◌+◌, ◌<◌, ◌^◌, ◌-◌, ◌++◌, List, [], ◌∷◌, Result, Ok, Err, refl, sym, ap, subst, inl, inr, arith}
use Rattle.std.specs.Prelude.{Contains, drop, ◌⊎◌, ◌≢◌}
use Rattle.std.specs.List.{AllByRecursion}
use Rattle.std.proofs.lemmas.List.{append-nil, append_assoc}
use Rattle.std.proofs.lemmas.List.Elements.{Contains-append_left, Contains-append_right, Contains-push}
use Rattle.picky_keys.specs.declared.key.SshBasePublicKey.{SshBasePublicKey}
use Rattle.picky_suite.specs.Signs.{SignRelation}
use Rattle.picky_cert_builder.specs.Draft.{requested}
use Rattle.picky_request.specs.Builder.{asked_of}
use Rattle.picky_ledger.specs.Apply.{Applies, SignatureAsked, added, judged_request_line}
use Rattle.picky_ledger.specs.declared.entry.Entry.{Entry}
use Rattle.picky_ledger.specs.declared.reply.Reply.{Reply}
use Rattle.picky_ledger.specs.declared.reply.Reply.TheVariants as replies
use Rattle.picky_ledger.specs.Entry.{entry_of}
use Rattle.picky_ledger.specs.Runs.{IsAfter, IsAnsweredAgain, IsIssuedFor, Runs, Step, nonce_len, terms_by}
use Rattle.picky_ledger.specs.State.{IsLedger, IsNew, State}
use Rattle.picky_ledger.proofs.IssuedLemmas.{signed_fields}
use Rattle.picky_ledger.proofs.JudgedLaws.{judged_asks, judged_no_issue, kept_is_again}
use Rattle.picky_ledger.proofs.LedgerTextLaws.{ledger_is_read}
use Rattle.picky_ledger.proofs.StateLemmas.{added_is_ledger, new_is, parted}

-- ---- one request

-- a certificate was issued, and entered last
record Issues (signs : SignRelation) (issuer : SshBasePublicKey) (old : State) (line : List ℕ) (new : State) (reply : Reply) : Type 0 where
  entry : Entry
  issued : IsIssuedFor signs issuer (line ∷ []) entry
  request : entry.request ≡ line
  serial : entry.serial ≡ old.next
  is : reply ≡ replies.Issued old.next
  added : new ≡ added old entry
  ledger : IsLedger old → IsLedger new

-- nothing was entered, and no certificate issued
record Stays (old new : State) (reply : Reply) : Type 0 where
  same : new ≡ old
  none : (serial : ℕ) → reply ≡ replies.Issued serial → ⊥

room_for : (l : State) → IsLedger l → l.next ≢ 2 ^ 64 - 1 → l.next + 1 < 2 ^ 64
room_for l is apart = let fits = is.fits in omega (arith, fits, apart)

issues : (signs : SignRelation) (issuer : SshBasePublicKey) (old new : State) (fresh line : List ℕ) (reply : Reply) (a : SignatureAsked)
    → judged_request_line (terms_by issuer fresh) old line ≡ Ok a
    → Applies signs old line (Ok a) ⊥ (Ok reply) new
    → Issues signs issuer old line new reply
issues signs issuer old new fresh line reply a says (c, signed, is_entry, answered, after) =
    let t = terms_by issuer fresh in
    let asks = judged_asks t old line a says in
    let e : Entry = entry_of a.id line c in
    let fields = signed_fields signs issuer old.next asks.request t.nonce a.unsigned c asks.made signed in
    let new_id : IsNew a.id old.entries =
    subst (λ (id : List ℕ). IsNew id old.entries) asks.id (new_is asks.request.id old.entries asks.none) in
    record {
      entry = e;
      issued = record {
        among = Contains-push [] line;
        asks = asks.request;
        request = asks.is;
        nonce = t.nonce;
        unsigned = a.unsigned;
        made = subst (λ (n : ℕ). requested (asked_of issuer n asks.request) t.nonce ≡ Ok a.unsigned) (sym fields.1) asks.made;
        signed = signed;
      };
      request = refl;
      serial = fields.1;
      is = answered;
      added = after;
      ledger = λ is. subst IsLedger (sym after)
          (added_is_ledger old e is (room_for old is asks.room) is_entry fields.1 new_id);
    }

by_says : (signs : SignRelation) (issuer : SshBasePublicKey) (old new : State) (fresh line : List ℕ) (reply : Reply) (says : Result SignatureAsked Reply)
    → judged_request_line (terms_by issuer fresh) old line ≡ says
    → Applies signs old line says ⊥ (Ok reply) new
    → Issues signs issuer old line new reply ⊎ Stays old new reply
by_says signs issuer old new fresh line reply (Ok a) is applies = inl (issues signs issuer old new fresh line reply a is applies)
by_says signs issuer old new fresh line reply (Err says) is applies =
    let t = terms_by issuer fresh in
    inr (record {
      same = applies.1;
      none = λ serial issued. judged_no_issue t old line says is serial (sym applies.0 ∙ issued);
    })

step_is : (signs : SignRelation) (issuer : SshBasePublicKey) (old new : State) (fresh line : List ℕ) (reply : Reply)
    → Step signs issuer old fresh line new reply → Issues signs issuer old line new reply ⊎ Stays old new reply
unfolding Step
step_is signs issuer old new fresh line reply step =
    by_says signs issuer old new fresh line reply
    (judged_request_line (terms_by issuer fresh) old line) refl step

-- a kept line has its serial
kept_step : (signs : SignRelation) (issuer : SshBasePublicKey) (old new : State) (fresh line : List ℕ) (reply : Reply) (e : Entry)
    → IsLedger old → Contains old.entries e → Step signs issuer old fresh line new reply → line ≡ e.request
    → reply ≡ replies.Again e.serial
unfolding Step
kept_step signs issuer old new fresh line reply e is among step same =
    let t = terms_by issuer fresh in
    let parts = parted old.entries e among in
    let again = kept_is_again t old parts.0 parts.1 e is parts.2 in
    let says : judged_request_line t old line ≡ Err (replies.Again e.serial) =
    ap (judged_request_line t old) same ∙ again in
    (subst (λ (s : Result SignatureAsked Reply). Applies signs old line s ⊥ (Ok reply) new) says step).0

-- ---- more lines

issued_among : (signs : SignRelation) (issuer : SshBasePublicKey) (lines more : List (List ℕ)) (e : Entry)
    → ((line : List ℕ) → Contains lines line → Contains more line) → IsIssuedFor signs issuer lines e → IsIssuedFor signs issuer more e
issued_among signs issuer lines more e among is = record {
  among = among e.request is.among;
  asks = is.asks;
  request = is.request;
  nonce = is.nonce;
  unsigned = is.unsigned;
  made = is.made;
  signed = is.signed;
}

all_among : (signs : SignRelation) (issuer : SshBasePublicKey) (lines more : List (List ℕ)) (es : List Entry)
    → ((line : List ℕ) → Contains lines line → Contains more line) → AllByRecursion (IsIssuedFor signs issuer lines) es
    → AllByRecursion (IsIssuedFor signs issuer more) es
all_among signs issuer lines more [] among all = tt
all_among signs issuer lines more (e ∷ es) among all =
    (issued_among signs issuer lines more e among all.0, all_among signs issuer lines more es among all.1)

-- ---- requests in order

none_leave : (signs : SignRelation) (issuer : SshBasePublicKey) (old new : State) (rs : List Reply) → IsLedger old → new ≡ old
    → IsAfter signs issuer old [] new rs
none_leave signs issuer old new rs is same =
    let after : IsLedger new = subst IsLedger (sym same) is in
    record {
      more = [];
      stay = ap (λ (l : State). l.entries) same ∙ sym (append-nil old.entries);
      issued = tt;
      kept = λ e among. tt;
      again = tt;
      is = after;
      back = ledger_is_read new after;
    }

-- the first line adds no entry
stays_leave : (signs : SignRelation) (issuer : SshBasePublicKey) (old mid new : State) (fresh line : List ℕ) (lines : List (List ℕ))
    (reply : Reply) (later : List Reply) → IsLedger old → Step signs issuer old fresh line mid reply → Stays old mid reply
    → IsAfter signs issuer mid lines new later → IsAfter signs issuer old (line ∷ lines) new (reply ∷ later)
stays_leave signs issuer old mid new fresh line lines reply later is step stays rest =
    let entries : mid.entries ≡ old.entries = ap (λ (l : State). l.entries) stays.same in
    record {
      more = rest.more;
      stay = rest.stay ∙ ap (λ (es : List Entry). es ++ rest.more) entries;
      issued = all_among signs issuer lines (line ∷ lines) rest.more (Contains-append_right (line ∷ []) lines) rest.issued;
      kept = λ e among. (
        kept_step signs issuer old mid fresh line reply e is among step,
        rest.kept e (subst (λ (es : List Entry). Contains es e) (sym entries) among),
      );
      again = (λ serial issued. absurd (stays.none serial issued), rest.again);
      is = rest.is;
      back = rest.back;
    }

issued_serial : (n m : ℕ) → replies.Issued n ≡ replies.Issued m → n ≡ m
issued_serial n m same = cc same

again_for : (request line : List ℕ) (n serial : ℕ) (lines : List (List ℕ)) (later : List Reply) → request ≡ line → n ≡ serial
    → IsAnsweredAgain request n lines later → IsAnsweredAgain line serial lines later
again_for request line n serial lines later same_line same_serial again =
    subst (λ (l : List ℕ). IsAnsweredAgain l serial lines later) same_line
    (subst (λ (m : ℕ). IsAnsweredAgain request m lines later) same_serial again)

-- it adds one
issues_leave : (signs : SignRelation) (issuer : SshBasePublicKey) (old mid new : State) (fresh line : List ℕ) (lines : List (List ℕ))
    (reply : Reply) (later : List Reply) → IsLedger old → Step signs issuer old fresh line mid reply
    → Issues signs issuer old line mid reply → IsAfter signs issuer mid lines new later
    → IsAfter signs issuer old (line ∷ lines) new (reply ∷ later)
issues_leave signs issuer old mid new fresh line lines reply later is step issue rest =
    let e = issue.entry in
    let entries : mid.entries ≡ old.entries ++ e ∷ [] = ap (λ (l : State). l.entries) issue.added in
    let last : Contains mid.entries e = subst (λ (es : List Entry). Contains es e) (sym entries) (Contains-push old.entries e) in
    record {
      more = e ∷ rest.more;
      stay = rest.stay ∙ ap (λ (es : List Entry). es ++ rest.more) entries ∙ append_assoc old.entries (e ∷ []) rest.more;
      issued = (
        issued_among signs issuer (line ∷ []) (line ∷ lines) e (Contains-append_left (line ∷ []) lines) issue.issued,
        all_among signs issuer lines (line ∷ lines) rest.more (Contains-append_right (line ∷ []) lines) rest.issued,
      );
      kept = λ other among. (
        kept_step signs issuer old mid fresh line reply other is among step,
        rest.kept other
            (subst (λ (es : List Entry). Contains es other) (sym entries) (Contains-append_left old.entries (e ∷ []) other among)),
      );
      again = (
        λ serial issued.
            let same : e.serial ≡ serial = issue.serial ∙ issued_serial old.next serial (sym issue.is ∙ issued) in
            again_for e.request line e.serial serial lines later issue.request same (rest.kept e last),
        rest.again,
      );
      is = rest.is;
      back = rest.back;
    }

-- What requests leave of a ledger.
pub runs_leave : (signs : SignRelation) (issuer : SshBasePublicKey) (old new : State) (fresh : List ℕ) (lines : List (List ℕ))
    (rs : List Reply) → IsLedger old → Runs signs issuer old fresh lines new rs → IsAfter signs issuer old lines new rs
runs_leave signs issuer old new fresh [] rs is runs = none_leave signs issuer old new rs is runs.0
runs_leave signs issuer old new fresh (line ∷ lines) rs is (mid, reply, later, step, run, all) =
    subst (IsAfter signs issuer old (line ∷ lines) new) (sym all)
    (elim (step_is signs issuer old mid fresh line reply step) [
      | inl issue ↦
          let rest = runs_leave signs issuer mid new (drop nonce_len fresh) lines later (issue.ledger is) run in
          issues_leave signs issuer old mid new fresh line lines reply later is step issue rest
      | inr stays ↦
          let after : IsLedger mid = subst IsLedger (sym stays.same) is in
          let rest = runs_leave signs issuer mid new (drop nonce_len fresh) lines later after run in
          stays_leave signs issuer old mid new fresh line lines reply later is step stays rest
    ])
