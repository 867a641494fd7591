-- What a login that came to something means.
use Rattle.std.proofs.Common.{◌≡◌, ℕ, Bool, true, false, List, None, Result, Ok, Err, refl, sym, ap, subst}
use Rattle.std.specs.Prelude.{if◌then◌else◌}
use Rattle.std.specs.Str.{is_utf8}
use Rattle.picky_wire_base.specs.Outcome.{and_then, map_err}
use Rattle.picky_wire_base.specs.carried.Outcome.{and_then_ok, map_err_ok}
use Rattle.picky_wire.specs.Moment.{timestamp_at}
use Rattle.picky_keys.specs.LineRefusal.{is_short}
use Rattle.picky_keys.proofs.LineLaws.{chosen}
use Rattle.picky_authorized.specs.Entries.{entries_in, keys_in}
use Rattle.picky_authorized.specs.declared.entry.AuthEntry.{AuthEntry}
use Rattle.picky_authorized.specs.declared.keys.PolicyError.TheVariants as policies
use Rattle.picky_policy.specs.Offer.{offer_in}
use Rattle.picky_policy.specs.declared.decision.Decision.{Decision}
use Rattle.picky_policy.specs.declared.decision.Decision.TheVariants as decisions
use Rattle.picky_policy.specs.declared.decision.Denial.{Denial}
use Rattle.picky_policy.specs.declared.decision.Grant.{Grant}
use Rattle.picky_policy.specs.declared.offer.Offer.{Offer}
use Rattle.picky_ask.specs.Lookup.{answer_to}
use Rattle.picky_ask.specs.Question.{question_of}
use Rattle.picky_ask.specs.Table.{table_of}
use Rattle.picky_ask.specs.declared.question.Entry.{Entry}
use Rattle.picky_ask.specs.declared.question.Question.{Question}
use Rattle.picky_ask_verifier.specs.Verdicts.{Agrees, SignatureTest}
use Rattle.picky_login.specs.Judged.{Asks, Decided, Denied, GivesLogin, Granted, Judged, Left, Outcome, judged, judged_shown}
use Rattle.picky_login.specs.Login.{IfAsked, IfDecided, IsAsked, IsDecided, LoginGiven, answers_of, entries_or_none, login_in}
use Rattle.picky_login.specs.Printed.{login_text}
use Rattle.picky_login.specs.Refusal.{keys_refusal, offer_refusal, table_refusal}
use Rattle.picky_login.specs.declared.error.LoginError.{LoginError}
use Rattle.picky_login.specs.declared.error.LoginError.TheVariants as errors
use Rattle.picky_login.specs.declared.login.Login.{Login}
use Rattle.picky_login.specs.declared.login.Login.TheVariants as logins
use Rattle.picky_login.proofs.JudgedLemmas.{judged_asks, judged_is}

-- ---- the steps of a login that came to something

record IsCome (g : LoginGiven) (out : Outcome) : Type 0 where
  table : List Entry
  is_table : table_of g.answers ≡ Ok table
  offer : Offer
  read : offer_in g.offer ≡ Ok offer
  found : Judged
  judges : judged (entries_in g.authorized) offer g.user (timestamp_at g.moment) table ≡ Ok found
  shown : judged_shown offer found ≡ out

text_passed : (b : Bool) (e : LoginError) (text : List ℕ) (next : List ℕ → Result Outcome LoginError) (out : Outcome)
    → and_then (if b then Ok text else Err e) next ≡ Ok out → next text ≡ Ok out
text_passed true e text next out is = is
text_passed false e text next out is = cc is

come : (g : LoginGiven) (out : Outcome) → login_in g ≡ Ok out → IsCome g out
come g out is =
    let authorized = text_passed (is_utf8 g.authorized) errors.AuthorizedNotUtf8 g.authorized _ out is in
    let offered = text_passed (is_utf8 g.offer) errors.OfferNotUtf8 g.offer _ out authorized in
    let user = text_passed (is_utf8 g.user) errors.UserNotUtf8 g.user _ out offered in
    let table = and_then_ok (map_err table_refusal (table_of g.answers)) _ out user in
    let entries = and_then_ok (map_err keys_refusal (keys_in g.authorized)) _ out table.2 in
    let keys = map_err_ok keys_refusal (keys_in g.authorized) entries.0 entries.1 in
    let short = chosen (is_short g.authorized) _ policies.TooLong entries.0 keys in
    let same : entries.0 ≡ entries_in g.authorized = cc short.1 in
    let offer = and_then_ok (map_err offer_refusal (offer_in g.offer)) _ out entries.2 in
    let judges = and_then_ok (judged entries.0 offer.0 g.user (timestamp_at g.moment) table.0) _ out offer.2 in
    record {
      table = table.0;
      is_table = map_err_ok table_refusal (table_of g.answers) table.0 table.1;
      offer = offer.0;
      read = map_err_ok offer_refusal (offer_in g.offer) offer.0 offer.1;
      found = judges.0;
      judges = subst (λ (es : List AuthEntry). judged es offer.0 g.user (timestamp_at g.moment) table.0 ≡ Ok judges.0) same judges.1;
      shown = cc judges.2;
    }

-- ---- what was judged, by what is shown

shown_granted : (offer : Offer) (found : Judged) (text : List ℕ) → judged_shown offer found ≡ Granted text
    → (grant : Grant) × (found ≡ Decided (decisions.Granted grant)) × (text ≡ login_text offer (decisions.Granted grant))
shown_granted offer (Decided (decisions.Granted grant)) text is = (grant, refl, cc is)
shown_granted offer (Decided (decisions.Denied why)) text is = cc is
shown_granted offer (Asks q) text is = cc is

shown_denied : (offer : Offer) (found : Judged) (why : Denial) (text : List ℕ) → judged_shown offer found ≡ Denied why text
    → (found ≡ Decided (decisions.Denied why)) × (text ≡ login_text offer (decisions.Denied why))
shown_denied offer (Decided (decisions.Granted grant)) why text is = cc is
shown_denied offer (Decided (decisions.Denied other)) why text is =
    let same : other ≡ why = cc is in
    let says : login_text offer (decisions.Denied other) ≡ text = cc is in (
      ap (λ (w : Denial). Decided (decisions.Denied w)) same,
      subst (λ (w : Denial). text ≡ login_text offer (decisions.Denied w)) same (sym says),
    )
shown_denied offer (Asks q) why text is = cc is

shown_left : (offer : Offer) (found : Judged) (bytes : List ℕ) → judged_shown offer found ≡ Left bytes
    → (q : Question) × (found ≡ Asks q) × (bytes ≡ question_of q)
shown_left offer (Decided (decisions.Granted grant)) bytes is = cc is
shown_left offer (Decided (decisions.Denied why)) bytes is = cc is
shown_left offer (Asks q) bytes is = (q, refl, cc is)

-- ---- what it means

come_decides : (test : SignatureTest) (g : LoginGiven) (out : Outcome) (decision : Decision) (text : List ℕ)
    → Agrees test (answers_of g) → (c : IsCome g out) → c.found ≡ Decided decision → text ≡ login_text c.offer decision
    → IsDecided test g decision text
come_decides test g out decision text agrees c is says =
    let table : answers_of g ≡ c.table = ap entries_or_none c.is_table in
    record {
      offer = c.offer;
      read = c.read;
      decides = judged_is test (entries_in g.authorized) c.offer g.user (timestamp_at g.moment) c.table decision
          (subst (Agrees test) table agrees)
          (subst (λ (j : Judged). judged (entries_in g.authorized) c.offer g.user (timestamp_at g.moment) c.table ≡ Ok j) is c.judges);
      says = says;
    }

pub login_decides : (test : SignatureTest) (g : LoginGiven) (unsayable : Type 0) (result : Result Login LoginError)
    → GivesLogin (login_in g) unsayable result → Agrees test (answers_of g) → IfDecided test g result
login_decides test g unsayable (Ok (logins.Granted text)) gives agrees =
    let c = come g _ gives in
    let shown = shown_granted c.offer c.found text.items c.shown in
    (shown.0, come_decides test g _ (decisions.Granted shown.0) text.items agrees c shown.1 shown.2)
login_decides test g unsayable (Ok (logins.Denied why text)) gives agrees =
    let c = come g _ gives in
    let shown = shown_denied c.offer c.found why text.items c.shown in
    come_decides test g _ (decisions.Denied why) text.items agrees c shown.0 shown.1
login_decides test g unsayable (Ok (logins.Question bytes)) gives agrees = tt
login_decides test g unsayable (Err e) gives agrees = tt

come_asks : (g : LoginGiven) (bytes : List ℕ) → IsCome g (Left bytes) → IsAsked g bytes
come_asks g bytes c =
    let shown = shown_left c.offer c.found bytes c.shown in
    let table : answers_of g ≡ c.table = ap entries_or_none c.is_table in
    let asked = judged_asks (entries_in g.authorized) c.offer g.user (timestamp_at g.moment) c.table shown.0
    (subst (λ (j : Judged). judged (entries_in g.authorized) c.offer g.user (timestamp_at g.moment) c.table ≡ Ok j) shown.1 c.judges) in
    record {
      offer = c.offer;
      read = c.read;
      asks = asked.1;
      question = shown.0;
      is = asked.0.is;
      says = shown.2;
      lacked = subst (λ (es : List Entry). answer_to shown.0 es ≡ None) (sym table) asked.0.lacked;
    }

pub login_asks : (g : LoginGiven) (unsayable : Type 0) (result : Result Login LoginError)
    → GivesLogin (login_in g) unsayable result → IfAsked g result
login_asks g unsayable (Ok (logins.Granted text)) gives = tt
login_asks g unsayable (Ok (logins.Denied why text)) gives = tt
login_asks g unsayable (Ok (logins.Question bytes)) gives = come_asks g bytes.items (come g (Left bytes.items) gives)
login_asks g unsayable (Err e) gives = tt
