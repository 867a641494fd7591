-- What bytes ask for, or the first reason why they ask for nothing; and ledgers that differ in their certificates alone.
use Rattle.std.proofs.Common.{◌≡◌, ◌⊎◌, ◌∙◌, ℕ, List, [], ◌∷◌, true, false, Option, Some, None, Result, Ok, Err, IsUtf8}
use Rattle.std.proofs.Common.{◌+◌, ◌++◌, ap, ap₂, refl, sym, subst, inl, inr, drop, length, if◌then◌else◌, bytes_eq}
use Rattle.std.proofs.lemmas.Bool.{cases_Bool, ltb-true}
use Rattle.std.specs.List.{AllByRecursion}
use Rattle.std.specs.Option.{ok_or}
use Rattle.std.specs.Prelude.{is_some}
use Rattle.std.specs.Str.{is_utf8}
use Rattle.picky_wire_base.specs.Outcome.{and_then, map_err}
use Rattle.picky_keys.specs.LineRefusal.{is_short, line_meaning}
use Rattle.picky_keys.specs.declared.error.SshPublicKeyError.{SshPublicKeyError}
use Rattle.picky_keys.specs.declared.error.SshPublicKeyError.TheVariants as keys
use Rattle.picky_keys.specs.declared.key.SshPublicKey.{SshPublicKey}
use Rattle.picky_keys.specs.declared.key.SshBasePublicKey.{SshBasePublicKey}
use Rattle.picky_ask.specs.Lookup.{answer_to}
use Rattle.picky_ask.specs.Table.{table_of}
use Rattle.picky_ask.specs.declared.question.Question.{Question}
use Rattle.picky_ask.proofs.TableLaws.{answer_more}
use Rattle.picky_ask.specs.declared.question.Entry.{Entry}
use Rattle.picky_ask.specs.declared.table.TableError.{TableError}
use Rattle.picky_ask.specs.declared.table.TableError.TheVariants as tables
use Rattle.picky_request.specs.Request.{request_in}
use Rattle.picky_request.specs.declared.request.CertRequestLine.{CertRequestLine}
use Rattle.picky_ledger.specs.Apply.{IssuerTerms, SignatureAsked, judged_request_line, kept_reply, unless_kept}
use Rattle.picky_ledger.specs.LedgerText.{ledger_in, read}
use Rattle.picky_ledger.specs.Run.{requests_in}
use Rattle.picky_ledger.specs.Runs.{nonce_len, terms_by}
use Rattle.picky_ledger.specs.State.{IsLedger, State, entry_named}
use Rattle.picky_ledger.specs.declared.entry.Entry.{Entry as LedgerEntry}
use Rattle.picky_ledger.specs.declared.ledger.LedgerTextError.{LedgerTextError}
use Rattle.picky_ledger.specs.declared.ledger.LedgerTextError.TheVariants as texts
use Rattle.picky_ledger.specs.declared.reply.Reply.{Reply}
use Rattle.picky_ledger.specs.declared.reply.Reply.TheVariants as replies
use Rattle.picky_ledger.proofs.LedgerTextLaws.{ledger_read_is}
use Rattle.picky_ledger_by.specs.Applied.{AreAlike, AreAlikeEntries, Asked, ComesOf, Given, asked_by, asked_in, if_fresh, issuer_refusal}
use Rattle.picky_ledger_by.specs.Applied.{table_refusal, text_refusal}
use Rattle.picky_ledger_by.specs.Lacked.{after_request, asked_for, asked_questions, lacked, lacking}
use Rattle.picky_ledger_by.specs.declared.apply.Applied.{Applied}
use Rattle.picky_ledger_by.specs.declared.apply.LedgerByError.{LedgerByError}
use Rattle.picky_ledger_by.specs.declared.apply.LedgerByError.TheVariants as errors

-- ---- a ledger that is read

pub read_is_ledger : (text : List ℕ) (l : State) → IsUtf8 text → read text ≡ Ok l → IsLedger l
read_is_ledger text l utf8 is = elim (cases_Bool (is_short text)) [
  | inl short ↦ (ledger_read_is text l utf8 (ltb-true (length text) _ short) (unmapped (ledger_in text) l (rw short at is))).0
  | inr long ↦ cc (rw long at is)
]
  where
    unmapped : (says : Result State ℕ) (l : State) → map_err texts.BadLine says ≡ Ok l → says ≡ Ok l
    unmapped (Ok s) l is = let same : s ≡ l = cc is in ap Ok same
    unmapped (Err n) l is = cc is

-- ---- want of memory, and refusals

memory_comes : (says : Result Asked LedgerByError) (fresh : List ℕ) → ComesOf says fresh (Err errors.NoMemory)
memory_comes (Ok a) fresh = tt
memory_comes (Err e) fresh = inl refl

refusal_comes : (says : Result Asked LedgerByError) (fresh : List ℕ) (e : LedgerByError) → says ≡ Err e → ComesOf says fresh (Err e)
refusal_comes says fresh e is = subst (λ s. ComesOf s fresh (Err e)) (sym is) (inr refl)

module _ (entries : List Entry) (ledger issuer requests fresh : List ℕ) where
  asked_then : (l : State) → read ledger ≡ Ok l
      → asked_by entries ledger issuer requests fresh
      ≡ and_then (map_err issuer_refusal (line_meaning issuer)) (λ key. if_fresh fresh (record {
        entries = entries;
        given = record { ledger = l; issuer = key; requests = requests_in requests };
      }))
  asked_then l is =
      ap (λ s. and_then (map_err text_refusal s) (λ l. and_then (map_err issuer_refusal (line_meaning issuer))
      (λ key. if_fresh fresh (record {
        entries = entries;
        given = record { ledger = l; issuer = key; requests = requests_in requests };
      })))) is

  pub text_stops : (e : LedgerTextError) (f : LedgerByError) → (e ≡ texts.NoMemory) ⊎ (read ledger ≡ Err e) → f ≡ text_refusal e
      → ComesOf (asked_by entries ledger issuer requests fresh) fresh (Err f)
  text_stops e f (inl want) is =
      subst (λ g. ComesOf (asked_by entries ledger issuer requests fresh) fresh (Err g)) (sym (is ∙ ap text_refusal want))
      (memory_comes (asked_by entries ledger issuer requests fresh) fresh)
  text_stops e f (inr refused) is =
      refusal_comes (asked_by entries ledger issuer requests fresh) fresh f
      (ap (λ s. and_then (map_err text_refusal s) (λ l. and_then (map_err issuer_refusal (line_meaning issuer))
      (λ key. if_fresh fresh (record {
        entries = entries;
        given = record { ledger = l; issuer = key; requests = requests_in requests };
      })))) refused ∙ ap Err (sym is))

  pub issuer_stops : (l : State) (e : SshPublicKeyError) (f : LedgerByError) → read ledger ≡ Ok l
      → (e ≡ keys.NoMemory) ⊎ (line_meaning issuer ≡ Err e) → f ≡ issuer_refusal e
      → ComesOf (asked_by entries ledger issuer requests fresh) fresh (Err f)
  issuer_stops l e f read_is (inl want) is =
      subst (λ g. ComesOf (asked_by entries ledger issuer requests fresh) fresh (Err g)) (sym (is ∙ ap issuer_refusal want))
      (memory_comes (asked_by entries ledger issuer requests fresh) fresh)
  issuer_stops l e f read_is (inr refused) is =
      refusal_comes (asked_by entries ledger issuer requests fresh) fresh f
      (asked_then l read_is
      ∙ ap (λ s. and_then (map_err issuer_refusal s) (λ key. if_fresh fresh (record {
        entries = entries;
        given = record { ledger = l; issuer = key; requests = requests_in requests };
      }))) refused ∙ ap Err (sym is))

  pub asked_goes_on : (l : State) (key : SshPublicKey) (result : Result Applied LedgerByError) → read ledger ≡ Ok l
      → line_meaning issuer ≡ Ok key
      → ComesOf (if_fresh fresh (record {
        entries = entries;
        given = record { ledger = l; issuer = key; requests = requests_in requests };
      })) fresh result
      → ComesOf (asked_by entries ledger issuer requests fresh) fresh result
  asked_goes_on l key result read_is key_is comes =
      subst (λ s. ComesOf s fresh result)
      (sym (asked_then l read_is
      ∙ ap (λ s. and_then (map_err issuer_refusal s) (λ key. if_fresh fresh (record {
        entries = entries;
        given = record { ledger = l; issuer = key; requests = requests_in requests };
      }))) key_is)) comes

-- ---- bytes that are texts, or aren't

pub ledger_is_no_text : (g : Given) → is_utf8 g.ledger ≡ false → ComesOf (asked_in g) g.fresh (Err errors.LedgerNotUtf8)
ledger_is_no_text g other = rw other (inr refl)

pub issuer_is_no_text : (g : Given) → is_utf8 g.ledger ≡ true → is_utf8 g.issuer ≡ false
    → ComesOf (asked_in g) g.fresh (Err errors.IssuerNotUtf8)
issuer_is_no_text g ledger other = rw (ledger, other) (inr refl)

pub requests_are_no_text : (g : Given) → is_utf8 g.ledger ≡ true → is_utf8 g.issuer ≡ true → is_utf8 g.requests ≡ false
    → ComesOf (asked_in g) g.fresh (Err errors.RequestsNotUtf8)
requests_are_no_text g ledger issuer other = rw (ledger, issuer, other) (inr refl)

of_texts : (g : Given) → is_utf8 g.ledger ≡ true → is_utf8 g.issuer ≡ true → is_utf8 g.requests ≡ true
    → asked_in g
    ≡ and_then (map_err table_refusal (table_of g.answers)) (λ entries. asked_by entries g.ledger g.issuer g.requests g.fresh)
of_texts g ledger issuer requests = rw (ledger, issuer, requests) refl

pub table_stops : (g : Given) (e : TableError) (f : LedgerByError) → is_utf8 g.ledger ≡ true → is_utf8 g.issuer ≡ true
    → is_utf8 g.requests ≡ true → (e ≡ tables.NoMemory) ⊎ (table_of g.answers ≡ Err e) → f ≡ table_refusal e
    → ComesOf (asked_in g) g.fresh (Err f)
table_stops g e f ledger issuer requests (inl want) is =
    subst (λ x. ComesOf (asked_in g) g.fresh (Err x)) (sym (is ∙ ap table_refusal want)) (memory_comes (asked_in g) g.fresh)
table_stops g e f ledger issuer requests (inr refused) is =
    refusal_comes (asked_in g) g.fresh f
    (of_texts g ledger issuer requests
    ∙ ap (λ s. and_then (map_err table_refusal s) (λ entries. asked_by entries g.ledger g.issuer g.requests g.fresh)) refused
    ∙ ap Err (sym is))

pub table_goes_on : (g : Given) (entries : List Entry) (ledger issuer requests : List ℕ) (result : Result Applied LedgerByError)
    → ledger ≡ g.ledger → is_utf8 g.ledger ≡ true → issuer ≡ g.issuer → is_utf8 g.issuer ≡ true → requests ≡ g.requests
    → is_utf8 g.requests ≡ true → table_of g.answers ≡ Ok entries
    → ComesOf (asked_by entries ledger issuer requests g.fresh) g.fresh result → ComesOf (asked_in g) g.fresh result
table_goes_on g entries ledger issuer requests result ledger_is ledger_text issuer_is issuer_text requests_are requests_text is comes =
    let here : asked_in g ≡ asked_by entries ledger issuer requests g.fresh =
    of_texts g ledger_text issuer_text requests_text
    ∙ ap (λ s. and_then (map_err table_refusal s) (λ entries. asked_by entries g.ledger g.issuer g.requests g.fresh)) is
    ∙ ap (λ t. asked_by entries t g.issuer g.requests g.fresh) (sym ledger_is)
    ∙ ap (λ t. asked_by entries ledger t g.requests g.fresh) (sym issuer_is)
    ∙ ap (λ t. asked_by entries ledger issuer t g.fresh) (sym requests_are) in
    subst (λ s. ComesOf s g.fresh result) (sym here) comes

-- ---- ledgers that differ in their certificates alone

kept_alike : (line : List ℕ) (x y : LedgerEntry) → x.serial ≡ y.serial → x.request ≡ y.request
    → kept_reply line x ≡ kept_reply line y
kept_alike line x y serial request =
    ap₂ (λ s r. if bytes_eq r line then replies.Again s else replies.Conflict s) serial request

named_alike : (t : IssuerTerms) (line : List ℕ) (next : ℕ) (r : CertRequestLine) (id : List ℕ) (xs ys : List LedgerEntry)
    → AreAlikeEntries xs ys → unless_kept t line next r (entry_named id xs) ≡ unless_kept t line next r (entry_named id ys)
unfolding entry_named
named_alike t line next r id [] [] alike = refl
named_alike t line next r id [] (y ∷ ys) alike = absurd alike
named_alike t line next r id (x ∷ xs) [] alike = absurd alike
named_alike t line next r id (x ∷ xs) (y ∷ ys) (same, serial, request, more) = elim (cases_Bool (bytes_eq x.id id)) [
  | inl here ↦
      let there : bytes_eq y.id id ≡ true = ap (λ i. bytes_eq i id) (sym same) ∙ here in
      rw (here, there) (ap Err (kept_alike line x y serial request))
  | inr other ↦
      let elsewhere : bytes_eq y.id id ≡ false = ap (λ i. bytes_eq i id) (sym same) ∙ other in
      rw (other, elsewhere) (named_alike t line next r id xs ys more)
]

pub judged_alike : (t : IssuerTerms) (a b : State) (line : List ℕ) → AreAlike a b
    → judged_request_line t a line ≡ judged_request_line t b line
unfolding judged_request_line
judged_alike t a b line alike = go (request_in line)
  where
    go : (found : Option CertRequestLine)
        → and_then (ok_or found replies.BadRequest) (λ r. unless_kept t line a.next r (entry_named r.id a.entries))
        ≡ and_then (ok_or found replies.BadRequest) (λ r. unless_kept t line b.next r (entry_named r.id b.entries))
    go None = refl
    go (Some r) =
        ap (λ n. unless_kept t line n r (entry_named r.id a.entries)) alike.next
        ∙ named_alike t line b.next r r.id a.entries b.entries alike.entries

-- ---- the questions don't depend on the answers

alike_itself : (xs : List LedgerEntry) → AreAlikeEntries xs xs
alike_itself [] = tt
alike_itself (x ∷ xs) = (refl, refl, refl, alike_itself xs)

alike_more : (xs ys : List LedgerEntry) (x y : LedgerEntry) → AreAlikeEntries xs ys → x.id ≡ y.id → x.serial ≡ y.serial
    → x.request ≡ y.request → AreAlikeEntries (xs ++ x ∷ []) (ys ++ y ∷ [])
alike_more [] [] x y alike id serial request = (id, serial, request, tt)
alike_more [] (b ∷ ys) x y alike id serial request = absurd alike
alike_more (a ∷ xs) [] x y alike id serial request = absurd alike
alike_more (a ∷ xs) (b ∷ ys) x y alike id serial request =
    (alike.0, alike.1, alike.2, alike_more xs ys x y alike.3 id serial request)

after_alike : (entries others : List Entry) (a b : State) (line : List ℕ) (says : Result SignatureAsked Reply) → AreAlike a b
    → AreAlike (after_request entries a line says) (after_request others b line says)
after_alike entries others a b line (Ok asked) alike = record {
  next = ap (λ n. n + 1) alike.next;
  entries = alike_more a.entries b.entries _ _ alike.entries refl refl refl;
}
after_alike entries others a b line (Err reply) alike = alike

questions_alike : (entries others : List Entry) (issuer : SshBasePublicKey) (a b : State) (fresh : List ℕ) (lines : List (List ℕ))
    → AreAlike a b → asked_questions entries issuer a fresh lines ≡ asked_questions others issuer b fresh lines
questions_alike entries others issuer a b fresh [] alike = refl
questions_alike entries others issuer a b fresh (line ∷ more) alike =
    let t : IssuerTerms = terms_by issuer fresh in
    let says : Result SignatureAsked Reply = judged_request_line t b line in
    let same : judged_request_line t a line ≡ says = judged_alike t a b line alike in
    ap (λ s. asked_for s ++ asked_questions entries issuer (after_request entries a line s) (drop nonce_len fresh) more) same
    ∙ ap (λ qs. asked_for says ++ qs)
    (questions_alike entries others issuer (after_request entries a line says) (after_request others b line says)
    (drop nonce_len fresh) more (after_alike entries others a b line says alike))

pub same_questions : (entries others : List Entry) (issuer : SshBasePublicKey) (l : State) (fresh : List ℕ) (lines : List (List ℕ))
    → asked_questions entries issuer l fresh lines ≡ asked_questions others issuer l fresh lines
same_questions entries others issuer l fresh lines =
    questions_alike entries others issuer l l fresh lines (record { next = refl; entries = alike_itself l.entries })

-- ---- who answers what is lacked is asked no more

lacking_none : (q : Question) (answer : Option (List ℕ)) → is_some answer ≡ true → lacking q answer ≡ []
lacking_none q None some = cc some
lacking_none q (Some a) some = refl

answered_first : (entries more : List Entry) (q : Question) (answer : Option (List ℕ)) (rest : List Question)
    → answer_to q entries ≡ answer → AllByRecursion (λ x. is_some (answer_to x (entries ++ more)) ≡ true) (lacking q answer ++ rest)
    → (is_some (answer_to q (entries ++ more)) ≡ true) × AllByRecursion (λ x. is_some (answer_to x (entries ++ more)) ≡ true) rest
answered_first entries more q None rest is all = (all.0, all.1)
answered_first entries more q (Some a) rest is all = (ap is_some (answer_more q entries more a is), all)

pub none_is_lacked : (entries more : List Entry) (qs : List Question)
    → AllByRecursion (λ q. is_some (answer_to q (entries ++ more)) ≡ true) (lacked entries qs) → lacked (entries ++ more) qs ≡ []
none_is_lacked entries more [] all = refl
none_is_lacked entries more (q ∷ qs) all =
    let both = answered_first entries more q (answer_to q entries) (lacked entries qs) refl all in
    ap₂ (λ x y. x ++ y) (lacking_none q (answer_to q (entries ++ more)) both.0) (none_is_lacked entries more qs both.1)
