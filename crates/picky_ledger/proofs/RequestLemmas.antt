-- Requests at a ledger, one after another.
use Rattle.std.proofs.Common.{◌≡◌, ◌≢◌, ◌*◌, ◌++◌, ◌==◌, ℕ, List, [], ◌∷◌, false, length, take, drop, Option, Some, None}
use Rattle.std.proofs.Common.{Result, Ok, Err, IfErr}
use Rattle.std.proofs.Common.{refl, sym, ◌∙◌, ap, arith, subst, append_assoc}
use Rattle.std.specs.List.{before_first}
use Rattle.std.specs.Str.{IsUtf8}
use Rattle.std.proofs.lemmas.Bool.{ne_eqb}
use Rattle.std.proofs.lemmas.List.{append-nil, drop-drop, length-append}
use Rattle.picky_text.proofs.ListLaws.{all_weaker, cut_at_first}
use Rattle.picky_keys.proofs.ByteLaws.{utf8_is_bytes}
use Rattle.picky_keys.specs.declared.key.SshBasePublicKey.{SshBasePublicKey}
use Rattle.picky_keys.specs.declared.public_key.PublicKey.{PublicKey}
use Rattle.picky_keys.specs.declared.algorithm.SignatureAlgorithm.{SignatureAlgorithm}
use Rattle.picky_suite.specs.Signs.{SignRelation}
use Rattle.picky_request.specs.Request.{is_space, request_in}
use Rattle.picky_request.specs.declared.request.CertRequestLine.{CertRequestLine}
use Rattle.picky_request.proofs.LineLaws.{line_is_one}
use Rattle.picky_ledger.specs.Apply.{Applies, SignatureAsked, IssuerTerms, judged_request_line}
use Rattle.picky_ledger.specs.Replies.{id_in, replies_text, reply_line}
use Rattle.picky_ledger.specs.Run.{filled_lines}
use Rattle.picky_ledger.specs.Runs.{NoneSigns, Runs, Step, nonce_len}
use Rattle.picky_ledger.specs.State.{State}
use Rattle.picky_ledger.specs.declared.apply.LedgerError.{LedgerError}
use Rattle.picky_ledger.specs.declared.apply.LedgerError.TheVariants as errors
use Rattle.picky_ledger.specs.declared.reply.Reply.{Reply}
use Rattle.picky_ledger.specs.inner.Comes.{AnswersLine}

-- ---- a reply and the id of its line

-- the id stands before the first space
id_is_first : (line : List ℕ) (r : CertRequestLine) → IsUtf8 line → request_in line ≡ Some r → before_first is_space line ≡ r.id
id_is_first line r utf8 says =
    let is = (line_is_one line r (utf8_is_bytes line utf8)).0 says in
    ap (before_first is_space) is.whole ∙ (cut_at_first is_space r.id 32 _ (all_weaker (λ b. b ≢ 32) (λ b. is_space b ≡ false) (λ b other. ne_eqb b 32 other) r.id is.id_parted) refl).before

-- a line that is no request has no id in its reply, so what stands before its first space may be taken
pub reply_by_first : (signs : SignRelation) (t : IssuerTerms) (old new : State) (line : List ℕ) (rose : Type 0) (reply : Reply) → IsUtf8 line
    → Applies signs old line (judged_request_line t old line) rose (Ok reply) new
    → reply_line (before_first is_space line) reply ≡ reply_line (id_in line) reply
unfolding judged_request_line reply_line
reply_by_first signs t old new line rose reply utf8 = go (request_in line) refl
  where
    go : (found : Option CertRequestLine) → request_in line ≡ found
        → Applies signs old line (judged_request_line t old line) rose (Ok reply) new
        → reply_line (before_first is_space line) reply ≡ reply_line (id_in line) reply
    go (Some r) is applies = ap (λ id. reply_line id reply) (id_is_first line r utf8 is) ∙ rw is refl
    go None is applies =
        let bad = rw is at applies in
        rw bad.0 refl

-- where the device didn't fail, its count doesn't matter
calm_applies : (signs : SignRelation) (old new : State) (line : List ℕ) (says : Result SignatureAsked Reply) (rose : Type 0) (reply : Reply)
    → Applies signs old line says rose (Ok reply) new → Applies signs old line says ⊥ (Ok reply) new
calm_applies signs old new line (Ok a) rose reply applies = applies
calm_applies signs old new line (Err r) rose reply applies = applies

-- a reply, and the line of it that was added
pub line_answers : (signs : SignRelation) (issuer : SshBasePublicKey) (nonce fresh : List ℕ) (old new : State) (line : List ℕ)
    (rose : Type 0) (reply : Reply) (before after : List ℕ) → IsUtf8 line → nonce ≡ fresh
    → Applies signs old line (judged_request_line (record { issuer = issuer; nonce = nonce }) old line) rose (Ok reply) new
    → after ≡ before ++ reply_line (before_first is_space line) reply
    → (r : Reply) × Applies signs old line (judged_request_line (record { issuer = issuer; nonce = fresh }) old line) ⊥ (Ok r) new
    × (after ≡ before ++ reply_line (id_in line) r)
line_answers signs issuer nonce fresh old new line rose reply before after utf8 same applies added =
    let t : IssuerTerms = record { issuer = issuer; nonce = fresh } in
    let of_fresh : Applies signs old line (judged_request_line t old line) rose (Ok reply) new =
    subst (λ n. Applies signs old line (judged_request_line (record { issuer = issuer; nonce = n }) old line) rose (Ok reply) new) same applies in (
      reply,
      calm_applies signs old new line (judged_request_line t old line) rose reply of_fresh,
      added ∙ ap (λ l. before ++ l) (reply_by_first signs t old new line rose reply utf8 of_fresh),
    )

-- or the device failed for it
failed_asks : (A : Type 0) (signs : SignRelation) (t : IssuerTerms) (old new : State) (line : List ℕ) (rose : Type 0) (before after : List ℕ)
    (says : Result SignatureAsked Reply) → judged_request_line t old line ≡ says → (e : LedgerError) → Applies signs old line says rose (Err e) new
    → AnswersLine {A = A} signs t old line rose before after (Err e) new
failed_asks A signs t old new line rose before after (Ok a) is errors.SignerFault applies = (a, is, applies.0)
failed_asks A signs t old new line rose before after (Err r) is errors.SignerFault applies = absurd applies
failed_asks A signs t old new line rose before after says is errors.NoMemory applies = tt

pub line_fails : (A : Type 0) (signs : SignRelation) (issuer : SshBasePublicKey) (nonce fresh : List ℕ) (old new : State) (line : List ℕ)
    (rose : Type 0) (e : LedgerError) (before after : List ℕ) → nonce ≡ fresh
    → Applies signs old line (judged_request_line (record { issuer = issuer; nonce = nonce }) old line) rose (Err e) new
    → AnswersLine {A = A} signs (record { issuer = issuer; nonce = fresh }) old line rose before after (Err e) new
line_fails A signs issuer nonce fresh old new line rose e before after same applies =
    let t : IssuerTerms = record { issuer = issuer; nonce = fresh } in
    failed_asks A signs t old new line rose before after (judged_request_line t old line) refl e
    (subst (λ n. Applies signs old line (judged_request_line (record { issuer = issuer; nonce = n }) old line) rose (Err e) new) same applies)

-- ---- lines that aren't empty

pub filled_more : (line : List ℕ) (more : List (List ℕ)) → (length line == 0) ≡ false
    → filled_lines (line ∷ more) ≡ line ∷ filled_lines more
filled_more line more some = rw some refl

-- ---- one request more

pub runs_more : (signs : SignRelation) (issuer : SshBasePublicKey) (old mid new : State) (fresh : List ℕ) (front : List (List ℕ))
    (line : List ℕ) (rs : List Reply) (reply : Reply) → Runs signs issuer old fresh front mid rs
    → Step signs issuer mid (drop (nonce_len * length front) fresh) line new reply
    → Runs signs issuer old fresh (front ++ line ∷ []) new (rs ++ reply ∷ [])
runs_more signs issuer old mid new fresh [] line rs reply runs step =
    (new, reply, [], subst (λ l. Step signs issuer l fresh line new reply) runs.0 step, (refl, refl), ap (λ l. l ++ reply ∷ []) runs.1)
runs_more signs issuer old mid new fresh (next ∷ front) line rs reply runs step =
    let behind : drop (nonce_len * length (next ∷ front)) fresh ≡ drop (nonce_len * length front) (drop nonce_len fresh) =
    ap (λ n. drop n fresh) (omega arith) ∙ sym (drop-drop (nonce_len * length front) nonce_len fresh) in (
      runs.0,
      runs.1,
      runs.2 ++ reply ∷ [],
      runs.3,
      runs_more signs issuer runs.0 mid new (drop nonce_len fresh) front line runs.2 reply runs.4
          (subst (λ f. Step signs issuer mid f line new reply) behind step),
      ap (λ l. l ++ reply ∷ []) runs.5,
    )

pub text_more : (front : List (List ℕ)) (line : List ℕ) (rs : List Reply) (reply : Reply) → length rs ≡ length front
    → replies_text (front ++ line ∷ []) (rs ++ reply ∷ []) ≡ replies_text front rs ++ reply_line (id_in line) reply
text_more [] line [] reply same = append-nil (reply_line (id_in line) reply)
text_more [] line (r ∷ rs) reply same = absurd (omega (arith, same))
text_more (next ∷ front) line [] reply same = absurd (omega (arith, same))
text_more (next ∷ front) line (r ∷ rs) reply same =
    ap (λ t. reply_line (id_in next) r ++ t) (text_more front line rs reply (omega (arith, same)))
    ∙ sym (append_assoc (reply_line (id_in next) r) (replies_text front rs) (reply_line (id_in line) reply))

pub runs_count : (signs : SignRelation) (issuer : SshBasePublicKey) (old new : State) (fresh : List ℕ) (lines : List (List ℕ))
    (rs : List Reply) → Runs signs issuer old fresh lines new rs → length rs ≡ length lines
runs_count signs issuer old new fresh [] rs runs = ap length runs.1
runs_count signs issuer old new fresh (line ∷ more) rs runs =
    let rest = runs_count signs issuer runs.0 new (drop nonce_len fresh) more runs.2 runs.4 in omega (arith, ap length runs.5, rest)

-- ---- so far

-- these lines are left of all; those in front have their replies, of which these bytes are the lines
pub record Answered (signs : SignRelation) (issuer : SshBasePublicKey) (old : State) (fresh : List ℕ) (lines : List (List ℕ))
    (now : State) (rest : List ℕ) (left : List (List ℕ)) (said : List ℕ) : Type 0 where
  pub front : List (List ℕ)
  pub replies : List Reply
  pub whole : lines ≡ front ++ left
  pub runs : Runs signs issuer old fresh front now replies
  pub behind : rest ≡ drop (nonce_len * length front) fresh
  pub text : said ≡ replies_text front replies

module _ (signs : SignRelation) (issuer : SshBasePublicKey) (old : State) (fresh : List ℕ) (lines : List (List ℕ)) where
  -- one line more has its reply
  pub answered_more : (mid new : State) (rest nonce behind line : List ℕ) (left : List (List ℕ)) (text after : List ℕ) (reply : Reply)
      → Answered signs issuer old fresh lines mid rest (line ∷ left) text → nonce ≡ take nonce_len rest
      → behind ≡ drop nonce_len rest
      → Applies signs mid line (judged_request_line (record { issuer = issuer; nonce = nonce }) mid line) ⊥ (Ok reply) new
      → after ≡ text ++ reply_line (id_in line) reply
      → Answered signs issuer old fresh lines new behind left after
  unfolding Step
  answered_more mid new rest nonce behind line left text after reply so is same applies added =
      let step : Step signs issuer mid (drop (nonce_len * length so.front) fresh) line new reply =
      subst (λ f. Step signs issuer mid f line new reply) so.behind
      (subst (λ n. Applies signs mid line (judged_request_line (record { issuer = issuer; nonce = n }) mid line) ⊥ (Ok reply) new) is applies) in
      record {
        front = so.front ++ line ∷ [];
        replies = so.replies ++ reply ∷ [];
        whole = so.whole ∙ sym (append_assoc so.front (line ∷ []) left);
        runs = runs_more signs issuer old mid new fresh so.front line so.replies reply so.runs step;
        behind =
            same ∙ ap (drop nonce_len) so.behind ∙ drop-drop nonce_len (nonce_len * length so.front) fresh
            ∙ ap (λ n. drop n fresh) (omega (arith, length-append so.front (line ∷ [])));
        text =
            added ∙ ap (λ t. t ++ reply_line (id_in line) reply) so.text
            ∙ sym (text_more so.front line so.replies reply (runs_count signs issuer old mid fresh so.front so.replies so.runs));
      }

-- where no request is to be signed, the first isn't, and the device and the ledger stay for those behind it
pub none_more : {S : Type 0} (signs : SignRelation) (issuer : SshBasePublicKey) (l new : State) (rest nonce behind line : List ℕ)
    (left : List (List ℕ)) (reply : Reply) (device before after : S) → NoneSigns issuer l rest (line ∷ left) → nonce ≡ take nonce_len rest
    → behind ≡ drop nonce_len rest
    → Applies signs l line (judged_request_line (record { issuer = issuer; nonce = nonce }) l line) ⊥ (Ok reply) new
    → IfErr (judged_request_line (record { issuer = issuer; nonce = nonce }) l line) (λ r. after ≡ before) → before ≡ device
    → (after ≡ device) × NoneSigns issuer new behind left
none_more signs issuer l new rest nonce behind line left reply device before after (r, says, more) is same applies unasked stays =
    let first : judged_request_line (record { issuer = issuer; nonce = nonce }) l line ≡ Err r =
    ap (λ n. judged_request_line (record { issuer = issuer; nonce = n }) l line) is ∙ says in
    let kept = subst (λ o. Applies signs l line o ⊥ (Ok reply) new) first applies in (
      subst (λ o. IfErr o (λ x. after ≡ before)) first unasked ∙ stays,
      subst (λ b. NoneSigns issuer new b left) (sym same) (subst (λ n. NoneSigns issuer n (drop nonce_len rest) left) (sym kept.1) more),
    )

-- what is good for one device is for another
pub applies_for : (signs other : SignRelation) (old new : State) (line : List ℕ) (says : Result SignatureAsked Reply) (rose : Type 0) (reply : Reply)
    → ((k : PublicKey) (a : SignatureAlgorithm) (m s : List ℕ) → signs k a m s → other k a m s)
    → Applies signs old line says rose (Ok reply) new → Applies other old line says rose (Ok reply) new
applies_for signs other old new line (Ok a) rose reply good (c, signed, entry, is, after) =
    (c, (signed.0, signed.1, good _ _ _ _ signed.2), entry, is, after)
applies_for signs other old new line (Err r) rose reply good applies = applies
