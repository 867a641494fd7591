-- The laws of what a text means: what it says, which is one key; and what is written is read back.
use Rattle.std.proofs.Common.{◌≡◌, ◌<◌, ◌^◌, ◌&&◌, ℕ, List, [], ◌∷◌, ◌++◌, length, true, false}
use Rattle.std.proofs.Common.{Some, Ok, Err, refl, sym, ap, ◌∙◌, subst}
use Rattle.std.specs.List.{concat}
use Rattle.std.specs.Option.{ok_or}
use Rattle.std.specs.Str.{bytes_eq}
use Rattle.std.proofs.lemmas.Bool.{ltb-true, lt-ltb, and_parts}
use Rattle.picky_wire_base.specs.Numbers.{IsBytes}
use Rattle.picky_wire_base.specs.carried.Outcome.{and_then_ok, passed_ok}
use Rattle.picky_text.specs.Base64.{decoded}
use Rattle.picky_text.proofs.Base64Laws.{base64_is_read_back, base64_is_of_what_it_gives, decoded_is_bytes}
use Rattle.picky_text.specs.Lines.{lines, HasNo}
use Rattle.picky_text.proofs.ListLaws.{all_front}
use Rattle.picky_text.specs.Quote.{unquote}
use Rattle.picky_keys.proofs.LineLaws.{some_of, chosen}
use Rattle.picky_keys.specs.LineRefusal.{is_short}
use Rattle.picky_ppk_parts.specs.declared.error.PuttyError.TheVariants as errors
use Rattle.picky_ppk_file.specs.declared.putty_public.PuttyPublicKey.{PuttyPublicKey}
use Rattle.picky_ppk_file.specs.PuttyPublic.{putty_header, putty_footer, comment_start, putty_public, SaysPuttyPublic}
use Rattle.picky_ppk_file.specs.PuttyRefusal.{quoted, body_from, of_parts, after_comment, after_putty_header, of_lines}
use Rattle.picky_ppk_file.specs.PuttyRefusal.{putty_meaning}
use Rattle.picky_ppk_file.proofs.CommentLaws.{quoted_of, quoted_says}
use Rattle.picky_ppk_file.proofs.BodyLaws.{same_line, line_is, body_of, body_says}
use Rattle.picky_kv.proofs.LineBytes.{AreBytes, lines_are_bytes, joined_is_bytes}
use Rattle.picky_ppk_file.proofs.PuttyLaws.{putty_public_says}

-- ---- a text means what it says

-- Lines that begin with a header mean what stands after it.
pub header_first : (line : List ℕ) (more : List (List ℕ)) → bytes_eq line putty_header ≡ true
    → of_lines (line ∷ more) ≡ after_putty_header more
header_first line more same = rw same refl

-- Lines that begin with another line mean nothing.
pub other_first : (line : List ℕ) (more : List (List ℕ)) → bytes_eq line putty_header ≡ false
    → of_lines (line ∷ more) ≡ Err errors.InvalidPublicKeyContainer
other_first line more other = rw other refl

-- the steps after a header
comment_read : (line between : List ℕ) (more : List (List ℕ)) → quoted line ≡ Some between
    → after_putty_header (line ∷ more) ≡ after_comment between more
comment_read line between more is = rw is refl

body_read : (between joined : List ℕ) (ls : List (List ℕ)) → body_from [] ls ≡ Some joined
    → after_comment between ls ≡ of_parts between joined
body_read between joined ls is = rw is refl

parts_read : (between joined blob : List ℕ) → decoded joined ≡ Some blob → length blob < 2 ^ 32
    → length (unquote between) < 2 ^ 32 → of_parts between joined ≡ Ok (record { blob = blob; comment = unquote between })
parts_read between joined blob is blob_short comment_short =
    rw (is, lt-ltb (length blob) (2 ^ 32) blob_short, lt-ltb (length (unquote between)) (2 ^ 32) comment_short) refl

-- A text means what it says.
pub putty_meaning_of : (text blob comment : List ℕ) → SaysPuttyPublic text blob comment
    → putty_meaning text ≡ Ok (record { blob = blob; comment = comment })
unfolding putty_meaning
putty_meaning_of text blob comment says =
    let rest : List (List ℕ) = says.body ++ putty_footer ∷ says.more in
    let line : List ℕ = comment_start ++ says.before ++ 34 ∷ says.between ++ 34 ∷ says.after in
    let some = ap decoded says.body_is ∙ base64_is_read_back blob says.bytes in
    let short = subst (λ c. length c < 2 ^ 32) says.comment_is says.comment_short in
    ap of_lines says.whole ∙ header_first putty_header (line ∷ rest) (same_line putty_header putty_header refl)
    ∙ comment_read line says.between rest (quoted_of says.before says.between says.after says.first_quote says.last_quote)
    ∙ body_read says.between (concat says.body) rest (body_of [] says.body says.more says.first_footer)
    ∙ parts_read says.between (concat says.body) blob some says.blob_short short
    ∙ ap (λ c. Ok (record { blob = blob; comment = c })) (sym says.comment_is)

-- It says one key.
pub one_putty_meaning : (text : List ℕ) (k l : PuttyPublicKey) → SaysPuttyPublic text k.blob k.comment
    → SaysPuttyPublic text l.blob l.comment → k ≡ l
one_putty_meaning text k l first second =
    let both = sym (putty_meaning_of text k.blob k.comment first) ∙ putty_meaning_of text l.blob l.comment second in
    cc both

-- ---- it says what it means

-- two lines and what follows them
three_parts : (a b c d : List ℕ) (ls rest : List (List ℕ)) → a ≡ c → b ≡ d → ls ≡ rest → a ∷ b ∷ ls ≡ c ∷ d ∷ rest
three_parts a b c d ls rest first second more = cc

-- what the lines of a text say
lines_say : (text : List ℕ) (key : PuttyPublicKey) (ls : List (List ℕ)) → lines text ≡ ls → AreBytes ls
    → of_lines ls ≡ Ok key → SaysPuttyPublic text key.blob key.comment
lines_say text key [] are each means = cc means
lines_say text key (first ∷ []) are each means =
    let head = chosen (bytes_eq first putty_header) (after_putty_header []) errors.InvalidPublicKeyContainer key means in
    cc head.1
lines_say text key (first ∷ second ∷ ls) are each means =
    let head = chosen (bytes_eq first putty_header) (after_putty_header (second ∷ ls)) errors.InvalidPublicKeyContainer key means in
    let comment = and_then_ok (ok_or (quoted second) errors.InvalidPublicKeyComment) _ key head.1 in
    let between = comment.0 in
    let line = quoted_says second between (some_of (quoted second) errors.InvalidPublicKeyComment between comment.1) in
    let found = and_then_ok (ok_or (body_from [] ls) errors.EndOfInput) (of_parts between) key comment.2 in
    let joined = found.0 in
    let body = body_says [] ls joined (some_of (body_from [] ls) errors.EndOfInput joined found.1) in
    let step = and_then_ok (ok_or (decoded joined) errors.InvalidPublicKeyData) _ key found.2 in
    let blob = step.0 in
    let some = some_of (decoded joined) errors.InvalidPublicKeyData blob step.1 in
    let passed = passed_ok (is_short blob && is_short (unquote between)) errors.TooLong _ key step.2 in
    let short = and_parts (is_short blob) (is_short (unquote between)) passed.0 in
    let front = all_front _ body.body (putty_footer ∷ body.more) (subst AreBytes body.are each.1.1) in
    let small = subst IsBytes (sym body.joined_is) (joined_is_bytes body.body front) in
    subst (λ k. SaysPuttyPublic text k.blob k.comment) passed.1 (record {
      before = line.before;
      between = between;
      after = line.after;
      body = body.body;
      more = body.more;
      whole = are ∙ three_parts first second putty_header _ ls _ (line_is first putty_header head.0) line.is body.are;
      first_quote = line.first;
      last_quote = line.last;
      comment_is = refl;
      first_footer = body.first_footer;
      body_is = sym body.joined_is ∙ base64_is_of_what_it_gives joined blob small some;
      bytes = decoded_is_bytes joined blob small some;
      blob_short = ltb-true (length blob) (2 ^ 32) short.0;
      comment_short = ltb-true (length (unquote between)) (2 ^ 32) short.1;
    })

-- A text of bytes says what it means.
pub putty_meaning_says : (text : List ℕ) (key : PuttyPublicKey) → IsBytes text → putty_meaning text ≡ Ok key
    → SaysPuttyPublic text key.blob key.comment
unfolding putty_meaning
putty_meaning_says text key small means = lines_say text key (lines text) refl (lines_are_bytes text small) means

-- ---- what is written is read back

-- A key whose comment is one line is read back from its text.
pub putty_public_reads_back : (key : PuttyPublicKey) → IsBytes key.blob → HasNo 10 key.comment
    → length key.blob < 2 ^ 32 → length key.comment < 2 ^ 32
    → putty_meaning (putty_public key.blob key.comment) ≡ Ok key
putty_public_reads_back key small none blob_short comment_short =
    putty_meaning_of _ key.blob key.comment (putty_public_says key.blob key.comment small none blob_short comment_short)
