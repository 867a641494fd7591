-- Lemmas on a public key's text in PuTTY's format.
use Rattle.std.proofs.Common.{◌≡◌, ℕ, List, [], ◌∷◌, ◌++◌, Bool, true, false, Ok, Err, if◌then◌else◌, refl, sym, ap, ◌∙◌, codes}
use Rattle.std.proofs.lemmas.List.{append_assoc, append-nil}
use Rattle.picky_text.specs.Base64.{base64_of}
use Rattle.picky_text.specs.Rows.{rows_of}
use Rattle.picky_text.specs.Lines.{text_of, end_bytes}
use Rattle.picky_text.specs.Quote.{quote}
use Rattle.picky_text.specs.declared.lines.LineEnd.{LineEnd}
use Rattle.picky_text.specs.declared.lines.LineEnd.TheVariants.{CrLf}
use Rattle.picky_ppk_file.specs.PuttyPublic.{putty_header, putty_footer, comment_start, comment_line, putty_public}

-- the text of some lines and one more
text_of-push : (end : LineEnd) (ls : List (List ℕ)) (line : List ℕ)
    → text_of end (ls ++ line ∷ []) ≡ text_of end ls ++ (line ++ end_bytes end)
unfolding text_of
text_of-push end [] line = append-nil (line ++ end_bytes end)
text_of-push end (l ∷ ls) line =
    ap (λ r. (l ++ end_bytes end) ++ r) (text_of-push end ls line)
    ∙ sym (append_assoc (l ++ end_bytes end) (text_of end ls) (line ++ end_bytes end))

-- a test that lets nothing pass failed
pub failed : {A E : Type 0} (passes : Bool) (e f : E) (x : A) → (if passes then Ok x else Err e) ≡ Err f → passes ≡ false
failed true e f x same = cc same
failed false e f x same = refl

-- the text as it is written, piece by piece
pub putty_public_is : (blob comment : List ℕ) → putty_public blob comment
    ≡ ((((codes "---- BEGIN SSH2 PUBLIC KEY ----\r\n" ++ codes "Comment: \"") ++ quote comment) ++ codes "\"\r\n")
    ++ text_of CrLf (rows_of (base64_of blob))) ++ codes "---- END SSH2 PUBLIC KEY ----\r\n"
unfolding putty_public putty_header putty_footer comment_start comment_line text_of
putty_public_is blob comment =
    let rows = text_of CrLf (rows_of (base64_of blob)) in
    let end = codes "---- END SSH2 PUBLIC KEY ----\r\n" in
    text_of-push CrLf (putty_header ∷ comment_line comment ∷ rows_of (base64_of blob)) putty_footer
    ∙ ap (λ line. codes "---- BEGIN SSH2 PUBLIC KEY ----\r\nComment: \"" ++ ((line ++ rows) ++ end))
    (append_assoc (quote comment) (34 ∷ []) (13 ∷ 10 ∷ []))

-- the text, where each piece was written after the ones before
pub putty_written : (blob comment said body t1 t2 t3 t4 t5 t6 t7 t8 t9 : List ℕ)
    → t1 ≡ codes "---- BEGIN SSH2 PUBLIC KEY ----" → t2 ≡ t1 ++ codes "\r\n"
    → t3 ≡ t2 ++ codes "Comment: " → t4 ≡ t3 ++ codes "\"" → t5 ≡ t4 ++ quote said → said ≡ comment
    → t6 ≡ t5 ++ codes "\"\r\n" → t7 ≡ t6 ++ text_of CrLf (rows_of body) → body ≡ base64_of blob
    → t8 ≡ t7 ++ codes "---- END SSH2 PUBLIC KEY ----" → t9 ≡ t8 ++ codes "\r\n"
    → t9 ≡ putty_public blob comment
putty_written blob comment said body t1 t2 t3 t4 t5 t6 t7 t8 t9 p1 p2 p3 p4 p5 says p6 p7 same p8 p9 =
    let q2 = p2 ∙ ap (λ t. t ++ codes "\r\n") p1 in
    let q3 = p3 ∙ ap (λ t. t ++ codes "Comment: ") q2 in
    let q4 = p4 ∙ ap (λ t. t ++ codes "\"") q3 in
    let q5 = p5 ∙ ap (λ c. t4 ++ quote c) says ∙ ap (λ t. t ++ quote comment) q4 in
    let q6 = p6 ∙ ap (λ t. t ++ codes "\"\r\n") q5 in
    let q7 = p7 ∙ ap (λ b. t6 ++ text_of CrLf (rows_of b)) same
    ∙ ap (λ t. t ++ text_of CrLf (rows_of (base64_of blob))) q6 in
    let q8 = p8 ∙ ap (λ t. t ++ codes "---- END SSH2 PUBLIC KEY ----") q7 in
    p9 ∙ ap (λ t. t ++ codes "\r\n") q8
    ∙ append_assoc (((((codes "---- BEGIN SSH2 PUBLIC KEY ----\r\n" ++ codes "Comment: \"") ++ quote comment) ++ codes "\"\r\n")
    ++ text_of CrLf (rows_of (base64_of blob)))) (codes "---- END SSH2 PUBLIC KEY ----") (codes "\r\n")
    ∙ sym (putty_public_is blob comment)
