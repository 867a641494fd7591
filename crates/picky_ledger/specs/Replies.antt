-- The line of a reply.
use Rattle.std.specs.Prelude.{◌++◌, ◌∷◌, ℕ, List, [], Option, Some, None, codes}
use Rattle.std.specs.Fmt.{decimal}
use Rattle.picky_cert_builder.specs.RefusalName.{request_name}
use Rattle.picky_request.specs.Request.{request_in}
use Rattle.picky_request.specs.declared.request.CertRequestLine.{CertRequestLine}
use Rattle.picky_ledger.specs.declared.reply.Reply.{Reply}
use Rattle.picky_ledger.specs.declared.reply.Reply.TheVariants as replies

abbrev pub id_or_none : Option CertRequestLine → List ℕ
id_or_none None = []
id_or_none (Some r) = r.id

-- the id in a request line
abbrev pub id_in : (line : List ℕ) → List ℕ
id_in line = id_or_none (request_in line)

-- line = word SP id [SP rest] LF
abbrev pub said_of : (word id rest : List ℕ) → List ℕ
said_of word id rest = word ++ 32 ∷ (id ++ (rest ++ 10 ∷ []))

-- the reply to a request with this id; a line that is none has no id
unfoldable pub reply_line : (id : List ℕ) → Reply → List ℕ
reply_line id (replies.Issued serial) = said_of (codes "issued") id (32 ∷ decimal serial)
reply_line id (replies.Again serial) = said_of (codes "again") id (32 ∷ decimal serial)
reply_line id (replies.Conflict serial) = said_of (codes "conflict") id (32 ∷ decimal serial)
reply_line id replies.Full = said_of (codes "full") id []
reply_line id (replies.Refused e) = said_of (codes "refused") id (32 ∷ request_name e)
reply_line id replies.BadRequest = codes "bad" ++ 10 ∷ []

-- the replies to the requests of these lines
abbrev pub replies_text : (lines : List (List ℕ)) → List Reply → List ℕ
replies_text [] more = []
replies_text (line ∷ lines) [] = []
replies_text (line ∷ lines) (reply ∷ more) = reply_line (id_in line) reply ++ replies_text lines more
