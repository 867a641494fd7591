-- A text means a file exactly where its lines say it, and they say one.
use Rattle.std.proofs.Common.{◌≡◌, ℕ, List, Ok, refl, sym, ap, subst, ◌∙◌}
use Rattle.picky_wire_base.specs.Outcome.{and_then, map_err}
use Rattle.picky_wire_base.specs.carried.Outcome.{and_then_ok, map_err_ok, same_pair}
use Rattle.picky_text.specs.Lines.{lines}
use Rattle.picky_kv.specs.Keys.{private_lines_key, private_mac_key}
use Rattle.picky_kv.specs.Keys.{private_lines_key_row, private_mac_key_row}
use Rattle.picky_kv.specs.ValueFields.{base64_field, hex_field}
use Rattle.picky_kv.specs.Lines.{next_pair, next_block, value_alone}
use Rattle.picky_ppk_file.specs.declared.file.PpkFile.{PpkFile}
use Rattle.picky_ppk_file.specs.declared.reading.Front.{Front}
use Rattle.picky_ppk_file.specs.FileText.{SaysFile}
use Rattle.picky_ppk_file.specs.FileRefusal.{front_in, sealing_in, file_in, line_error, file_meaning}
use Rattle.picky_ppk_file.proofs.LineSteps.{then_ok, pair_says, pair_means, block_says, block_means}
use Rattle.picky_ppk_file.proofs.FrontLaws.{front_says, front_means, sealing_says, sealing_means}

-- A file that is read of lines is said by them.
file_says : (text : List ℕ) (f : PpkFile) (rest : List (List ℕ)) → file_in (lines text) ≡ Ok (f, rest) → SaysFile text f
unfolding file_in
file_says text f rest is =
    let front = and_then_ok (front_in (lines text)) _ (f, rest) is in
    let sealing = and_then_ok (sealing_in front.0.0.version front.0.0.encryption front.0.1) _ (f, rest) front.2 in
    let private = and_then_ok (value_alone (next_block private_lines_key base64_field private_lines_key_row.name
    sealing.0.1)) _ (f, rest) sealing.2 in
    let mac = and_then_ok (value_alone (next_pair private_mac_key hex_field private_mac_key_row.name private.0.1)) _
    (f, rest) private.2 in
    let read : PpkFile = record {
      sealing = sealing.0.0;
      algorithm = front.0.0.algorithm;
      comment = front.0.0.comment;
      public_key = front.0.0.public_key;
      private_bytes = private.0.0;
      mac = mac.0.0;
    } in
    let same = same_pair (Ok (read, mac.0.1)) read f mac.0.1 rest refl mac.2 in
    let says = front_says (lines text) front.0.0 front.0.1 front.1 in
    subst (λ g. SaysFile text g) same.0 (record {
      version = front.0.0.version;
      encryption_value = front.0.0.encryption;
      after_header = says.after_header;
      after_encryption = says.after_encryption;
      after_comment = says.after_comment;
      after_public = front.0.1;
      after_sealing = sealing.0.1;
      after_private = private.0.1;
      rest = mac.0.1;
      header = says.header;
      encryption = says.encryption;
      comment = says.comment;
      public_key = says.public_key;
      sealing = sealing_says front.0.0.version front.0.0.encryption front.0.1 sealing.0.0 sealing.0.1 sealing.1;
      private_bytes = (block_says private_lines_key base64_field private_lines_key_row.name sealing.0.1 private.0
          private.1).1;
      mac = (pair_says private_mac_key hex_field private_mac_key_row.name private.0.1 mac.0 mac.1).1;
    })

-- A text says the file that it means.
pub meaning_is_said : (text : List ℕ) (f : PpkFile) → file_meaning text ≡ Ok f → SaysFile text f
unfolding file_meaning
meaning_is_said text f is =
    let found = and_then_ok (map_err line_error (file_in (lines text))) (λ found. Ok found.0) f is in
    let read = map_err_ok line_error (file_in (lines text)) found.0 found.1 in
    let same : found.0.0 ≡ f = cc found.2 in
    subst (λ g. SaysFile text g) same (file_says text found.0.0 found.0.1 read)

-- A file that lines say is read of them.
file_means : (text : List ℕ) (f : PpkFile) (says : SaysFile text f) → file_in (lines text) ≡ Ok (f, says.rest)
unfolding file_in
file_means text f says =
    let front : Front = record {
      version = says.version;
      algorithm = f.algorithm;
      encryption = says.encryption_value;
      comment = f.comment;
      public_key = f.public_key;
    } in
    then_ok (front_in (lines text)) _ (front, says.after_public) _
    (front_means (lines text) front says.after_public (record {
      after_header = says.after_header;
      after_encryption = says.after_encryption;
      after_comment = says.after_comment;
      header = says.header;
      encryption = says.encryption;
      comment = says.comment;
      public_key = says.public_key;
    }))
    (then_ok _ _ (f.sealing, says.after_sealing) _
    (sealing_means says.version says.encryption_value says.after_public f.sealing says.after_sealing says.sealing)
    (then_ok _ _ (f.private_bytes, says.after_private) _
    (block_means private_lines_key base64_field private_lines_key_row.name says.after_sealing (record {})
    f.private_bytes says.after_private says.private_bytes)
    (then_ok _ _ (f.mac, says.rest) _
    (pair_means private_mac_key hex_field private_mac_key_row.name says.after_private (record {}) f.mac says.rest
    says.mac)
    refl)))

-- A file that lines are read as is what their text means.
pub read_is_meant : (text : List ℕ) (f : PpkFile) (rest : List (List ℕ)) → file_in (lines text) ≡ Ok (f, rest)
    → file_meaning text ≡ Ok f
unfolding file_meaning
read_is_meant text f rest is = ap (λ r. and_then (map_err line_error r) (λ found. Ok found.0)) is

-- A text means the file that it says.
pub said_is_meant : (text : List ℕ) (f : PpkFile) → SaysFile text f → file_meaning text ≡ Ok f
said_is_meant text f says = read_is_meant text f says.rest (file_means text f says)

-- It says one.
pub one_is_said : (text : List ℕ) (f g : PpkFile) → SaysFile text f → SaysFile text g → f ≡ g
one_is_said text f g first second =
    let both = sym (said_is_meant text f first) ∙ said_is_meant text g second in
    cc both
