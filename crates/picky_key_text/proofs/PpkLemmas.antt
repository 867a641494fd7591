-- A PuTTY private key file's text: its order of refusals ends in a meaning exactly where the text says it.
use Rattle.std.specs.Prelude.{◌≡◌, ◌⊎◌, ◌&&◌, ◌%◌, Bool, true, false, List, ℕ, length, take, Some, Result, Ok, Err}
use Rattle.std.specs.Prelude.{if◌then◌else◌}
use Rattle.std.specs.{Option.{ok_or}, Str.{bytes_eq}}
use Rattle.std.proofs.{Common.{refl, sym, ap, subst, ◌∙◌, inl, inr, eq-eqb}, lemmas.Bool.{cases_Bool, eqb-true}}
use Rattle.std.proofs.lemmas.Slice.Eq.{bytes_eq-Decides}
use Rattle.picky_wire_base.specs.{Outcome.{and_then}, carried.Outcome.{and_then_ok}}
use Rattle.picky_suite.specs.Meanings.{Meanings}
use Rattle.picky_suite.proofs.RangeLemmas.{argon2_decides}
use Rattle.picky_keys.proofs.LineLaws.{chosen, some_of}
use Rattle.picky_sshkey_blob.specs.declared.key.SshBasePrivateKey.{SshBasePrivateKey}
use Rattle.picky_ppk_parts.specs.{declared.error.PuttyError.{PuttyError}, Aes.{is_aligned}, Counted.{counted}}
use Rattle.picky_ppk_parts.specs.{Material.{params_fit}, Parts.{StandsForKey}}
use Rattle.picky_ppk_parts.specs.declared.error.PuttyError.TheVariants as errors
use Rattle.picky_ppk_file.specs.{declared.file.PpkFile.{PpkFile}, declared.file.PpkSealing.{PpkSealing}}
use Rattle.picky_ppk_file.specs.declared.file.PpkSealing.TheVariants.{Unsealed, SealedV2, SealedV3}
use Rattle.picky_ppk_file.specs.{File.{is_sealed}, FileRefusal.{file_meaning}}
use Rattle.picky_ppk_file.proofs.FileLaws.{meaning_is_said, said_is_meant}
use Rattle.picky_ppk.specs.{Checked.{checked, ppk_meaning}, Keyed.{can_derive, keys_under}, KeyOf.{base_key_of}}
use Rattle.picky_ppk.specs.Mac.{CarriesMac, own_mac, mac_under}
use Rattle.picky_ppk.specs.Opened.{decrypted, is_openable, not_openable, opened_file, unsealed}
use Rattle.picky_ppk.proofs.CheckedLaws.{file_is_taken, taken_file_carries}
use Rattle.picky_ppk.proofs.KeyLaws.{found_key_stands, standing_key_is_found}
use Rattle.picky_key_text.specs.{declared.meaning.Meaning.{Meaning}, Key.{private_meaning}}
use Rattle.picky_key_text.specs.Order.{opened_ppk, file_key, ppk_key}
use Rattle.picky_key_text.specs.{PpkText.{CanOpen, IsUnsealed, AreOpened, IsPpkText}, Reader.{Reader}}
use Rattle.picky_ppk_parts.proofs.CountedLaws.{standing_is_counted}
use Rattle.picky_key_text.proofs.CountedLemmas.{uncut_stands, counted_stands}

-- ---- tests

three_true : (a b c : Bool) → (a && b && c) ≡ true → (a ≡ true) × (b ≡ true) × (c ≡ true)
three_true true true c is = (refl, refl, is)
three_true true false c is = cc is
three_true false b c is = cc is

all_true : (a b c : Bool) → a ≡ true → b ≡ true → c ≡ true → (a && b && c) ≡ true
all_true a b c a_is b_is c_is = rw (a_is, b_is) c_is

if_true : {A : Type 0} (b : Bool) (x y : A) → b ≡ true → (if b then x else y) ≡ x
if_true true x y is = refl
if_true false x y is = cc is

if_false : {A : Type 0} (b : Bool) (x y : A) → b ≡ false → (if b then x else y) ≡ y
if_false true x y is = cc is
if_false false x y is = refl

-- ---- what can be opened

can_open_of : (s : PpkSealing) (pass : List ℕ) → is_sealed s ≡ true → can_derive s pass ≡ true → CanOpen s pass
unfolding params_fit
can_open_of (Unsealed version) pass sealed derives = cc sealed
can_open_of SealedV2 pass sealed derives = tt
can_open_of (SealedV3 params) pass sealed derives =
    (argon2_decides params.memory params.passes params.parallelism (length pass) (length params.salt)).0 derives

can_open_says : (s : PpkSealing) (pass : List ℕ) → CanOpen s pass → (is_sealed s ≡ true) × (can_derive s pass ≡ true)
unfolding params_fit
can_open_says (Unsealed version) pass can = absurd can
can_open_says SealedV2 pass can = (refl, refl)
can_open_says (SealedV3 params) pass can =
    (refl, (argon2_decides params.memory params.passes params.parallelism (length pass) (length params.salt)).1 can)

-- ---- the text's file

passed : (sealed same : Bool) (e : PuttyError) (f g : PpkFile)
    → (if sealed then Ok f else if same then Ok f else Err e) ≡ Ok g → f ≡ g
passed true same e f g is = cc is
passed false true e f g is = cc is
passed false false e f g is = cc is

-- A file that is taken is the one that the lines say, and where it isn't sealed it carries its MAC.
pub taken_file : (m : Meanings) (text : List ℕ) (f : PpkFile) → ppk_meaning m text ≡ Ok f
    → (file_meaning text ≡ Ok f) × (is_sealed f.sealing ≡ false → CarriesMac m f)
unfolding ppk_meaning checked
taken_file m text f is =
    let both = and_then_ok (file_meaning text) (checked m) f is in
    let same = passed (is_sealed both.0.sealing) (bytes_eq (own_mac m both.0) both.0.mac) errors.MacValidation both.0 f both.2 in
    (both.1 ∙ ap Ok same, taken_file_carries m both.0 f both.2)

-- ---- a sealed file

-- the bytes that the suite gives for the file's
abbrev plain_of : Meanings → List ℕ → PpkFile → List ℕ
plain_of m pass f = m.cbc_open (keys_under m f.sealing pass).key (keys_under m f.sealing pass).iv f.private_bytes

-- A file that is opened was sealed, and is of the bytes that its MAC covers, cut after their counted strings.
record IsCut (m : Meanings) (pass : List ℕ) (f g : PpkFile) : Type 0 where
  opens : IsUnsealed m pass f (plain_of m pass f)
  n : ℕ
  is : unsealed m f (take n (plain_of m pass f)) ≡ g

opened_is_cut : (m : Meanings) (pass : List ℕ) (f g : PpkFile) → decrypted m pass f ≡ Ok g → IsCut m pass f g
unfolding decrypted
opened_is_cut m pass f g is =
    let keys = keys_under m f.sealing pass in
    let plain = plain_of m pass f in
    let opens = chosen (is_openable pass f) (opened_file m keys f plain) (not_openable pass f) g is in
    let tests = three_true (is_sealed f.sealing) (can_derive f.sealing pass) (is_aligned f.private_bytes) opens.0 in
    let cut : Result PpkFile PuttyError = and_then (counted f.algorithm plain) (λ n. Ok (unsealed m f (take n plain))) in
    let covers = chosen (bytes_eq (mac_under m keys.mac_key f plain) f.mac) cut errors.MacValidation g opens.1 in
    let both = and_then_ok (counted f.algorithm plain) (λ n. Ok (unsealed m f (take n plain))) g covers.1 in
    record {
      opens = record {
        can_open = can_open_of f.sealing pass tests.0 tests.1;
        whole = eqb-true (length f.private_bytes % 16) 0 tests.2;
        opened = refl;
        mac = sym ((bytes_eq-Decides (mac_under m keys.mac_key f plain) f.mac).0 covers.0);
      };
      n = both.0;
      is = cc both.2;
    }

-- Bytes that stand for a key are opened, and cut after their counted strings.
counted_is_opened : (m : Meanings) (pass : List ℕ) (f : PpkFile) (private : List ℕ) (n : ℕ) → IsUnsealed m pass f private
    → counted f.algorithm private ≡ Ok n → decrypted m pass f ≡ Ok (unsealed m f (take n private))
unfolding decrypted
counted_is_opened m pass f private n is counts =
    let keys = keys_under m f.sealing pass in
    let plain = plain_of m pass f in
    let can = can_open_says f.sealing pass is.can_open in
    let openable = all_true (is_sealed f.sealing) (can_derive f.sealing pass) (is_aligned f.private_bytes) can.0 can.1
    (eq-eqb (length f.private_bytes % 16) 0 is.whole) in
    let mac = mac_under m keys.mac_key f private in
    let next : ℕ → Result PpkFile PuttyError = λ n. Ok (unsealed m f (take n private)) in
    if_true (is_openable pass f) (opened_file m keys f plain) (Err (not_openable pass f)) openable
    ∙ ap (opened_file m keys f) (sym is.opened)
    ∙ if_true (bytes_eq mac f.mac) (and_then (counted f.algorithm private) next) (Err errors.MacValidation)
    ((bytes_eq-Decides mac f.mac).1 (sym is.mac))
    ∙ ap (λ r. and_then r next) counts

-- ---- any file

-- what a key is found in
record IsFound (r : Reader) (f : PpkFile) (meaning : Meaning) : Type 0 where
  private : List ℕ
  opened : AreOpened r f private
  key : SshBasePrivateKey
  stands : StandsForKey f.algorithm f.public_key private key
  is : meaning ≡ private_meaning key f.comment

-- the file's key and comment
key_and_comment : (f : PpkFile) (meaning : Meaning) → file_key f ≡ Ok meaning
    → (key : SshBasePrivateKey) × (base_key_of f ≡ Ok key) × (meaning ≡ private_meaning key f.comment)
key_and_comment f meaning is =
    let both = and_then_ok (base_key_of f) (λ key. Ok (private_meaning key f.comment)) meaning is in
    let same : private_meaning both.0 f.comment ≡ meaning = cc both.2 in
    (both.0, both.1, sym same)

-- A file that isn't sealed is its own.
found_plain : (r : Reader) (f g : PpkFile) (meaning : Meaning) → is_sealed f.sealing ≡ false → CarriesMac r.meanings f
    → opened_ppk r f ≡ Ok g → file_key g ≡ Ok meaning → IsFound r f meaning
found_plain r f g meaning unsealed carries is reads =
    let plain = if_false (is_sealed f.sealing) (and_then (ok_or r.pass errors.Encrypted) (λ pass. decrypted r.meanings pass f))
    (Ok f) unsealed in
    let both : Ok f ≡ Ok g = sym plain ∙ is in
    let same : f ≡ g = cc both in
    let found = key_and_comment f meaning (subst (λ h. file_key h ≡ Ok meaning) (sym same) reads) in
    record {
      private = f.private_bytes;
      opened = inl (carries, refl);
      key = found.0;
      stands = (found_key_stands f found.0 found.1).1;
      is = found.2;
    }

-- One that is sealed is of the bytes that the suite gives.
found_sealed : (r : Reader) (f g : PpkFile) (meaning : Meaning) → is_sealed f.sealing ≡ true
    → opened_ppk r f ≡ Ok g → file_key g ≡ Ok meaning → IsFound r f meaning
found_sealed r f g meaning sealed is reads =
    let steps = if_true (is_sealed f.sealing) (and_then (ok_or r.pass errors.Encrypted) (λ pass. decrypted r.meanings pass f))
    (Ok f) sealed in
    let both = and_then_ok (ok_or r.pass errors.Encrypted) (λ pass. decrypted r.meanings pass f) g (sym steps ∙ is) in
    let given = some_of r.pass errors.Encrypted both.0 both.1 in
    let cut = opened_is_cut r.meanings both.0 f g both.2 in
    let found = key_and_comment (unsealed r.meanings f (take cut.n (plain_of r.meanings both.0 f))) meaning
    (subst (λ h. file_key h ≡ Ok meaning) (sym cut.is) reads) in
    let stands = (found_key_stands (unsealed r.meanings f (take cut.n (plain_of r.meanings both.0 f))) found.0 found.1).1 in
    record {
      private = plain_of r.meanings both.0 f;
      opened = inr (both.0, given, cut.opens);
      key = found.0;
      stands = uncut_stands f.algorithm f.public_key (plain_of r.meanings both.0 f) found.0 cut.n stands;
      is = found.2;
    }

-- A file whose key is found has its private bytes opened, and they stand for the key.
found : (r : Reader) (f g : PpkFile) (meaning : Meaning) → (is_sealed f.sealing ≡ false → CarriesMac r.meanings f)
    → opened_ppk r f ≡ Ok g → file_key g ≡ Ok meaning → IsFound r f meaning
found r f g meaning carries is reads = elim (cases_Bool (is_sealed f.sealing)) [
  | inl sealed ↦ found_sealed r f g meaning sealed is reads
  | inr unsealed ↦ found_plain r f g meaning unsealed (carries unsealed) is reads
]

-- A text that is read as a file's says it.
pub ppk_says : (r : Reader) (text : List ℕ) (meaning : Meaning) → ppk_key r text ≡ Ok meaning → IsPpkText r text meaning
unfolding ppk_key
ppk_says r text meaning is =
    let taken = and_then_ok (ppk_meaning r.meanings text) (λ f. and_then (opened_ppk r f) file_key) meaning is in
    let both = and_then_ok (opened_ppk r taken.0) file_key meaning taken.2 in
    let file = taken_file r.meanings text taken.0 taken.1 in
    let has = found r taken.0 both.0 meaning file.1 both.1 both.2 in
    record {
      file = taken.0;
      says = meaning_is_said text taken.0 file.0;
      private = has.private;
      opened = has.opened;
      key = has.key;
      stands = has.stands;
      is = has.is;
    }

-- ---- and what is said is read

plain_key_is_read : (r : Reader) (f : PpkFile) (key : SshBasePrivateKey) → is_sealed f.sealing ≡ false
    → StandsForKey f.algorithm f.public_key f.private_bytes key
    → and_then (opened_ppk r f) file_key ≡ Ok (private_meaning key f.comment)
plain_key_is_read r f key unsealed stands =
    ap (λ o. and_then o file_key) (if_false (is_sealed f.sealing)
    (and_then (ok_or r.pass errors.Encrypted) (λ pass. decrypted r.meanings pass f)) (Ok f) unsealed)
    ∙ ap (λ k. and_then k (λ key. Ok (private_meaning key f.comment))) (standing_key_is_found f key unsealed stands)

sealed_key_is_read : (r : Reader) (f : PpkFile) (private pass : List ℕ) (key : SshBasePrivateKey) → r.pass ≡ Some pass
    → IsUnsealed r.meanings pass f private → StandsForKey f.algorithm f.public_key private key
    → and_then (opened_ppk r f) file_key ≡ Ok (private_meaning key f.comment)
sealed_key_is_read r f private pass key given is stands =
    let counts = standing_is_counted f.algorithm f.public_key private key stands in
    let plain : PpkFile = unsealed r.meanings f (take counts.0 private) in
    let cut = counted_stands f.algorithm f.public_key private key counts.0 stands counts.1 in
    ap (λ o. and_then o file_key) (if_true (is_sealed f.sealing)
    (and_then (ok_or r.pass errors.Encrypted) (λ pass. decrypted r.meanings pass f)) (Ok f)
    (can_open_says f.sealing pass is.can_open).0)
    ∙ ap (λ o. and_then (and_then (ok_or o errors.Encrypted) (λ pass. decrypted r.meanings pass f)) file_key) given
    ∙ ap (λ o. and_then o file_key) (counted_is_opened r.meanings pass f private counts.0 is counts.1)
    ∙ ap (λ k. and_then k (λ key. Ok (private_meaning key f.comment))) (standing_key_is_found plain key refl cut)

opened_key_is_read : (r : Reader) (f : PpkFile) (private : List ℕ) (key : SshBasePrivateKey) → AreOpened r f private
    → StandsForKey f.algorithm f.public_key private key
    → and_then (opened_ppk r f) file_key ≡ Ok (private_meaning key f.comment)
opened_key_is_read r f private key (inl (carries, same)) stands =
    plain_key_is_read r f key carries.0 (subst (λ p. StandsForKey f.algorithm f.public_key p key) same stands)
opened_key_is_read r f private key (inr (pass, given, is)) stands =
    sealed_key_is_read r f private pass key given is stands

-- the file of the text is sealed, or carries its MAC
opened_is_taken : (r : Reader) (f : PpkFile) (private : List ℕ) → AreOpened r f private
    → (is_sealed f.sealing ≡ true) ⊎ CarriesMac r.meanings f
opened_is_taken r f private (inl (carries, same)) = inr carries
opened_is_taken r f private (inr (pass, given, is)) = inl (can_open_says f.sealing pass is.can_open).0

-- A text that says a file is read as it.
pub ppk_is_read : (r : Reader) (text : List ℕ) (meaning : Meaning) → IsPpkText r text meaning → ppk_key r text ≡ Ok meaning
unfolding ppk_key ppk_meaning
ppk_is_read r text meaning says =
    let next : PpkFile → Result Meaning PuttyError = λ f. and_then (opened_ppk r f) file_key in
    ap (λ t. and_then (and_then t (checked r.meanings)) next) (said_is_meant text says.file says.says)
    ∙ ap (λ t. and_then t next) (file_is_taken r.meanings says.file (opened_is_taken r says.file says.private says.opened))
    ∙ opened_key_is_read r says.file says.private says.key says.opened says.stands
    ∙ ap Ok (sym says.is)
