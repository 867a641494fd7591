-- A text that is accepted carries a MAC that holds; so two that say other things under one MAC have two messages with it.
use Rattle.std.proofs.Common.{◌≡◌, ◌<◌, ◌^◌, ◌∙◌, ℕ, List, [], Bool, true, false, Result, Ok, Err, ap, sym, refl, subst, length}
use Rattle.std.proofs.lemmas.List.{append-nil}
use Rattle.std.proofs.lemmas.Slice.Eq.{bytes_eq-Decides}
use Rattle.std.specs.Prelude.{◌&&◌, if◌then◌else◌, take}
use Rattle.std.specs.Str.{bytes_eq}
use Rattle.picky_wire_base.specs.Outcome.{and_then}
use Rattle.picky_wire_base.specs.carried.Outcome.{and_then_ok}
use Rattle.picky_suite.specs.Meanings.{Meanings}
use Rattle.picky_ppk_parts.specs.declared.error.PuttyError.TheVariants as errors
use Rattle.picky_ppk_parts.specs.Counted.{counted}
use Rattle.picky_ppk_parts.specs.Keys.{Keys}
use Rattle.picky_ppk_file.specs.declared.file.PpkFile.{PpkFile}
use Rattle.picky_ppk_file.specs.File.{IsFile, is_sealed}
use Rattle.picky_ppk_file.specs.FileRefusal.{file_meaning}
use Rattle.picky_ppk_file.proofs.RangeLaws.{fields_in_ranges}
use Rattle.picky_ppk.specs.Accepted.{HaveOneMac, IsAccepted, MacHolds, SayTheSame, mac_key_under, private_under}
use Rattle.picky_ppk.specs.Checked.{checked, ppk_meaning}
use Rattle.picky_ppk.specs.Keyed.{keys_under}
use Rattle.picky_ppk.specs.Mac.{covered, mac_under, own_mac}
use Rattle.picky_ppk.specs.Opened.{decrypted, is_openable, not_openable, opened_file, unsealed}
use Rattle.picky_ppk.proofs.BindLaws.{covered_binds}

-- ---- choices

chosen : {A E : Type 0} (b : Bool) (r : Result A E) (e : E) (y : A) → (if b then r else Err e) ≡ Ok y → (b ≡ true) × (r ≡ Ok y)
chosen true r e y is = (refl, is)
chosen false r e y is = cc is

first_true : (a b c : Bool) → (a && b && c) ≡ true → a ≡ true
first_true true b c is = refl
first_true false b c is = cc is

-- ---- the MAC of a sealed file

pub decrypted_holds : (m : Meanings) (pass : List ℕ) (f opened : PpkFile) → decrypted m pass f ≡ Ok opened → MacHolds m pass f
unfolding decrypted
decrypted_holds m pass f opened is =
    let keys = keys_under m f.sealing pass in
    let plain = m.cbc_open keys.key keys.iv f.private_bytes in
    let asked = chosen (is_openable pass f) (opened_file m keys f plain) (not_openable pass f) opened is in
    let right = chosen (bytes_eq (mac_under m keys.mac_key f plain) f.mac)
    (and_then (counted f.algorithm plain) (λ n. Ok (unsealed m f (take n plain)))) errors.MacValidation opened asked.1 in
    let sealed = first_true (is_sealed f.sealing) _ _ asked.0 in
    rw sealed (sym ((bytes_eq-Decides (mac_under m keys.mac_key f plain) f.mac).0 right.0))

-- ---- the MAC of one that isn't

taken : (sealed same : Bool) (x f : PpkFile) → (if sealed then Ok x else if same then Ok x else Err errors.MacValidation) ≡ Ok f
    → (x ≡ f) × (sealed ≡ false → same ≡ true)
taken true same x f is = (cc is, λ no. cc no)
taken false true x f is = (cc is, λ no. refl)
taken false false x f is = cc is

checked_holds : (m : Meanings) (pass : List ℕ) (x f : PpkFile) → checked m x ≡ Ok f
    → (x ≡ f) × (is_sealed f.sealing ≡ false → MacHolds m pass f)
unfolding checked own_mac
checked_holds m pass x f is =
    let is_x = taken (is_sealed x.sealing) (bytes_eq (own_mac m x) x.mac) x f is in
    let right : is_sealed x.sealing ≡ false → own_mac m x ≡ x.mac = λ plain. (bytes_eq-Decides (own_mac m x) x.mac).0 (is_x.1 plain) in
    (is_x.0, λ plain. rw plain (sym (subst (λ g. is_sealed g.sealing ≡ false → own_mac m g ≡ g.mac) is_x.0 right plain)))

-- ---- a text that is accepted

record Accepted (m : Meanings) (pass : List ℕ) (f : PpkFile) : Type 0 where
  in_range : IsFile f
  holds : MacHolds m pass f

accepted : (m : Meanings) (pass text : List ℕ) (f : PpkFile) → IsAccepted m pass text f → Accepted m pass f
unfolding ppk_meaning
accepted m pass text f is =
    let read = and_then_ok (file_meaning text) (checked m) f is.is_read in
    let checks = checked_holds m pass read.0 f read.2 in
    record {
      in_range = subst IsFile checks.0 (fields_in_ranges text read.0 is.bytes read.1);
      holds = either (is_sealed f.sealing) refl checks.1;
    }
  where
    either : (sealed : Bool) → is_sealed f.sealing ≡ sealed → (is_sealed f.sealing ≡ false → MacHolds m pass f) → MacHolds m pass f
    either true sealed plain = let opened = is.opens sealed in decrypted_holds m pass f opened.0 opened.1
    either false not_sealed plain = plain not_sealed

private_short : (m : Meanings) (pass : List ℕ) (f : PpkFile) → IsFile f → length (private_under m pass f) < 2 ^ 32
private_short m pass f is = go (is_sealed f.sealing)
  where
    keys : Keys
    keys = keys_under m f.sealing pass

    go : (sealed : Bool) → length (if sealed then m.cbc_open keys.key keys.iv f.private_bytes else f.private_bytes) < 2 ^ 32
    go true = subst (λ n. n < 2 ^ 32) (sym (m.open_len keys.key keys.iv f.private_bytes)) is.private_bytes.0
    go false = is.private_bytes.0

pub two_messages : (m : Meanings) (pass other s t : List ℕ) (f g : PpkFile) → IsAccepted m pass s f → IsAccepted m other t g
    → mac_key_under m pass f ≡ mac_key_under m other g → f.mac ≡ g.mac → (SayTheSame m pass other f g → ⊥)
    → HaveOneMac m pass other f g
two_messages m pass other s t f g accepted_f accepted_g keys macs differ =
    let is_f = accepted m pass s f accepted_f in
    let is_g = accepted m other t g accepted_g in
    let a = private_under m pass f in
    let b = private_under m other g in
    record {
      differ = λ same.
          let joined = append-nil (covered f a) ∙ same ∙ sym (append-nil (covered g b)) in
          let fields = covered_binds f g a b [] [] is_f.in_range is_g.in_range (private_short m pass f is_f.in_range)
          (private_short m other g is_g.in_range) joined in
          differ (record {
            algorithm = fields.0;
            sealed = fields.1;
            comment = fields.2;
            public = fields.3;
            private = fields.4;
          });
      same = sym is_f.holds ∙ macs ∙ is_g.holds ∙ ap (λ k. mac_under m k g b) (sym keys);
    }
