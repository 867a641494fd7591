-- Two views are equal exactly where what they show is.
use Rattle.std.specs.Prelude.{◌≡◌, ◌↔◌, ◌&&◌, Bool, true, false, IsTrue}
use Rattle.std.proofs.Common.{rules, ◌∙◌, ap, refl}
use Rattle.picky_wire_base.specs.contracts.view.PartPartialEq.TheImpl as place
use Rattle.picky_wire_base.specs.declared.view.Part.{Part}
use Rattle.picky_wire_base.specs.contracts.view.StuckPartialEq.TheImpl as stuck
use Rattle.picky_wire_base.specs.declared.view.Stuck.{Stuck}
use Rattle.picky_wire_base.specs.View.{part_shown, stuck_shown}
use Rattle.picky_keys.specs.contracts.view.PublicViewPartialEq.TheImpl as key
use Rattle.picky_keys.specs.declared.view.PublicView.{PublicView}
use Rattle.picky_keys.specs.View.{view_shown}
use Rattle.picky_cert_parts.specs.contracts.cert_key_type.SshCertKeyTypePartialEq.TheImpl as key_type
use Rattle.picky_cert_parts.specs.declared.cert_key_type.SshCertKeyType.{SshCertKeyType}
use Rattle.picky_cert_blob.specs.contracts.part.CertPartPartialEq.TheImpl as part
use Rattle.picky_cert_blob.specs.declared.part.CertPart.{CertPart}
use Rattle.picky_wire_base.specs.declared.stopped.Stopped.{Stopped}
use Rattle.picky_cert_blob.specs.contracts.head.HeadViewPartialEq.TheImpl as head
use Rattle.picky_cert_blob.specs.declared.head.HeadView.{HeadView}
use Rattle.picky_cert_blob.specs.contracts.terms.TermsViewPartialEq.TheImpl as terms
use Rattle.picky_cert_blob.specs.declared.terms.TermsView.{TermsView}
use Rattle.picky_cert_blob.specs.contracts.grants.GrantsViewPartialEq.TheImpl as grants
use Rattle.picky_cert_blob.specs.declared.grants.GrantsView.{GrantsView}
use Rattle.picky_cert_blob.specs.contracts.body.BodyViewPartialEq.TheImpl as body
use Rattle.picky_cert_blob.specs.declared.body.BodyView.{BodyView}
use Rattle.picky_wire_base.specs.View.{stopped_shown}
use Rattle.picky_cert_blob.specs.Shown.{body_shown, grants_shown, head_shown, terms_shown}

-- ---- two and three fields

two_same : {A B : Type 0} (p q : A × B) → p.0 ≡ q.0 → p.1 ≡ q.1 → p ≡ q
two_same {A = A} {B = B} p q first second =
    let with_first : A → A × B = λ v. (v, p.1) in
    let with_second : B → A × B = λ v. (q.0, v) in
    ap with_first first ∙ ap with_second second

two_equal : {A B : Type 0} (x y : Bool) (p q : A × B) → (IsTrue x ↔ (p.0 ≡ q.0)) → (IsTrue y ↔ (p.1 ≡ q.1))
    → IsTrue (x && y) ↔ (p ≡ q)
two_equal true true p q first second = (λ is. two_same p q (first.0 refl) (second.0 refl), λ same. refl)
two_equal true false p q first second = (λ is. cc is, λ same. second.1 (ap (λ t. t.1) same))
two_equal false y p q first second = (λ is. cc is, λ same. first.1 (ap (λ t. t.0) same))

three_same : {A B C : Type 0} (p q : A × B × C) → p.0 ≡ q.0 → p.1 ≡ q.1 → p.2 ≡ q.2 → p ≡ q
three_same {A = A} {B = B} {C = C} p q first second third =
    let with_first : A → A × B × C = λ v. (v, p.1, p.2) in
    let with_second : B → A × B × C = λ v. (q.0, v, p.2) in
    let with_third : C → A × B × C = λ v. (q.0, q.1, v) in
    ap with_first first ∙ ap with_second second ∙ ap with_third third

three_equal : {A B C : Type 0} (x y z : Bool) (p q : A × B × C) → (IsTrue x ↔ (p.0 ≡ q.0)) → (IsTrue y ↔ (p.1 ≡ q.1))
    → (IsTrue z ↔ (p.2 ≡ q.2)) → IsTrue (x && (y && z)) ↔ (p ≡ q)
three_equal true true true p q first second third =
    (λ is. three_same p q (first.0 refl) (second.0 refl) (third.0 refl), λ same. refl)
three_equal true true false p q first second third = (λ is. cc is, λ same. third.1 (ap (λ t. t.2) same))
three_equal true false z p q first second third = (λ is. cc is, λ same. second.1 (ap (λ t. t.1) same))
three_equal false y z p q first second third = (λ is. cc is, λ same. first.1 (ap (λ t. t.0) same))

-- ---- the fields of the views

place_equal : (a b : Part) → IsTrue (place.ghosts.eq a b) ↔ (part_shown a ≡ part_shown b)
place_equal = search rules

stuck_equal : (a b : Stuck) → IsTrue (stuck.ghosts.eq a b) ↔ (stuck_shown a ≡ stuck_shown b)
stuck_equal = search rules

key_equal : (a b : PublicView) → IsTrue (key.ghosts.eq a b) ↔ (view_shown a ≡ view_shown b)
key_equal = search rules

key_type_equal : (a b : SshCertKeyType) → IsTrue (key_type.ghosts.eq a b) ↔ (a ≡ b)
key_type_equal = search rules

part_equal : (a b : CertPart) → IsTrue (part.ghosts.eq a b) ↔ (a ≡ b)
part_equal = search rules

-- ---- the views

pub stopped_equal : (a b : Stopped CertPart) → IsTrue (part.ghosts.eq a.place b.place && stuck.ghosts.eq a.stuck b.stuck)
    ↔ (stopped_shown a ≡ stopped_shown b)
stopped_equal a b =
    two_equal (part.ghosts.eq a.place b.place) (stuck.ghosts.eq a.stuck b.stuck) (stopped_shown a) (stopped_shown b)
    (part_equal a.place b.place) (stuck_equal a.stuck b.stuck)

pub head_equal : (a b : HeadView) → IsTrue (head.ghosts.eq a b) ↔ (head_shown a ≡ head_shown b)
head_equal a b =
    three_equal (key_type.ghosts.eq a.cert_key_type b.cert_key_type) (place.ghosts.eq a.nonce b.nonce) (key.ghosts.eq a.key b.key)
    (head_shown a) (head_shown b) (key_type_equal a.cert_key_type b.cert_key_type) (place_equal a.nonce b.nonce)
    (key_equal a.key b.key)

terms_equal : (a b : TermsView) → IsTrue (terms.ghosts.eq a b) ↔ (terms_shown a ≡ terms_shown b)
terms_equal = search rules

pub grants_equal : (a b : GrantsView) → IsTrue (grants.ghosts.eq a b) ↔ (grants_shown a ≡ grants_shown b)
grants_equal a b =
    three_equal (place.ghosts.eq a.options b.options) (place.ghosts.eq a.extensions b.extensions) (key.ghosts.eq a.issuer b.issuer)
    (grants_shown a) (grants_shown b) (place_equal a.options b.options) (place_equal a.extensions b.extensions)
    (key_equal a.issuer b.issuer)

pub body_equal : (a b : BodyView) → IsTrue (body.ghosts.eq a b) ↔ (body_shown a ≡ body_shown b)
body_equal a b =
    three_equal (head.ghosts.eq a.head b.head) (terms.ghosts.eq a.terms b.terms) (grants.ghosts.eq a.grants b.grants)
    (body_shown a) (body_shown b) (head_equal a.head b.head) (terms_equal a.terms b.terms) (grants_equal a.grants b.grants)
