-- What each certificate keeps before its signature, and which can be written.
use Rattle.std.specs.Prelude.{◌≡◌, ◌<◌, ◌^◌, Some, All, length}
use Rattle.picky_keys.specs.Key.{IsKey, IsString, IsText, kind_of}
use Rattle.picky_keys.specs.Blob.{blob_of}
use Rattle.picky_wire.specs.Principals.{IsPrincipal}
use Rattle.picky_cert_parts.specs.CriticalOption.{IsCriticalOption}
use Rattle.picky_cert_parts.specs.Extension.{IsExtension}
use Rattle.picky_cert_blob.specs.Layout.{Body, Grants, Head, Terms}
use Rattle.picky_cert_blob.specs.Spelled.{extensions_block, options_block, principals_block}
use Rattle.picky_cert_blob.specs.Subject.{subject_kind}

-- the ranges of its parts
pub record IsHead (h : Head) : Type 0 where
  pub nonce : IsString h.nonce
  pub key : IsKey h.key

pub record IsTerms (t : Terms) : Type 0 where
  pub serial : t.serial < 2 ^ 64
  pub key_id : IsText t.key_id
  pub principals : All IsPrincipal t.principals
  pub after : t.after.0 < 2 ^ 64
  pub before : t.before.0 < 2 ^ 64

pub record IsGrants (g : Grants) : Type 0 where
  pub options : All IsCriticalOption g.options
  pub extensions : All IsExtension g.extensions
  pub issuer : IsKey g.issuer

pub record IsBody (b : Body) : Type 0 where
  pub head : IsHead b.head
  pub terms : IsTerms b.terms
  pub grants : IsGrants b.grants

-- its type is for the kind of its subject's key
abbrev pub FitsSubject : Head → Type 0
FitsSubject h = subject_kind h.cert_key_type ≡ Some (kind_of h.key)

-- so it is well formed, where each list and the issuer's blob fit a string
pub record IsWellFormedBody (b : Body) : Type 0 where
  pub fits : FitsSubject b.head
  pub principals : length (principals_block b.terms) < 2 ^ 32
  pub options : length (options_block b.grants) < 2 ^ 32
  pub extensions : length (extensions_block b.grants) < 2 ^ 32
  pub issuer : length (blob_of b.grants.issuer) < 2 ^ 32
