-- A blob is read by its name and then by its fields, with this layer's errors.
use Rattle.std.proofs.Common.{◌<◌, ◌^◌, length, ap, sym, subst, ◌∙◌, Ok, Err}
use Rattle.picky_wire_base.specs.Table.{find_entry}
use Rattle.picky_keys.specs.KeyNameTables.{key_types}
use Rattle.picky_wire.specs.Count.{Rose}
use Rattle.picky_wire.specs.Takes.{causes_of}
use Rattle.picky_keys.specs.Blob.{key_type}
use Rattle.picky_sshkey_blob.specs.FromWire.{private_key_error}
use Rattle.picky_sshkey_blob.specs.Blob.{secret, private_key_fields}
use Rattle.picky_sshkey_blob.specs.BlobRefusal.{read_secret, private_error, private_stop_error}
use Rattle.picky_sshkey_blob.specs.inner.Stop.{secret_stop}
use Rattle.picky_sshkey_blob.proofs.NamedLemmas.{name_then_fields, name_is_unknown, name_stops, fields_stop, fields_read}
use Rattle.picky_sshkey_blob.proofs.StopLemmas.{says_stops, stop_has_cause, name_has_cause}
use Rattle.picky_sshkey_blob.proofs.NoNameLemmas.{fields_no_name}
use Rattle.picky_sshkey_blob.proofs.blob.SshBasePrivateKeySshComplexTypeDecode.decode.Goals as goal

pub returns-in-Err-clause-takes : goal.returns-in-Err-clause-takes
unfolding read_secret secret key_type
returns-in-Err-clause-takes g c =
    rw c.from.ensures
    (name_stops g.S.Source.tells g.S.Source.left g.S.Source.known g.S.Source.faults private_key_error secret_stop private_stop_error
    private_error key_types private_key_fields c.in-Err.stop _ _ says_stops c.in-Err.ensures.takes)

pub returns-in-Err-clause-cause : goal.returns-in-Err-clause-cause
returns-in-Err-clause-cause g c =
    rw c.from.ensures (stop_has_cause c.in-Err.stop _ (λ is. c.in-Err.ensures.takes.fault (ap Err is)))

pub returns-in-Ok-take_fields-clause-takes : goal.returns-in-Ok-take_fields-clause-takes
unfolding read_secret secret key_type
returns-in-Ok-take_fields-clause-takes g c =
    let found = ap (find_entry key_types) (sym c.as_str.ensures.bytes) ∙ sym c.in-Some.ensures in
    name_then_fields g.S.Source.tells g.S.Source.left g.S.Source.known g.S.Source.faults (causes_of private_key_error) private_error
    key_types private_key_fields c.in-Ok.name c.in-Some.kind (Ok c.in-Ok-take_fields.key) _ _ _ c.in-Ok.ensures.takes found
    (fields_read g.S.Source.tells g.S.Source.left g.S.Source.known g.S.Source.faults private_key_error secret_stop private_error
    (private_key_fields c.in-Some.kind) c.in-Ok-take_fields.key _ _ c.in-Ok-take_fields.ensures)

pub returns-in-Some-clause-takes : goal.returns-in-Some-clause-takes
unfolding read_secret secret key_type
returns-in-Some-clause-takes g c =
    let found = ap (find_entry key_types) (sym c.as_str.ensures.bytes) ∙ sym c.in-Some.ensures in
    rw c.from-in-Err-take_fields.ensures
    (name_then_fields g.S.Source.tells g.S.Source.left g.S.Source.known g.S.Source.faults (causes_of private_key_error) private_error
    key_types private_key_fields c.in-Ok.name c.in-Some.kind (Err (private_stop_error c.in-Err-take_fields.stop)) _ _ _
    c.in-Ok.ensures.takes found
    (fields_stop g.S.Source.tells g.S.Source.left g.S.Source.known g.S.Source.faults private_key_error secret_stop private_stop_error
    private_error (private_key_fields c.in-Some.kind) c.in-Err-take_fields.stop _ _ says_stops (fields_no_name c.in-Some.kind)
    c.in-Err-take_fields.ensures))

pub returns-in-Some-clause-cause : goal.returns-in-Some-clause-cause
returns-in-Some-clause-cause g c =
    rw c.from-in-Err-take_fields.ensures
    (stop_has_cause c.in-Err-take_fields.stop _ (λ is.
    subst (λ n. Rose n (g.S.Source.faults c.take_fields.new.stream)) c.in-Ok.ensures.takes.calm
    (c.in-Err-take_fields.ensures.fault (ap Err is))))

pub returns-clause-takes : goal.returns-clause-takes
unfolding read_secret secret key_type
returns-clause-takes g c =
    let none = ap (find_entry key_types) (sym c.as_str.ensures.bytes) ∙ sym c.in-None.ensures in
    name_is_unknown g.S.Source.tells g.S.Source.left g.S.Source.known g.S.Source.faults private_key_error private_error key_types
    private_key_fields c.in-Ok.name _ _ c.in-Ok.ensures.takes none (λ is. cc is)

pub returns-clause-cause : goal.returns-clause-cause
returns-clause-cause g c =
    let short = subst (λ bytes. length bytes < 2 ^ 32) c.as_str.ensures.bytes c.as_str.ensures.short in
    let none = ap (find_entry key_types) (sym c.as_str.ensures.bytes) ∙ sym c.in-None.ensures in
    name_has_cause c.in-Ok.name _ short c.as_str.ensures.utf8 none
