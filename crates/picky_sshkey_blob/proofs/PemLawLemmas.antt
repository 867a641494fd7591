-- What the laws state.
use Rattle.picky_sshkey_blob.proofs.MeaningLaws.{pem_says}
use Rattle.picky_sshkey_blob.proofs.TextLaws.{text_read_back, lines_read_back, unbroken_read_back, text_is_ascii, text_is_long}

pub ruleset meaning_laws = (pem_says)

pub ruleset read_back_laws = (text_read_back, lines_read_back, unbroken_read_back)

pub ruleset text_laws = (text_is_ascii, text_is_long)
