pub mod KeyNames
pub mod KeyNamePieces
pub mod Blob
pub mod BlobLayout
pub mod FromWire
pub mod SourceLine
