pub mod Before
pub mod Blob
pub mod BlobLayout
pub mod FromWire
