pub mod HeadView
pub mod Turn
