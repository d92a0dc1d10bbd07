pub mod Judging
pub mod Lives
pub mod View
pub mod Rows
pub mod FrameView
