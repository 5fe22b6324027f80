-- What a reader of this crate must believe, lowest first.
pub mod Room
pub mod DeskFits
pub mod Call
pub mod Turn
pub mod RefusalTable
pub mod PaperTable
pub mod Perform
pub mod Run
pub mod Answers
