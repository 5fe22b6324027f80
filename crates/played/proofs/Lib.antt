pub mod Computing
pub mod PaperRuns
