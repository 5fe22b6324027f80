pub mod PaperRuns
