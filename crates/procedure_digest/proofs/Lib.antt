pub mod CodeLemmas
pub mod ProcedureLemmas
pub mod WritingLemmas
