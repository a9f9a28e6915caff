mod Mixed
mod NoteLemmas
mod HandingLemmas
mod BatchLemmas
mod AheadLemmas
mod BackLemmas
mod LawLemmas
