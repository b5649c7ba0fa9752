mod MarkLemmas
mod EventLemmas
mod PassedLemmas
mod LentLemmas
mod AsideLemmas
mod TaskLemmas
