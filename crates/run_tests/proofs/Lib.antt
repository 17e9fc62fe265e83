pub mod TheoremLemmas
