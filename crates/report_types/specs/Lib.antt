pub mod PairList
