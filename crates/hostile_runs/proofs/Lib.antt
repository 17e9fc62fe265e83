mod AscendLemmas
