-- Pending entries: what is not known to be applied of a client's records, and in which queue a key's next record goes.
pub mod Pending
